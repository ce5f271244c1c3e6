-- What was read of an input.
use Rattle.std.proofs.lemmas.List.{take_all, length-drop}
use Rattle.std.proofs.Common.{arith, ◌-◌, ◌≡◌, ℕ, List, take, drop, length, sym, ap, subst, Result, Ok, Err, refl}
use Rattle.std.specs.Prelude.{IfErr, IsErrAnd}
use Rattle.component_items.specs.declared.component.Component.{Component}
use Rattle.component_items.specs.declared.component.Item.{Item}
use Rattle.component_items.specs.declared.refusal.Place.{Place}
use Rattle.component_items.specs.declared.refusal.Refusal.{Refusal}
use Rattle.component_items.specs.declared.refusal.Refusal.TheVariants.{Bad}
use Rattle.component_items.specs.declared.refusal.Why.{Why}
use Rattle.component_meaning.specs.Component.{IsComponent, IsNoComponent}
use Rattle.component_reader.specs.Answer.{IsNoComponentOr}
use Rattle.input_split.specs.declared.Split.{Split}
use Rattle.input_split.specs.Parts.{IsSplit}
use Rattle.script_items.specs.declared.operation.ScriptOp.{ScriptOp}
use Rattle.script_meaning.specs.Input.{IsBadInput, bad_component, bad_script, component_part, script_part}
use Rattle.script_meaning.specs.Script.{IsScript, IsNoScript}
use Rattle.script_reader.specs.Reads.{IsNoScriptOr}
use Rattle.page_program.specs.Run.{IsReadAs}

-- what stands from an offset on
pub rest_is : (bytes : List ℕ) (start : ℕ) → take (length bytes - start) (drop start bytes) ≡ drop start bytes
rest_is bytes start = let size = length-drop start bytes in take_all (length bytes - start) (drop start bytes) (omega arith)

-- what an error that `?` handed on says
pub handed_on : {X : Type 0} (r : Result X Refusal) (error : Refusal) (P : Refusal → Type 0) → IsErrAnd r (λ e. e ≡ error) → P error → IfErr r P
handed_on (Ok x) error P is p = tt
handed_on (Err e) error P is p = subst P (sym is) p

abbrev pub Refused : List ℕ → Refusal → Type 0
Refused bytes e = (why : Why) (place : Place) → e ≡ Bad why place → IsBadInput bytes (Bad why place)

pub refused_component : (bytes part : List ℕ) (split : Split) (e : Refusal) → IsSplit bytes split → part ≡ component_part bytes split
    → IsNoComponentOr part e → Refused bytes e
refused_component bytes part split e is same bad = λ why place refused. bad_component split is (subst (λ b. IsNoComponent b (Bad why place)) same (subst (IsNoComponentOr part) refused bad))

pub refused_script : (bytes part rest : List ℕ) (split : Split) (e : Refusal) (component : Component) → IsSplit bytes split → part ≡ component_part bytes split → rest ≡ script_part bytes split
    → IsComponent part component → IsNoScriptOr component split.script_line rest e → Refused bytes e
refused_script bytes part rest split e component is same same_rest read bad = λ why place refused.
    bad_script split is component (subst (λ b. IsComponent b component) same read) (subst (λ b. IsNoScript component split.script_line b (Bad why place)) same_rest (subst (IsNoScriptOr component split.script_line rest) refused bad))

made : List (List ℕ) → List Item → Component
made texts items = record { texts = texts; items = items }

pub read_as : (bytes part rest : List ℕ) (split : Split) (component after : Component) (script : List (List (List ScriptOp))) → IsSplit bytes split → part ≡ component_part bytes split → rest ≡ script_part bytes split
    → IsComponent part component → IsScript component split.script_line rest script after.texts → after.items ≡ component.items → IsReadAs bytes after script
unfolding made
read_as bytes part rest split component after script is same same_rest read script_read items = (
  record { component = component; script = script; texts = after.texts },
  record {
    split = split;
    is_split = is;
    is_component = subst (λ b. IsComponent b component) same read;
    is_script = subst (λ b. IsScript component split.script_line b script after.texts) same_rest script_read;
  },
  ap (made after.texts) items,
  refl,
)
