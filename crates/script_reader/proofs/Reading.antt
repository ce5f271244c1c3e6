-- What the state of a whole text says of the script.
use Rattle.std.proofs.Common.{◌≡◌, ℕ, ◌≤◌, List, [], ◌∷◌, ◌++◌, Result, Ok, Err, IfOk, length, drop, refl, sym, ap, subst, ◌∙◌, length-append, arith}
use Rattle.component_items.specs.declared.component.Component.{Component}
use Rattle.component_items.specs.declared.refusal.Refusal.{Refusal}
use Rattle.component_items.specs.declared.refusal.Refusal.TheVariants.{Bad, NoMemory}
use Rattle.part_meaning.specs.Part.{IsReadTo, IsRefused}
use Rattle.token_reader.specs.Rules.{language}
use Rattle.token_reader.specs.Refused.{IsRefusedOr}
use Rattle.script_meaning.specs.Names.{names_of}
use Rattle.script_meaning.specs.Script.{script_text, IsScript}
use Rattle.script_meaning.specs.State.{State, start_for}
use Rattle.script_meaning.proofs.Grows.{texts_only_grow}
use Rattle.script_state.specs.Rules.{rules}
use Rattle.script_reader.specs.Reads.{IsNoScriptOr}

drop-behind : {X : Type 0} (xs ys : List X) → drop (length xs) (xs ++ ys) ≡ ys
drop-behind [] ys = refl
drop-behind (x ∷ xs) ys = drop-behind xs ys

module _ (component : Component) (first_line : ℕ) (bytes : List ℕ) (first : State) (begins : first ≡ start_for component.texts (names_of component.items)) where
  is_read : (last : State) → IsReadTo (language rules first first_line) bytes last → IsReadTo (script_text component first_line) bytes last
  is_read last read = subst (λ a. IsReadTo (language rules a first_line) bytes last) begins read

  module _ (last : State) (read : IsReadTo (language rules first first_line) bytes last) where
    is_script : IsScript component first_line bytes last.phases last.texts
    is_script = record { last = last; read = is_read last read; phases = refl; all_texts = refl }

    pub longer : length component.texts ≤ length last.texts
    longer =
        let more = texts_only_grow component first_line bytes last.phases last.texts is_script in
        omega (arith, ap length more.1, length-append component.texts more.0)

    pub whole : component.texts ++ drop (length component.texts) last.texts ≡ last.texts
    whole =
        let more = texts_only_grow component first_line bytes last.phases last.texts is_script in
        ap (λ texts. component.texts ++ drop (length component.texts) texts) more.1
        ∙ ap (λ texts. component.texts ++ texts) (drop-behind component.texts more.0)
        ∙ sym more.1

    pub is_script_of : (script : _) (texts : List (List ℕ)) → script ≡ last.phases → texts ≡ drop (length component.texts) last.texts → IsScript component first_line bytes script (component.texts ++ texts)
    is_script_of script texts phases behind = record { last = last; read = is_read last read; phases = phases; all_texts = ap (λ ts. component.texts ++ ts) behind ∙ whole }

  pub is_refused : (why : Refusal) → IsRefusedOr (language rules first first_line) bytes why → IsNoScriptOr component first_line bytes why
  is_refused NoMemory bad = tt
  is_refused (Bad w p) bad = subst (λ a. IsRefused (language rules a first_line) bytes (Bad w p)) begins bad

-- two facts of what an answer brings
pub both_ok : {T E : Type 0} (P Q S : T → Type 0) (r : Result T E) → ((x : T) → P x → Q x → S x) → IfOk r P → IfOk r Q → IfOk r S
both_ok P Q S (Ok x) f p q = f x p q
both_ok P Q S (Err e) f p q = p
