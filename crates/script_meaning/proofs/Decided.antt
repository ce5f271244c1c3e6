-- The laws of parts of the input, of script texts.
use Rattle.std.proofs.Common.{◌≡◌, ℕ, List, [], ◌∷◌, Some, refl, sym, ◌∙◌, ap, subst}
use Rattle.grammar.specs.declared.symbol.Symbol.TheVariants as s
use Rattle.grammar.specs.Running.{Outcome, read, refused, undecided}
use Rattle.text_grammar.specs.declared.script.Rule.TheVariants as rule
use Rattle.text_grammar.specs.declared.script.Terminal.TheVariants as terminal
use Rattle.text_grammar.proofs.ScriptRight.{is_right, fits}
use Rattle.component_items.specs.declared.component.Component.{Component}
use Rattle.component_items.specs.declared.refusal.Refusal.{Refusal}
use Rattle.part_meaning.specs.Part.{IsDecided, IsReadTo, IsRefused}
use Rattle.part_meaning.specs.Computed.{outcome}
use Rattle.part_meaning.proofs.Once as once
use Rattle.part_meaning.proofs.Computed as computed
use Rattle.script_items.specs.declared.operation.ScriptOp.{ScriptOp}
use Rattle.script_meaning.specs.Names.{Declaration, names_of}
use Rattle.script_meaning.specs.State.{State}
use Rattle.script_meaning.specs.Script.{script_for, script_text, IsScript, IsNoScript}
use Rattle.script_meaning.specs.Computed.{Read, read_in, refusal_in, read_of, refusal_of}

pub decided : (texts : List (List ℕ)) (names : List Declaration) (first_line : ℕ) → IsDecided (script_for texts names first_line)
decided texts names first_line = record { right = is_right; fits = fits; end = terminal.End; closes = record { inner = s.Rule rule.Script ∷ []; whole = refl } }

module _ (component : Component) (first_line : ℕ) (bytes : List ℕ) where
  is_decided : IsDecided (script_text component first_line)
  is_decided = decided component.texts (names_of component.items) first_line

  pub one_script : (a b : List (List (List ScriptOp))) (texts others : List (List ℕ)) → IsScript component first_line bytes a texts → IsScript component first_line bytes b others → a ≡ b
  one_script a b texts others p q =
      let ends = once.one_meaning (script_text component first_line) is_decided bytes p.last q.last p.read q.read in
      p.phases ∙ ap (λ (e : State). e.phases) ends ∙ sym q.phases

  pub one_table : (a b : List (List (List ScriptOp))) (texts others : List (List ℕ)) → IsScript component first_line bytes a texts → IsScript component first_line bytes b others → texts ≡ others
  one_table a b texts others p q =
      let ends = once.one_meaning (script_text component first_line) is_decided bytes p.last q.last p.read q.read in
      p.all_texts ∙ ap (λ (e : State). e.texts) ends ∙ sym q.all_texts

  pub never_both : (script : List (List (List ScriptOp))) (texts : List (List ℕ)) (why : Refusal) → IsScript component first_line bytes script texts → IsNoScript component first_line bytes why → ⊥
  never_both script texts why p bad = once.never_both (script_text component first_line) is_decided bytes p.last why p.read bad

  pub one_refusal : (a b : Refusal) → IsNoScript component first_line bytes a → IsNoScript component first_line bytes b → a ≡ b
  one_refusal a b p q = once.one_refusal (script_text component first_line) is_decided bytes a b p q

some_is : {A : Type 0} (a b : A) → Some a ≡ Some b → a ≡ b
some_is a b p = cc

module _ (texts : List (List ℕ)) (names : List Declaration) (first_line : ℕ) (bytes : List ℕ) where
  read_from : State → Read
  read_from a = record { phases = a.phases; texts = a.texts }

  read_script : (r : Read) (o : Outcome State Refusal) → outcome (script_for texts names first_line) bytes ≡ o → read_in o ≡ Some r
      → (last : State) × IsReadTo (script_for texts names first_line) bytes last × (read_from last ≡ r)
  unfolding read_from
  read_script r (read a) is same = (a, computed.computed_read (script_for texts names first_line) (decided texts names first_line) bytes a is, some_is (read_from a) r same)
  read_script r (refused why) is same = absurd cc
  read_script r undecided is same = absurd cc

  read_refusal : (why : Refusal) (o : Outcome State Refusal) → outcome (script_for texts names first_line) bytes ≡ o → refusal_in o ≡ Some why → IsRefused (script_for texts names first_line) bytes why
  read_refusal why (read a) is same = absurd cc
  read_refusal why (refused e) is same = computed.computed_refusal (script_for texts names first_line) (decided texts names first_line) bytes why (is ∙ ap refused (some_is e why same))
  read_refusal why undecided is same = absurd cc

pub computed_script : (component : Component) (names : List Declaration) (first_line : ℕ) (bytes : List ℕ) (r : Read) → names_of component.items ≡ names → read_of component.texts names first_line bytes ≡ Some r
    → IsScript component first_line bytes r.phases r.texts
unfolding read_from
computed_script component names first_line bytes r same is =
    let found = read_script component.texts names first_line bytes r (outcome (script_for component.texts names first_line) bytes) refl is in record {
      last = found.0;
      read = subst (λ n. IsReadTo (script_for component.texts n first_line) bytes found.0) (sym same) found.1;
      phases = ap (λ (x : Read). x.phases) (sym found.2);
      all_texts = ap (λ (x : Read). x.texts) (sym found.2);
    }

pub computed_refusal : (component : Component) (names : List Declaration) (first_line : ℕ) (bytes : List ℕ) (why : Refusal) → names_of component.items ≡ names → refusal_of component.texts names first_line bytes ≡ Some why
    → IsNoScript component first_line bytes why
computed_refusal component names first_line bytes why same is =
    subst (λ n. IsRefused (script_for component.texts n first_line) bytes why) (sym same)
    (read_refusal component.texts names first_line bytes why (outcome (script_for component.texts names first_line) bytes) refl is)
