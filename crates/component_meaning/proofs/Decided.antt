-- The laws of parts of the input, of component texts.
use Rattle.std.proofs.Common.{◌≡◌, ℕ, List, [], ◌∷◌, Some, ◌<◌, ◌≤◌, refl, sym, ◌∙◌, ap, subst, arith}
use Rattle.grammar.specs.declared.symbol.Symbol.TheVariants as s
use Rattle.grammar.specs.Running.{Outcome, read, refused, undecided}
use Rattle.text_grammar.specs.declared.component.Rule.TheVariants as rule
use Rattle.text_grammar.specs.declared.component.Terminal.TheVariants as terminal
use Rattle.text_grammar.proofs.ComponentRight.{is_right, fits}
use Rattle.values.specs.declared.limits.TheConstants.{MOST_NODES}
use Rattle.component_items.specs.declared.component.Component.{Component}
use Rattle.component_items.specs.declared.component.Item.{Item}
use Rattle.component_items.specs.declared.refusal.Refusal.{Refusal}
use Rattle.component_items.specs.Counts.{nodes_of}
use Rattle.part_meaning.specs.Part.{IsDecided, IsReadTo, IsRefused}
use Rattle.part_meaning.specs.Computed.{outcome}
use Rattle.part_meaning.proofs.Once as once
use Rattle.part_meaning.proofs.Computed as computed
use Rattle.component_meaning.specs.State.{State}
use Rattle.component_meaning.specs.Component.{component_text, IsComponent, IsNoComponent, refused_text, too_large, too_many_nodes}
use Rattle.component_meaning.specs.Computed.{component_in, read_in, refusal_in, read_of, refusal_of}

pub decided : IsDecided component_text
decided = record { right = is_right; fits = fits; end = terminal.End; closes = record { inner = s.Rule rule.Component ∷ []; whole = refl } }

built : List (List ℕ) → List Item → Component
built texts items = record { texts = texts; items = items }

same_component : (a b : Component) → a.texts ≡ b.texts → a.items ≡ b.items → a ≡ b
unfolding built
same_component a b texts items = ap (λ t. built t a.items) texts ∙ ap (λ i. built b.texts i) items

pub one_component : (bytes : List ℕ) (a b : Component) → IsComponent bytes a → IsComponent bytes b → a ≡ b
one_component bytes a b p q =
    let ends = once.one_meaning component_text decided bytes p.last q.last p.read q.read in
    same_component a b (p.texts ∙ ap (λ (e : State). e.texts) ends ∙ sym q.texts) (p.items ∙ ap (λ (e : State). e.items) ends ∙ sym q.items)

pub never_both : (bytes : List ℕ) (component : Component) (why : Refusal) → IsComponent bytes component → IsNoComponent bytes why → ⊥
never_both bytes component why p (refused_text {why = e} bad) = once.never_both component_text decided bytes p.last e p.read bad
never_both bytes component why p (too_large last reads many) =
    let ends = once.one_meaning component_text decided bytes p.last last p.read reads in
    let few = subst (λ (items : List Item). nodes_of items ≤ MOST_NODES) (p.items ∙ ap (λ (e : State). e.items) ends) p.few_nodes in
    absurd (omega arith)

pub one_refusal : (bytes : List ℕ) (a b : Refusal) → IsNoComponent bytes a → IsNoComponent bytes b → a ≡ b
one_refusal bytes a b (refused_text {why = e} p) (refused_text {why = f} q) = once.one_refusal component_text decided bytes e f p q
one_refusal bytes a b (refused_text {why = e} p) (too_large last reads many) = absurd (once.never_both component_text decided bytes last e reads p)
one_refusal bytes a b (too_large last reads many) (refused_text {why = e} p) = absurd (once.never_both component_text decided bytes last e reads p)
one_refusal bytes a b (too_large last reads many) (too_large last' reads' many') = refl

some_is : {A : Type 0} (a b : A) → Some a ≡ Some b → a ≡ b
some_is a b p = cc

read_component : (bytes : List ℕ) (component : Component) (o : Outcome State Refusal) → outcome component_text bytes ≡ o → read_in o ≡ Some component
    → (last : State) × IsReadTo component_text bytes last × (component_in last ≡ component)
read_component bytes component (read a) is same = (a, computed.computed_read component_text decided bytes a is, some_is (component_in a) component same)
read_component bytes component (refused why) is same = absurd cc
read_component bytes component undecided is same = absurd cc

pub computed_component : (bytes : List ℕ) (component : Component) → read_of bytes ≡ Some component → nodes_of component.items ≤ MOST_NODES → IsComponent bytes component
computed_component bytes component is few =
    let found = read_component bytes component (outcome component_text bytes) refl is in record {
      last = found.0;
      read = found.1;
      texts = ap (λ (c : Component). c.texts) (sym found.2);
      items = ap (λ (c : Component). c.items) (sym found.2);
      few_nodes = few;
    }

read_refusal : (bytes : List ℕ) (why : Refusal) (o : Outcome State Refusal) → outcome component_text bytes ≡ o → refusal_in o ≡ Some why → IsRefused component_text bytes why
read_refusal bytes why (read a) is same = absurd cc
read_refusal bytes why (refused e) is same = computed.computed_refusal component_text decided bytes why (is ∙ ap refused (some_is e why same))
read_refusal bytes why undecided is same = absurd cc

pub computed_refusal : (bytes : List ℕ) (why : Refusal) → refusal_of bytes ≡ Some why → IsNoComponent bytes why
computed_refusal bytes why is = refused_text (read_refusal bytes why (outcome component_text bytes) refl is)

pub computed_nodes : (bytes : List ℕ) (component : Component) → read_of bytes ≡ Some component → MOST_NODES < nodes_of component.items → IsNoComponent bytes (too_many_nodes bytes)
computed_nodes bytes component is many =
    let found = read_component bytes component (outcome component_text bytes) refl is in
    too_large found.0 found.1 (subst (λ (c : Component). MOST_NODES < nodes_of c.items) (sym found.2) many)

-- ---- the same for worked rows

pub refused_row : {bytes : List ℕ} {why : Refusal} → refusal_of bytes ≡ Some why → IsNoComponent bytes why
refused_row {bytes = bytes} {why = why} is = computed_refusal bytes why is

pub component_row : {bytes : List ℕ} {component : Component} → read_of bytes ≡ Some component → nodes_of component.items ≤ MOST_NODES → IsComponent bytes component
component_row {bytes = bytes} {component = component} is few = computed_component bytes component is few

pub large_row : {bytes : List ℕ} {component : Component} → read_of bytes ≡ Some component → MOST_NODES < nodes_of component.items → IsNoComponent bytes (too_many_nodes bytes)
large_row {bytes = bytes} {component = component} is many = computed_nodes bytes component is many
