-- There are few owners: an area is only named where there is room for one more.
use Rattle.std.proofs.Common.{◌≡◌, ℕ, ◌+◌, ◌<◌, ◌≤◌, true, List, [], ◌∷◌, length, Some, None, Option, refl, ap, subst, ◌∙◌, arith, length-append, leb-false}
use Rattle.std.proofs.lemmas.List.FromFn.{length-range_with_len}
use Rattle.values.specs.declared.limits.TheConstants.{MOST_OWNERS}
use Rattle.grammar.proofs.Keeping.{kept}
use Rattle.grammar.specs.Table.{production_at}
use Rattle.text_lexer.specs.declared.token.Token.{Token}
use Rattle.text_lexer.specs.Tokens.{Lexed}
use Rattle.text_grammar.specs.Component.{table}
use Rattle.text_grammar.specs.declared.component.Action.{Action}
use Rattle.text_grammar.specs.declared.component.Action.TheVariants as action
use Rattle.text_grammar.specs.declared.component.Rule.{Rule}
use Rattle.text_grammar.specs.declared.component.Rule.TheVariants as rule
use Rattle.text_grammar.specs.declared.component.Terminal.{Terminal}
use Rattle.text_grammar.specs.declared.component.Terminal.TheVariants as terminal
use Rattle.component_items.specs.declared.component.Attr.{Attr}
use Rattle.component_items.specs.declared.component.Attr.TheVariants as attr
use Rattle.component_items.specs.declared.component.Component.{Component}
use Rattle.component_items.specs.declared.component.Item.{Item}
use Rattle.component_items.specs.declared.component.Item.TheVariants as item
use Rattle.component_items.specs.Ids.{item_owners, owners_in}
use Rattle.component_meaning.specs.State.{State, Declared, Frame, area_frame, if_frame, each_frame, element_frame, Open, signal_name, memo_name, effect_name, resource_name, load_name, store_name}
use Rattle.component_meaning.specs.Names.{id_of}
use Rattle.component_meaning.specs.Checks.{failed, too_many_owners}
use Rattle.component_meaning.specs.Effects.{effect}
use Rattle.component_meaning.specs.Actions.{whole, taken, known_as, with_numbered, closed, with_attr, perform}
use Rattle.component_meaning.specs.Component.{IsComponent}
use Rattle.component_meaning.specs.Meaning.{semantics}
use Rattle.component_meaning.proofs.KeptNumbers.{numbers_inside, kept_owner}
use Rattle.component_meaning.proofs.KeptIds.{AreNumbered, frame_owners, start_kept, keeps}
use Rattle.component_meaning.proofs.KeptAlong.{passes, keeps_promises, promised, IsWalk, walked_to_the_end}

-- ---- the owner that comes next

abbrev new_owners : Action → ℕ
new_owners action.OpenArea = 1
new_owners _ = 0

closed_owner : (a : State) (opened : List Open) → (closed (record a { opened = opened })).next_owner ≡ a.next_owner
closed_owner a [] = refl
closed_owner a (o ∷ outer) = at o.frame o.outside o.items
  where
    at : (frame : Frame) (outside : List Declared) (inner : List Item) → (closed (record a { opened = record { frame = frame; outside = outside; items = inner } ∷ outer })).next_owner ≡ a.next_owner
    at (area_frame id name owner) outside inner = kept_owner _ (record a { seen = outside }) outer
    at (if_frame id cond) outside inner = kept_owner _ (record a { seen = outside }) outer
    at (each_frame id rows) outside inner = kept_owner _ (record a { seen = outside }) outer
    at (element_frame tag has_end attrs) outside inner = kept_owner _ a outer

attr_owner : (made : ℕ → Attr) (count : ℕ) (a : State) (opened : List Open) → (with_attr made count (record a { opened = opened })).next_owner ≡ a.next_owner
attr_owner made count a [] = refl
attr_owner made count a (o ∷ outer) = at o.frame o.outside o.items
  where
    at : (frame : Frame) (outside : List Declared) (inner : List Item)
        → (with_attr made count (record a { opened = record { frame = frame; outside = outside; items = inner } ∷ outer })).next_owner ≡ a.next_owner
    at frame outside (i ∷ inner) = refl
    at (area_frame id name owner) outside [] = refl
    at (if_frame id cond) outside [] = refl
    at (each_frame id rows) outside [] = refl
    at (element_frame tag has_end attrs) outside [] = refl

numbered_owner : (made : ℕ → Item) (count : ℕ) (a : State) → (with_numbered made count a).next_owner ≡ a.next_owner
numbered_owner made count a = kept_owner (made a.next_id) (record a { next_id = a.next_id + count }) a.opened

owner_after : (d : Action) (a : State) → (perform d a).next_owner ≡ new_owners d + a.next_owner
owner_after action.BeginExpression a = omega arith
owner_after action.MakeSignal a = numbered_owner (λ id. item.Signal id a.name a.literal) 1 (known_as signal_name a) ∙ omega arith
owner_after action.MakeMemo a = numbered_owner (λ id. item.Memo id a.name (whole a)) 1 (known_as memo_name (taken a)) ∙ omega arith
owner_after action.MakeEffect a = numbered_owner (λ id. item.Effect id a.name (whole a)) 1 (known_as effect_name (taken a)) ∙ omega arith
owner_after action.BeginEntries a = omega arith
owner_after action.AddValue a = omega arith
owner_after action.MakeResource a = numbered_owner (λ id. item.Resource id a.name a.number a.keys a.values) 1 (record (known_as resource_name a) { keys = []; values = [] }) ∙ omega arith
owner_after action.MakeLoad a = numbered_owner (λ id. item.Load id a.name (id_of a.used) (whole a)) 2 (known_as load_name (taken a)) ∙ omega arith
owner_after action.MakeStore a = numbered_owner (λ id. item.Store id a.name a.number a.fields a.values) (2 + length a.fields) (record (known_as (store_name a.fields) a) { fields = []; values = [] }) ∙ omega arith
owner_after action.MakeCleanup a = kept_owner (item.Cleanup a.written) a a.opened ∙ omega arith
owner_after action.MakeText a = kept_owner (item.Text a.written) a a.opened ∙ omega arith
owner_after action.MakeShown a = numbered_owner (λ id. item.Shown id (whole a)) 1 (taken a) ∙ omega arith
owner_after action.OpenArea a = omega arith
owner_after action.OpenIf a = omega arith
owner_after action.OpenEach a = omega arith
owner_after action.OpenElement a = omega arith
owner_after action.OpenVoid a = omega arith
owner_after action.Close a = closed_owner a a.opened ∙ omega arith
owner_after action.NameAttribute a = omega arith
owner_after action.MakeBare a = attr_owner (λ id. attr.Bare a.name) 0 a a.opened ∙ omega arith
owner_after action.MakeFixed a = attr_owner (λ id. attr.Fixed a.name a.written) 0 a a.opened ∙ omega arith
owner_after action.MakeShownAttribute a = attr_owner (λ id. attr.Shown a.name id (whole a)) 1 (taken a) a.opened ∙ omega arith
owner_after action.MakeLiteral a = omega arith
owner_after (action.MakeBinary op) a = omega arith
owner_after action.MakeIf a = omega arith

-- ---- room for one more, between the name of an area and its opening

data Room : Type 0 where
  unknown : Room
  has_room : Room

abbrev term : Terminal → Room → Option Room
term terminal.NewArea now = Some has_room
term _ now = Some now

abbrev act : Action → Room → Option Room
act action.OpenArea unknown = None
act action.OpenArea has_room = Some unknown
act _ now = Some now

abbrev through : Rule → Room → Option Room
through _ unknown = Some unknown
through _ has_room = None

abbrev code : Room → ℕ
code unknown = 0
code has_room = 1

all : List Room
all = unknown ∷ has_room ∷ []

listed : (r : Room) → production_at all (code r) ≡ Some r
unfolding all
listed unknown = refl
listed has_room = refl

tests : (r : Rule) → keeps_promises term act through code all r ≡ true
unfolding all
tests rule.Component = refl
tests _ = refl

abbrev Holds : Room → State → Option Lexed → Type 0
Holds unknown a known = a.next_owner ≤ MOST_OWNERS
Holds has_room a known = a.next_owner < MOST_OWNERS

weaker : (r : Room) (a : State) (known : Option Lexed) → Holds r a known → a.next_owner ≤ MOST_OWNERS
weaker unknown a known h = h
weaker has_room a known h = omega arith

same_room : (now after : Room) (a b : State) (known next : Option Lexed) → Some now ≡ Some after → b.next_owner ≡ a.next_owner → Holds now a known → Holds after b next
same_room unknown after a b known next goes is h = let e : unknown ≡ after = cc in subst (λ r. Holds r b next) e (omega arith)
same_room has_room after a b known next goes is h = let e : has_room ≡ after = cc in subst (λ r. Holds r b next) e (omega arith)

terminals : (bytes : List ℕ) (w : Terminal) (now after : Room) (a : State) (x : Token) (next : Lexed) (known : Option Lexed) → term w now ≡ Some after
    → failed bytes w a x next ≡ None → Holds now a known → Holds after (effect bytes w a x) (Some next)
terminals bytes terminal.NewArea now after a x next known goes passed h =
    let room : a.next_owner < MOST_OWNERS = leb-false MOST_OWNERS a.next_owner (passes bytes terminal.NewArea a x next too_many_owners 7 passed refl) in
    let e : has_room ≡ after = cc in
    subst (λ r. Holds r (effect bytes terminal.NewArea a x) (Some next)) e room
terminals bytes w now after a x next known goes passed h = same_room now after a (effect bytes w a x) known (Some next) goes refl h

actions : (d : Action) (now after : Room) (a : State) (known : Option Lexed) → act d now ≡ Some after → Holds now a known → Holds after (perform d a) known
actions action.OpenArea unknown after a known goes h = absurd cc
actions action.OpenArea has_room after a known goes h =
    let e : unknown ≡ after = cc in
    subst (λ r. Holds r (perform action.OpenArea a) known) e (omega arith)
actions d now after a known goes h = same_room now after a (perform d a) known known goes (owner_after d a ∙ omega arith) h

-- ---- whole texts

is_walk : (bytes : List ℕ) → IsWalk term act through bytes AreNumbered Holds
is_walk bytes = record {
  rules = promised term act through code all listed tests;
  terminals = λ w now after a x next known goes has passed first p h. terminals bytes w now after a x next known goes passed h;
  actions = λ d now after a known goes p h. actions d now after a known goes h;
}

few : (a : State) → AreNumbered a → a.next_owner ≤ MOST_OWNERS → length (owners_in a.items) < MOST_OWNERS
few a h room =
    let all_owners = ap length h.owners.listed ∙ length-range_with_len 1 h.owners.count in
    let parts = length-append (owners_in a.items) (numbers_inside item_owners frame_owners a.opened) in
    omega (arith, h.owners.comes_next, all_owners, parts)

pub owners_are_few : (bytes : List ℕ) (component : Component) → IsComponent bytes component → length (owners_in component.items) < MOST_OWNERS
owners_are_few bytes component is =
    let h = kept table (semantics bytes) AreNumbered (keeps bytes) is.read.means start_kept in
    let end = walked_to_the_end term act through bytes AreNumbered (keeps bytes) Holds (is_walk bytes) is.last is.read start_kept unknown unknown refl (omega arith) in
    rw is.items (few is.last h (weaker end.0 is.last end.1 end.2))
