-- Each item stands where it may: the first token of an item that may not stand everywhere is only accepted where it may.
use Rattle.std.proofs.Common.{◌≡◌, ℕ, ◌+◌, ◌&&◌, not, Bool, true, false, List, [], ◌∷◌, ◌++◌, length, map, Some, None, Option, refl, ap, subst, ◌∙◌}
use Rattle.std.specs.List.{list_all}
use Rattle.std.proofs.lemmas.List.Folds.{list_all-append, list_all-map}
use Rattle.grammar.specs.Keeping.{Keeps}
use Rattle.grammar.specs.Table.{production_at}
use Rattle.grammar.proofs.Theory.{and_cases, and_both}
use Rattle.values.specs.declared.code.Code.{Code}
use Rattle.values.specs.declared.expr.Expr.{Expr}
use Rattle.text_lexer.specs.declared.token.Token.{Token}
use Rattle.text_lexer.specs.Tokens.{Lexed}
use Rattle.text_grammar.specs.Component.{table}
use Rattle.text_grammar.specs.declared.component.Action.{Action}
use Rattle.text_grammar.specs.declared.component.Action.TheVariants as action
use Rattle.text_grammar.specs.declared.component.Rule.{Rule}
use Rattle.text_grammar.specs.declared.component.Rule.TheVariants as rule
use Rattle.text_grammar.specs.declared.component.Terminal.{Terminal}
use Rattle.text_grammar.specs.declared.component.Terminal.TheVariants as terminal
use Rattle.component_items.specs.declared.component.Attr.{Attr}
use Rattle.component_items.specs.declared.component.Attr.TheVariants as attr
use Rattle.component_items.specs.declared.component.Component.{Component}
use Rattle.component_items.specs.declared.component.Item.{Item}
use Rattle.component_items.specs.declared.component.Item.TheVariants as item
use Rattle.component_items.specs.Kept.{Standing, standing_at_top, may_declare, may_have_resource, may_have_cleanup, may_have_memo, may_have_area, may_have_each, inside_area, inside_element, inside_if, inside_each, stand_all, stands_step, item_stands}
use Rattle.component_items.proofs.FoldLemmas as folds
use Rattle.component_meaning.specs.State.{State, start, Declared, Frame, area_frame, if_frame, each_frame, element_frame, Open, inside, standing_in, signal_name, memo_name, effect_name, resource_name, load_name, store_name}
use Rattle.component_meaning.specs.Names.{id_of}
use Rattle.component_meaning.specs.Checks.{failed, wrong_place}
use Rattle.component_meaning.specs.Effects.{effect}
use Rattle.component_meaning.specs.Actions.{whole, taken, known_as, with_item, with_numbered, item_of, closed, with_attr, perform}
use Rattle.component_meaning.specs.Meaning.{semantics}
use Rattle.component_meaning.specs.Component.{IsComponent}
use Rattle.component_meaning.proofs.KeptAlong.{passes, keeps_promises, promised, IsWalk, walked_to_the_end}

-- ---- items

signal_stands : (id name : ℕ) (start : Code) (s : Standing) → may_declare s ≡ true → item_stands (item.Signal id name start) s ≡ true
unfolding item_stands
signal_stands id name start s may = ap (λ f. f s) (folds.fold-Signal stands_step id name start) ∙ may

memo_stands : (id name : ℕ) (e : Expr) (s : Standing) → may_have_memo s ≡ true → item_stands (item.Memo id name e) s ≡ true
unfolding item_stands
memo_stands id name e s may = ap (λ f. f s) (folds.fold-Memo stands_step id name e) ∙ may

effect_stands : (id name : ℕ) (e : Expr) (s : Standing) → may_declare s ≡ true → item_stands (item.Effect id name e) s ≡ true
unfolding item_stands
effect_stands id name e s may = ap (λ f. f s) (folds.fold-Effect stands_step id name e) ∙ may

resource_stands : (id name after : ℕ) (keys values : List Code) (s : Standing) → may_have_resource s ≡ true → item_stands (item.Resource id name after keys values) s ≡ true
unfolding item_stands
resource_stands id name after keys values s may = ap (λ f. f s) (folds.fold-Resource stands_step id name after keys values) ∙ may

load_stands : (id name resource : ℕ) (key : Expr) (s : Standing) → may_declare s ≡ true → item_stands (item.Load id name resource key) s ≡ true
unfolding item_stands
load_stands id name resource key s may = ap (λ f. f s) (folds.fold-Load stands_step id name resource key) ∙ may

store_stands : (id name max : ℕ) (fields : List ℕ) (starts : List Code) (s : Standing) → may_declare s ≡ true → item_stands (item.Store id name max fields starts) s ≡ true
unfolding item_stands
store_stands id name max fields starts s may = ap (λ f. f s) (folds.fold-Store stands_step id name max fields starts) ∙ may

cleanup_stands : (text : ℕ) (s : Standing) → may_have_cleanup s ≡ true → item_stands (item.Cleanup text) s ≡ true
unfolding item_stands
cleanup_stands text s may = ap (λ f. f s) (folds.fold-Cleanup stands_step text) ∙ may

text_stands : (text : ℕ) (s : Standing) → item_stands (item.Text text) s ≡ true
unfolding item_stands
text_stands text s = ap (λ f. f s) (folds.fold-Text stands_step text)

shown_stands : (id : ℕ) (e : Expr) (s : Standing) → item_stands (item.Shown id e) s ≡ true
unfolding item_stands
shown_stands id e s = ap (λ f. f s) (folds.fold-Shown stands_step id e)

-- a block or element, as an item at this place
abbrev frame_stands : Frame → Standing → Bool
frame_stands (area_frame id name owner) s = may_have_area s
frame_stands (if_frame id cond) s = true
frame_stands (each_frame id rows) s = may_have_each s
frame_stands (element_frame tag closed attrs) s = true

inner_stand : (s : Standing) (items : List Item) → list_all (λ i. item_stands i s) items ≡ true → stand_all s (map item_stands items) ≡ true
inner_stand s items h = list_all-map (λ (i : Standing → Bool). i s) item_stands items ∙ h

closed_stands : (frame : Frame) (items : List Item) (s : Standing) → frame_stands frame s ≡ true → list_all (λ i. item_stands i (inside frame s)) items ≡ true → item_stands (item_of frame items) s ≡ true
unfolding item_stands
closed_stands (area_frame id name owner) items s may stand = ap (λ f. f s) (folds.fold-Area stands_step id name owner items) ∙ and_both _ _ may (inner_stand (inside_area s) items stand)
closed_stands (if_frame id cond) items s may stand = ap (λ f. f s) (folds.fold-If stands_step id cond items) ∙ inner_stand (inside_if s) items stand
closed_stands (each_frame id rows) items s may stand = ap (λ f. f s) (folds.fold-Each stands_step id rows.store items) ∙ and_both _ _ may (inner_stand (inside_each s) items stand)
closed_stands (element_frame tag has_end attrs) items s may stand = ap (λ f. f s) (folds.fold-Element stands_step tag has_end attrs items) ∙ inner_stand (inside_element s) items stand

-- ---- the state

abbrev opened_stand : List Open → Bool
opened_stand [] = true
opened_stand (o ∷ outer) = frame_stands o.frame (standing_in outer) && list_all (λ i. item_stands i (inside o.frame (standing_in outer))) o.items && opened_stand outer

record AreStanding (items : List Item) (opened : List Open) : Type 0 where
  at_top : list_all (λ i. item_stands i standing_at_top) items ≡ true
  inner : opened_stand opened ≡ true

abbrev Stand : State → Type 0
Stand a = AreStanding a.items a.opened

last_stands : (s : Standing) (items : List Item) (i : Item) → list_all (λ j. item_stands j s) items ≡ true → item_stands i s ≡ true → list_all (λ j. item_stands j s) (items ++ i ∷ []) ≡ true
last_stands s items i all has = list_all-append (λ j. item_stands j s) items (i ∷ []) ∙ and_both _ _ all (and_both _ _ has refl)

item_stood : (i : Item) (a : State) (opened : List Open) → AreStanding a.items opened → item_stands i (standing_in opened) ≡ true → Stand (with_item i (record a { opened = opened }))
item_stood i a [] h has = record { at_top = last_stands standing_at_top a.items i h.at_top has; inner = refl }
item_stood i a (o ∷ outer) h has =
    let both = and_cases (frame_stands o.frame (standing_in outer) && list_all (λ i. item_stands i (inside o.frame (standing_in outer))) o.items) _ h.inner in
    let one = and_cases (frame_stands o.frame (standing_in outer)) _ both.0 in
    record { at_top = h.at_top; inner = and_both _ _ (and_both _ _ one.0 (last_stands (inside o.frame (standing_in outer)) o.items i one.1 has)) both.1 }

numbered_stood : (made : ℕ → Item) (count : ℕ) (a : State) → Stand a → item_stands (made a.next_id) (standing_in a.opened) ≡ true → Stand (with_numbered made count a)
numbered_stood made count a h has = item_stood (made a.next_id) (record a { next_id = a.next_id + count }) a.opened h has

frame_stood : (frame : Frame) (outside : List Declared) (items : List Item) (opened : List Open) → frame_stands frame (standing_in opened) ≡ true → AreStanding items opened
    → AreStanding items (record { frame = frame; outside = outside; items = [] } ∷ opened)
frame_stood frame outside items opened may h = record { at_top = h.at_top; inner = and_both _ _ (and_both _ _ may refl) h.inner }

closed_stood : (a : State) (opened : List Open) → AreStanding a.items opened → Stand (closed (record a { opened = opened }))
closed_stood a [] h = h
closed_stood a (o ∷ outer) h =
    let both = and_cases (frame_stands o.frame (standing_in outer) && list_all (λ i. item_stands i (inside o.frame (standing_in outer))) o.items) _ h.inner in
    let one = and_cases (frame_stands o.frame (standing_in outer)) _ both.0 in
    at o.frame o.outside o.items (closed_stands o.frame o.items (standing_in outer) one.0 one.1) (record { at_top = h.at_top; inner = both.1 })
  where
    at : (frame : Frame) (outside : List Declared) (inner : List Item) → item_stands (item_of frame inner) (standing_in outer) ≡ true → AreStanding a.items outer
        → Stand (closed (record a { opened = record { frame = frame; outside = outside; items = inner } ∷ outer }))
    at (area_frame id name owner) outside inner has h = item_stood _ (record a { seen = outside }) outer h has
    at (if_frame id cond) outside inner has h = item_stood _ (record a { seen = outside }) outer h has
    at (each_frame id rows) outside inner has h = item_stood _ (record a { seen = outside }) outer h has
    at (element_frame tag has_end attrs) outside inner has h = item_stood _ a outer h has

attr_stood : (made : ℕ → Attr) (count : ℕ) (a : State) (opened : List Open) → AreStanding a.items opened → Stand (with_attr made count (record a { opened = opened }))
attr_stood made count a [] h = h
attr_stood made count a (o ∷ outer) h = at o.frame o.outside o.items h
  where
    at : (frame : Frame) (outside : List Declared) (inner : List Item) → AreStanding a.items (record { frame = frame; outside = outside; items = inner } ∷ outer)
        → Stand (with_attr made count (record a { opened = record { frame = frame; outside = outside; items = inner } ∷ outer }))
    at frame outside (i ∷ inner) h = h
    at (area_frame id name owner) outside [] h = h
    at (if_frame id cond) outside [] h = h
    at (each_frame id rows) outside [] h = h
    at (element_frame tag has_end attrs) outside [] h = record { at_top = h.at_top; inner = h.inner }

-- ---- what may stand at this place, from the first token of an item to its action

data Leave : Type 0 where
  no_leave : Leave
  to_declare : Leave
  to_have_resource : Leave
  to_have_cleanup : Leave
  to_have_memo : Leave
  to_have_area : Leave
  to_have_each : Leave

abbrev allows : Leave → Standing → Bool
allows no_leave s = true
allows to_declare s = may_declare s
allows to_have_resource s = may_have_resource s
allows to_have_cleanup s = may_have_cleanup s
allows to_have_memo s = may_have_memo s
allows to_have_area s = may_have_area s
allows to_have_each s = may_have_each s

abbrev term : Terminal → Leave → Option Leave
term terminal.Signal now = Some to_declare
term terminal.Memo now = Some to_have_memo
term terminal.Effect now = Some to_declare
term terminal.Resource now = Some to_have_resource
term terminal.Load now = Some to_declare
term terminal.Store now = Some to_declare
term terminal.Cleanup now = Some to_have_cleanup
term terminal.Area now = Some to_have_area
term terminal.Each now = Some to_have_each
term _ now = Some now

abbrev act : Action → Leave → Option Leave
act action.MakeSignal to_declare = Some no_leave
act action.MakeSignal _ = None
act action.MakeMemo to_have_memo = Some no_leave
act action.MakeMemo _ = None
act action.MakeEffect to_declare = Some no_leave
act action.MakeEffect _ = None
act action.MakeResource to_have_resource = Some no_leave
act action.MakeResource _ = None
act action.MakeLoad to_declare = Some no_leave
act action.MakeLoad _ = None
act action.MakeStore to_declare = Some no_leave
act action.MakeStore _ = None
act action.MakeCleanup to_have_cleanup = Some no_leave
act action.MakeCleanup _ = None
act action.OpenArea to_have_area = Some no_leave
act action.OpenArea _ = None
act action.OpenEach to_have_each = Some no_leave
act action.OpenEach _ = None
act action.MakeText now = Some no_leave
act action.MakeShown now = Some no_leave
act action.OpenIf now = Some no_leave
act action.OpenElement now = Some no_leave
act action.OpenVoid now = Some no_leave
act action.Close now = Some no_leave
act action.MakeBare now = Some no_leave
act action.MakeFixed now = Some no_leave
act action.MakeShownAttribute now = Some no_leave
act _ now = Some now

abbrev from_none : Leave → Option Leave
from_none no_leave = Some no_leave
from_none _ = None

-- items may begin, and open and close blocks, in these rules only
abbrev through : Rule → Leave → Option Leave
through rule.Component now = from_none now
through rule.Items now = from_none now
through rule.Element now = from_none now
through rule.VoidTagMore now = from_none now
through rule.ElementRest now = from_none now
through rule.ElementEnd now = from_none now
through rule.Attributes now = from_none now
through rule.AttributeValue now = from_none now
through rule.AssignedValue now = from_none now
through _ now = Some now

abbrev code : Leave → ℕ
code no_leave = 0
code to_declare = 1
code to_have_resource = 2
code to_have_cleanup = 3
code to_have_memo = 4
code to_have_area = 5
code to_have_each = 6

all : List Leave
all = no_leave ∷ to_declare ∷ to_have_resource ∷ to_have_cleanup ∷ to_have_memo ∷ to_have_area ∷ to_have_each ∷ []

listed : (l : Leave) → production_at all (code l) ≡ Some l
unfolding all
listed no_leave = refl
listed _ = refl

tests : (r : Rule) → keeps_promises term act through code all r ≡ true
unfolding all
tests rule.Component = refl
tests _ = refl

record HaveLeave (l : Leave) (items : List Item) (opened : List Open) : Type 0 where
  standing : AreStanding items opened
  allowed : allows l (standing_in opened) ≡ true

abbrev Holds : Leave → State → Option Lexed → Type 0
Holds l a known = HaveLeave l a.items a.opened

-- ---- tokens

may_be : (b : Bool) → not b ≡ false → b ≡ true
may_be true h = refl
may_be false h = absurd cc

moved : (l after : Leave) (items : List Item) (opened : List Open) → Some l ≡ Some after → HaveLeave l items opened → HaveLeave after items opened
moved l after items opened goes h = let e : l ≡ after = cc in subst (λ m. HaveLeave m items opened) e h

given : (l after : Leave) (now : Leave) (items : List Item) (opened : List Open) → Some l ≡ Some after → HaveLeave now items opened → not (allows l (standing_in opened)) ≡ false → HaveLeave after items opened
given l after now items opened goes h is = moved l after items opened goes (record { standing = h.standing; allowed = may_be _ is })

terminals : (bytes : List ℕ) (w : Terminal) (now after : Leave) (a : State) (x : Token) (next : Lexed) (known : Option Lexed) → term w now ≡ Some after
    → failed bytes w a x next ≡ None → Holds now a known → Holds after (effect bytes w a x) (Some next)
terminals bytes terminal.Signal now after a x next known goes passed h = given to_declare after now a.items a.opened goes h (passes bytes terminal.Signal a x next wrong_place 4 passed refl)
terminals bytes terminal.Memo now after a x next known goes passed h = given to_have_memo after now a.items a.opened goes h (passes bytes terminal.Memo a x next wrong_place 4 passed refl)
terminals bytes terminal.Effect now after a x next known goes passed h = given to_declare after now a.items a.opened goes h (passes bytes terminal.Effect a x next wrong_place 4 passed refl)
terminals bytes terminal.Resource now after a x next known goes passed h = given to_have_resource after now a.items a.opened goes h (passes bytes terminal.Resource a x next wrong_place 4 passed refl)
terminals bytes terminal.Load now after a x next known goes passed h = given to_declare after now a.items a.opened goes h (passes bytes terminal.Load a x next wrong_place 4 passed refl)
terminals bytes terminal.Store now after a x next known goes passed h = given to_declare after now a.items a.opened goes h (passes bytes terminal.Store a x next wrong_place 4 passed refl)
terminals bytes terminal.Cleanup now after a x next known goes passed h = given to_have_cleanup after now a.items a.opened goes h (passes bytes terminal.Cleanup a x next wrong_place 4 passed refl)
terminals bytes terminal.Area now after a x next known goes passed h = given to_have_area after now a.items a.opened goes h (passes bytes terminal.Area a x next wrong_place 4 passed refl)
terminals bytes terminal.Each now after a x next known goes passed h = given to_have_each after now a.items a.opened goes h (passes bytes terminal.Each a x next wrong_place 4 passed refl)
terminals bytes w now after a x next known goes passed h = moved now after a.items a.opened goes h

-- ---- actions

-- nothing is known behind an item, and where a block or an element opens or closes
behind : (after : Leave) (b : State) → Some no_leave ≡ Some after → Stand b → HaveLeave after b.items b.opened
behind after b goes h = moved no_leave after b.items b.opened goes (record { standing = h; allowed = refl })

actions : (d : Action) (now after : Leave) (a : State) (known : Option Lexed) → act d now ≡ Some after → Holds now a known → Holds after (perform d a) known
actions action.MakeSignal to_declare after a known goes h =
    behind after (perform action.MakeSignal a) goes (numbered_stood (λ id. item.Signal id a.name a.literal) 1 (known_as signal_name a) h.standing (signal_stands _ _ _ _ h.allowed))
actions action.MakeSignal _ after a known goes h = absurd cc
actions action.MakeMemo to_have_memo after a known goes h =
    behind after (perform action.MakeMemo a) goes (numbered_stood (λ id. item.Memo id a.name (whole a)) 1 (known_as memo_name (taken a)) h.standing (memo_stands _ _ _ _ h.allowed))
actions action.MakeMemo _ after a known goes h = absurd cc
actions action.MakeEffect to_declare after a known goes h =
    behind after (perform action.MakeEffect a) goes (numbered_stood (λ id. item.Effect id a.name (whole a)) 1 (known_as effect_name (taken a)) h.standing (effect_stands _ _ _ _ h.allowed))
actions action.MakeEffect _ after a known goes h = absurd cc
actions action.MakeResource to_have_resource after a known goes h =
    behind after (perform action.MakeResource a) goes (numbered_stood (λ id. item.Resource id a.name a.number a.keys a.values) 1 (record (known_as resource_name a) { keys = []; values = [] }) h.standing (resource_stands _ _ _ _ _ _ h.allowed))
actions action.MakeResource _ after a known goes h = absurd cc
actions action.MakeLoad to_declare after a known goes h =
    behind after (perform action.MakeLoad a) goes (numbered_stood (λ id. item.Load id a.name (id_of a.used) (whole a)) 2 (known_as load_name (taken a)) h.standing (load_stands _ _ _ _ _ h.allowed))
actions action.MakeLoad _ after a known goes h = absurd cc
actions action.MakeStore to_declare after a known goes h =
    behind after (perform action.MakeStore a) goes (numbered_stood (λ id. item.Store id a.name a.number a.fields a.values) (2 + length a.fields) (record (known_as (store_name a.fields) a) { fields = []; values = [] }) h.standing (store_stands _ _ _ _ _ _ h.allowed))
actions action.MakeStore _ after a known goes h = absurd cc
actions action.MakeCleanup to_have_cleanup after a known goes h = behind after (perform action.MakeCleanup a) goes (item_stood (item.Cleanup a.written) a a.opened h.standing (cleanup_stands _ _ h.allowed))
actions action.MakeCleanup _ after a known goes h = absurd cc
actions action.OpenArea to_have_area after a known goes h = behind after (perform action.OpenArea a) goes (frame_stood (area_frame a.next_id a.name a.next_owner) _ a.items a.opened h.allowed h.standing)
actions action.OpenArea _ after a known goes h = absurd cc
actions action.OpenEach to_have_each after a known goes h = behind after (perform action.OpenEach a) goes (frame_stood _ a.seen a.items a.opened h.allowed h.standing)
actions action.OpenEach _ after a known goes h = absurd cc
actions action.MakeText now after a known goes h = behind after (perform action.MakeText a) goes (item_stood (item.Text a.written) a a.opened h.standing (text_stands _ _))
actions action.MakeShown now after a known goes h = behind after (perform action.MakeShown a) goes (numbered_stood (λ id. item.Shown id (whole a)) 1 (taken a) h.standing (shown_stands _ _ _))
actions action.OpenIf now after a known goes h = behind after (perform action.OpenIf a) goes (frame_stood (if_frame a.next_id (whole a)) a.seen a.items a.opened refl h.standing)
actions action.OpenElement now after a known goes h = behind after (perform action.OpenElement a) goes (frame_stood (element_frame _ true []) a.seen a.items a.opened refl h.standing)
actions action.OpenVoid now after a known goes h = behind after (perform action.OpenVoid a) goes (frame_stood (element_frame _ false []) a.seen a.items a.opened refl h.standing)
actions action.Close now after a known goes h = behind after (perform action.Close a) goes (closed_stood a a.opened h.standing)
actions action.MakeBare now after a known goes h = behind after (perform action.MakeBare a) goes (attr_stood (λ id. attr.Bare a.name) 0 a a.opened h.standing)
actions action.MakeFixed now after a known goes h = behind after (perform action.MakeFixed a) goes (attr_stood (λ id. attr.Fixed a.name a.written) 0 a a.opened h.standing)
actions action.MakeShownAttribute now after a known goes h = behind after (perform action.MakeShownAttribute a) goes (attr_stood (λ id. attr.Shown a.name id (whole a)) 1 (taken a) a.opened h.standing)
actions d now after a known goes h = moved now after a.items a.opened goes h

-- ---- whole texts

abbrev Any : State → Type 0
Any a = Unit {0}

keeps : (bytes : List ℕ) → Keeps table (semantics bytes) Any
keeps bytes = record { terminal = λ w a b x has takes h. tt; action = λ d a h. tt }

is_walk : (bytes : List ℕ) → IsWalk term act through bytes Any Holds
is_walk bytes = record {
  rules = promised term act through code all listed tests;
  terminals = λ w now after a x next known goes has passed first p h. terminals bytes w now after a x next known goes passed h;
  actions = λ d now after a known goes p h. actions d now after a known goes h;
}

pub items_stand_where_they_may : (bytes : List ℕ) (component : Component) → IsComponent bytes component → list_all (λ i. item_stands i standing_at_top) component.items ≡ true
items_stand_where_they_may bytes component is =
    let nothing : Holds no_leave start None = record { standing = record { at_top = refl; inner = refl }; allowed = refl } in
    let end = walked_to_the_end term act through bytes Any (keeps bytes) Holds (is_walk bytes) is.last is.read tt no_leave no_leave refl nothing in
    rw is.items end.2.standing.at_top
