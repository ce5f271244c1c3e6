-- Stores and resources have one value for each field and key, stores few rows, and resources distinct keys.
use Rattle.std.proofs.Common.{◌≡◌, ℕ, ◌+◌, ◌&&◌, nat_le, nat_lt, Bool, true, false, List, [], ◌∷◌, ◌++◌, length, map, Ok, Err, Some, None, Option, refl, sym, subst, ◌∙◌, arith, length-append, eq-eqb, ltb-false, le-leb}
use Rattle.std.specs.List.{list_all, list_any}
use Rattle.std.proofs.lemmas.List.Folds.{list_all-map}
use Rattle.grammar.specs.Table.{production_at}
use Rattle.grammar.proofs.Theory.{and_cases, and_both}
use Rattle.values.specs.declared.code.Code.{Code}
use Rattle.values.specs.declared.code.Code.TheVariants.{Empty, Word}
use Rattle.values.specs.declared.expr.Expr.{Expr}
use Rattle.values.specs.Evaluation.{is_same}
use Rattle.values.specs.Texts.{index_of}
use Rattle.values.specs.declared.limits.TheConstants.{MOST_ROWS}
use Rattle.text_lexer.specs.declared.token.Token.{Token}
use Rattle.text_lexer.specs.Tokens.{Lexed}
use Rattle.text_grammar.specs.Class.{is_number}
use Rattle.text_grammar.specs.Component.{matches}
use Rattle.text_grammar.specs.Kind.{kind_of}
use Rattle.text_grammar.specs.declared.component.Action.{Action}
use Rattle.text_grammar.specs.declared.component.Action.TheVariants as action
use Rattle.text_grammar.specs.declared.component.Rule.{Rule}
use Rattle.text_grammar.specs.declared.component.Rule.TheVariants as rule
use Rattle.text_grammar.specs.declared.component.Terminal.{Terminal}
use Rattle.text_grammar.specs.declared.component.Terminal.TheVariants as terminal
use Rattle.component_items.specs.declared.component.Attr.{Attr}
use Rattle.component_items.specs.declared.component.Attr.TheVariants as attr
use Rattle.component_items.specs.declared.component.Component.{Component}
use Rattle.component_items.specs.declared.component.Item.{Item}
use Rattle.component_items.specs.declared.component.Item.TheVariants as item
use Rattle.component_items.specs.Kept.{all_true, are_distinct, shape_step, item_has_shape}
use Rattle.component_items.proofs.FoldLemmas as folds
use Rattle.component_meaning.specs.State.{State, start, Declared, Frame, area_frame, if_frame, each_frame, element_frame, Open, signal_name, memo_name, effect_name, resource_name, load_name, store_name}
use Rattle.component_meaning.specs.Names.{id_of, value_in, content_in, number_in, negated_in, number_with, greatest_negated}
use Rattle.component_meaning.specs.Checks.{failed, has_text_key, number_range, name_taken, too_many_rows}
use Rattle.component_meaning.specs.Effects.{effect}
use Rattle.component_meaning.specs.Actions.{whole, taken, known_as, with_item, with_numbered, item_of, closed, with_attr, perform}
use Rattle.component_meaning.specs.Component.{IsComponent}
use Rattle.component_meaning.proofs.KeptAlong.{IsNext, passes, keeps_promises, promised, IsWalk, walked_to_the_end}
use Rattle.component_meaning.proofs.KeptKeys.{distinct_more, new_text_key}
use Rattle.component_meaning.proofs.KeptTexts.{AreInTable, last_has, keeps, start_kept}

-- ---- items

signal_shape : (id name : ℕ) (start : Code) → item_has_shape (item.Signal id name start) ≡ true
unfolding item_has_shape
signal_shape id name start = folds.fold-Signal shape_step id name start

memo_shape : (id name : ℕ) (e : Expr) → item_has_shape (item.Memo id name e) ≡ true
unfolding item_has_shape
memo_shape id name e = folds.fold-Memo shape_step id name e

effect_shape : (id name : ℕ) (e : Expr) → item_has_shape (item.Effect id name e) ≡ true
unfolding item_has_shape
effect_shape id name e = folds.fold-Effect shape_step id name e

load_shape : (id name resource : ℕ) (key : Expr) → item_has_shape (item.Load id name resource key) ≡ true
unfolding item_has_shape
load_shape id name resource key = folds.fold-Load shape_step id name resource key

cleanup_shape : (text : ℕ) → item_has_shape (item.Cleanup text) ≡ true
unfolding item_has_shape
cleanup_shape text = folds.fold-Cleanup shape_step text

text_shape : (text : ℕ) → item_has_shape (item.Text text) ≡ true
unfolding item_has_shape
text_shape text = folds.fold-Text shape_step text

shown_shape : (id : ℕ) (e : Expr) → item_has_shape (item.Shown id e) ≡ true
unfolding item_has_shape
shown_shape id e = folds.fold-Shown shape_step id e

resource_shape : (id name after : ℕ) (keys values : List Code) → length keys ≡ length values → are_distinct keys ≡ true → item_has_shape (item.Resource id name after keys values) ≡ true
unfolding item_has_shape
resource_shape id name after keys values even distinct = folds.fold-Resource shape_step id name after keys values ∙ and_both _ _ (eq-eqb (length keys) (length values) even) distinct

store_shape : (id name max : ℕ) (fields : List ℕ) (starts : List Code) → length fields ≡ length starts → nat_le max MOST_ROWS ≡ true → item_has_shape (item.Store id name max fields starts) ≡ true
unfolding item_has_shape
store_shape id name max fields starts even few = folds.fold-Store shape_step id name max fields starts ∙ and_both _ _ (eq-eqb (length fields) (length starts) even) few

inner_shape : (items : List Item) → list_all item_has_shape items ≡ true → all_true (map item_has_shape items) ≡ true
inner_shape items h = list_all-map (λ b. b) item_has_shape items ∙ h

closed_shape : (frame : Frame) (items : List Item) → list_all item_has_shape items ≡ true → item_has_shape (item_of frame items) ≡ true
unfolding item_has_shape
closed_shape (area_frame id name owner) items h = folds.fold-Area shape_step id name owner items ∙ inner_shape items h
closed_shape (if_frame id cond) items h = folds.fold-If shape_step id cond items ∙ inner_shape items h
closed_shape (each_frame id rows) items h = folds.fold-Each shape_step id rows.store items ∙ inner_shape items h
closed_shape (element_frame tag has_end attrs) items h = folds.fold-Element shape_step tag has_end attrs items ∙ inner_shape items h

-- ---- the state

abbrev open_has_shape : Open → Bool
open_has_shape o = list_all item_has_shape o.items

record AreShaped (items : List Item) (opened : List Open) : Type 0 where
  at_top : list_all item_has_shape items ≡ true
  inner : list_all open_has_shape opened ≡ true

abbrev Shaped : State → Type 0
Shaped a = AreShaped a.items a.opened

item_shaped : (i : Item) (a : State) (opened : List Open) → AreShaped a.items opened → item_has_shape i ≡ true → Shaped (with_item i (record a { opened = opened }))
item_shaped i a [] h has = record { at_top = last_has item_has_shape a.items i h.at_top has; inner = refl }
item_shaped i a (o ∷ outer) h has =
    let both = and_cases (open_has_shape o) _ h.inner in
    record { at_top = h.at_top; inner = and_both _ _ (last_has item_has_shape o.items i both.0 has) both.1 }

numbered_shaped : (made : ℕ → Item) (count : ℕ) (a : State) → Shaped a → item_has_shape (made a.next_id) ≡ true → Shaped (with_numbered made count a)
numbered_shaped made count a h has = item_shaped (made a.next_id) (record a { next_id = a.next_id + count }) a.opened h has

frame_shaped : (frame : Frame) (outside : List Declared) (items : List Item) (opened : List Open) → AreShaped items opened → AreShaped items (record { frame = frame; outside = outside; items = [] } ∷ opened)
frame_shaped frame outside items opened h = record { at_top = h.at_top; inner = and_both _ _ refl h.inner }

closed_shaped : (a : State) (opened : List Open) → AreShaped a.items opened → Shaped (closed (record a { opened = opened }))
closed_shaped a [] h = h
closed_shaped a (o ∷ outer) h =
    let both = and_cases (open_has_shape o) _ h.inner in
    at o.frame o.outside o.items (closed_shape o.frame o.items both.0) (record { at_top = h.at_top; inner = both.1 })
  where
    at : (frame : Frame) (outside : List Declared) (inner : List Item) → item_has_shape (item_of frame inner) ≡ true → AreShaped a.items outer
        → Shaped (closed (record a { opened = record { frame = frame; outside = outside; items = inner } ∷ outer }))
    at (area_frame id name owner) outside inner has h = item_shaped _ (record a { seen = outside }) outer h has
    at (if_frame id cond) outside inner has h = item_shaped _ (record a { seen = outside }) outer h has
    at (each_frame id rows) outside inner has h = item_shaped _ (record a { seen = outside }) outer h has
    at (element_frame tag has_end attrs) outside inner has h = item_shaped _ a outer h has

attr_shaped : (made : ℕ → Attr) (count : ℕ) (a : State) (opened : List Open) → AreShaped a.items opened → Shaped (with_attr made count (record a { opened = opened }))
attr_shaped made count a [] h = h
attr_shaped made count a (o ∷ outer) h = at o.frame o.outside o.items h
  where
    at : (frame : Frame) (outside : List Declared) (inner : List Item) → AreShaped a.items (record { frame = frame; outside = outside; items = inner } ∷ outer)
        → Shaped (with_attr made count (record a { opened = record { frame = frame; outside = outside; items = inner } ∷ outer }))
    at frame outside (i ∷ inner) h = h
    at (area_frame id name owner) outside [] h = h
    at (if_frame id cond) outside [] h = h
    at (each_frame id rows) outside [] h = h
    at (element_frame tag has_end attrs) outside [] h = record { at_top = h.at_top; inner = h.inner }

-- ---- what is known of the entries of a store or a resource

data Entries : Type 0 where
  nothing : Entries
  -- of a store: its most rows are few; each field has its value; the last field has none yet
  few_rows : Entries
  even_fields : Entries
  new_field : Entries
  -- of a resource: each key has its value; the last key has none yet; a key's `-` was read
  even_keys : Entries
  new_key : Entries
  key_minus : Entries

abbrev only : Entries → Option Entries
only nothing = Some nothing
only _ = None

-- all but a key's `-` may be followed by further tokens
abbrev steady : Entries → Option Entries
steady key_minus = None
steady now = Some now

abbrev term : Terminal → Entries → Option Entries
term terminal.AfterNumber now = only now
term terminal.MaxNumber nothing = Some few_rows
term terminal.MaxNumber _ = None
term terminal.NewField even_fields = Some new_field
term terminal.NewField _ = None
term terminal.EmptyKey even_keys = Some new_key
term terminal.EmptyKey _ = None
term terminal.TextKey even_keys = Some new_key
term terminal.TextKey _ = None
term terminal.NumberKey even_keys = Some new_key
term terminal.NumberKey _ = None
term terminal.KeyMinus even_keys = Some key_minus
term terminal.KeyMinus _ = None
term terminal.NegatedKey key_minus = Some new_key
term terminal.NegatedKey _ = None
term _ now = steady now

abbrev act : Action → Entries → Option Entries
act action.BeginEntries nothing = Some even_keys
act action.BeginEntries few_rows = Some even_fields
act action.BeginEntries _ = None
act action.AddValue new_field = Some even_fields
act action.AddValue new_key = Some even_keys
act action.AddValue _ = None
act action.MakeResource even_keys = Some nothing
act action.MakeResource _ = None
act action.MakeStore even_fields = Some nothing
act action.MakeStore _ = None
act action.BeginExpression now = steady now
act _ now = only now

abbrev through : Rule → Entries → Option Entries
through rule.Pairs even_keys = Some even_keys
through rule.Pairs _ = None
through rule.Key even_keys = Some new_key
through rule.Key _ = None
through rule.Fields even_fields = Some even_fields
through rule.Fields _ = None
through rule.Literal now = steady now
through _ now = only now

abbrev code : Entries → ℕ
code nothing = 0
code few_rows = 1
code even_fields = 2
code new_field = 3
code even_keys = 4
code new_key = 5
code key_minus = 6

all : List Entries
all = nothing ∷ few_rows ∷ even_fields ∷ new_field ∷ even_keys ∷ new_key ∷ key_minus ∷ []

listed : (e : Entries) → production_at all (code e) ≡ Some e
unfolding all
listed nothing = refl
listed _ = refl

tests : (r : Rule) → keeps_promises term act through code all r ≡ true
unfolding all
tests rule.Component = refl
tests _ = refl

-- so many fields or keys have no value yet
record IsStore (number : ℕ) (fields : List ℕ) (values : List Code) (ahead : ℕ) : Type 0 where
  few : nat_le number MOST_ROWS ≡ true
  even : length fields ≡ ahead + length values

record IsResource (keys values : List Code) (ahead : ℕ) : Type 0 where
  distinct : are_distinct keys ≡ true
  even : length keys ≡ ahead + length values

-- a number that comes next is no key behind a `-` yet
abbrev IsNewNegated : List ℕ → List Code → Option Lexed → Type 0
IsNewNegated bytes keys None = ⊥
IsNewNegated bytes keys (Some (Ok y)) = (is_number (kind_of bytes (Ok y)).kind && nat_le (value_in bytes y) greatest_negated && list_any (is_same (negated_in bytes y)) keys) ≡ false
IsNewNegated bytes keys (Some (Err bad)) = Unit {0}

abbrev Means : List ℕ → Entries → ℕ → List ℕ → List Code → List Code → Option Lexed → Type 0
Means bytes nothing number fields keys values known = Unit {0}
Means bytes few_rows number fields keys values known = nat_le number MOST_ROWS ≡ true
Means bytes even_fields number fields keys values known = IsStore number fields values 0
Means bytes new_field number fields keys values known = IsStore number fields values 1
Means bytes even_keys number fields keys values known = IsResource keys values 0
Means bytes new_key number fields keys values known = IsResource keys values 1
Means bytes key_minus number fields keys values known = IsResource keys values 0 × IsNewNegated bytes keys known

abbrev MeansAt : List ℕ → Entries → State → Option Lexed → Type 0
MeansAt bytes e a known = Means bytes e a.number a.fields a.keys a.values known

record AreKnown (bytes : List ℕ) (e : Entries) (items : List Item) (opened : List Open) (number : ℕ) (fields : List ℕ) (keys values : List Code) (known : Option Lexed) : Type 0 where
  shaped : AreShaped items opened
  means : Means bytes e number fields keys values known

abbrev Holds : List ℕ → Entries → State → Option Lexed → Type 0
Holds bytes e a known = AreKnown bytes e a.items a.opened a.number a.fields a.keys a.values known

-- where nothing changes, and where only this is known
same_entries : (bytes : List ℕ) (now after : Entries) (number : ℕ) (fields : List ℕ) (keys values : List Code) (known next : Option Lexed) → steady now ≡ Some after
    → Means bytes now number fields keys values known → Means bytes after number fields keys values next
same_entries bytes nothing after number fields keys values known next goes h = let e : nothing ≡ after = cc in subst (λ m. Means bytes m number fields keys values next) e h
same_entries bytes few_rows after number fields keys values known next goes h = let e : few_rows ≡ after = cc in subst (λ m. Means bytes m number fields keys values next) e h
same_entries bytes even_fields after number fields keys values known next goes h = let e : even_fields ≡ after = cc in subst (λ m. Means bytes m number fields keys values next) e h
same_entries bytes new_field after number fields keys values known next goes h = let e : new_field ≡ after = cc in subst (λ m. Means bytes m number fields keys values next) e h
same_entries bytes even_keys after number fields keys values known next goes h = let e : even_keys ≡ after = cc in subst (λ m. Means bytes m number fields keys values next) e h
same_entries bytes new_key after number fields keys values known next goes h = let e : new_key ≡ after = cc in subst (λ m. Means bytes m number fields keys values next) e h
same_entries bytes key_minus after number fields keys values known next goes h = absurd cc

now_known : (bytes : List ℕ) (e after : Entries) (b : State) (next : Option Lexed) → Some e ≡ Some after → Shaped b → MeansAt bytes e b next → Holds bytes after b next
now_known bytes e after b next goes shaped means = let is : e ≡ after = cc in record { shaped = shaped; means = subst (λ m. MeansAt bytes m b next) is means }

nothing_known : (bytes : List ℕ) (now after : Entries) (b : State) (next : Option Lexed) → only now ≡ Some after → Shaped b → Holds bytes after b next
nothing_known bytes nothing after b next goes shaped = now_known bytes nothing after b next goes shaped tt
nothing_known bytes few_rows after b next goes shaped = absurd cc
nothing_known bytes even_fields after b next goes shaped = absurd cc
nothing_known bytes new_field after b next goes shaped = absurd cc
nothing_known bytes even_keys after b next goes shaped = absurd cc
nothing_known bytes new_key after b next goes shaped = absurd cc
nothing_known bytes key_minus after b next goes shaped = absurd cc

-- ---- entries

field_added : (number : ℕ) (fields : List ℕ) (values : List Code) (field : ℕ) → IsStore number fields values 0 → IsStore number (fields ++ field ∷ []) values 1
field_added number fields values field h = record { few = h.few; even = omega (arith, h.even, length-append fields (field ∷ [])) }

start_added : (number : ℕ) (fields : List ℕ) (values : List Code) (value : Code) → IsStore number fields values 1 → IsStore number fields (values ++ value ∷ []) 0
start_added number fields values value h = record { few = h.few; even = omega (arith, h.even, length-append values (value ∷ [])) }

key_added : (keys values : List Code) (key : Code) → IsResource keys values 0 → list_any (is_same key) keys ≡ false → IsResource (keys ++ key ∷ []) values 1
key_added keys values key h new = record { distinct = distinct_more keys key h.distinct new; even = omega (arith, h.even, length-append keys (key ∷ [])) }

value_added : (keys values : List Code) (value : Code) → IsResource keys values 1 → IsResource keys (values ++ value ∷ []) 0
value_added keys values value h = record { distinct = h.distinct; even = omega (arith, h.even, length-append values (value ∷ [])) }

third_false : (a b c : Bool) → a ≡ true → b ≡ true → (a && b && c) ≡ false → c ≡ false
third_false true true c p q h = h
third_false true false c p q h = absurd cc
third_false false b c p q h = absurd cc

-- the number behind a key's `-`
negated_added : (bytes : List ℕ) (keys : List Code) (x : Token) (known : Option Lexed) → IsNext known (Ok x) → IsNewNegated bytes keys known → is_number (kind_of bytes (Ok x)).kind ≡ true
    → nat_lt greatest_negated (value_in bytes x) ≡ false → list_any (is_same (negated_in bytes x)) keys ≡ false
negated_added bytes keys x None first new number within = elim new [ ]
negated_added bytes keys x (Some y) first new number within =
    let now : IsNewNegated bytes keys (Some (Ok x)) = subst (λ (l : Lexed). IsNewNegated bytes keys (Some l)) (sym first) new in
    let small : nat_le (value_in bytes x) greatest_negated ≡ true = le-leb (value_in bytes x) greatest_negated (ltb-false greatest_negated (value_in bytes x) within) in
    third_false _ _ _ number small now

new_text : (bytes : List ℕ) (a : State) → AreInTable a → has_text_key (index_of bytes a.texts) a ≡ false → list_any (is_same (Word (number_with bytes a.texts))) a.keys ≡ false
new_text bytes a table new = new_text_key bytes a.texts a.keys table.reading.keys_have (λ n is. subst (λ (o : Option ℕ). has_text_key o a ≡ false) is new)

few_from : (number : ℕ) → nat_lt MOST_ROWS number ≡ false → nat_le number MOST_ROWS ≡ true
few_from number h = le-leb number MOST_ROWS (ltb-false MOST_ROWS number h)

-- what the lexer gave comes next, where a key's `-` passed its check
new_negated : (bytes : List ℕ) (a : State) (x : Token) (next : Lexed) → failed bytes terminal.KeyMinus a x next ≡ None → IsNewNegated bytes a.keys (Some next)
new_negated bytes a x (Ok y) passed = passes bytes terminal.KeyMinus a x (Ok y) name_taken 5 passed refl
new_negated bytes a x (Err bad) passed = tt

-- ---- tokens

terminals : (bytes : List ℕ) (w : Terminal) (now after : Entries) (a : State) (x : Token) (next : Lexed) (known : Option Lexed) → term w now ≡ Some after → matches w (kind_of bytes (Ok x)) ≡ true
    → failed bytes w a x next ≡ None → IsNext known (Ok x) → AreInTable a → Holds bytes now a known → Holds bytes after (effect bytes w a x) (Some next)
terminals bytes terminal.AfterNumber now after a x next known goes has passed first table h = nothing_known bytes now after (effect bytes terminal.AfterNumber a x) (Some next) goes h.shaped
terminals bytes terminal.MaxNumber nothing after a x next known goes has passed first table h =
    now_known bytes few_rows after (effect bytes terminal.MaxNumber a x) (Some next) goes h.shaped (few_from (value_in bytes x) (passes bytes terminal.MaxNumber a x next too_many_rows 6 passed refl))
terminals bytes terminal.MaxNumber _ after a x next known goes has passed first table h = absurd cc
terminals bytes terminal.NewField even_fields after a x next known goes has passed first table h =
    now_known bytes new_field after (effect bytes terminal.NewField a x) (Some next) goes h.shaped (field_added a.number a.fields a.values _ h.means)
terminals bytes terminal.NewField _ after a x next known goes has passed first table h = absurd cc
terminals bytes terminal.EmptyKey even_keys after a x next known goes has passed first table h =
    now_known bytes new_key after (effect bytes terminal.EmptyKey a x) (Some next) goes h.shaped (key_added a.keys a.values Empty h.means (passes bytes terminal.EmptyKey a x next name_taken 5 passed refl))
terminals bytes terminal.EmptyKey _ after a x next known goes has passed first table h = absurd cc
terminals bytes terminal.TextKey even_keys after a x next known goes has passed first table h =
    now_known bytes new_key after (effect bytes terminal.TextKey a x) (Some next) goes h.shaped
    (key_added a.keys a.values _ h.means (new_text (content_in bytes x) a table (passes bytes terminal.TextKey a x next name_taken 5 passed refl)))
terminals bytes terminal.TextKey _ after a x next known goes has passed first table h = absurd cc
terminals bytes terminal.NumberKey even_keys after a x next known goes has passed first table h =
    now_known bytes new_key after (effect bytes terminal.NumberKey a x) (Some next) goes h.shaped (key_added a.keys a.values (number_in bytes x) h.means (passes bytes terminal.NumberKey a x next name_taken 5 passed refl))
terminals bytes terminal.NumberKey _ after a x next known goes has passed first table h = absurd cc
terminals bytes terminal.KeyMinus even_keys after a x next known goes has passed first table h =
    now_known bytes key_minus after (effect bytes terminal.KeyMinus a x) (Some next) goes h.shaped (h.means, new_negated bytes a x next passed)
terminals bytes terminal.KeyMinus _ after a x next known goes has passed first table h = absurd cc
terminals bytes terminal.NegatedKey key_minus after a x next known goes has passed first table h =
    now_known bytes new_key after (effect bytes terminal.NegatedKey a x) (Some next) goes h.shaped
    (key_added a.keys a.values (negated_in bytes x) h.means.0 (negated_added bytes a.keys x known first h.means.1 has (passes bytes terminal.NegatedKey a x next number_range 2 passed refl)))
terminals bytes terminal.NegatedKey _ after a x next known goes has passed first table h = absurd cc
terminals bytes w now after a x next known goes has passed first table h =
    record { shaped = h.shaped; means = same_entries bytes now after a.number a.fields a.keys a.values known (Some next) goes h.means }

-- ---- actions

actions : (bytes : List ℕ) (d : Action) (now after : Entries) (a : State) (known : Option Lexed) → act d now ≡ Some after → Holds bytes now a known → Holds bytes after (perform d a) known
actions bytes action.BeginExpression now after a known goes h = record { shaped = h.shaped; means = same_entries bytes now after a.number a.fields a.keys a.values known known goes h.means }
actions bytes action.MakeSignal now after a known goes h =
    nothing_known bytes now after (perform action.MakeSignal a) known goes (numbered_shaped (λ id. item.Signal id a.name a.literal) 1 (known_as signal_name a) h.shaped (signal_shape _ _ _))
actions bytes action.MakeMemo now after a known goes h =
    nothing_known bytes now after (perform action.MakeMemo a) known goes (numbered_shaped (λ id. item.Memo id a.name (whole a)) 1 (known_as memo_name (taken a)) h.shaped (memo_shape _ _ _))
actions bytes action.MakeEffect now after a known goes h =
    nothing_known bytes now after (perform action.MakeEffect a) known goes (numbered_shaped (λ id. item.Effect id a.name (whole a)) 1 (known_as effect_name (taken a)) h.shaped (effect_shape _ _ _))
actions bytes action.BeginEntries nothing after a known goes h = now_known bytes even_keys after (perform action.BeginEntries a) known goes h.shaped (record { distinct = refl; even = refl })
actions bytes action.BeginEntries few_rows after a known goes h = now_known bytes even_fields after (perform action.BeginEntries a) known goes h.shaped (record { few = h.means; even = refl })
actions bytes action.BeginEntries _ after a known goes h = absurd cc
actions bytes action.AddValue new_field after a known goes h = now_known bytes even_fields after (perform action.AddValue a) known goes h.shaped (start_added a.number a.fields a.values a.literal h.means)
actions bytes action.AddValue new_key after a known goes h = now_known bytes even_keys after (perform action.AddValue a) known goes h.shaped (value_added a.keys a.values a.literal h.means)
actions bytes action.AddValue _ after a known goes h = absurd cc
actions bytes action.MakeResource even_keys after a known goes h =
    let even : length a.keys ≡ length a.values = omega (arith, h.means.even) in
    nothing_known bytes nothing after (perform action.MakeResource a) known goes
    (numbered_shaped (λ id. item.Resource id a.name a.number a.keys a.values) 1 (record (known_as resource_name a) { keys = []; values = [] }) h.shaped (resource_shape _ _ _ _ _ even h.means.distinct))
actions bytes action.MakeResource _ after a known goes h = absurd cc
actions bytes action.MakeLoad now after a known goes h =
    nothing_known bytes now after (perform action.MakeLoad a) known goes (numbered_shaped (λ id. item.Load id a.name (id_of a.used) (whole a)) 2 (known_as load_name (taken a)) h.shaped (load_shape _ _ _ _))
actions bytes action.MakeStore even_fields after a known goes h =
    let even : length a.fields ≡ length a.values = omega (arith, h.means.even) in
    nothing_known bytes nothing after (perform action.MakeStore a) known goes
    (numbered_shaped (λ id. item.Store id a.name a.number a.fields a.values) (2 + length a.fields) (record (known_as (store_name a.fields) a) { fields = []; values = [] }) h.shaped (store_shape _ _ _ _ _ even h.means.few))
actions bytes action.MakeStore _ after a known goes h = absurd cc
actions bytes action.MakeCleanup now after a known goes h = nothing_known bytes now after (perform action.MakeCleanup a) known goes (item_shaped (item.Cleanup a.written) a a.opened h.shaped (cleanup_shape _))
actions bytes action.MakeText now after a known goes h = nothing_known bytes now after (perform action.MakeText a) known goes (item_shaped (item.Text a.written) a a.opened h.shaped (text_shape _))
actions bytes action.MakeShown now after a known goes h = nothing_known bytes now after (perform action.MakeShown a) known goes (numbered_shaped (λ id. item.Shown id (whole a)) 1 (taken a) h.shaped (shown_shape _ _))
actions bytes action.OpenArea now after a known goes h = nothing_known bytes now after (perform action.OpenArea a) known goes (frame_shaped _ _ a.items a.opened h.shaped)
actions bytes action.OpenIf now after a known goes h = nothing_known bytes now after (perform action.OpenIf a) known goes (frame_shaped _ _ a.items a.opened h.shaped)
actions bytes action.OpenEach now after a known goes h = nothing_known bytes now after (perform action.OpenEach a) known goes (frame_shaped _ _ a.items a.opened h.shaped)
actions bytes action.OpenElement now after a known goes h = nothing_known bytes now after (perform action.OpenElement a) known goes (frame_shaped _ _ a.items a.opened h.shaped)
actions bytes action.OpenVoid now after a known goes h = nothing_known bytes now after (perform action.OpenVoid a) known goes (frame_shaped _ _ a.items a.opened h.shaped)
actions bytes action.Close now after a known goes h = nothing_known bytes now after (perform action.Close a) known goes (closed_shaped a a.opened h.shaped)
actions bytes action.MakeBare now after a known goes h = nothing_known bytes now after (perform action.MakeBare a) known goes (attr_shaped (λ id. attr.Bare a.name) 0 a a.opened h.shaped)
actions bytes action.MakeFixed now after a known goes h = nothing_known bytes now after (perform action.MakeFixed a) known goes (attr_shaped (λ id. attr.Fixed a.name a.written) 0 a a.opened h.shaped)
actions bytes action.MakeShownAttribute now after a known goes h = nothing_known bytes now after (perform action.MakeShownAttribute a) known goes (attr_shaped (λ id. attr.Shown a.name id (whole a)) 1 (taken a) a.opened h.shaped)
actions bytes d now after a known goes h = nothing_known bytes now after (perform d a) known goes h.shaped

-- ---- whole texts

is_walk : (bytes : List ℕ) → IsWalk term act through bytes AreInTable (Holds bytes)
is_walk bytes = record {
  rules = promised term act through code all listed tests;
  terminals = λ w now after a x next known goes has passed first p h. terminals bytes w now after a x next known goes has passed first p h;
  actions = λ d now after a known goes p h. actions bytes d now after a known goes h;
}

pub stores_and_resources_have_their_shape : (bytes : List ℕ) (component : Component) → IsComponent bytes component → list_all item_has_shape component.items ≡ true
stores_and_resources_have_their_shape bytes component is =
    let first : Holds bytes nothing start None = record { shaped = record { at_top = refl; inner = refl }; means = tt } in
    let end = walked_to_the_end term act through bytes AreInTable (keeps bytes) (Holds bytes) (is_walk bytes) is.last is.read start_kept nothing nothing refl first in
    rw is.items end.2.shaped.at_top
