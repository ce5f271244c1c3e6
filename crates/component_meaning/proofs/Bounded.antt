-- Each production of component texts pays for the ids and owners that it takes.
use Rattle.std.proofs.Common.{◌≡◌, ℕ, ◌+◌, ◌≤◌, true, List, [], ◌∷◌, length, Ok, Err, Some, None, Option, refl, subst, arith, length-append}
use Rattle.std.specs.List.{list_all}
use Rattle.grammar.specs.declared.symbol.Symbol.{Symbol}
use Rattle.grammar.specs.Ahead.{WithNext}
use Rattle.grammar.specs.Semantics.{Reads}
use Rattle.grammar.proofs.Tests.{all_at}
use Rattle.text_lexer.specs.declared.token.Token.{Token}
use Rattle.text_lexer.specs.Tokens.{Lexed}
use Rattle.text_grammar.specs.declared.component.Action.{Action}
use Rattle.text_grammar.specs.declared.component.Action.TheVariants as action
use Rattle.text_grammar.specs.declared.component.Rule.{Rule}
use Rattle.text_grammar.specs.declared.component.Terminal.{Terminal}
use Rattle.text_grammar.specs.declared.component.Terminal.TheVariants as terminal
use Rattle.text_grammar.specs.Component.{table, text}
use Rattle.text_grammar.proofs.ComponentRight as right
use Rattle.component_items.specs.declared.component.Attr.{Attr}
use Rattle.component_items.specs.declared.component.Attr.TheVariants as attr
use Rattle.component_items.specs.declared.component.Item.{Item}
use Rattle.component_items.specs.declared.component.Item.TheVariants as item
use Rattle.grammar.specs.Paid.{rule_pays}
use Rattle.grammar.proofs.Paid as paid
use Rattle.component_meaning.specs.State.{State, Frame, area_frame, if_frame, each_frame, element_frame, Open, signal_name, memo_name, effect_name, resource_name, load_name, store_name}
use Rattle.component_meaning.specs.Names.{id_of, rows_from, number_with}
use Rattle.component_meaning.specs.Checks.{Check, failed}
use Rattle.component_meaning.specs.Effects.{effect}
use Rattle.component_meaning.specs.Actions.{whole, taken, with_item, with_numbered, known_as, with_attr, item_of, seen_behind, closed, perform}
use Rattle.component_meaning.specs.Meaning.{semantics, judged, accept_token}
use Rattle.component_meaning.specs.Size.{size, rise, gain}

le_plus : (n m : ℕ) → n ≤ n + m
le_plus n m = omega arith

-- ---- tokens

effect_size : (bytes : List ℕ) (t : Terminal) (a : State) (x : Token) → size (effect bytes t a x) ≤ size a + rise t
effect_size bytes terminal.NewField a x = omega (arith, length-append a.fields (number_with (Rattle.component_meaning.specs.Names.bytes_of bytes x) a.texts ∷ []))
effect_size bytes _ a x = le_plus (size a) 0

accept_size : (bytes : List ℕ) (t : Terminal) (a b : State) (x next : Lexed) → accept_token bytes t a x next ≡ Ok b → size b ≤ size a + rise t
accept_size bytes t a b (Err bad) next took = absurd cc
accept_size bytes t a b (Ok x) next took = at (failed bytes t a x next) took
  where
    at : (o : Option Check) → judged bytes t a x next o ≡ Ok b → size b ≤ size a + rise t
    at None is = let same : effect bytes t a x ≡ b = cc in subst (λ s. size s ≤ size a + rise t) same (effect_size bytes t a x)
    at (Some check) is = absurd cc

-- ---- actions

item_size : (i : Item) (a : State) (opened : List Open) → size (with_item i (record a { opened = opened })) ≡ size a
item_size i a [] = refl
item_size i a (o ∷ outer) = refl

numbered_le : (made : ℕ → Item) (n : ℕ) (a : State) → size (with_numbered made n a) ≤ size a + n
numbered_le made n a = let same = item_size (made a.next_id) (record a { next_id = a.next_id + n }) a.opened in omega (arith, same)

behind_size : (o : Open) (a : State) (frame : Frame) → size (seen_behind (record o { frame = frame }) a) ≡ size a
behind_size o a (area_frame id name owner) = refl
behind_size o a (if_frame id cond) = refl
behind_size o a (each_frame id rows) = refl
behind_size o a (element_frame tag has_end attrs) = refl

seen_behind_opened : (o : Open) (a : State) (frame : Frame) → (seen_behind (record o { frame = frame }) a).opened ≡ a.opened
seen_behind_opened o a (area_frame id name owner) = refl
seen_behind_opened o a (if_frame id cond) = refl
seen_behind_opened o a (each_frame id rows) = refl
seen_behind_opened o a (element_frame tag has_end attrs) = refl

closed_size : (a : State) (opened : List Open) → size (closed (record a { opened = opened })) ≡ size a
closed_size a [] = refl
closed_size a (o ∷ outer) =
    let b = seen_behind o (record a { opened = outer }) in
    let one = item_size (item_of o.frame o.items) b b.opened in
    let two = behind_size o (record a { opened = outer }) o.frame in
    omega (arith, one, two)

attr_size : (made : ℕ → Attr) (n : ℕ) (a : State) (opened : List Open) → size (with_attr made n (record a { opened = opened })) ≤ size a + n
attr_size made n a [] = le_plus (size a) n
attr_size made n a (o ∷ outer) = in_items o.items o.frame
  where
    in_items : (items : List Item) (frame : Frame) → size (with_attr made n (record a { opened = record o { items = items; frame = frame } ∷ outer })) ≤ size a + n
    in_items (i ∷ items) frame = le_plus (size a) n
    in_items [] (area_frame id name owner) = le_plus (size a) n
    in_items [] (if_frame id cond) = le_plus (size a) n
    in_items [] (each_frame id rows) = le_plus (size a) n
    in_items [] (element_frame tag has_end attrs) = omega arith

perform_size : (d : Action) (a : State) → size (perform d a) ≤ size a + gain d
perform_size action.BeginExpression a = le_plus (size a) 0
perform_size action.MakeSignal a = numbered_le (λ id. item.Signal id a.name a.literal) 1 (known_as signal_name a)
perform_size action.MakeMemo a = numbered_le (λ id. item.Memo id a.name (whole a)) 1 (known_as memo_name (taken a))
perform_size action.MakeEffect a = numbered_le (λ id. item.Effect id a.name (whole a)) 1 (known_as effect_name (taken a))
perform_size action.BeginEntries a = omega arith
perform_size action.AddValue a = le_plus (size a) 0
perform_size action.MakeResource a = numbered_le (λ id. item.Resource id a.name a.number a.keys a.values) 1 (record (known_as resource_name a) { keys = []; values = [] })
perform_size action.MakeLoad a = numbered_le (λ id. item.Load id a.name (id_of a.used) (whole a)) 2 (known_as load_name (taken a))
perform_size action.MakeStore a =
    let more = numbered_le (λ id. item.Store id a.name a.number a.fields a.values) (2 + length a.fields) (record (known_as (store_name a.fields) a) { fields = []; values = [] }) in
    omega (arith, more)
perform_size action.MakeCleanup a = let same = item_size (item.Cleanup a.written) a a.opened in omega (arith, same)
perform_size action.MakeText a = let same = item_size (item.Text a.written) a a.opened in omega (arith, same)
perform_size action.MakeShown a = numbered_le (λ id. item.Shown id (whole a)) 1 (taken a)
perform_size action.OpenArea a = omega arith
perform_size action.OpenIf a = omega arith
perform_size action.OpenEach a = omega arith
perform_size action.OpenElement a = le_plus (size a) 0
perform_size action.OpenVoid a = le_plus (size a) 0
perform_size action.Close a = let same = closed_size a a.opened in omega (arith, same)
perform_size action.NameAttribute a = le_plus (size a) 0
perform_size action.MakeBare a = attr_size (λ id. attr.Bare a.name) 0 a a.opened
perform_size action.MakeFixed a = attr_size (λ id. attr.Fixed a.name a.written) 0 a a.opened
perform_size action.MakeShownAttribute a = attr_size (λ id. attr.Shown a.name id (whole a)) 1 (taken a) a.opened
perform_size action.MakeLiteral a = le_plus (size a) 0
perform_size (action.MakeBinary op) a = le_plus (size a) 0
perform_size action.MakeIf a = le_plus (size a) 0

-- ---- the table

passes : list_all (rule_pays table rise gain) right.all_rules ≡ true
passes = refl

all_pay : (r : Rule) → rule_pays table rise gain r ≡ true
all_pay r = let at = right.rule_at r in all_at (rule_pays table rise gain) right.all_rules at.0 r passes at.1

pub bounded : (bytes : List ℕ) (first a : State) (xs : List (WithNext Lexed)) (out : List (Symbol Terminal Rule Action)) → Reads table (semantics bytes) text first xs out a → size a ≤ size first + length xs
bounded bytes first a xs out reads =
    paid.bounded table (semantics bytes) rise gain size (λ w b c x took. accept_size bytes w b c x.token x.next took) perform_size all_pay text out first a xs refl reads
