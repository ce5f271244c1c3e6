-- What is made of what was read so far. Where a definition here has a default, no text comes to it.
use Rattle.std.specs.Prelude.{ℕ, suc, ◌+◌, Bool, true, false, List, [], ◌∷◌, ◌++◌, length}
use Rattle.values.specs.declared.code.Code.TheVariants.{Empty}
use Rattle.values.specs.declared.code.Op.{Op}
use Rattle.values.specs.declared.expr.Expr.{Expr}
use Rattle.values.specs.declared.expr.Expr.TheVariants as expr
use Rattle.values.specs.Texts.{with_text}
use Rattle.text_grammar.specs.declared.component.Action.{Action}
use Rattle.text_grammar.specs.declared.component.Action.TheVariants as action
use Rattle.component_items.specs.declared.component.Attr.{Attr}
use Rattle.component_items.specs.declared.component.Attr.TheVariants as attr
use Rattle.component_items.specs.declared.component.Item.{Item}
use Rattle.component_items.specs.declared.component.Item.TheVariants as item
use Rattle.component_meaning.specs.State.{State, What, signal_name, memo_name, effect_name, resource_name, load_name, store_name, area_name, Frame, area_frame, if_frame, each_frame, element_frame, Open}
use Rattle.component_meaning.specs.Names.{id_of, rows_from, number_with}

-- ---- operands, the last one first

abbrev pub rest : {A : Type 0} → List A → List A
rest [] = []
rest (x ∷ xs) = xs

abbrev pub top_operand : List Expr → Expr
top_operand [] = expr.Lit Empty
top_operand (e ∷ operands) = e

abbrev pub with_binary : Op → List Expr → List Expr
with_binary o operands = expr.Binary o (top_operand (rest operands)) (top_operand operands) ∷ rest (rest operands)

abbrev pub with_if : List Expr → List Expr
with_if operands = expr.If (top_operand (rest (rest operands))) (top_operand (rest operands)) (top_operand operands) ∷ rest (rest (rest operands))

-- the whole expression, which is the last operand
abbrev pub whole : State → Expr
whole a = top_operand a.operands

abbrev pub taken : State → State
taken a = record a { operands = rest a.operands }

-- ---- items

-- the item stands last in the innermost block or element that is open, or else outside of them
abbrev pub with_item : Item → State → State
with_item i a = joined a.opened
  where
    joined : List Open → State
    joined [] = record a { items = a.items ++ i ∷ [] }
    joined (o ∷ outer) = record a { opened = record o { items = o.items ++ i ∷ [] } ∷ outer }

-- an item that takes so many ids, from the next one on
abbrev pub with_numbered : (ℕ → Item) → ℕ → State → State
with_numbered made count a = with_item (made a.next_id) (record a { next_id = a.next_id + count })

-- the item that is read is seen from here on, with the id that comes next
abbrev pub known_as : What → State → State
known_as what a = record a { seen = record { name = a.name; id = a.next_id; what = what } ∷ a.seen }

-- ---- blocks and elements

-- it is open from here on
abbrev pub with_open : Frame → State → State
with_open frame a = record a { opened = record { frame = frame; outside = a.seen; items = [] } ∷ a.opened }

abbrev pub with_area : State → State
with_area a =
    let b = known_as area_name a in
    record (with_open (area_frame a.next_id a.name a.next_owner) b) { next_id = suc a.next_id; next_owner = suc a.next_owner }

-- a block that takes one id
abbrev pub with_block : Frame → State → State
with_block frame a = record (with_open frame a) { next_id = suc a.next_id }

-- the tag is a text of the table from here on
abbrev pub with_element : Bool → State → State
with_element closed a = with_open (element_frame (number_with a.spelling.bytes a.texts) closed []) (record a { texts = with_text a.spelling.bytes a.texts })

abbrev pub item_of : Frame → List Item → Item
item_of (area_frame id name owner) items = item.Area id name owner items
item_of (if_frame id cond) items = item.If id cond items
item_of (each_frame id rows) items = item.Each id rows.store items
item_of (element_frame tag closed attrs) items = item.Element tag closed attrs items

-- behind a block its declarations are no longer seen, but those in an element are
abbrev pub seen_behind : Open → State → State
seen_behind o a = behind o.frame
  where
    behind : Frame → State
    behind (element_frame tag closed attrs) = a
    behind _ = record a { seen = o.outside }

abbrev pub closed : State → State
closed a = close a.opened
  where
    close : List Open → State
    close [] = a
    close (o ∷ outer) = with_item (item_of o.frame o.items) (seen_behind o (record a { opened = outer }))

-- ---- attributes

-- The attribute, which takes so many ids, stands last in the innermost element that is open. An element's attributes come before its items.
abbrev pub with_attr : (ℕ → Attr) → ℕ → State → State
with_attr made count a = joined a.opened
  where
    with_frame : Frame → List Open → Open → State
    with_frame (element_frame tag has_end attrs) outer o = record a { opened = record o { frame = element_frame tag has_end (attrs ++ made a.next_id ∷ []) } ∷ outer; next_id = a.next_id + count }
    with_frame _ outer o = a

    before_items : List Item → List Open → Open → State
    before_items [] outer o = with_frame o.frame outer o
    before_items (i ∷ items) outer o = a

    joined : List Open → State
    joined [] = a
    joined (o ∷ outer) = before_items o.items outer o

-- ---- all of them

abbrev pub perform : Action → State → State
perform action.BeginExpression a = record a { tokens = 0 }
perform action.MakeSignal a = with_numbered (λ id. item.Signal id a.name a.literal) 1 (known_as signal_name a)
perform action.MakeMemo a = with_numbered (λ id. item.Memo id a.name (whole a)) 1 (known_as memo_name (taken a))
perform action.MakeEffect a = with_numbered (λ id. item.Effect id a.name (whole a)) 1 (known_as effect_name (taken a))
perform action.BeginEntries a = record a { keys = []; fields = []; values = [] }
perform action.AddValue a = record a { values = a.values ++ a.literal ∷ [] }
perform action.MakeResource a = with_numbered (λ id. item.Resource id a.name a.number a.keys a.values) 1 (record (known_as resource_name a) { keys = []; values = [] })
perform action.MakeLoad a = with_numbered (λ id. item.Load id a.name (id_of a.used) (whole a)) 2 (known_as load_name (taken a))
perform action.MakeStore a = with_numbered (λ id. item.Store id a.name a.number a.fields a.values) (2 + length a.fields) (record (known_as (store_name a.fields) a) { fields = []; values = [] })
perform action.MakeCleanup a = with_item (item.Cleanup a.written) a
perform action.MakeText a = with_item (item.Text a.written) a
perform action.MakeShown a = with_numbered (λ id. item.Shown id (whole a)) 1 (taken a)
perform action.OpenArea a = with_area a
perform action.OpenIf a = with_block (if_frame a.next_id (whole a)) (taken a)
perform action.OpenEach a = with_block (each_frame a.next_id (rows_from a.used)) a
perform action.OpenElement a = with_element true a
perform action.OpenVoid a = with_element false a
perform action.Close a = closed a
perform action.NameAttribute a = record a { texts = with_text a.spelling.bytes a.texts; name = number_with a.spelling.bytes a.texts }
perform action.MakeBare a = with_attr (λ id. attr.Bare a.name) 0 a
perform action.MakeFixed a = with_attr (λ id. attr.Fixed a.name a.written) 0 a
perform action.MakeShownAttribute a = with_attr (λ id. attr.Shown a.name id (whole a)) 1 (taken a)
perform action.MakeLiteral a = record a { operands = expr.Lit a.literal ∷ a.operands }
perform (action.MakeBinary op) a = record a { operands = with_binary op a.operands }
perform action.MakeIf a = record a { operands = with_if a.operands }
