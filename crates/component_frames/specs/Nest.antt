-- What is seen and what is open, apart from the rest of what was read.
use Rattle.std.specs.Prelude.{ℕ, ◌+◌, ◌==◌, Bool, true, false, if◌then◌else◌, List, [], ◌∷◌, ◌++◌}
use Rattle.std.specs.List.{list_any}
use Rattle.component_items.specs.declared.component.Attr.{Attr}
use Rattle.component_items.specs.declared.component.Item.{Item}
use Rattle.component_meaning.specs.State.{State, Declared, Frame, element_frame, Open, open_attrs}
use Rattle.component_meaning.specs.Actions.{item_of}
use Rattle.component_meaning.specs.Names.{name_of}

-- the declarations that are seen, the last one first; the items so far outside of what is open; and what is open, the
-- innermost first
pub record Nest : Type 0 where
  pub seen : List Declared
  pub items : List Item
  pub opened : List Open

-- before the first token
abbrev pub empty : Nest
empty = record { seen = []; items = []; opened = [] }

-- ---- as part of a state

abbrev pub nest_in : State → Nest
nest_in a = record { seen = a.seen; items = a.items; opened = a.opened }

abbrev pub with_nest : Nest → State → State
with_nest n a = record a { seen = n.seen; items = n.items; opened = n.opened }

-- ---- what is done with it

-- the declaration is seen from here on
abbrev pub declaring : Declared → Nest → Nest
declaring d n = record n { seen = d ∷ n.seen }

-- the item stands last in the innermost block or element that is open, or else outside of them
abbrev pub holding : Item → Nest → Nest
holding i n = joined n.opened
  where
    joined : List Open → Nest
    joined [] = record n { items = n.items ++ i ∷ [] }
    joined (o ∷ outer) = record n { opened = record o { items = o.items ++ i ∷ [] } ∷ outer }

-- a block or element is open from here on
abbrev pub opening : Frame → Nest → Nest
opening frame n = record n { opened = record { frame = frame; outside = n.seen; items = [] } ∷ n.opened }

-- what is seen behind a block or element
abbrev pub seen_behind : Open → List Declared → List Declared
seen_behind o seen = behind o.frame
  where
    behind : Frame → List Declared
    behind (element_frame tag closed attrs) = seen
    behind _ = o.outside

-- the innermost of what is open is closed, and is an item
abbrev pub closing : Nest → Nest
closing n = close n.opened
  where
    close : List Open → Nest
    close [] = n
    close (o ∷ outer) = holding (item_of o.frame o.items) (record n { seen = seen_behind o n.seen; opened = outer })

-- the innermost of what is open is an element with no items so far
abbrev pub is_element : Frame → Bool
is_element (element_frame tag closed attrs) = true
is_element _ = false

abbrev pub may_take_attr : List Open → Bool
may_take_attr [] = false
may_take_attr (o ∷ outer) = before_items o.items
  where
    before_items : List Item → Bool
    before_items [] = is_element o.frame
    before_items (i ∷ items) = false

abbrev pub frame_with : Attr → Frame → Frame
frame_with attr (element_frame tag closed attrs) = element_frame tag closed (attrs ++ attr ∷ [])
frame_with attr frame = frame

-- the attribute stands last in the innermost element that is open
abbrev pub taking : Attr → Nest → Nest
taking attr n = joined n.opened
  where
    joined : List Open → Nest
    joined [] = n
    joined (o ∷ outer) = record n { opened = record o { frame = frame_with attr o.frame } ∷ outer }

-- the attribute, which takes so many ids, comes where one may
abbrev pub taking_numbered : Attr → ℕ → State → State
taking_numbered attr count a = if may_take_attr a.opened then record (with_nest (taking attr (nest_in a)) a) { next_id = a.next_id + count } else a

-- the innermost open element has an attribute whose name is this text
abbrev pub has_attr : ℕ → List Open → Bool
has_attr name opened = list_any (λ attr. name == name_of attr) (open_attrs opened)
