-- What is mounted of a page: its parts, in text order. A part that has others in it comes before them.
use Rattle.std.specs.Prelude.{◌≡◌, ℕ, ◌==◌, ◌&&◌, not, Bool, true, false, codes, if◌then◌else◌, List, [], ◌∷◌, ◌++◌, map, Option, Some, None}
use Rattle.std.specs.List.{flat_map, list_any}
use Rattle.values.specs.declared.code.Code.{Code}
use Rattle.values.specs.Evaluation.{truth}
use Rattle.component_items.specs.declared.component.Attr.{Attr}
use Rattle.component_items.specs.declared.component.Attr.TheVariants as attr
use Rattle.component_items.specs.declared.component.Component.{Component}
use Rattle.component_items.specs.declared.component.Item.{Item}
use Rattle.component_items.specs.declared.component.Item.TheOpen as level
use Rattle.component_items.specs.declared.component.Item.TheOpen.{Item-F}
use Rattle.component_items.specs.declared.component.Item.TheFolds.{fold-Item}
use Rattle.component_items.specs.Kept.{are_distinct}
use Rattle.plain_evaluation.specs.Held.{Held}
use Rattle.plain_evaluation.specs.Page.{View, attr_with, view_of}
use Rattle.plain_evaluation.specs.Place.{Place, place_at, outside, of_row, same_place}
use Rattle.html_out.specs.Shown.{escaped, text_at, shown}

-- Texts, names and tags stand here by their numbers. An element is what begins it, its attributes, where it has
-- begun, its items, and, if it is not void, what ends it.
pub data Part : Type 0 where
  plain : ℕ → Part
  -- a shown value
  shows : Place → Part
  begins : ℕ → Part
  -- an attribute with no value, one with a text, and one with a shown value
  bare : ℕ → Part
  fixed : ℕ → ℕ → Part
  valued : ℕ → Place → Part
  begun : Part
  ends : ℕ → Part
  -- an area that is live
  area : Place → Part
  -- an `if` whose condition is true
  branch : Place → Part
  -- the `each` with this id, over the store with this id, and one row of that `each`
  each : ℕ → ℕ → Part
  row : ℕ → Code → Part

-- ---- the parts of a page, in the row of a store with this key or in none

abbrev pub attr_part : Option Code → Attr → Part
attr_part key (attr.Bare name) = bare name
attr_part key (attr.Fixed name text) = fixed name text
attr_part key (attr.Shown name id expr) = valued name (place_at id key)

-- items one after another
abbrev pub parts_joined : List (Option Code → List Part) → Option Code → List Part
parts_joined [] key = []
parts_joined (one ∷ others) key = one key ++ parts_joined others key

abbrev pub ending : ℕ → Bool → List Part
ending tag true = ends tag ∷ []
ending tag false = []

-- One item: declarations have no part. An area has its items where it is live, an `if` where its condition is true,
-- and an `each` once for each row.
abbrev pub parts_step : View → Item-F (Option Code → List Part) → Option Code → List Part
parts_step view (level.Signal id name start) key = []
parts_step view (level.Memo id name expr) key = []
parts_step view (level.Effect id name expr) key = []
parts_step view (level.Resource id name after keys values) key = []
parts_step view (level.Load id name resource expr) key = []
parts_step view (level.Store id name max fields starts) key = []
parts_step view (level.Cleanup text) key = []
parts_step view (level.Area id name owner items) key = if view.live owner then area (place_at id key) ∷ parts_joined items key else []
parts_step view (level.If id cond items) key = if truth (view.value (place_at id key)) then branch (place_at id key) ∷ parts_joined items key else []
parts_step view (level.Each id store items) key = each id store ∷ flat_map (λ k. row id k ∷ parts_joined items (Some k)) (view.keys id store)
parts_step view (level.Element tag closed attrs items) key = begins tag ∷ map (attr_part key) attrs ++ begun ∷ parts_joined items key ++ ending tag closed
parts_step view (level.Text text) key = plain text ∷ []
parts_step view (level.Shown id expr) key = shows (place_at id key) ∷ []

unfoldable pub item_parts : View → Item → Option Code → List Part
item_parts view = fold-Item (Option Code → List Part) (parts_step view)

abbrev pub items_parts : View → List Item → Option Code → List Part
items_parts view [] key = []
items_parts view (item ∷ items) key = item_parts view item key ++ items_parts view items key

-- what is mounted of these items; where the top is dead, nothing is
abbrev pub parts_in : View → List Item → List Part
parts_in view items = if view.live 0 then items_parts view items None else []

abbrev pub parts_of : Component → Held → List Part
parts_of component held = parts_in (view_of component held) component.items

-- ---- the page of parts

-- what a part writes, where `value` gives the value of each place
abbrev pub part_bytes : List (List ℕ) → (Place → Code) → Part → List ℕ
part_bytes texts value (plain number) = escaped false (text_at texts number)
part_bytes texts value (shows p) = shown texts false (value p)
part_bytes texts value (begins tag) = codes "<" ++ text_at texts tag
part_bytes texts value (bare name) = codes " " ++ text_at texts name
part_bytes texts value (fixed name number) = attr_with (text_at texts name) (escaped true (text_at texts number))
part_bytes texts value (valued name p) = attr_with (text_at texts name) (shown texts true (value p))
part_bytes texts value begun = codes ">"
part_bytes texts value (ends tag) = codes "</" ++ text_at texts tag ++ codes ">"
part_bytes texts value (area p) = []
part_bytes texts value (branch p) = []
part_bytes texts value (each id store) = []
part_bytes texts value (row id key) = []

abbrev pub parts_bytes : List (List ℕ) → (Place → Code) → List Part → List ℕ
parts_bytes texts value parts = flat_map (part_bytes texts value) parts

-- ---- places of parts

-- the place of a shown value or attribute: what has a node of its own, and may be replaced
abbrev pub cell_in : Part → List Place
cell_in (plain number) = []
cell_in (shows p) = p ∷ []
cell_in (begins tag) = []
cell_in (bare name) = []
cell_in (fixed name number) = []
cell_in (valued name p) = p ∷ []
cell_in begun = []
cell_in (ends tag) = []
cell_in (area p) = []
cell_in (branch p) = []
cell_in (each id store) = []
cell_in (row id key) = []

abbrev pub has_cell : List Part → Place → Bool
has_cell parts p = list_any (λ q. same_place q p) (flat_map cell_in parts)

-- the place of a part that has an id: an `each` has its own, and a row of it that with its key
abbrev pub place_in : Part → List Place
place_in (plain number) = []
place_in (shows p) = p ∷ []
place_in (begins tag) = []
place_in (bare name) = []
place_in (fixed name number) = []
place_in (valued name p) = p ∷ []
place_in begun = []
place_in (ends tag) = []
place_in (area p) = p ∷ []
place_in (branch p) = p ∷ []
place_in (each id store) = outside id ∷ []
place_in (row id key) = of_row id key ∷ []

abbrev pub mounted_places : List Part → List Place
mounted_places parts = flat_map place_in parts

-- ---- rows

abbrev pub key_in_row : ℕ → Part → List Code
key_in_row id (plain number) = []
key_in_row id (shows p) = []
key_in_row id (begins tag) = []
key_in_row id (bare name) = []
key_in_row id (fixed name number) = []
key_in_row id (valued name p) = []
key_in_row id begun = []
key_in_row id (ends tag) = []
key_in_row id (area p) = []
key_in_row id (branch p) = []
key_in_row id (each own store) = []
key_in_row id (row own key) = if own == id then key ∷ [] else []

-- the keys of the mounted rows of an `each`, in order; none where it is not mounted
abbrev pub keys_mounted : List Part → ℕ → List Code
keys_mounted parts id = flat_map (key_in_row id) parts

abbrev pub is_each : ℕ → ℕ → Part → Bool
is_each id store (plain number) = false
is_each id store (shows p) = false
is_each id store (begins tag) = false
is_each id store (bare name) = false
is_each id store (fixed name number) = false
is_each id store (valued name p) = false
is_each id store begun = false
is_each id store (ends tag) = false
is_each id store (area p) = false
is_each id store (branch p) = false
is_each id store (each own from) = (own == id) && (from == store)
is_each id store (row own key) = false

-- the `each` with this id, over this store, is mounted
abbrev pub has_each : List Part → ℕ → ℕ → Bool
has_each parts id store = list_any (is_each id store) parts

-- ---- what the laws ask and say

-- no place stands twice
abbrev pub places_apart : List Place → Bool
places_apart [] = true
places_apart (p ∷ ps) = not (list_any (λ q. same_place q p) ps) && places_apart ps

-- the rows of each `each` have distinct keys
abbrev pub KeysDiffer : View → Type 0
KeysDiffer view = (id store : ℕ) → are_distinct (view.keys id store) ≡ true
