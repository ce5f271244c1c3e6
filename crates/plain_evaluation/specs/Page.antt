-- The page of a component: the bytes that it writes.
use Rattle.std.specs.Prelude.{ℕ, Bool, true, false, codes, if◌then◌else◌, List, [], ◌∷◌, ◌++◌, map, Option, Some, None}
use Rattle.std.specs.List.{flat_map}
use Rattle.values.specs.declared.code.Code.{Code}
use Rattle.values.specs.Evaluation.{truth}
use Rattle.component_items.specs.declared.component.Attr.{Attr}
use Rattle.component_items.specs.declared.component.Attr.TheVariants as attr
use Rattle.component_items.specs.declared.component.Component.{Component}
use Rattle.component_items.specs.declared.component.Item.{Item}
use Rattle.component_items.specs.declared.component.Item.TheOpen as level
use Rattle.component_items.specs.declared.component.Item.TheOpen.{Item-F}
use Rattle.component_items.specs.declared.component.Item.TheFolds.{fold-Item}
use Rattle.plain_evaluation.specs.Place.{Place, place_at}
use Rattle.plain_evaluation.specs.Held.{Held, is_live, rows_held}
use Rattle.plain_evaluation.specs.Scratch.{scratch}
use Rattle.html_out.specs.Shown.{escaped, text_at, shown}

-- what a page is written from
pub record View : Type 0 where
  -- the texts by number
  pub texts : List (List ℕ)
  -- the value of each place
  pub value : Place → Code
  -- the keys of the rows that the `each` with this id over the store with this id shows, in order
  pub keys : ℕ → ℕ → List Code
  -- whether the owner is live
  pub live : ℕ → Bool

-- an attribute with a value: its name, `="`, the value and `"`
abbrev pub attr_with : List ℕ → List ℕ → List ℕ
attr_with name value = codes " " ++ name ++ codes "=\"" ++ value ++ codes "\""

-- an attribute, with a space before it, in this row of a store or in none
abbrev pub attr_bytes : View → Option Code → Attr → List ℕ
attr_bytes view key (attr.Bare name) = codes " " ++ text_at view.texts name
attr_bytes view key (attr.Fixed name text) = attr_with (text_at view.texts name) (escaped true (text_at view.texts text))
attr_bytes view key (attr.Shown name id expr) = attr_with (text_at view.texts name) (shown view.texts true (view.value (place_at id key)))

-- items one after another
abbrev pub joined : List (Option Code → List ℕ) → Option Code → List ℕ
joined [] key = []
joined (one ∷ others) key = one key ++ joined others key

-- what begins an element: `<`, the tag, its attributes and `>`
abbrev pub opening : View → Option Code → ℕ → List Attr → List ℕ
opening view key tag attrs = codes "<" ++ text_at view.texts tag ++ flat_map (attr_bytes view key) attrs ++ codes ">"

-- what ends an element that is not void
abbrev pub closing : View → ℕ → Bool → List ℕ
closing view tag true = codes "</" ++ text_at view.texts tag ++ codes ">"
closing view tag false = []

-- One item: declarations write nothing.
abbrev pub page_step : View → Item-F (Option Code → List ℕ) → Option Code → List ℕ
page_step view (level.Signal id name start) key = []
page_step view (level.Memo id name expr) key = []
page_step view (level.Effect id name expr) key = []
page_step view (level.Resource id name after keys values) key = []
page_step view (level.Load id name resource expr) key = []
page_step view (level.Store id name max fields starts) key = []
page_step view (level.Cleanup text) key = []
page_step view (level.Area id name owner items) key = if view.live owner then joined items key else []
page_step view (level.If id cond items) key = if truth (view.value (place_at id key)) then joined items key else []
page_step view (level.Each id store items) key = flat_map (λ row. joined items (Some row)) (view.keys id store)
page_step view (level.Element tag closed attrs items) key = opening view key tag attrs ++ joined items key ++ closing view tag closed
page_step view (level.Text text) key = escaped false (text_at view.texts text)
page_step view (level.Shown id expr) key = shown view.texts false (view.value (place_at id key))

unfoldable pub item_bytes : View → Item → Option Code → List ℕ
item_bytes view = fold-Item (Option Code → List ℕ) (page_step view)

abbrev pub items_bytes : View → List Item → Option Code → List ℕ
items_bytes view [] key = []
items_bytes view (item ∷ items) key = item_bytes view item key ++ items_bytes view items key

-- the page of these items; where the top is dead, nothing is written
abbrev pub page_in : View → List Item → List ℕ
page_in view items = if view.live 0 then items_bytes view items None else []

-- a page has the values of plain evaluation, and all rows of each store
abbrev pub view_of : Component → Held → View
view_of component held = record { texts = component.texts; value = scratch component held; keys = λ each store. map (λ row. row.key) (rows_held held store); live = is_live held }

abbrev pub page_of : Component → Held → List ℕ
page_of component held = page_in (view_of component held) component.items
