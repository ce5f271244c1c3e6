-- The page at each form of item.
use Rattle.std.proofs.Common.{◌≡◌, ℕ, if◌then◌else◌, Bool, false, List, [], ◌∷◌, ◌++◌, map, Option, Some, refl, ap, ◌∙◌}
use Rattle.std.specs.List.{flat_map}
use Rattle.values.specs.declared.code.Code.{Code}
use Rattle.values.specs.declared.expr.Expr.{Expr}
use Rattle.values.specs.Evaluation.{truth}
use Rattle.html_out.specs.Shown.{escaped, text_at, shown}
use Rattle.component_items.specs.declared.component.Attr.{Attr}
use Rattle.component_items.specs.declared.component.Item.{Item}
use Rattle.component_items.specs.declared.component.Item.TheVariants.{Signal, Memo, Effect, Resource, Load, Store, Cleanup, Area, If, Each, Element, Text, Shown}
use Rattle.component_items.proofs.FoldLemmas.{at-Load, at-Resource, at-Signal, at-Memo, at-Effect, at-Store, at-Area, at-If, at-Each, at-Element, at-Shown, at-Text, at-Cleanup}
use Rattle.plain_evaluation.specs.Place.{place_at}
use Rattle.plain_evaluation.specs.Page.{View, joined, opening, closing, page_step, item_bytes, items_bytes}

pub joined_items : (view : View) (items : List Item) (key : Option Code) → joined (map (item_bytes view) items) key ≡ items_bytes view items key
joined_items view [] key = refl
joined_items view (item ∷ items) key = ap (λ more. item_bytes view item key ++ more) (joined_items view items key)

pub item_bytes-Signal : (view : View) (id name : ℕ) (start : Code) (key : Option Code) → item_bytes view (Signal id name start) key ≡ []
unfolding item_bytes
item_bytes-Signal view id name start key = at-Signal (page_step view) id name start key

pub item_bytes-Memo : (view : View) (id name : ℕ) (expr : Expr) (key : Option Code) → item_bytes view (Memo id name expr) key ≡ []
unfolding item_bytes
item_bytes-Memo view id name expr key = at-Memo (page_step view) id name expr key

pub item_bytes-Effect : (view : View) (id name : ℕ) (expr : Expr) (key : Option Code) → item_bytes view (Effect id name expr) key ≡ []
unfolding item_bytes
item_bytes-Effect view id name expr key = at-Effect (page_step view) id name expr key

pub item_bytes-Resource : (view : View) (id name after : ℕ) (keys values : List Code) (key : Option Code) → item_bytes view (Resource id name after keys values) key ≡ []
unfolding item_bytes
item_bytes-Resource view id name after keys values key = at-Resource (page_step view) id name after keys values key

pub item_bytes-Load : (view : View) (id name resource : ℕ) (expr : Expr) (key : Option Code) → item_bytes view (Load id name resource expr) key ≡ []
unfolding item_bytes
item_bytes-Load view id name resource expr key = at-Load (page_step view) id name resource expr key

pub item_bytes-Store : (view : View) (id name max : ℕ) (fields : List ℕ) (starts : List Code) (key : Option Code) → item_bytes view (Store id name max fields starts) key ≡ []
unfolding item_bytes
item_bytes-Store view id name max fields starts key = at-Store (page_step view) id name max fields starts key

pub item_bytes-Cleanup : (view : View) (text : ℕ) (key : Option Code) → item_bytes view (Cleanup text) key ≡ []
unfolding item_bytes
item_bytes-Cleanup view text key = at-Cleanup (page_step view) text key

pub item_bytes-Area : (view : View) (id name owner : ℕ) (items : List Item) (key : Option Code) → item_bytes view (Area id name owner items) key ≡ (if view.live owner then items_bytes view items key else [])
unfolding item_bytes
item_bytes-Area view id name owner items key = at-Area (page_step view) id name owner items key ∙ ap (λ (bytes : List ℕ). if view.live owner then bytes else []) (joined_items view items key)

pub item_bytes-If : (view : View) (id : ℕ) (cond : Expr) (items : List Item) (key : Option Code) → item_bytes view (If id cond items) key ≡ (if truth (view.value (place_at id key)) then items_bytes view items key else [])
unfolding item_bytes
item_bytes-If view id cond items key = at-If (page_step view) id cond items key ∙ ap (λ (bytes : List ℕ). if truth (view.value (place_at id key)) then bytes else []) (joined_items view items key)

rows_joined : (view : View) (items : List Item) (keys : List Code) → flat_map (λ row. joined (map (item_bytes view) items) (Some row)) keys ≡ flat_map (λ row. items_bytes view items (Some row)) keys
rows_joined view items [] = refl
rows_joined view items (row ∷ keys) = λ i. joined_items view items (Some row) i ++ rows_joined view items keys i

pub item_bytes-Each : (view : View) (id store : ℕ) (items : List Item) (key : Option Code) → item_bytes view (Each id store items) key ≡ flat_map (λ row. items_bytes view items (Some row)) (view.keys id store)
unfolding item_bytes
item_bytes-Each view id store items key = at-Each (page_step view) id store items key ∙ rows_joined view items (view.keys id store)

pub item_bytes-Element : (view : View) (tag : ℕ) (closed : Bool) (attrs : List Attr) (items : List Item) (key : Option Code) → item_bytes view (Element tag closed attrs items) key ≡ opening view key tag attrs ++ items_bytes view items key ++ closing view tag closed
unfolding item_bytes
item_bytes-Element view tag closed attrs items key = at-Element (page_step view) tag closed attrs items key ∙ ap (λ (bytes : List ℕ). opening view key tag attrs ++ bytes ++ closing view tag closed) (joined_items view items key)

pub item_bytes-Text : (view : View) (text : ℕ) (key : Option Code) → item_bytes view (Text text) key ≡ escaped false (text_at view.texts text)
unfolding item_bytes
item_bytes-Text view text key = at-Text (page_step view) text key

pub item_bytes-Shown : (view : View) (id : ℕ) (expr : Expr) (key : Option Code) → item_bytes view (Shown id expr) key ≡ shown view.texts false (view.value (place_at id key))
unfolding item_bytes
item_bytes-Shown view id expr key = at-Shown (page_step view) id expr key
