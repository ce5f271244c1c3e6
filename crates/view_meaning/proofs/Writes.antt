-- The parts of a page write it.
use Rattle.std.proofs.Common.{◌≡◌, ℕ, if◌then◌else◌, Bool, true, false, codes, List, [], ◌∷◌, ◌++◌, map, Option, Some, None, refl, sym, ap, subst, ◌∙◌, append_assoc}
use Rattle.std.specs.List.{flat_map}
use Rattle.std.proofs.lemmas.List.{append-nil}
use Rattle.std.proofs.lemmas.List.Concat.{flat_map-append}
use Rattle.values.specs.declared.code.Code.{Code}
use Rattle.values.specs.Evaluation.{truth}
use Rattle.html_out.specs.Shown.{escaped, text_at, shown}
use Rattle.component_items.specs.declared.component.Attr.{Attr}
use Rattle.component_items.specs.declared.component.Attr.TheVariants as attr
use Rattle.component_items.specs.declared.component.Item.{Item}
use Rattle.component_items.specs.declared.component.Item.TheOpen as level
use Rattle.component_items.specs.declared.component.Item.TheOpen.{Item-F}
use Rattle.component_items.specs.declared.component.Item.TheViews.{roll-Item}
use Rattle.component_items.specs.declared.component.Item.TheFolds.{fold-roll-Item, map-Item, ind-Item}
use Rattle.plain_evaluation.specs.Page.{View, attr_bytes, joined, closing, page_step, item_bytes, items_bytes, page_in}
use Rattle.plain_evaluation.specs.Place.{place_at}
use Rattle.view_meaning.specs.Parts.{Part, begins, begun, area, branch, row, attr_part, parts_joined, ending, parts_step, item_parts, items_parts, parts_in, part_bytes, parts_bytes}

module _ (view : View) where
  abbrev bytes : List Part → List ℕ
  bytes parts = parts_bytes view.texts view.value parts

  abbrev Writes : Item → Type 0
  Writes item = (key : Option Code) → bytes (item_parts view item key) ≡ item_bytes view item key

  abbrev Known : Type 0
  Known = (item : Item) × Writes item

  abbrev items_of : List Known → List Item
  items_of known = map (λ k. k.0) known

  parts_layer : (x : Item-F Item) (key : Option Code) → item_parts view (roll-Item x) key ≡ parts_step view (map-Item Item (Option Code → List Part) (item_parts view) x) key
  unfolding item_parts
  parts_layer x key = ap (λ f. f key) (fold-roll-Item (Option Code → List Part) (parts_step view) x)

  bytes_layer : (x : Item-F Item) (key : Option Code) → item_bytes view (roll-Item x) key ≡ page_step view (map-Item Item (Option Code → List ℕ) (item_bytes view) x) key
  unfolding item_bytes
  bytes_layer x key = ap (λ f. f key) (fold-roll-Item (Option Code → List ℕ) (page_step view) x)

  bytes-append : (xs ys : List Part) → bytes (xs ++ ys) ≡ bytes xs ++ bytes ys
  bytes-append xs ys = flat_map-append (part_bytes view.texts view.value) xs ys

  inner_writes : (known : List Known) (key : Option Code) → bytes (parts_joined (map (item_parts view) (items_of known)) key) ≡ joined (map (item_bytes view) (items_of known)) key
  inner_writes [] key = refl
  inner_writes (k ∷ known) key =
      bytes-append (item_parts view k.0 key) (parts_joined (map (item_parts view) (items_of known)) key)
      ∙ (λ i. k.1 key i ++ inner_writes known key i)

  -- what is there where a condition holds, behind a part that writes nothing
  held : (holds : Bool) (first : Part) (parts : List Part) (written : List ℕ) → part_bytes view.texts view.value first ≡ [] → bytes parts ≡ written → bytes (if holds then first ∷ parts else []) ≡ (if holds then written else [])
  held true first parts written none is = ap (λ more. more ++ bytes parts) none ∙ is
  held false first parts written none is = refl

  rows_write : (id : ℕ) (known : List Known) (keys : List Code) → bytes (flat_map (λ k. row id k ∷ parts_joined (map (item_parts view) (items_of known)) (Some k)) keys) ≡ flat_map (λ k. joined (map (item_bytes view) (items_of known)) (Some k)) keys
  rows_write id known [] = refl
  rows_write id known (key ∷ keys) =
      bytes-append (row id key ∷ parts_joined (map (item_parts view) (items_of known)) (Some key)) (flat_map (λ k. row id k ∷ parts_joined (map (item_parts view) (items_of known)) (Some k)) keys)
      ∙ (λ i. inner_writes known (Some key) i ++ rows_write id known keys i)

  attrs_write : (key : Option Code) (attrs : List Attr) → bytes (map (attr_part key) attrs) ≡ flat_map (attr_bytes view key) attrs
  attrs_write key [] = refl
  attrs_write key (attr.Bare name ∷ attrs) = ap (λ more. attr_bytes view key (attr.Bare name) ++ more) (attrs_write key attrs)
  attrs_write key (attr.Fixed name text ∷ attrs) = ap (λ more. attr_bytes view key (attr.Fixed name text) ++ more) (attrs_write key attrs)
  attrs_write key (attr.Shown name id expr ∷ attrs) = ap (λ more. attr_bytes view key (attr.Shown name id expr) ++ more) (attrs_write key attrs)

  ending_writes : (tag : ℕ) (closed : Bool) → bytes (ending tag closed) ≡ closing view tag closed
  ending_writes tag true = append-nil (closing view tag true)
  ending_writes tag false = refl

  element_writes : (tag : ℕ) (closed : Bool) (attrs : List Attr) (known : List Known) (key : Option Code) → bytes (parts_step view (level.Element tag closed attrs (map (item_parts view) (items_of known))) key) ≡ page_step view (level.Element tag closed attrs (map (item_bytes view) (items_of known))) key
  element_writes tag closed attrs known key =
      let inner : List Part = parts_joined (map (item_parts view) (items_of known)) key in
      let first : List Part = begins tag ∷ map (attr_part key) attrs in
      let begin : List ℕ = codes "<" ++ text_at view.texts tag in
      bytes-append (first ++ begun ∷ inner) (ending tag closed)
      ∙ (λ i. bytes-append first (begun ∷ inner) i ++ ending_writes tag closed i)
      ∙ (λ i. (begin ++ attrs_write key attrs i) ++ (codes ">" ++ inner_writes known key i) ++ closing view tag closed)
      ∙ ap (λ more. more ++ closing view tag closed) (sym (append_assoc (begin ++ flat_map (attr_bytes view key) attrs) (codes ">") (joined (map (item_bytes view) (items_of known)) key)))

  step_writes : (y : Item-F Known) (key : Option Code) → bytes (parts_step view (map-Item Item (Option Code → List Part) (item_parts view) (map-Item Known Item (λ k. k.0) y)) key) ≡ page_step view (map-Item Item (Option Code → List ℕ) (item_bytes view) (map-Item Known Item (λ k. k.0) y)) key
  step_writes (level.Signal id name start) key = refl
  step_writes (level.Memo id name expr) key = refl
  step_writes (level.Effect id name expr) key = refl
  step_writes (level.Resource id name after keys values) key = refl
  step_writes (level.Load id name resource expr) key = refl
  step_writes (level.Store id name max fields starts) key = refl
  step_writes (level.Cleanup text) key = refl
  step_writes (level.Area id name owner known) key = held (view.live owner) (area (place_at id key)) (parts_joined (map (item_parts view) (items_of known)) key) (joined (map (item_bytes view) (items_of known)) key) refl (inner_writes known key)
  step_writes (level.If id cond known) key = held (truth (view.value (place_at id key))) (branch (place_at id key)) (parts_joined (map (item_parts view) (items_of known)) key) (joined (map (item_bytes view) (items_of known)) key) refl (inner_writes known key)
  step_writes (level.Each id store known) key = rows_write id known (view.keys id store)
  step_writes (level.Element tag closed attrs known) key = element_writes tag closed attrs known key
  step_writes (level.Text text) key = append-nil (escaped false (text_at view.texts text))
  step_writes (level.Shown id expr) key = append-nil (shown view.texts false (view.value (place_at id key)))

  form_writes : (y : Item-F Known) → Writes (roll-Item (map-Item Known Item (λ k. k.0) y))
  form_writes y key =
      ap bytes (parts_layer (map-Item Known Item (λ k. k.0) y) key)
      ∙ step_writes y key
      ∙ sym (bytes_layer (map-Item Known Item (λ k. k.0) y) key)

  item_writes : (item : Item) → Writes item
  item_writes = ind-Item Writes (λ x y is. subst (λ z. Writes (roll-Item z)) is (form_writes y))

  items_write : (items : List Item) (key : Option Code) → bytes (items_parts view items key) ≡ items_bytes view items key
  items_write [] key = refl
  items_write (item ∷ items) key =
      bytes-append (item_parts view item key) (items_parts view items key)
      ∙ (λ i. item_writes item key i ++ items_write items key i)

  pub page_written : (items : List Item) → parts_bytes view.texts view.value (parts_in view items) ≡ page_in view items
  page_written items = at (view.live 0)
    where
      at : (live : Bool) → bytes (if live then items_parts view items None else []) ≡ (if live then items_bytes view items None else [])
      at true = items_write items None
      at false = refl
