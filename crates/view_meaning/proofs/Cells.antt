-- What a view shows is what was seen.
use Rattle.std.proofs.Common.{◌≡◌, ℕ, ◌==◌, ◌||◌, if◌then◌else◌, Bool, true, false, List, [], ◌∷◌, ◌++◌, Option, Some, None, refl, sym, ap, ◌∙◌}
use Rattle.std.specs.List.{flat_map, list_any}
use Rattle.std.specs.Option.{option_map, option_map_or}
use Rattle.std.proofs.lemmas.List.Folds.{list_any-append}
use Rattle.values.specs.declared.code.Code.{Code}
use Rattle.values.specs.declared.code.Code.TheVariants.{Empty}
use Rattle.outside.specs.Counts.{next_count}
use Rattle.html_out.specs.Shown.{text_at, shown}
use Rattle.component_items.specs.declared.component.Component.{Component}
use Rattle.component_items.specs.declared.component.Item.{Item}
use Rattle.plain_evaluation.specs.Held.{Held}
use Rattle.plain_evaluation.specs.Page.{View, attr_with, view_of, page_in, page_of}
use Rattle.plain_evaluation.specs.Place.{Place, same_place}
use Rattle.plain_evaluation.specs.Scratch.{scratch}
use Rattle.plain_evaluation.proofs.Places.{place_itself, or_right}
use Rattle.view_meaning.specs.Parts.{Part, plain, shows, begins, bare, fixed, valued, begun, ends, area, branch, each, row, part_bytes, parts_bytes, cell_in, has_cell, parts_in, parts_of}
use Rattle.view_meaning.specs.Mounted.{Seen, Cell, Mounted, cell_again, mounted_again, written_of, code_of, page_mounted, ShowsHeld}
use Rattle.view_meaning.proofs.Writes.{page_written}

-- ---- bytes of parts, where the values of their texts and attributes are the same

itself : (p : Place) → (same_place p p || false) ≡ true
itself p = ap (λ b. b || false) (place_itself p)

part_same : (texts : List (List ℕ)) (value other : Place → Code) (part : Part) → ((p : Place) → list_any (λ q. same_place q p) (cell_in part) ≡ true → value p ≡ other p) → part_bytes texts value part ≡ part_bytes texts other part
part_same texts value other (plain number) same = refl
part_same texts value other (shows p) same = ap (shown texts false) (same p (itself p))
part_same texts value other (begins tag) same = refl
part_same texts value other (bare name) same = refl
part_same texts value other (fixed name number) same = refl
part_same texts value other (valued name p) same = ap (λ code. attr_with (text_at texts name) (shown texts true code)) (same p (itself p))
part_same texts value other begun same = refl
part_same texts value other (ends tag) same = refl
part_same texts value other (area p) same = refl
part_same texts value other (branch p) same = refl
part_same texts value other (each id store) same = refl
part_same texts value other (row id key) same = refl

any_first : (test : Place → Bool) (xs ys : List Place) → list_any test xs ≡ true → list_any test (xs ++ ys) ≡ true
any_first test xs ys h = list_any-append test xs ys ∙ ap (λ b. b || list_any test ys) h

any_later : (test : Place → Bool) (xs ys : List Place) → list_any test ys ≡ true → list_any test (xs ++ ys) ≡ true
any_later test xs ys h = list_any-append test xs ys ∙ or_right (list_any test xs) (list_any test ys) h

pub parts_same : (texts : List (List ℕ)) (value other : Place → Code) (parts : List Part) → ((p : Place) → has_cell parts p ≡ true → value p ≡ other p) → parts_bytes texts value parts ≡ parts_bytes texts other parts
parts_same texts value other [] same = refl
parts_same texts value other (part ∷ parts) same = λ i.
    part_same texts value other part (λ p has. same p (any_first (λ q. same_place q p) (cell_in part) (flat_map cell_in parts) has)) i
    ++ parts_same texts value other parts (λ p has. same p (any_later (λ q. same_place q p) (cell_in part) (flat_map cell_in parts) has)) i

-- ---- cells

some_if : (has : Bool) (cell : Cell) → has ≡ true → (if has then Some cell else None) ≡ Some cell
some_if true cell h = refl
some_if false cell h = cc

none_if : (has : Bool) (cell : Cell) → has ≡ false → (if has then Some cell else None) ≡ None
none_if true cell h = cc
none_if false cell h = refl

module _ (items : List Item) (seen : Seen) (old : Mounted) (p : Place) where
  abbrev made : Cell
  made = cell_again (old.cells p) (seen.view.value p) (seen.version p)

  abbrev is_there : Bool
  is_there = has_cell (parts_in seen.view items) p

  pub cell_there : is_there ≡ true → (mounted_again items seen old).cells p ≡ Some made
  cell_there has = some_if is_there made has

  pub cell_gone : is_there ≡ false → (mounted_again items seen old).cells p ≡ None
  cell_gone none = none_if is_there made none

again_code : (cell : Option Cell) (code : Code) (version : ℕ) → (cell_again cell code version).code ≡ code
again_code None code version = refl
again_code (Some cell) code version = refl

again_version : (cell : Option Cell) (code : Code) (version : ℕ) → (cell_again cell code version).version ≡ version
again_version None code version = refl
again_version (Some cell) code version = refl

-- a mounted cell shows what was seen
pub cell_shows : (items : List Item) (seen : Seen) (old : Mounted) (p : Place) (cell : Cell) → (mounted_again items seen old).cells p ≡ Some cell → (cell.code ≡ seen.view.value p) × (cell.version ≡ seen.version p)
cell_shows items seen old p cell is = at (has_cell (parts_in seen.view items) p) is
  where
    at : (has : Bool) → (if has then Some (cell_again (old.cells p) (seen.view.value p) (seen.version p)) else None) ≡ Some cell → (cell.code ≡ seen.view.value p) × (cell.version ≡ seen.version p)
    at true is =
        let e : cell_again (old.cells p) (seen.view.value p) (seen.version p) ≡ cell = cc in
        (ap (λ c. c.code) (sym e) ∙ again_code (old.cells p) (seen.view.value p) (seen.version p), ap (λ c. c.version) (sym e) ∙ again_version (old.cells p) (seen.view.value p) (seen.version p))
    at false is = cc

-- ---- replacements

counted : (items : List Item) (seen : Seen) (old : Mounted) (p : Place) (was : Option Cell) → has_cell (parts_in seen.view items) p ≡ true → old.cells p ≡ was → written_of (mounted_again items seen old) p ≡ Some (cell_again was (seen.view.value p) (seen.version p)).written
counted items seen old p was has is =
    ap (option_map (λ cell. cell.written)) (cell_there items seen old p has)
    ∙ ap (λ (o : Option Cell). Some (cell_again o (seen.view.value p) (seen.version p)).written) is

pub moved : (items : List Item) (seen : Seen) (old : Mounted) (p : Place) (cell : Cell) → has_cell (parts_in seen.view items) p ≡ true → old.cells p ≡ Some cell → (cell.version == seen.version p) ≡ false → written_of (mounted_again items seen old) p ≡ Some (next_count cell.written)
moved items seen old p cell has is other = counted items seen old p (Some cell) has is ∙ ap (λ b. Some (if b then cell.written else next_count cell.written)) other

pub stayed : (items : List Item) (seen : Seen) (old : Mounted) (p : Place) (cell : Cell) → has_cell (parts_in seen.view items) p ≡ true → old.cells p ≡ Some cell → (cell.version == seen.version p) ≡ true → written_of (mounted_again items seen old) p ≡ Some cell.written
stayed items seen old p cell has is same = counted items seen old p (Some cell) has is ∙ ap (λ b. Some (if b then cell.written else next_count cell.written)) same

pub fresh : (items : List Item) (seen : Seen) (old : Mounted) (p : Place) → has_cell (parts_in seen.view items) p ≡ true → old.cells p ≡ None → written_of (mounted_again items seen old) p ≡ Some 0
fresh items seen old p has is = counted items seen old p None has is

pub gone : (items : List Item) (seen : Seen) (old : Mounted) (p : Place) → has_cell (parts_in seen.view items) p ≡ false → written_of (mounted_again items seen old) p ≡ None
gone items seen old p none = ap (option_map (λ cell. cell.written)) (cell_gone items seen old p none)

-- ---- the page

pub mounted_writes : (items : List Item) (seen : Seen) (old : Mounted) → page_mounted seen.view.texts (mounted_again items seen old) ≡ page_in seen.view items
mounted_writes items seen old =
    parts_same seen.view.texts (code_of (mounted_again items seen old)) seen.view.value (parts_in seen.view items) (λ p has.
    ap (λ (o : Option Cell). option_map_or (λ cell. cell.code) o Empty) (cell_there items seen old p has) ∙ again_code (old.cells p) (seen.view.value p) (seen.version p))
    ∙ page_written seen.view items

view_is : (component : Component) (held : Held) (view : View) → ShowsHeld component held view → view ≡ view_of component held
view_is component held view s = λ i. record { texts = s.texts i; value = λ p. s.value p i; keys = λ id store. s.keys id store i; live = λ owner. s.live owner i }

pub held_written : (component : Component) (held : Held) (seen : Seen) (old : Mounted) → ShowsHeld component held seen.view → page_mounted component.texts (mounted_again component.items seen old) ≡ page_of component held
held_written component held seen old s =
    ap (λ texts. page_mounted texts (mounted_again component.items seen old)) (sym s.texts)
    ∙ mounted_writes component.items seen old
    ∙ ap (λ view. page_in view component.items) (view_is component held seen.view s)

pub shown_written : (component : Component) (held : Held) (mounted : Mounted) → mounted.parts ≡ parts_of component held → ((p : Place) → has_cell mounted.parts p ≡ true → code_of mounted p ≡ scratch component held p) → page_mounted component.texts mounted ≡ page_of component held
shown_written component held mounted is same =
    parts_same component.texts (code_of mounted) (scratch component held) mounted.parts same
    ∙ ap (parts_bytes component.texts (scratch component held)) is
    ∙ page_written (view_of component held) component.items
