-- The parts of worked components.
use Rattle.std.proofs.Common.{◌≡◌, ℕ, if◌then◌else◌, true, List, [], ◌∷◌, ◌++◌, map, None, Some, refl, ap, ◌∙◌}
use Rattle.std.specs.List.{flat_map}
use Rattle.values.specs.declared.code.Code.{Code}
use Rattle.values.specs.declared.code.Code.TheVariants.{Word}
use Rattle.values.specs.declared.expr.Expr.TheVariants.{Read}
use Rattle.component_items.specs.declared.component.Item.{Item}
use Rattle.component_items.specs.declared.component.Item.TheVariants as item
use Rattle.component_items.proofs.FoldLemmas.{at-Store, at-Each, at-Element}
use Rattle.component_items.specs.Ids.{item_owners}
use Rattle.plain_evaluation.specs.Held.{Held, first_held, rows_held, item_first}
use Rattle.plain_evaluation.specs.Keyed.{item_keyed}
use Rattle.plain_evaluation.specs.Page.{View, view_of}
use Rattle.plain_evaluation.specs.Place.{outside, of_row}
use Rattle.plain_evaluation.specs.Rows.{number, side, side_dead, titles, chosen, chosen_held}
use Rattle.plain_evaluation.specs.Scratch.{scratch}
use Rattle.plain_evaluation.specs.Written.{write_item}
use Rattle.plain_evaluation.proofs.Computes.{folds, computes}
use Rattle.view_meaning.specs.Parts.{Part, plain, shows, begins, begun, ends, area, branch, each, row, parts_joined, parts_step, item_parts, items_parts, parts_of, keys_mounted}
use Rattle.view_meaning.specs.Worked.{parity, parity_held}

-- ---- areas

pub side_live_parts : parts_of side (first_held side) ≡ area (outside 0) ∷ begins 4 ∷ begun ∷ shows (outside 2) ∷ ends 4 ∷ begins 5 ∷ begun ∷ plain 6 ∷ ends 5 ∷ []
unfolding item_parts item_owners item_first
side_live_parts = simp folds

pub side_dead_parts : parts_of side side_dead ≡ begins 5 ∷ begun ∷ plain 6 ∷ ends 5 ∷ []
unfolding item_parts
side_dead_parts = simp folds

-- ---- texts

pub parity_parts : (a : ℕ) → parts_of parity (parity_held a) ≡ begins 2 ∷ begun ∷ shows (outside 2) ∷ ends 2 ∷ begins 3 ∷ begun ∷ shows (outside 3) ∷ ends 3 ∷ []
unfolding item_parts
parity_parts a = simp folds

-- ---- rows

abbrev line : List Item
line = item.Element 4 true [] (item.Shown 4 (Read 2) ∷ []) ∷ []

abbrev line_parts : Code → List Part
line_parts key = begins 4 ∷ begun ∷ shows (of_row 4 key) ∷ ends 4 ∷ []

one_line : (view : View) (key : Code) → parts_joined (map (item_parts view) line) (Some key) ≡ line_parts key
unfolding item_parts
one_line view key = simp folds

all_lines : (view : View) → item_parts view (item.Each 3 0 line) None ≡ each 3 0 ∷ flat_map (λ key. row 3 key ∷ line_parts key) (view.keys 3 0)
unfolding item_parts
all_lines view = at-Each (parts_step view) 3 0 line None ∙ (λ i. each 3 0 ∷ flat_map (λ key. row 3 key ∷ one_line view key i) (view.keys 3 0))

list_parts : (view : View) → items_parts view titles.items None ≡ begins 3 ∷ begun ∷ each 3 0 ∷ (flat_map (λ key. row 3 key ∷ line_parts key) (view.keys 3 0) ++ []) ++ ends 3 ∷ [] ++ []
unfolding item_parts
list_parts view =
    (λ i. at-Store (parts_step view) 0 1 4 (2 ∷ []) (Word 0 ∷ []) None i ++ (at-Element (parts_step view) 3 true [] (item.Each 3 0 line ∷ []) None i ++ []))
    ∙ (λ i. begins 3 ∷ begun ∷ (all_lines view i ++ []) ++ ends 3 ∷ [] ++ [])

keys_of_lines : (keys : List Code) → keys_mounted ((flat_map (λ key. row 3 key ∷ line_parts key) keys ++ []) ++ ends 3 ∷ [] ++ []) 3 ≡ keys
keys_of_lines [] = refl
keys_of_lines (key ∷ keys) = ap (λ more. key ∷ more) (keys_of_lines keys)

-- the mounted rows of titles are those of the store
pub titles_keys : (held : Held) → (view_of titles held).live 0 ≡ true → keys_mounted (parts_of titles held) 3 ≡ map (λ r. r.key) (rows_held held 0)
titles_keys held live =
    ap (λ b. keys_mounted (if b then items_parts (view_of titles held) titles.items None else []) 3) live
    ∙ ap (λ parts. keys_mounted parts 3) (list_parts (view_of titles held))
    ∙ keys_of_lines (map (λ r. r.key) (rows_held held 0))

-- ---- branches

chosen_shown : (view : View) → view.live 1 ≡ true → view.keys 6 2 ≡ number 1 ∷ number 2 ∷ [] → view.value (outside 5) ≡ number 1 → view.value (of_row 7 (number 1)) ≡ number 0 → view.value (of_row 7 (number 2)) ≡ number 1 → items_parts view chosen.items None ≡ area (outside 0) ∷ branch (outside 5) ∷ each 6 2 ∷ row 6 (number 1) ∷ row 6 (number 2) ∷ branch (of_row 7 (number 2)) ∷ begins 5 ∷ begun ∷ shows (of_row 8 (number 2)) ∷ ends 5 ∷ []
unfolding item_parts
chosen_shown view live keys on first second = simp (folds, live, keys, on, first, second)

chosen_hidden : (view : View) → view.live 1 ≡ true → view.value (outside 5) ≡ number 0 → items_parts view chosen.items None ≡ area (outside 0) ∷ []
unfolding item_parts
chosen_hidden view live off = simp (folds, live, off)

is_on : scratch chosen (chosen_held 1) (outside 5) ≡ number 1
unfolding write_item item_keyed
is_on = simp computes

is_off : scratch chosen (chosen_held 0) (outside 5) ≡ number 0
unfolding write_item item_keyed
is_off = simp computes

first_off : scratch chosen (chosen_held 1) (of_row 7 (number 1)) ≡ number 0
unfolding write_item item_keyed
first_off = simp computes

second_on : scratch chosen (chosen_held 1) (of_row 7 (number 2)) ≡ number 1
unfolding write_item item_keyed
second_on = simp computes

pub chosen_on_parts : parts_of chosen (chosen_held 1) ≡ area (outside 0) ∷ branch (outside 5) ∷ each 6 2 ∷ row 6 (number 1) ∷ row 6 (number 2) ∷ branch (of_row 7 (number 2)) ∷ begins 5 ∷ begun ∷ shows (of_row 8 (number 2)) ∷ ends 5 ∷ []
chosen_on_parts = chosen_shown (view_of chosen (chosen_held 1)) refl refl is_on first_off second_on

pub chosen_off_parts : parts_of chosen (chosen_held 0) ≡ area (outside 0) ∷ []
chosen_off_parts = chosen_hidden (view_of chosen (chosen_held 0)) refl is_off
