-- The mounted rows of an `each`, and how they follow the keys of its store.
use Rattle.std.specs.Prelude.{ℕ, Option, Some, None, List, [], ◌∷◌, map, unwrap_or}
use Rattle.std.specs.Map.{lookup}
use Rattle.std.specs.Option.{option_map_or}
use Rattle.values.specs.declared.code.Code.{Code}
use Rattle.values.specs.Evaluation.{is_same}
use Rattle.component_items.specs.declared.component.Item.{Item}
use Rattle.outside.specs.Counts.{next_count}
use Rattle.view_meaning.specs.Mounted.{Seen}
use Rattle.view_meaning.specs.Serials.{Rows as Serials}
use Rattle.view_slots.specs.Home.{Home, blank_home, home_parts, remounted}

-- a mounted row: its serial, and what it has mounted
abbrev pub Row : Type 0
Row = ℕ × Home

-- the mounted rows, each by its key, in order, and the serial that the next fresh one takes
pub record Listed : Type 0 where
  pub rows : List (Code × Row)
  pub next : ℕ

-- the next serial behind a row: a fresh one takes one, and one that was there takes none
abbrev pub count_after : {X : Type 0} → Option X → ℕ → ℕ
count_after None next = next_count next
count_after (Some known) next = next

-- and behind the rows with these keys
abbrev pub counted : {X : Type 0} → List (Code × X) → List Code → ℕ → ℕ
counted old [] next = next
counted old (k ∷ ks) next = counted old ks (count_after (lookup (is_same k) old) next)

-- The rows with these keys, in order: one that was there stays what it was, and a fresh one takes the next serial, and
-- so many ids from a base on of which nothing is mounted.
abbrev pub arranged : ℕ → ℕ → List (Code × Row) → List Code → ℕ → List (Code × Row)
arranged base width old [] next = []
arranged base width old (k ∷ ks) next = (k, unwrap_or (lookup (is_same k) old) (next, blank_home base width)) ∷ arranged base width old ks (count_after (lookup (is_same k) old) next)

-- the same with an empty place for each row that was there
abbrev pub planned : ℕ → ℕ → List (Code × Row) → List Code → ℕ → List (Code × Row)
planned base width old [] next = []
planned base width old (k ∷ ks) next = (k, option_map_or (λ known. (0, blank_home 0 0)) (lookup (is_same k) old) (next, blank_home base width)) ∷ planned base width old ks (count_after (lookup (is_same k) old) next)

-- a row with these items mounted again
abbrev pub row_again : Seen → List Item → Code × Row → Code × Row
row_again seen items e = (e.0, (e.1.0, remounted seen (home_parts seen.view items (Some e.0)) (Some e.0) e.1.1))

-- the rows that follow these keys, and what stands ready for them
abbrev pub rows_arranged : ℕ → ℕ → Listed → List Code → Listed
rows_arranged base width old ks = record { rows = arranged base width old.rows ks old.next; next = counted old.rows ks old.next }

abbrev pub rows_planned : ℕ → ℕ → Listed → List Code → Listed
rows_planned base width old ks = record { rows = planned base width old.rows ks old.next; next = counted old.rows ks old.next }

-- all rows with these items mounted again
abbrev pub rows_remounted : Seen → List Item → Listed → Listed
rows_remounted seen items old = record { rows = map (row_again seen items) old.rows; next = old.next }

-- no rows, and the next serial that there was
abbrev pub rows_gone : Listed → Listed
rows_gone old = record { rows = []; next = old.next }

-- the mounted row with the key, if there is one
abbrev pub row_with : Listed → Code → Option Row
row_with listed key = lookup (is_same key) listed.rows

-- the serials of the rows
abbrev pub serial_of_row : Code × Row → Code × ℕ
serial_of_row e = (e.0, e.1.0)

abbrev pub serials_of : Listed → Serials
serials_of listed = record { rows = map serial_of_row listed.rows; next = listed.next }
