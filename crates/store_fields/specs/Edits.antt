-- The edits of a keyed list of rows, as functions of lists. Each gives the new list and what comes of the edit.
use Rattle.std.specs.Prelude.{ℕ, ◌≤◌, ◌≡◌, ◌==◌, nat_le, if◌then◌else◌, List, [], ◌∷◌, length, map, insert, remove, slice_get, slice_set, min, Option, position}
use Rattle.std.specs.Option.{option_map_or}
use Rattle.std.specs.List.{All}
use Rattle.values.specs.declared.code.Code.{Code}
use Rattle.values.specs.Evaluation.{is_same}
use Rattle.store_fields.specs.declared.row.Row.{Row}
use Rattle.store_fields.specs.declared.edit.EditOp.{EditOp}
use Rattle.store_fields.specs.declared.edit.EditOp.TheVariants.{Insert, Remove, Move}
use Rattle.store_fields.specs.declared.edit.Verdict.{Verdict}
use Rattle.store_fields.specs.declared.edit.Verdict.TheVariants.{Done, Present, Absent, AtMax}

-- the rows of a store in order, how many there may be, and how many fields each has
pub record KeyedRows : Type 0 where
  pub rows : List Row
  pub max : ℕ
  pub width : ℕ

-- the same store with other rows
abbrev pub with_rows : KeyedRows → List Row → KeyedRows
with_rows store rows = record store { rows = rows }

abbrev pub keys : List Row → List Code
keys rows = map (λ row. row.key) rows

-- the place of the row with the key, counted from 0
abbrev pub place_of : Code → List Row → Option ℕ
place_of key rows = position (λ row. is_same key row.key) rows

-- what holds of the rows of a store
pub record IsStore (max width : ℕ) (rows : List Row) : Type 0 where
  pub few : length rows ≤ max
  pub wide : All (λ row. length row.fields ≡ width) rows

-- the rows after an edit, and what comes of it
pub record Edited : Type 0 where
  pub rows : List Row
  pub verdict : Verdict

abbrev pub edited : List Row → Verdict → Edited
edited rows verdict = record { rows = rows; verdict = verdict }

-- an edit that was made
abbrev pub made : List Row → Edited
made rows = edited rows Done

-- the row put at a place in the list of the others; a place at or past the end means the end
abbrev pub put_at : List Row → ℕ → Row → List Row
put_at others place row = insert others (min place (length others)) row

-- a new row, where its key is not there and fewer than `max` rows are
abbrev pub inserted : ℕ → List Row → Row → ℕ → Edited
inserted max rows row place =
    option_map_or (λ _. edited rows Present) (place_of row.key rows)
    (if nat_le max (length rows) then edited rows AtMax else made (put_at rows place row))

-- the row with the key taken out
abbrev pub removed : List Row → Code → Edited
removed rows key = option_map_or (λ i. made (remove rows i)) (place_of key rows) (edited rows Absent)

-- the row at a place taken out, and put at another in the list of the others
abbrev pub moved_from : List Row → ℕ → ℕ → Edited
moved_from rows i place = option_map_or (λ row. made (put_at (remove rows i) place row)) (slice_get rows i) (edited rows Absent)

-- the row with the key taken out, and put at the place in the list of the others
abbrev pub moved : List Row → Code → ℕ → Edited
moved rows key place = option_map_or (λ i. moved_from rows i place) (place_of key rows) (edited rows Absent)

abbrev pub with_field : Row → ℕ → Code → Row
with_field row field value = record row { fields = slice_set row.fields field value }

-- one field of the row at a place changed
abbrev pub field_set_at : List Row → ℕ → ℕ → Code → Edited
field_set_at rows i field value = option_map_or (λ row. made (slice_set rows i (with_field row field value))) (slice_get rows i) (edited rows Absent)

-- one field of the row with the key changed
abbrev pub field_set : List Row → Code → ℕ → Code → Edited
field_set rows key field value = option_map_or (λ i. field_set_at rows i field value) (place_of key rows) (edited rows Absent)

-- one edit of a store of at most `max` rows of `width` fields each; an insert of another number of fields is absent
abbrev pub edit : ℕ → ℕ → List Row → EditOp → Edited
edit max width rows (Insert key fields place) =
    if length fields == width then inserted max rows (record { key = key; fields = fields }) place else edited rows Absent
edit max width rows (Remove key) = removed rows key
edit max width rows (Move key place) = moved rows key place

-- the rows after edits one after another
abbrev pub rows_after : ℕ → ℕ → List Row → List EditOp → List Row
rows_after max width rows [] = rows
rows_after max width rows (op ∷ ops) = rows_after max width (edit max width rows op).rows ops

-- and what comes of each
abbrev pub verdicts_of : ℕ → ℕ → List Row → List EditOp → List Verdict
verdicts_of max width rows [] = []
verdicts_of max width rows (op ∷ ops) = (edit max width rows op).verdict ∷ verdicts_of max width (edit max width rows op).rows ops
