-- What is asked of rows and ids to write held state back, and what one field's writing leaves.
use Rattle.std.specs.Prelude.{◌≡◌, ℕ, ◌+◌, ◌<◌, ◌^◌, List, slice_get, Option, Some, None}
use Rattle.std.specs.Option.{option_map_or}
use Rattle.values.specs.declared.code.Code.{Code}
use Rattle.values.specs.Packing.{IsPacked}
use Rattle.store_fields.specs.declared.row.Row.{Row}
use Rattle.store_fields.specs.Edits.{KeyedRows, field_set}
use Rattle.sources.specs.declared.opening.Opened.{Opened}
use Rattle.plain_evaluation.specs.Place.{Place, of_row}
use Rattle.plan_meaning.specs.Layout.{row_of}

abbrev pub ArePacked : List Opened → Type 0
ArePacked rows = (n : ℕ) (row : Opened) → slice_get rows n ≡ Some row → IsPacked row.code

-- the ids of the fields of a store with this id, if it is one, are ids
abbrev pub HasIds : ℕ → Option KeyedRows → Type 0
HasIds id None = Unit {0}
HasIds id (Some store) = (field : ℕ) → field < store.width → 2 + id + field < 2 ^ 32

-- the rows of a store, once a field with this id, of the row with the key, has the value that it is shown with
abbrev pub with_field_shown : List Place → (ℕ → Code) → ℕ → Code → ℕ → List Row → List Row
with_field_shown places values id key field rows = option_map_or (λ n. (field_set rows key field (values n)).rows) (row_of places (of_row id key)) rows
