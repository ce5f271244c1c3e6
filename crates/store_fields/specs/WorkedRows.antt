-- Rows and edits of the worked rows: keys are numbers, and each row has one field.
use Rattle.std.specs.Prelude.{ℕ, ◌-◌, ◌^◌, pos, [], ◌∷◌}
use Rattle.values.specs.declared.code.Code.TheVariants.{Number}
use Rattle.store_fields.specs.declared.row.Row.{Row}
use Rattle.store_fields.specs.declared.edit.EditOp.{EditOp}
use Rattle.store_fields.specs.declared.edit.EditOp.TheVariants.{Insert, Remove, Move}

-- how the end is written
abbrev pub the_end : ℕ
the_end = 2 ^ 32 - 1

abbrev pub row_of : ℕ → ℕ → Row
row_of key field = record { key = Number (pos key); fields = Number (pos field) ∷ [] }

-- an insert at the end
abbrev pub insert_of : ℕ → ℕ → EditOp
insert_of key field = Insert (Number (pos key)) (Number (pos field) ∷ []) the_end

abbrev pub move_of : ℕ → ℕ → EditOp
move_of key place = Move (Number (pos key)) place

abbrev pub remove_of : ℕ → EditOp
remove_of key = Remove (Number (pos key))
