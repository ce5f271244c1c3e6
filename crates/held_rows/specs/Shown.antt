-- Held state as the rows of a layout show it: each signal and each field has the value of its row.
use Rattle.std.specs.Prelude.{ℕ, suc, ◌+◌, Option, Some, None, List, [], ◌∷◌, map}
use Rattle.std.specs.Option.{option_map_or}
use Rattle.values.specs.declared.code.Code.{Code}
use Rattle.store_fields.specs.declared.row.Row.{Row}
use Rattle.store_fields.specs.Edits.{with_rows}
use Rattle.plain_evaluation.specs.Held.{Holding, nothing, value, stored, arrived, Held}
use Rattle.plain_evaluation.specs.Place.{Place, place_at}
use Rattle.plan_meaning.specs.Layout.{row_of}

-- what an id, with the key of a store's row or none, has: the value of its row, or what was held where it has no row
abbrev pub shown_at : List Place → (ℕ → Code) → ℕ → Option Code → Code → Code
shown_at places values id key code = option_map_or values (row_of places (place_at id key)) code

abbrev pub fields_shown : List Place → (ℕ → Code) → ℕ → Code → List Code → List Code
fields_shown places values id key [] = []
fields_shown places values id key (code ∷ codes) = shown_at places values id (Some key) code ∷ fields_shown places values (suc id) key codes

-- the fields of a store have the ids behind its own and that of its key
abbrev pub row_shown : List Place → (ℕ → Code) → ℕ → Row → Row
row_shown places values store row = record row { fields = fields_shown places values (2 + store) row.key row.fields }

abbrev pub holding_shown : List Place → (ℕ → Code) → ℕ → Holding → Holding
holding_shown places values id nothing = nothing
holding_shown places values id (value code) = value (shown_at places values id None code)
holding_shown places values id (stored store) = stored (with_rows store (map (row_shown places values id) store.rows))
holding_shown places values id (arrived key) = arrived key

abbrev pub holdings_shown : List Place → (ℕ → Code) → ℕ → List Holding → List Holding
holdings_shown places values id [] = []
holdings_shown places values id (holding ∷ holdings) = holding_shown places values id holding ∷ holdings_shown places values (suc id) holdings

abbrev pub held_shown : List Place → (ℕ → Code) → Held → Held
held_shown places values held = record held { holdings = holdings_shown places values 0 held.holdings }
