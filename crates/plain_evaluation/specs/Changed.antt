-- What held state has for an id, and held state with something else there.
use Rattle.std.specs.Prelude.{◌≤◌, ℕ, slice_set, Option, Some, None}
use Rattle.values.specs.declared.code.Code.{Code}
use Rattle.store_fields.specs.Edits.{KeyedRows}
use Rattle.component_items.specs.declared.component.Component.{Component}
use Rattle.component_items.specs.Counts.{maximum_in}
use Rattle.plain_evaluation.specs.Held.{Holding, nothing, value, stored, arrived, Held, holding_of}

abbrev pub signal_in : Holding → Option Code
signal_in nothing = None
signal_in (value code) = Some code
signal_in (stored store) = None
signal_in (arrived key) = None

abbrev pub store_in : Holding → Option KeyedRows
store_in nothing = None
store_in (value code) = None
store_in (stored store) = Some store
store_in (arrived key) = None

abbrev pub load_in : Holding → Option (Option Code)
load_in nothing = None
load_in (value code) = None
load_in (stored store) = None
load_in (arrived key) = Some key

-- the value of the signal with the id, if a live one has it
abbrev pub signal_of : Held → ℕ → Option Code
signal_of held id = signal_in (holding_of held id)

-- the store with the id, if a live one has it
abbrev pub store_of : Held → ℕ → Option KeyedRows
store_of held id = store_in (holding_of held id)

-- the key that arrived for the load with the id, or none, if a live one has it
abbrev pub load_of : Held → ℕ → Option (Option Code)
load_of held id = load_in (holding_of held id)

-- the state with this at the id
abbrev pub with_holding : Held → ℕ → Holding → Held
with_holding held id holding = record held { holdings = slice_set held.holdings id holding }

abbrev pub with_code : Held → ℕ → Code → Held
with_code held id code = with_holding held id (value code)

abbrev pub with_store : Held → ℕ → KeyedRows → Held
with_store held id store = with_holding held id (stored store)

abbrev pub with_arrived : Held → ℕ → Option Code → Held
with_arrived held id key = with_holding held id (arrived key)

-- no store may have more rows than the component says
abbrev pub most_in : Holding → ℕ
most_in nothing = 0
most_in (value code) = 0
most_in (stored store) = store.max
most_in (arrived key) = 0

pub record StoresFit (component : Component) (held : Held) : Type 0 where
  pub most : (id : ℕ) → most_in (holding_of held id) ≤ maximum_in component.items id
