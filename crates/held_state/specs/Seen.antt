-- What the code keeps, as the definitions say it.
use Rattle.std.specs.Prelude.{ℕ, ◌-◌, Bool, map, List}
use Rattle.std.specs.List.{range_with_len}
use Rattle.held_state.specs.declared.holding.Holding.{Holding}
use Rattle.held_state.specs.declared.holding.Holding.TheVariants.{Nothing, Value, Stored, Arrived}
use Rattle.held_state.specs.declared.holding.Going.{Going}
use Rattle.plain_evaluation.specs.Held.{Holding as Held-Holding, nothing, value, stored, arrived}
use Rattle.plain_evaluation.specs.Killed.{Going as Held-Going}
use Rattle.held_state.specs.State.{HeldState}
use Rattle.held_state.specs.Built.{Built}

abbrev pub holding_seen : Holding → Held-Holding
holding_seen Nothing = nothing
holding_seen (Value code) = value code
holding_seen (Stored rows) = stored rows
holding_seen (Arrived key) = arrived key

-- numbers from the first on, below the second
abbrev pub numbers_from : ℕ → ℕ → List ℕ
numbers_from first past = range_with_len first (past - first)

abbrev pub going_seen : Going → Held-Going
going_seen going = record { ids = numbers_from going.first_id going.past_id; owners = numbers_from going.first_owner going.past_owner }

abbrev pub state_seen : List Holding → List Bool → List Going → HeldState
state_seen holdings live goings = record { held = record { holdings = map holding_seen holdings; live = live }; goings = map going_seen goings }

abbrev pub built_seen : List Holding → List Going → Built
built_seen holdings goings = record { holdings = map holding_seen holdings; goings = map going_seen goings }
