-- Which lanes are run so far.
use Rattle.std.specs.Prelude.{◌≤◌, ◌-◌, ◌^◌, ℕ, List, length, All}
use Rattle.script_items.specs.declared.operation.ScriptOp.{ScriptOp}

-- as many operations of a lane at the most have an answer with a number: numbers have 32 bits
abbrev pub most_ops : ℕ
most_ops = 2 ^ 32 - 2

-- the operations of a lane, of which each has an answer with a number
pub record OpsRun (ops : List ScriptOp) : Type 0 where
  pub few : length ops ≤ most_ops

-- the lanes of a phase
pub record LanesRun (lanes : List (List ScriptOp)) : Type 0 where
  pub one : length lanes ≤ 1
  pub each : All OpsRun lanes
