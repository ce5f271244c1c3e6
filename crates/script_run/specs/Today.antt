-- Which scripts are run so far.
use Rattle.std.specs.Prelude.{List, All}
use Rattle.script_items.specs.declared.operation.ScriptOp.{ScriptOp}
use Rattle.lane_run.specs.Today.{LanesRun}

-- the script has no form that is not run yet
pub record RunsToday (script : List (List (List ScriptOp))) : Type 0 where
  pub phases : All LanesRun script
