-- A phase that was made.
use Rattle.std.specs.Prelude.{◌≡◌, ◌≤◌, List, length, map}
use Rattle.script_items.specs.declared.operation.ScriptOp.{ScriptOp}
use Rattle.run_meaning.specs.Phase.{Phase}
use Rattle.run_meaning.specs.Run.{IsPhase}
use Rattle.run_weave.specs.Lanes.{lane_of, told}
use Rattle.phase_edits.specs.Told.{edit_numbers}
use Rattle.still_graph.specs.Still.{StillState, opened_in, HasEnded}
use Rattle.lane_run.specs.Lanes.{edits_told}

-- This phase of these operations was opened behind those before it, made and ended. What comes of its edits is not told
-- yet; once it is, all holds of the phase.
pub record IsMade (past : List Phase) (old : StillState) (ops : List (List ScriptOp)) (p : Phase) (new : StillState) : Type 0 where
  pub opened : p.opened ≡ opened_in old
  pub is_phase : IsPhase past (told p)
  pub ops_are : map (map (λ d. d.op)) p.lanes ≡ ops
  pub one : length p.lanes ≤ 1
  pub numbers : edits_told (lane_of p.lanes 1) ≡ edit_numbers 1 p.entries
  pub ended : HasEnded past (told p) new
