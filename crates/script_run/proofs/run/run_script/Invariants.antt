use Rattle.std.proofs.Common.{◌≡◌, ◌≤◌, ◌+◌, ◌*◌, ◌^◌, [], take}
use Rattle.std.specs.Bool.{OnTrue}
use Rattle.component_items.specs.Kept.{IsKept}
use Rattle.load_meaning.specs.Polls.{enough_rounds}
use Rattle.phase_graph.specs.Graph.{ticks_of}
use Rattle.script_run.specs.Ran.{GoesOn}
use Rattle.script_run.proofs.Runs.{counted_from}
use Rattle.script_run.proofs.run.run_script.Given as goal

abbrev pub invariant-loop-before : goal.invariant-loop-before
invariant-loop-before g l =
    (l.ran.still.component ≡ l.fn.component)
    × IsKept l.ran.still.component
    × (ticks_of l.ran.still.graph ≤ 2 ^ 47 * (l.before + 1))
    × GoesOn l.fn.component (take l.before l.script) l.asked l.rounds (counted_from (g.L.Loader.faults l.fn.loader) (g.L.Loader.faults l.loader) (g.L.Loader.not_yets l.fn.loader) (g.L.Loader.not_yets l.loader)) l.ran
    × OnTrue g.L.Loader.is_prompt (enough_rounds l.fn.component ≤ l.rounds → l.ran.pending ≡ [])
