use Rattle.std.proofs.Common.{◌≡◌, ◌≤◌, ◌+◌, ◌*◌}
use Rattle.std.specs.Bool.{OnTrue}
use Rattle.outside.specs.Counts.{RoseByTogether}
use Rattle.plain_evaluation.specs.Scratch.{pending}
use Rattle.run_meaning.specs.Run.{refusals_owed}
use Rattle.phase_graph.specs.Graph.{ticks_of}
use Rattle.settling_rounds.specs.Settlings.{Settles, SettlesPromptly}
use Rattle.settling_rounds.proofs.settling.settle_rounds.Given as goal

abbrev pub invariant-loop-round : goal.invariant-loop-round
invariant-loop-round g l =
    Settles l.fn.still l.still
    × (l.pending ≡ pending l.still.component l.still.state.held)
    × RoseByTogether (refusals_owed l._round l.pending) (g.L.Loader.faults l.fn.loader) (g.L.Loader.faults l.loader) (g.L.Loader.not_yets l.fn.loader) (g.L.Loader.not_yets l.loader)
    × OnTrue g.L.Loader.is_prompt (SettlesPromptly l._round l.fn.still l.still)
    × (ticks_of l.still.graph ≤ ticks_of l.fn.still.graph + 16384 * l._round)
