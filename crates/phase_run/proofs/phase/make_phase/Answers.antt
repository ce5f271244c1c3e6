use Rattle.std.proofs.Common.{ap, ◌∙◌}
use Rattle.plain_evaluation.proofs.Fitting.{rows_of_held}
use Rattle.run_meaning.specs.Opened.{opened_of}
use Rattle.lane_run.specs.Lanes.{lanes_at}
use Rattle.still_graph.specs.Still.{StillState}
use Rattle.phase_run.proofs.Made.{phase_made}
use Rattle.phase_run.proofs.phase.make_phase.Goals as goal

pub run_lanes-requires-clause-fresh : goal.run_lanes-requires-clause-fresh
run_lanes-requires-clause-fresh g c κs within = record {
  past = c.requires.settled.0;
  open_at = c.in_ok-begin.ensures.opened c.requires.settled.0 c.requires.settled.1;
  edits = c.in_ok-begin.ensures.passes_are;
  room = c.in_ok-begin.ensures.room ∙ c.edit_room.ensures;
}

pub returns-clause-made : goal.returns-clause-made
returns-clause-made g c = λ past settled fits.
    let old : StillState = c.args.still.now in
    let x : StillState = c.begin.new.self in
    let y : StillState = c.run_lanes.new.still in
    phase_made past old x y c.end.new.self c.args.phase (lanes_at c.args.script.now c.args.phase) c.args.answers.now c.run_lanes.new.answers
    c.calls_make_phases.ensures.told
    (c.targets_of_components_fit.ensures old.component old.state.held c.requires.kept (rows_of_held old.component old.state.held c.requires.fits))
    (ap (λ (z : StillState). opened_of z.component z.state.held) c.in_ok-begin.ensures.rest) c.in_ok-run_lanes.ensures
    (c.in_ok-begin.ensures.opened past settled) fits c.requires.today (c.end.ensures.ended past)
