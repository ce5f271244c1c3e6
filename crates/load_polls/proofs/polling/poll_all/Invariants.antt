use Rattle.std.proofs.Common.{◌≡◌, ◌+◌, ◌*◌, ◌≤◌, length}
use Rattle.outside.specs.Counts.{RoseBy}
use Rattle.held_state.specs.State.{with_held}
use Rattle.load_polls.specs.Loads.{progress_of, not_yet_count, failed_count, HasMoved}
use Rattle.load_polls.specs.Stands.{sweep_of, IsReady, ArePolledTo}
use Rattle.load_polls.proofs.polling.poll_all.Given as goal

-- the loads before this one were polled
abbrev pub invariant-loop-place : goal.invariant-loop-place
invariant-loop-place g l = record {
  ready : IsReady l.sides.component.now l.sides.names.now l.place l.from (sweep_of l.held l.loadings l.graph);
  polled : ArePolledTo g.L.Loader.answers g.L.Loader.is_prompt l.sides.component.now l.place (progress_of l.fn.held l.fn.loadings) (sweep_of l.held l.loadings l.graph) l.late.list l.fn.loader l.loader;
  held : l.held ≡ with_held l.fn.held l.held.held;
  moved : HasMoved l.fn.graph l.graph (l.from * 2);
  few : l.from ≤ 4096;
  long : length l.loadings ≡ length l.fn.loadings;
  room : length l.loadings ≤ l.late.spare + l.place;
  not_yets : RoseBy (not_yet_count l.late.list) (g.L.Loader.not_yets l.fn.loader) (g.L.Loader.not_yets l.loader);
  faults : RoseBy (failed_count l.late.list) (g.L.Loader.faults l.fn.loader) (g.L.Loader.faults l.loader);
}
