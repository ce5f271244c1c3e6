use Rattle.std.proofs.Common.{subst}
use Rattle.sources.specs.declared.opening.Opened.{Opened}
use Rattle.still_readers.proofs.Lists.{one_at}
use Rattle.still_rows.specs.Clock.{IsVersioned}
use Rattle.still_rows.proofs.writes.finish.Goals as goal

pub returns-clause-finished : goal.returns-clause-finished
returns-clause-finished c = λ row at. record {
  version = c.in_ok-version.version;
  versioned = subst (λ (q : Opened). IsVersioned c.args.clock.now c.version_for.new.clock c.args.frame.node q c.args.code c.in_ok-version.version) (one_at c.row_at-row.result.now row c.row_at-row.ensures at) c.in_ok-version.ensures.versioned;
  run = c.record_run.ensures row at;
}
