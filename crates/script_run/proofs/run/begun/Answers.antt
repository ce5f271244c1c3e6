use Rattle.script_run.specs.Ran.{LoaderCounts}
use Rattle.script_run.specs.declared.run.Ran.{Ran}
use Rattle.script_run.proofs.Runs.{counted_from, begins}
use Rattle.script_run.proofs.run.begun.Goals as goal

pub returns-clause-goes_on : goal.returns-clause-goes_on
returns-clause-goes_on g c =
    let ran : Ran = record { still = c.settle_rounds.new.still; answers = c.new-2.result; report = c.new-3.result; pending = c.in_ok-pending.pending } in
    let counts : LoaderCounts = counted_from (g.L.Loader.faults c.args.loader.now) (g.L.Loader.faults c.settle_rounds.new.loader) (g.L.Loader.not_yets c.args.loader.now) (g.L.Loader.not_yets c.settle_rounds.new.loader) in
    begins c.args.component c.args.asked c.args.rounds c.in-Ok.still ran counts c.in-Ok.ensures.component c.in-Ok.ensures.state c.in-Ok.ensures.stage c.in_ok-pending.ensures.settles c.new-2.ensures c.new-3.ensures.items c.in_ok-pending.ensures.pending c.in_ok-pending.ensures.counted
