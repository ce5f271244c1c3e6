use Rattle.std.proofs.Common.{true, Err, refl}
use Rattle.values.specs.declared.plan.Stop.TheVariants as stop
use Rattle.run_history.specs.Calls.{set}
use Rattle.phase_graph.proofs.Steps.{set_ok, set_full, after_before, owner_after, is_source}
use Rattle.phase_graph.proofs.Tables.{written_kept}
use Rattle.phase_graph.proofs.table.Table.write.Goals as goal

pub put-requires-clause-ticks : goal.put-requires-clause-ticks
put-requires-clause-ticks c = c.requires.table.early c.requires.open

pub put-requires-clause-source : goal.put-requires-clause-source
put-requires-clause-source c = is_source c.args.self.now.plan.nodes c.args.self.now.plan.nodes c.args.signal refl c.requires.row

pub returns-in-Ok-clause-kept : goal.returns-in-Ok-clause-kept
returns-in-Ok-clause-kept c = written_kept c.args.self.now c.put.new.self c.requires.table (c.requires.table.early c.requires.open) c.args.signal c.args.code c.in-Ok.number c.in-Ok.ensures.written

pub returns-in-Ok-clause-call : goal.returns-in-Ok-clause-call
returns-in-Ok-clause-call c = λ pass. set_ok c.args.self.now c.put.new.self pass c.args.signal c.requires.live.0 c.in-Ok.number c.args.code c.requires.table c.requires.row c.requires.live.1 c.in-Ok.ensures.written

pub returns-in-Err-clause-call : goal.returns-in-Err-clause-call
returns-in-Err-clause-call c = λ pass.
    let b = c.in-Err.ensures.unchanged in
    after_before c.args.self.now c.put.new.self c.fill.new.self pass (set c.args.signal c.args.code (Err (stop.Full c.fill.result))) b (set_full c.put.new.self c.fill.new.self pass c.args.signal c.requires.live.0 c.fill.result c.args.code (owner_after c.args.self.now c.put.new.self c.args.signal c.requires.live.0 true b c.requires.live.1) c.fill.ensures.filled)
