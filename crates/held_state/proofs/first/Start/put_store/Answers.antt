use Rattle.held_state.specs.Start.{built}
use Rattle.held_state.proofs.Built.{fields_step}
use Rattle.held_state.proofs.first.Start.put_store.Goals as goal

pub loop-preserved : goal.loop-preserved
loop-preserved c = fields_step (built c.loop.self) (built c.put-in-loop.new.self) _ c.args.fields.now c.loop.index c.loop-test.true c.loop.invariant c.in_ok-put-3.ensures
