use Rattle.std.proofs.Common.{refl}
use Rattle.run_history.specs.Calls.{pump}
use Rattle.script_items.specs.declared.operation.ScriptOp.TheVariants as op
use Rattle.run_items.specs.declared.answer.Reply.TheVariants as reply
use Rattle.lane_run.proofs.Steps.{spoke}
use Rattle.lane_run.proofs.lane.do_pump.Goals as goal

pub returns-clause-does : goal.returns-clause-does
returns-clause-does c = λ past lane at.
    spoke past c.args.still.now c.pump.new.self lane (pump c.pump.result) (record { op = op.Pump; reply = reply.Pumped c.pump.result })
    c.lanes_go_on.ensures.speaks at c.pump.ensures.rest c.pump.ensures.edits (λ g. c.pump.ensures.call past g 1) (refl, refl)
