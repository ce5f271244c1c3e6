use Rattle.std.proofs.Common.{refl, sym, subst, ◌<◌, length}
use Rattle.values.specs.declared.plan.Plan.{Plan}
use Rattle.run_history.specs.Calls.{dispose}
use Rattle.script_items.specs.declared.operation.ScriptOp.TheVariants as op
use Rattle.run_items.specs.declared.answer.Reply.TheVariants as reply
use Rattle.lane_run.proofs.Areas.{area_within}
use Rattle.lane_run.proofs.Steps.{spoke}
use Rattle.lane_run.proofs.lane.do_dispose.Goals as goal

pub dispose-requires-clause-owner : goal.dispose-requires-clause-owner
dispose-requires-clause-owner c = subst (λ (plan : Plan). c.args.owner < length plan.owners) (sym c.requires.open.plan) (area_within c.args.still.now.component c.requires.open.kept c.args.owner c.requires.named)

pub returns-clause-does : goal.returns-clause-does
returns-clause-does c = λ past lane at.
    spoke past c.args.still.now c.dispose.new.self lane (dispose c.args.owner c.dispose.result) (record { op = op.Dispose c.args.owner; reply = reply.Disposal c.dispose.result })
    c.lanes_go_on.ensures.speaks at c.dispose.ensures.rest c.dispose.ensures.edits (λ g. c.dispose.ensures.call past g 1) (refl, refl)
