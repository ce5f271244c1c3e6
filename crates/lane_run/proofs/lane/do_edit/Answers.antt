use Rattle.std.proofs.Common.{ℕ, sym, ap, subst, ◌<◌, length, ◌∙◌}
use Rattle.values.specs.declared.plan.Plan.{Plan}
use Rattle.store_fields.specs.declared.edit.Edit.{Edit}
use Rattle.plan_meaning.specs.Owners.{plan_owners}
use Rattle.plan_meaning.specs.Told.{owner_of_id}
use Rattle.run_history.specs.Calls.{edit}
use Rattle.script_items.specs.declared.operation.ScriptOp.TheVariants as op
use Rattle.lane_run.proofs.Owned.{owner_within}
use Rattle.lane_run.proofs.Steps.{spoke}
use Rattle.lane_run.proofs.lane.do_edit.Goals as goal

pub edit-requires-clause-owner : goal.edit-requires-clause-owner
edit-requires-clause-owner c =
    subst (λ (plan : Plan). c.owner_of-owner.result < length plan.owners) (sym c.requires.open.plan)
    (subst (λ (n : ℕ). n < length (plan_owners c.args.still.now.component)) (sym c.owner_of-owner.ensures) (owner_within c.args.still.now.component c.requires.open.kept c.args.edit.now.store))

pub returns-clause-does : goal.returns-clause-does
returns-clause-does c = λ past lane at.
    spoke past c.args.still.now c.edit.new.self lane (edit c.owner_of-owner.result c.in_ok-asked.asked c.edit.result) (record { op = op.Change c.args.edit.now; reply = c.edit_reply.result })
    c.lanes_go_on.ensures.speaks at c.edit.ensures.rest c.edit.ensures.edits (c.edit.ensures.call past) (ap op.Change (sym c.in_ok-asked.ensures), c.owner_of-owner.ensures ∙ ap (λ (e : Edit). owner_of_id c.args.still.now.component e.store) (sym c.in_ok-asked.ensures), c.edit_reply.ensures)
