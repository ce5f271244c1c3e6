use Rattle.plan_lines.proofs.Appends.{put_all, nothing_put}
use Rattle.node_plan.proofs.OwnersLemmas.{cleanups-Cleanup, no_cleanups}
use Rattle.node_plan.proofs.owners.put_cleanup.Goals as goal

pub returns-in-Cleanup : goal.returns-in-Cleanup
returns-in-Cleanup c = put_all c.push.result c.args.cleanups.now _ _ _ (cleanups-Cleanup c.args.item.now c.in-Cleanup.text c.in-Cleanup.is) c.push.ensures.added

pub returns-in_default : goal.returns-in_default
returns-in_default c = nothing_put c.args.cleanups.now _ (no_cleanups c.args.item.now c.in_default.not-Cleanup)
