use Rattle.std.proofs.Common.{List, refl, subst}
use Rattle.values.specs.declared.plan.PlanNode.{PlanNode}
use Rattle.phase_graph.specs.Table.{ArePartsOf}
use Rattle.phase_graph.proofs.First.{made_table}
use Rattle.phase_graph.proofs.table.Table.new.Goals as goal

pub returns : goal.returns
returns c =
    let parts = subst (λ (q : List PlanNode). ArePartsOf q c.args.codes.now c.in_ok-parts.parts) c.as_slice.ensures c.in_ok-parts.ensures.made in
    record { made = record { table = made_table _ c.args.codes.now c.requires.lawful c.requires.owners parts.rows parts.fits refl refl refl refl; plan_is = refl; live_is = refl; closed = refl; base = refl; drawn = refl; rows = parts.rows } }
