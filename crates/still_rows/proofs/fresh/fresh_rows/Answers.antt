use Rattle.std.proofs.Common.{◌≡◌, ◌+◌, ℕ, List, Some, slice_get, length, sym, subst, arith}
use Rattle.std.proofs.lemmas.Option.{slice_get-get_or}
use Rattle.values.specs.declared.plan.PlanNode.{PlanNode}
use Rattle.sources.specs.declared.opening.Opened.{Opened}
use Rattle.still_rows.specs.Fresh.{AreFreshRows}
use Rattle.still_rows.proofs.FreshLemmas.{fresh_more, fresh_good, fresh_dated, fresh_roomy}
use Rattle.still_rows.proofs.fresh.fresh_rows.Goals as goal

pub loop-node-preserved : goal.loop-node-preserved
loop-node-preserved c =
    let here = subst (λ (q : PlanNode). slice_get c.args.nodes.now c.loop-node.node-index ≡ Some q) (sym c.node-item.is) (slice_get-get_or c.args.nodes.now c.loop-node.node-index c.node-item.result c.loop-node-test.true) in
    subst (λ (l : List Opened). AreFreshRows c.args.nodes.now (c.loop-node.node-index + 1) l) (sym c.in_ok-push.ensures.items)
    (fresh_more c.args.nodes.now c.loop-node.node-index c.node-item.result c.in_ok-fresh_row.field-0 c.loop-node.rows.items here c.in_ok-fresh_row.ensures c.loop-node.invariant)

pub returns-clause-good : goal.returns-clause-good
returns-clause-good c = let t = c.loop-node-test.false in let e : c.loop-node.node-index ≡ length c.args.nodes.now = omega arith in
    fresh_good c.args.nodes.now c.loop-node.rows.items (subst (λ (k : ℕ). AreFreshRows c.args.nodes.now k c.loop-node.rows.items) e c.loop-node.invariant)

pub returns-clause-dated : goal.returns-clause-dated
returns-clause-dated c = let t = c.loop-node-test.false in let e : c.loop-node.node-index ≡ length c.args.nodes.now = omega arith in
    fresh_dated c.args.nodes.now c.loop-node.rows.items (subst (λ (k : ℕ). AreFreshRows c.args.nodes.now k c.loop-node.rows.items) e c.loop-node.invariant)

pub returns-clause-roomy : goal.returns-clause-roomy
returns-clause-roomy c = let t = c.loop-node-test.false in let e : c.loop-node.node-index ≡ length c.args.nodes.now = omega arith in
    fresh_roomy c.args.nodes.now c.loop-node.rows.items (subst (λ (k : ℕ). AreFreshRows c.args.nodes.now k c.loop-node.rows.items) e c.loop-node.invariant)
