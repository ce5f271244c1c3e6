use Rattle.std.proofs.Common.{◌≡◌, ℕ, ap, length, subst, ◌∙◌, arith}
use Rattle.values.specs.declared.plan.Plan.{Plan}
use Rattle.phase_graph.proofs.Pumps.{ArePumped, pump_begins, pump_on, pump_ends, pump_leaves}
use Rattle.phase_graph.proofs.table.Table.pump.Goals as goal

pub loop-row-init : goal.loop-row-init
loop-row-init c = pump_begins c.args.self.now c.requires.table

pub loop-row-preserved : goal.loop-row-preserved
loop-row-preserved c = pump_on c.args.self.now c.loop-row.self c.run_row-turn.new.self c.loop-row.row c.loop-row.told c.count_turn.new.told c.run_row-turn.result c.loop-row.invariant (c.loop-row.invariant.kept.in_phase ∙ c.requires.open) c.run_row-turn.ensures.kept c.run_row-turn.ensures.turned c.count_turn.ensures

pub returns-clause-call : goal.returns-clause-call
returns-clause-call c = λ pass.
    let plan = ap (λ (q : Plan). length q.nodes) c.loop-row.invariant.kept.plan in
    let l = c.loop-row.invariant.within in
    let t = c.loop-row-test.false in
    let n = ap length c.as_slice.ensures in
    let few = c.requires.table.lawful.few_nodes in
    let last : c.loop-row.row ≡ length c.loop-row.self.plan.nodes = omega arith in
    pump_ends c.args.self.now c.loop-row.self pass c.loop-row.told c.requires.table c.requires.open (subst (λ (k : ℕ). ArePumped c.args.self.now c.loop-row.self k c.loop-row.told) last c.loop-row.invariant)

pub returns-clause-effects : goal.returns-clause-effects
returns-clause-effects c =
    let plan = ap (λ (q : Plan). length q.nodes) c.loop-row.invariant.kept.plan in
    let l = c.loop-row.invariant.within in
    let t = c.loop-row-test.false in
    let n = ap length c.as_slice.ensures in
    let few = c.requires.table.lawful.few_nodes in
    let last : c.loop-row.row ≡ length c.loop-row.self.plan.nodes = omega arith in
    pump_leaves c.args.self.now c.loop-row.self c.loop-row.told (subst (λ (k : ℕ). ArePumped c.args.self.now c.loop-row.self k c.loop-row.told) last c.loop-row.invariant)
