use Rattle.std.proofs.Common.{◌≡◌, ℕ, ◌<◌, Option, Some, None, ap, refl, arith}
use Rattle.values.specs.declared.plan.Fact.TheVariants as fact
use Rattle.values.specs.declared.plan.PlanNode.{PlanNode}
use Rattle.run_rows.specs.Parts.{number}
use Rattle.run_rows.proofs.wrong.disposals.Goals as goal

abbrev owner_or : Option PlanNode → ℕ
owner_or None = 0
owner_or (Some node) = node.owner

pub returns-clause-run : goal.returns-clause-run
returns-clause-run c h =
    let l = h 2 1 (number 1) refl in
    let owner : 1 ≡ l.0.owner = ap owner_or l.1 in
    let late : 2 < 1 = l.3.now 1 (ap (λ (n : ℕ). Some (fact.Disposed n)) owner) in
    omega arith

pub returns-clause-twice : goal.returns-clause-twice
returns-clause-twice c h = omega (arith, h.once 1)
