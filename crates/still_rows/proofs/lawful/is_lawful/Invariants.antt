use Rattle.std.proofs.Common.{◌≡◌, ◌<◌, ℕ, slice_get, Some}
use Rattle.values.specs.declared.plan.PlanNode.{PlanNode}
use Rattle.still_rows.specs.Frames.{NamesLawfully}
use Rattle.still_rows.proofs.lawful.is_lawful.Given as goal

abbrev pub invariant-loop-at : goal.invariant-loop-at
invariant-loop-at l = (i : ℕ) (node : PlanNode) → i < l.at → slice_get l.nodes i ≡ Some node → NamesLawfully l.nodes i node.expr
