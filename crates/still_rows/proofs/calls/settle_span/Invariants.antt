use Rattle.std.proofs.Common.{◌≡◌, ◌<◌, ◌≤◌, ℕ, Some, slice_get, true}
use Rattle.values.specs.declared.plan.PlanNode.{PlanNode}
use Rattle.values.specs.declared.plan.Kind.TheVariants.{Memo}
use Rattle.sources.specs.declared.opening.Opened.{Opened}
use Rattle.sources.specs.Colours.{is_clean}
use Rattle.still_rows.specs.Works.{IsStepped, IsWorkOf}
use Rattle.still_rows.proofs.calls.settle_span.Given as goal

abbrev pub invariant-loop-at : goal.invariant-loop-at
invariant-loop-at l = record {
  fits : IsWorkOf l.nodes l.work;
  stepped : IsStepped l.nodes l.initial.rows l.rows l.initial.readers l.readers l.initial.clock l.clock;
  past : (i : ℕ) → l.at ≤ i → slice_get l.rows i ≡ slice_get l.initial.rows i;
  clean : (i : ℕ) (node : PlanNode) (row : Opened) → i < l.at → slice_get l.nodes i ≡ Some node → slice_get l.rows i ≡ Some row → node.kind ≡ Memo → is_clean row.colour ≡ true;
}
