use Rattle.std.proofs.Common.{◌≡◌, ◌++◌, map, drop}
use Rattle.plan_lines.specs.Lines.{placed_in}
use Rattle.node_plan.specs.Rows.{some_of}
use Rattle.node_plan.proofs.rows.put_some.Given as goal

abbrev pub invariant-loop-line : goal.invariant-loop-line
invariant-loop-line l = map placed_in l.rows.items ++ some_of l.computed (map placed_in (drop l.line-index l.lines)) ≡ map placed_in l.initial.rows.items ++ some_of l.computed (map placed_in l.lines)
