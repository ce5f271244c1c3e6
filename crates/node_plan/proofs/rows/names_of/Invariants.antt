use Rattle.std.proofs.Common.{◌≡◌, map, take}
use Rattle.plan_lines.specs.Lines.{placed_in}
use Rattle.node_plan.specs.Rows.{places_placed}
use Rattle.node_plan.proofs.rows.names_of.Given as goal

abbrev pub invariant-loop-row : goal.invariant-loop-row
invariant-loop-row l = l.names ≡ places_placed (map placed_in (take l.row-index l.rows))
