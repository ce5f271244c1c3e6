use Rattle.std.proofs.Common.{◌≡◌, map, take}
use Rattle.plan_lines.specs.Flags.{flag_at}
use Rattle.plan_lines.specs.Lines.{placed_in}
use Rattle.node_plan.specs.Rows.{node_placed}
use Rattle.node_plan.proofs.nodes.nodes_of.Given as goal

abbrev pub invariant-loop-row : goal.invariant-loop-row
invariant-loop-row l = l.nodes.items ≡ map (node_placed (flag_at l.keyed) l.names) (map placed_in (take l.row-index l.rows))
