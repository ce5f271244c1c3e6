use Rattle.std.proofs.Common.{◌≡◌, ◌++◌, map, drop}
use Rattle.std.specs.List.{flat_map}
use Rattle.plan_lines.specs.Lines.{placed_in}
use Rattle.next_layout.specs.Sources.{load_shown, codes_held}
use Rattle.next_layout.proofs.codes.codes_of_lines.Given as goal

abbrev pub invariant-loop-line : goal.invariant-loop-line
invariant-loop-line l = l.codes.items ++ flat_map (codes_held (load_shown l.names l.graph) l.held.held) (map placed_in (drop l.line-index l.lines)) ≡ flat_map (codes_held (load_shown l.names l.graph) l.held.held) (map placed_in l.lines)
