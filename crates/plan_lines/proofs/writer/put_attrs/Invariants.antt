use Rattle.std.proofs.Common.{◌≡◌, ◌++◌, map, drop}
use Rattle.std.specs.List.{flat_map}
use Rattle.plain_evaluation.specs.Written.{write_attr}
use Rattle.plan_lines.specs.Scenes.{scene_in}
use Rattle.plan_lines.specs.Lines.{placed_in, placed_of}
use Rattle.plan_lines.proofs.writer.put_attrs.Given as goal

abbrev pub invariant-loop-attr : goal.invariant-loop-attr
invariant-loop-attr l = map placed_in l.lines.items ++ map placed_of (flat_map (write_attr (scene_in l.scene)) (drop l.attr-index l.attrs)) ≡ map placed_in l.initial.lines.items ++ map placed_of (flat_map (write_attr (scene_in l.scene)) l.attrs)
