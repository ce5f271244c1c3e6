use Rattle.std.proofs.Common.{◌≡◌, ◌+◌, ◌++◌, map, drop}
use Rattle.plain_evaluation.specs.Written.{write_fields}
use Rattle.plan_lines.specs.Scenes.{scene_in}
use Rattle.plan_lines.specs.Lines.{placed_in, placed_of}
use Rattle.plan_lines.proofs.writer.put_fields.Given as goal

abbrev pub invariant-loop-field : goal.invariant-loop-field
invariant-loop-field l = map placed_in l.lines.items ++ map placed_of (write_fields (l.first + l.field) (drop l.field l.row.fields) (scene_in l.there)) ≡ map placed_in l.initial.lines.items ++ map placed_of (write_fields l.first l.row.fields (scene_in l.there))
