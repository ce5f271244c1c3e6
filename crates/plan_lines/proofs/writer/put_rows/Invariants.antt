use Rattle.std.proofs.Common.{◌≡◌, ◌+◌, ◌++◌, map, drop}
use Rattle.std.specs.List.{flat_map}
use Rattle.plain_evaluation.specs.Written.{write_fields, in_row}
use Rattle.plan_lines.specs.Scenes.{scene_in}
use Rattle.plan_lines.specs.Lines.{placed_in, placed_of}
use Rattle.plan_lines.proofs.writer.put_rows.Given as goal

abbrev pub invariant-loop-place : goal.invariant-loop-place
invariant-loop-place l = map placed_in l.lines.items ++ map placed_of (flat_map (λ row. write_fields (2 + l.store) row.fields (in_row l.store row.key (scene_in l.scene))) (drop l.place l.rows.rows)) ≡ map placed_in l.initial.lines.items ++ map placed_of (flat_map (λ row. write_fields (2 + l.store) row.fields (in_row l.store row.key (scene_in l.scene))) l.rows.rows)
