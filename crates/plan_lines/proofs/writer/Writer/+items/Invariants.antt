use Rattle.std.proofs.Common.{◌≡◌, ◌++◌, map, drop}
use Rattle.std.specs.List.{flat_map}
use Rattle.plain_evaluation.specs.Written.{in_row}
use Rattle.plan_lines.specs.Scenes.{scene_in}
use Rattle.plan_lines.specs.Lines.{placed_in, placed_of, items_written}
use Rattle.plan_lines.proofs.writer.Writer.+items.Given as goal

abbrev pub invariant-put_items-loop-item : goal.invariant-put_items-loop-item
invariant-put_items-loop-item l = map placed_in l.lines.items ++ map placed_of (items_written l.self.component.now l.self.held.now.held (drop l.item-index l.items) (scene_in l.scene)) ≡ map placed_in l.initial.lines.items ++ map placed_of (items_written l.self.component.now l.self.held.now.held l.items (scene_in l.scene))

abbrev pub invariant-put_item-loop-place : goal.invariant-put_item-loop-place
invariant-put_item-loop-place l = map placed_in l.lines.items ++ map placed_of (flat_map (λ row. items_written l.self.component.now l.self.held.now.held l.items (in_row l.store row.key (scene_in l.scene))) (drop l.place l.rows.rows)) ≡ map placed_in l.initial.lines.items ++ map placed_of (flat_map (λ row. items_written l.self.component.now l.self.held.now.held l.items (in_row l.store row.key (scene_in l.scene))) l.rows.rows)
