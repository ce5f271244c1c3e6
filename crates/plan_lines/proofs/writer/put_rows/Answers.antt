use Rattle.std.proofs.Common.{◌+◌, ◌++◌, map, sym, ap, ◌∙◌}
use Rattle.plain_evaluation.specs.Written.{write_fields, in_row}
use Rattle.plan_lines.specs.Scenes.{scene_in}
use Rattle.plan_lines.specs.Lines.{placed_in, placed_of}
use Rattle.plan_lines.proofs.Appends.{part_more, part_at}
use Rattle.plan_lines.proofs.Bounds.{narrow_at}
use Rattle.plan_lines.proofs.writer.put_rows.Goals as goal

pub put_fields-requires : goal.put_fields-requires
put_fields-requires c = narrow_at c.args.store c.args.rows.now.rows c.loop-place.place c.row_at.result.now c.requires c.row_at.ensures

pub loop-place-preserved : goal.loop-place-preserved
loop-place-preserved c =
    let before = map placed_in c.loop-place.lines.items in
    part_more before _ _ _ _ c.in_ok-put_fields.ensures (ap (λ lines. before ++ lines) (sym (part_at placed_of (λ row. write_fields (2 + c.args.store) row.fields (in_row c.args.store row.key (scene_in c.args.scene))) c.args.rows.now.rows c.loop-place.place c.row_at.result.now c.row_at.ensures)) ∙ c.loop-place.invariant)
