use Rattle.std.proofs.Common.{◌<◌, ◌+◌, ◌++◌, ◌∷◌, [], map, length, sym, ap, ◌∙◌, arith}
use Rattle.plan_lines.specs.Scenes.{scene_in}
use Rattle.plan_lines.specs.Lines.{placed_in}
use Rattle.plan_lines.proofs.Appends.{one_more}
use Rattle.plan_lines.proofs.LineForms.{fields_step}
use Rattle.plan_lines.proofs.writer.put_fields.Goals as goal

pub loop-field-preserved : goal.loop-field-preserved
loop-field-preserved c =
    let within : c.loop-field.field < length c.args.row.now.fields = omega arith in
    let before = map placed_in c.loop-field.lines.items in
    one_more before _ _ _ _ (c.in_ok-put.ensures ∙ ap (λ line. before ++ line ∷ []) c.source.ensures) (ap (λ lines. before ++ lines) (sym (fields_step (2 + c.args.store) c.loop-field.field c.args.row.now.fields (scene_in c.in_row-there.result) within)) ∙ c.loop-field.invariant)
