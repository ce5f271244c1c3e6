use Rattle.std.proofs.Common.{ap, ◌∙◌}
use Rattle.component_items.specs.Ids.{ids_in}
use Rattle.plan_lines.specs.Lines.{all_below}
use Rattle.plan_lines.proofs.Bounds.{ids_of_kept}
use Rattle.plan_lines.proofs.writer.write_out.Goals as goal

pub put_items-requires-clause-ids : goal.put_items-requires-clause-ids
put_items-requires-clause-ids c = ap (λ items. all_below (ids_in items)) c.items.ensures.items ∙ ids_of_kept c.args.component.now c.items.ensures.kept
