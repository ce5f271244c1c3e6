use Rattle.std.proofs.Common.{◌++◌, false, ap, ◌∙◌}
use Rattle.plain_evaluation.specs.Keyed.{items_keyed}
use Rattle.plan_lines.specs.Flags.{flag_at, flags_of}
use Rattle.plan_lines.proofs.KeyedForms.{flags_are}
use Rattle.plan_lines.proofs.keyed.keyed_ids.Goals as goal

pub returns : goal.returns
returns c =
    ap flag_at (c.in_ok-put_flags.ensures ∙ (λ i. c.new-flags.ensures.items i ++ flags_of (items_keyed (c.items.ensures.items i) false)))
    ∙ flags_are c.args.component.now c.items.ensures.kept
