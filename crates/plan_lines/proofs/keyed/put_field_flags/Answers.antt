use Rattle.std.proofs.Common.{◌<◌, ◌++◌, length, sym, ap, ◌∙◌, arith}
use Rattle.plan_lines.proofs.Appends.{one_more}
use Rattle.plan_lines.proofs.KeyedForms.{true_more}
use Rattle.plan_lines.proofs.keyed.put_field_flags.Goals as goal

pub loop-preserved : goal.loop-preserved
loop-preserved c =
    let within : c.loop.index < length c.args.fields.now = omega arith in
    one_more c.loop.flags.items _ _ _ _ c.in_ok-put_flag.ensures (ap (λ bs. c.loop.flags.items ++ bs) (sym (true_more c.args.fields.now c.loop.index within)) ∙ c.loop.invariant)
