use Rattle.std.proofs.Common.{◌<◌, ◌++◌, length, sym, ap, ◌∙◌, arith}
use Rattle.id_owners.proofs.Appends.{one_more}
use Rattle.id_owners.proofs.OwnedForms.{owner_more}
use Rattle.id_owners.proofs.walk.put_field_owners.Goals as goal

pub loop-preserved : goal.loop-preserved
loop-preserved c =
    let within : c.loop.index < length c.args.fields.now = omega arith in
    one_more c.loop.owners _ _ _ _ c.in_ok-put_owner.ensures (ap (λ os. c.loop.owners ++ os) (sym (owner_more c.args.owner c.args.fields.now c.loop.index within)) ∙ c.loop.invariant)
