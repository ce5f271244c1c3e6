use Rattle.std.proofs.Common.{refl, sym, subst}
use Rattle.sources.specs.declared.body.Cause.{Cause}
use Rattle.work_order.specs.declared.frame.Due.{Due}
use Rattle.work_order.specs.declared.frame.Due.TheVariants.{Differs}
use Rattle.still_readers.proofs.Lists.{within_at}
use Rattle.still_rows.specs.Frames.{IsGoing}
use Rattle.still_rows.specs.Ends.{IsCauseOf}
use Rattle.still_rows.proofs.writes.cause_of.Goals as goal

pub returns-in-Differs : goal.returns-in-Differs
returns-in-Differs c =
    let g : IsGoing c.args.rows.now c.args.row.now c.args.frame.cleared c.args.frame.at Differs = subst (λ (w : Due). IsGoing c.args.rows.now c.args.row.now c.args.frame.cleared c.args.frame.at w) c.in-Differs.is c.requires.going in
    let y = within_at c.args.rows.now g.0.row (c.requires.within g.0 g.1) in
    subst (λ (q : Cause). IsCauseOf c.args.rows.now c.args.row.now c.args.frame.at q) (sym (c.changed.ensures g.0 y.0 (rw c.as_slice.ensures g.1) y.1))
    (g.0, g.1, refl, refl, (y.0, y.1, refl, g.2 y.0 y.1))
