use Rattle.std.proofs.Common.{subst, arith}
use Rattle.sources.specs.declared.body.Read.{Read}
use Rattle.still_readers.specs.Readers.{IsEnrolledAt, HasRead}
use Rattle.still_readers.proofs.Lists.{either, one_at}
use Rattle.still_rows.proofs.writes.enrol_all.Goals as goal

pub loop-place-preserved : goal.loop-place-preserved
loop-place-preserved c = let i = c.loop-place.invariant in let e = c.enrol_read.ensures in record {
  of_plan = (λ nodes h. e.of_plan nodes (i.of_plan nodes h));
  stays = (λ m r h. e.at.stays m r (i.stays m r h));
  enrolled = (λ nodes h n at d k x l r m w. either k c.loop-place.place (HasRead c.enrol_read.new.self c.args.node x.row)
      (λ s.
      (subst (λ (q : Read). IsEnrolledAt c.args.node q.row c.loop-place.readers c.enrol_read.new.self) (one_at c.read_at-read.result x c.read_at-read.ensures (rw (← s) r)) e.at).enrolled nodes (i.of_plan nodes h) n at d m w)
      (λ other. e.at.stays c.args.node x.row (i.enrolled nodes h n at d k x (omega (arith, other)) r m w)));
}

pub returns : goal.returns
returns c = let i = c.loop-place.invariant in record {
  of_plan = i.of_plan;
  stays = i.stays;
  enrolled = (λ nodes h n at d k x l e m w. i.enrolled nodes h n at d k x (let t = c.loop-place-test.false in omega arith) e m w);
}
