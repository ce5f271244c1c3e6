use Rattle.std.proofs.Common.{◌+◌, sym, subst, arith}
use Rattle.still_readers.specs.declared.readers.Readers.{Readers}
use Rattle.still_readers.specs.Readers.{IsReflagged, IsExact}
use Rattle.still_readers.proofs.Lists.{within_at}
use Rattle.still_readers.proofs.ReadersLemmas.{reflagged_same, reflagged_more, reflagged_one, exact_more, exact_enrolled, of_plan_kept}
use Rattle.still_readers.proofs.readers.Readers.renew.Goals as goal

pub loop-place-init : goal.loop-place-init
loop-place-init c = record { same = reflagged_same c.args.self.now; exact = record { each = (λ k u l e. absurd (omega arith)) } }

pub loop-place-preserved : goal.loop-place-preserved
loop-place-preserved c =
    let r = c.loop-place.self in
    let i = c.loop-place.invariant in
    let u = within_at r.list c.loop-place.place (let a = i.same.long in let b = c.loop-place-test.true in omega arith) in
    let flagged = c.flag.ensures u.0 u.1 in
    record {
      same = reflagged_more c.args.self.now r c.flag.new.self i.same (subst (λ (q : Readers). IsReflagged r q) (sym flagged) (reflagged_one r c.loop-place.place u.0 c.records-enrolled.result u.1));
      exact = subst (λ (q : Readers). IsExact c.args.rows.now (c.loop-place.place + 1) q) (sym flagged) (exact_more c.args.rows.now r c.loop-place.place u.0 c.records-enrolled.result u.1 (c.records-enrolled.ensures u.0 u.1) i.exact);
    }

pub returns-clause-of_plan : goal.returns-clause-of_plan
returns-clause-of_plan c = λ nodes of_plan. of_plan_kept nodes c.args.self.now c.loop-place.self c.loop-place.invariant.same of_plan

pub returns-clause-enrolled : goal.returns-clause-enrolled
returns-clause-enrolled c = λ nodes of_plan good.
    exact_enrolled nodes c.args.rows.now c.loop-place.self (of_plan_kept nodes c.args.self.now c.loop-place.self c.loop-place.invariant.same of_plan) good
    record { each = (λ k u l e. c.loop-place.invariant.exact.each k u (let a = c.loop-place.invariant.same.long in let b = c.loop-place-test.false in omega arith) e) }

pub returns-clause-exact : goal.returns-clause-exact
returns-clause-exact c = record { each = (λ k u l e. c.loop-place.invariant.exact.each k u (let a = c.loop-place.invariant.same.long in let b = c.loop-place-test.false in omega arith) e) }
