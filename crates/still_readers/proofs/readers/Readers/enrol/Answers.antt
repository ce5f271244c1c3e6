use Rattle.std.proofs.Common.{sym, subst, true}
use Rattle.still_readers.specs.declared.readers.Readers.{Readers}
use Rattle.still_readers.specs.Readers.{IsEnrolledAt, IsReadersOf}
use Rattle.still_readers.proofs.Lists.{within_at}
use Rattle.still_readers.proofs.ReadersLemmas.{enrolled_some, enrolled_none, reflagged_one, of_plan_kept}
use Rattle.still_readers.proofs.readers.Readers.enrol.Goals as goal

pub returns-in-Some-clause-at : goal.returns-in-Some-clause-at
returns-in-Some-clause-at c =
    let is = c.in-Some.ensures.some in
    let u = within_at c.args.self.now.list c.in-Some.place is.within in
    subst (λ (r : Readers). IsEnrolledAt c.args.node c.args.row c.args.self.now r) (sym (c.flag.ensures u.0 u.1)) (enrolled_some c.args.node c.args.row c.args.self.now c.in-Some.place u.0 is u.1)

pub returns-in-Some-clause-of_plan : goal.returns-in-Some-clause-of_plan
returns-in-Some-clause-of_plan c = λ nodes of_plan.
    let is = c.in-Some.ensures.some in
    let u = within_at c.args.self.now.list c.in-Some.place is.within in
    subst (λ (r : Readers). IsReadersOf nodes r) (sym (c.flag.ensures u.0 u.1)) (of_plan_kept nodes c.args.self.now _ (reflagged_one c.args.self.now c.in-Some.place u.0 true u.1) of_plan)

pub returns-in-None-clause-at : goal.returns-in-None-clause-at
returns-in-None-clause-at c = enrolled_none c.args.node c.args.row c.args.self.now c.in-None.ensures.none
