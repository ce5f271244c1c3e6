use Rattle.std.proofs.Common.{◌≡◌, arith}
use Rattle.still_readers.proofs.Lists.{either}
use Rattle.still_readers.proofs.readers.Readers.place_from.Goals as goal

pub loop-place-preserved : goal.loop-place-preserved
loop-place-preserved c = λ k u f l e. either k c.loop-place.place (u.row ≡ c.args.row → ⊥)
    (λ same. c.is_of_row.ensures.other c.if-is_of_row.false u (rw (← same) e))
    (λ other. c.loop-place.invariant k u f (omega (arith, other)) e)

pub loop-place-init : goal.loop-place-init
loop-place-init c = λ k u f l e. absurd (omega arith)

pub returns-clause-none : goal.returns-clause-none
returns-clause-none c = λ k u f l e. c.loop-place.invariant k u f (let t = c.loop-place-test.false in omega arith) e
