use Rattle.std.proofs.Common.{refl}
use Rattle.std.specs.Fmt.{digits}
use Rattle.run_rows.proofs.reports.further_words.Goals as goal

pub returns-clause-busy : goal.returns-clause-busy
unfolding digits
returns-clause-busy c = refl

pub returns-clause-again : goal.returns-clause-again
unfolding digits
returns-clause-again c = refl

pub returns-clause-full : goal.returns-clause-full
unfolding digits
returns-clause-full c = refl

pub returns-clause-absent : goal.returns-clause-absent
unfolding digits
returns-clause-absent c = refl

pub returns-clause-void : goal.returns-clause-void
unfolding digits
returns-clause-void c = refl

pub returns-clause-below_zero : goal.returns-clause-below_zero
unfolding digits
returns-clause-below_zero c = refl
