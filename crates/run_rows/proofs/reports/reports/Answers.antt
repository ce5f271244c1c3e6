use Rattle.std.proofs.Common.{refl}
use Rattle.std.specs.Fmt.{digits}
use Rattle.run_rows.proofs.reports.reports.Goals as goal

pub returns-clause-branch : goal.returns-clause-branch
unfolding digits
returns-clause-branch c = refl

pub returns-clause-remainder : goal.returns-clause-remainder
unfolding digits
returns-clause-remainder c = refl

pub returns-clause-equal : goal.returns-clause-equal
unfolding digits
returns-clause-equal c = refl

pub returns-clause-diamond : goal.returns-clause-diamond
unfolding digits
returns-clause-diamond c = refl

pub returns-clause-edits : goal.returns-clause-edits
unfolding digits
returns-clause-edits c = refl

pub returns-clause-area : goal.returns-clause-area
unfolding digits
returns-clause-area c = refl

pub returns-clause-pumps : goal.returns-clause-pumps
unfolding digits
returns-clause-pumps c = refl

pub returns-clause-gone : goal.returns-clause-gone
unfolding digits
returns-clause-gone c = refl
