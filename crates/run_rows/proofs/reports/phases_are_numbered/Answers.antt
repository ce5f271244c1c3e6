use Rattle.std.proofs.Common.{refl}
use Rattle.std.specs.Fmt.{digits}
use Rattle.run_rows.proofs.reports.phases_are_numbered.Goals as goal

pub returns : goal.returns
unfolding digits
returns c = refl
