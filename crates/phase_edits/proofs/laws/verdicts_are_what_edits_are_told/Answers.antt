use Rattle.phase_edits.proofs.Numbers.{are_told}
use Rattle.phase_edits.proofs.laws.verdicts_are_what_edits_are_told.Goals as goal

pub returns : goal.returns
returns c = are_told
