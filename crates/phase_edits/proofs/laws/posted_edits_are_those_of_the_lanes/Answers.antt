use Rattle.phase_edits.proofs.Posted.{same_edits}
use Rattle.phase_edits.proofs.laws.posted_edits_are_those_of_the_lanes.Goals as goal

pub returns : goal.returns
returns c = λ p posts are. same_edits p.lanes posts are p.entries
