use Rattle.report_text.proofs.LineLemmas.{lines_of_lanes}
use Rattle.report_text.proofs.laws.answers_have_the_lines_of_their_lanes.Goals as goal

pub returns : goal.returns
returns c texts phase lanes = lines_of_lanes texts phase 1 lanes
