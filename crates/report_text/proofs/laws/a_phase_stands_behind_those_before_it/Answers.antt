use Rattle.std.proofs.Common.{arith}
use Rattle.report_text.proofs.LineLemmas.{report_from-push}
use Rattle.report_text.proofs.laws.a_phase_stands_behind_those_before_it.Goals as goal

pub returns : goal.returns
returns c texts phases p = report_from-push texts 1 _ phases p (omega arith)
