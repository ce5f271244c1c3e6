use Rattle.std.proofs.Common.{ap, ◌∙◌}
use Rattle.plain_evaluation.specs.Rows.{mails}
use Rattle.plain_evaluation.proofs.Computes.{computes}
use Rattle.load_table.specs.Loads.{item_loads}
use Rattle.load_meaning.specs.Polls.{all_promptly}
use Rattle.load_meaning.proofs.Rows.{mails_starts, mails_round}
use Rattle.load_meaning.proofs.worked.loads_arrive_together.Goals as goal

pub returns-clause-both : goal.returns-clause-both
returns-clause-both c = ap (all_promptly mails) mails_starts ∙ mails_round

pub returns-clause-enough : goal.returns-clause-enough
unfolding item_loads
returns-clause-enough c = simp computes
