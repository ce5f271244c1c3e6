use Rattle.run_history.proofs.Journal.{journal_of_history}
use Rattle.run_history.proofs.laws.journal_is_well_formed.Goals as goal

pub returns : goal.returns
returns c past o base count h k f by fits = journal_of_history past o h k f
