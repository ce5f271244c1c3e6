use Rattle.run_history.proofs.Whole.{is_merge}
use Rattle.run_history.proofs.laws.histories_are_merges.Goals as goal

pub returns : goal.returns
returns c past o base count h k f by fits v = is_merge past o base count h k f by fits v
