use Rattle.run_history.proofs.Steps.{plain_same}
use Rattle.run_history.proofs.laws.values_stay_where_nothing_is_written.Goals as goal

pub returns : goal.returns
returns c s es block none row = plain_same s es block none row
