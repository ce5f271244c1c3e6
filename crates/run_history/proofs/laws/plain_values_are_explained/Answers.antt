use Rattle.run_history.proofs.Plain.{plain_explained}
use Rattle.run_history.proofs.laws.plain_values_are_explained.Goals as goal

pub returns : goal.returns
returns c past o es drawn lawful journal row node e = plain_explained past o es drawn lawful journal row node e
