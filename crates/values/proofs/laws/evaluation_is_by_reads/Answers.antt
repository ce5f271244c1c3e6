use Rattle.values.proofs.ReadsLemmas.{same_by_reads}
use Rattle.values.proofs.laws.evaluation_is_by_reads.Goals as goal

pub returns : goal.returns
returns c = same_by_reads
