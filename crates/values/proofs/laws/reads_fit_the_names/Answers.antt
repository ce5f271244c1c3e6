use Rattle.values.proofs.NamesLemmas.{reads_fit}
use Rattle.values.proofs.laws.reads_fit_the_names.Goals as goal

pub returns : goal.returns
returns c = reads_fit
