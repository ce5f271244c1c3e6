use Rattle.input_split.proofs.Computed as computed
use Rattle.input_split.proofs.laws.split_computes.Goals as goal

pub returns : goal.returns
returns c = computed.split_computed
