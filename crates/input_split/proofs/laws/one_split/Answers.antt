use Rattle.input_split.proofs.Unique as unique
use Rattle.input_split.proofs.laws.one_split.Goals as goal

pub returns : goal.returns
returns c = unique.one_split
