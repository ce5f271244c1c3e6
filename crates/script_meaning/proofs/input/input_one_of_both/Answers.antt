use Rattle.script_meaning.proofs.InputEither as either
use Rattle.script_meaning.proofs.input.input_one_of_both.Goals as goal

pub returns : goal.returns
returns c = either.one_of_both
