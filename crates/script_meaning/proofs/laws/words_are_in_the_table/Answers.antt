use Rattle.script_meaning.proofs.KeptWords as words
use Rattle.script_meaning.proofs.laws.words_are_in_the_table.Goals as goal

pub returns : goal.returns
returns c = words.words_are_in_the_table
