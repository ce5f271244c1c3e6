use Rattle.component_meaning.proofs.KeptTexts as kept
use Rattle.component_meaning.proofs.kept.texts_are_in_the_table.Goals as goal

pub returns : goal.returns
returns c = kept.texts_are_in_the_table
