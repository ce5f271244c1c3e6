use Rattle.component_blocks.proofs.Agrees.{taking_agrees}
use Rattle.component_blocks.proofs.laws.attributes_of_a_state.Goals as goal

pub returns : goal.returns
returns c = λ made count a. taking_agrees made count a
