use Rattle.component_blocks.proofs.Agrees.{holding_agrees, closing_agrees}
use Rattle.component_blocks.proofs.laws.parts_of_a_state.Goals as goal

pub returns-clause-item : goal.returns-clause-item
returns-clause-item c = λ item a. holding_agrees item a

pub returns-clause-closed : goal.returns-clause-closed
returns-clause-closed c = λ a. closing_agrees a
