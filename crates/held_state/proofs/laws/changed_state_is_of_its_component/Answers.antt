use Rattle.held_state.proofs.OfComponent.{code_is_of, key_is_of, rows_are_of}
use Rattle.held_state.proofs.laws.changed_state_is_of_its_component.Goals as goal

pub returns-clause-code : goal.returns-clause-code
returns-clause-code c = code_is_of

pub returns-clause-key : goal.returns-clause-key
returns-clause-key c = key_is_of

pub returns-clause-rows : goal.returns-clause-rows
returns-clause-rows c = rows_are_of
