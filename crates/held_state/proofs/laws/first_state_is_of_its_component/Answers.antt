use Rattle.held_state.proofs.OfComponent.{first_is_of}
use Rattle.held_state.proofs.laws.first_state_is_of_its_component.Goals as goal

pub returns : goal.returns
returns c = first_is_of
