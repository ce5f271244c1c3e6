use Rattle.held_state.proofs.OfComponent.{killed_is_of}
use Rattle.held_state.proofs.laws.killed_state_is_of_its_component.Goals as goal

pub returns : goal.returns
returns c = killed_is_of
