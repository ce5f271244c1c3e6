use Rattle.held_state.proofs.OfComponent.{goes_by_text}
use Rattle.held_state.proofs.laws.what_goes_is_what_a_disposal_takes.Goals as goal

pub returns : goal.returns
returns c = goes_by_text
