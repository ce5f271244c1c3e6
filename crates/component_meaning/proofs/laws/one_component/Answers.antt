use Rattle.component_meaning.proofs.Decided as decided
use Rattle.component_meaning.proofs.laws.one_component.Goals as goal

pub returns : goal.returns
returns c = decided.one_component
