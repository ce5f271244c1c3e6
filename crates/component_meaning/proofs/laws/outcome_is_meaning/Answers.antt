use Rattle.component_meaning.proofs.Decided as decided
use Rattle.component_meaning.proofs.laws.outcome_is_meaning.Goals as goal

pub returns-clause-component : goal.returns-clause-component
returns-clause-component c = decided.computed_component

pub returns-clause-refused : goal.returns-clause-refused
returns-clause-refused c = decided.computed_refusal

pub returns-clause-too_large : goal.returns-clause-too_large
returns-clause-too_large c = decided.computed_nodes
