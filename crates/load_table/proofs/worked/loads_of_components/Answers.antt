use Rattle.plain_evaluation.proofs.Computes.{computes}
use Rattle.load_table.specs.Loads.{item_loads}
use Rattle.load_table.proofs.worked.loads_of_components.Goals as goal

pub returns-clause-one : goal.returns-clause-one
unfolding item_loads
returns-clause-one c = simp computes

pub returns-clause-two : goal.returns-clause-two
unfolding item_loads
returns-clause-two c = simp computes

pub returns-clause-none : goal.returns-clause-none
unfolding item_loads
returns-clause-none c = simp computes

pub returns-clause-in_areas : goal.returns-clause-in_areas
unfolding item_loads
returns-clause-in_areas c = λ texts. simp computes
