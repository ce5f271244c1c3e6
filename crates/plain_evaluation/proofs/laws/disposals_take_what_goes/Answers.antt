use Rattle.plain_evaluation.specs.Killed.{going_with}
use Rattle.plain_evaluation.proofs.Nesting.{holding_left, live_left}
use Rattle.plain_evaluation.proofs.laws.disposals_take_what_goes.Goals as goal

pub returns-clause-holdings : goal.returns-clause-holdings
returns-clause-holdings c = λ component held owner id. holding_left (going_with component owner) held id

pub returns-clause-owners : goal.returns-clause-owners
returns-clause-owners c = λ component held owner other. live_left (going_with component owner) held other
