use Rattle.grammar.proofs.Paid as paid
use Rattle.grammar.proofs.laws.size_is_bounded.Goals as goal

pub returns : goal.returns
returns g c t m rise gain size rises gains all_pay s out a b xs none go = paid.bounded t m rise gain size rises gains all_pay s out a b xs none go
