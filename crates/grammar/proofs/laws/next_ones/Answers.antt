use Rattle.grammar.proofs.Ahead as ahead
use Rattle.grammar.proofs.laws.next_ones.Goals as goal

pub returns-clause-tokens : goal.returns-clause-tokens
returns-clause-tokens g c xs = ahead.tokens xs

pub returns-clause-next : goal.returns-clause-next
returns-clause-next g c xs i x y e f = ahead.next_at xs i x y e f

pub returns-clause-last : goal.returns-clause-last
returns-clause-last g c before x = ahead.last_at before x
