use Rattle.std.proofs.Common.{arith}
use Rattle.still_readers.proofs.Lists.{at_within, on_ok}
use Rattle.still_rows.proofs.calls.settle_memos.Goals as goal

pub settle_span-requires-clause-behind : goal.settle_span-requires-clause-behind
settle_span-requires-clause-behind c = λ i node row l n r k. absurd (omega arith)

pub returns-clause-settled : goal.returns-clause-settled
returns-clause-settled c = on_ok c.settle_span.result (λ settled i node row n r memo. settled i node row (let w = at_within c.args.nodes.now i node n in omega arith) n r memo) c.settle_span.ensures.settled
