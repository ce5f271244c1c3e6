use Rattle.std.proofs.Common.{◌∙◌, ap}
use Rattle.sources.specs.declared.body.Read.{Read}
use Rattle.work_order.specs.Order.{compared_frame}
use Rattle.still_readers.proofs.Lists.{one_at}
use Rattle.still_rows.proofs.moves.looked.Goals as goal

pub returns : goal.returns
returns c = λ read at. c.compared.ensures ∙ ap (λ (q : Read). compared_frame c.args.frame q.version c.args.source.now.version) (one_at c.read_at-read.result read (rw c.as_slice.ensures at c.read_at-read.ensures) at)
