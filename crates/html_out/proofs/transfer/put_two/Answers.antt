use Rattle.outside.proofs.PutLemmas.{then_puts}
use Rattle.html_out.proofs.transfer.put_two.Goals as goal

pub returns : goal.returns
returns g c = then_puts _ _ c.args.first.now c.args.second.now c.put-2.result c.in_ok-put.ensures c.put-2.ensures
