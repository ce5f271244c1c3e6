use Rattle.outside.proofs.ByteLemmas.{LosesFront-more, OnErr-always}
use Rattle.outside.proofs.transfer.read_up_to.Goals as goal

pub returns-in_err-read_once-clause-lost : goal.returns-in_err-read_once-clause-lost
returns-in_err-read_once-clause-lost g c =
    OnErr-always _ (LosesFront-more _ _ _ c.loop-bytes.bytes.items c.loop-bytes.invariant.moved c.in_err-read_once.ensures.lost)
