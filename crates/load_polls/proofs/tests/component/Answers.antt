use Rattle.std.proofs.Common.{◌≡◌, length, arith}
use Rattle.load_polls.proofs.WorkedKept.{two_loads_kept}
use Rattle.load_polls.proofs.tests.component.Goals as goal

pub new-requires : goal.new-requires
new-requires c =
    let five : length c.in_ok-texts.texts ≡ 5 = omega arith in
    rw c.in_ok-items.ensures (two_loads_kept _ five)
