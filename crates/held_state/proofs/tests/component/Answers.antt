use Rattle.std.proofs.Common.{◌≡◌, length, arith}
use Rattle.component_items.proofs.WorkedKept.{worked}
use Rattle.held_state.proofs.tests.component.Goals as goal

pub new-requires : goal.new-requires
new-requires c =
    let twelve : length c.in_ok-texts.texts ≡ 12 = omega arith in
    rw c.in_ok-items.ensures (worked _ twelve)
