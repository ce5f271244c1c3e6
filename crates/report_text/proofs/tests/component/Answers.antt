use Rattle.std.proofs.Common.{◌≡◌, length, arith}
use Rattle.report_text.proofs.WorkedKept.{two_loads_kept}
use Rattle.report_text.proofs.tests.component.Goals as goal

pub new-requires : goal.new-requires
new-requires c =
    let six : length c.in_ok-texts.texts ≡ 6 = omega arith in
    rw c.in_ok-items.ensures (two_loads_kept _ six)
