use Rattle.std.proofs.Common.{◌≡◌, length, arith}
use Rattle.plain_page.proofs.TitlesKept.{titles_kept}
use Rattle.plain_page.proofs.tests.component.Goals as goal

pub new-requires : goal.new-requires
new-requires c =
    let seven : length c.in_ok-texts.texts ≡ 7 = omega arith in
    rw c.in_ok-items.ensures (titles_kept _ seven)
