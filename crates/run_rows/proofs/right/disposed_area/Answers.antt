use Rattle.std.proofs.Common.{refl}
use Rattle.run_rows.specs.Rows.{area_opened}
use Rattle.run_rows.proofs.Area.{disposed_twice}
use Rattle.run_rows.proofs.right.disposed_area.Goals as goal

pub returns : goal.returns
returns c = disposed_twice area_opened.held area_opened.places area_opened.values area_opened.target area_opened.owner_of refl refl
