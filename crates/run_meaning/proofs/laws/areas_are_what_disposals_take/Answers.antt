use Rattle.run_meaning.proofs.Areas.{area_goes, goes_area}
use Rattle.run_meaning.proofs.laws.areas_are_what_disposals_take.Goals as goal

pub returns : goal.returns
returns c component held area n kept = (area_goes component kept held area n, goes_area component kept held area n)
