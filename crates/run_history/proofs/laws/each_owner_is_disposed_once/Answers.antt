use Rattle.run_history.proofs.Disposals.{disposed_once}
use Rattle.run_history.proofs.laws.each_owner_is_disposed_once.Goals as goal

pub returns : goal.returns
returns c past o base count h k f by fits = disposed_once past o base count h k f by fits
