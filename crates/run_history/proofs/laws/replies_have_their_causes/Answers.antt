use Rattle.run_history.proofs.Causes.{replies_caused}
use Rattle.run_history.proofs.laws.replies_have_their_causes.Goals as goal

pub returns : goal.returns
returns c past o base count h k f by fits = replies_caused past o base count h k f by fits
