use Rattle.run_meaning.specs.Causes.{HasRoom}
use Rattle.run_history.proofs.Room.{has_room}
use Rattle.run_weave.proofs.Whole.{of_calls}
use Rattle.run_weave.proofs.laws.calls_have_room.Goals as goal

pub returns : goal.returns
returns c past o base calls k lanes lead speak p fits = of_calls (λ past p. HasRoom p) (λ past o base count h k f by fits. has_room past o base count h k f by fits) past o base calls k lanes lead speak p fits
