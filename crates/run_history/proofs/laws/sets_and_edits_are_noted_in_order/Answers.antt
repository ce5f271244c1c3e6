use Rattle.run_history.proofs.Numbers.{noted_in_order}
use Rattle.run_history.proofs.laws.sets_and_edits_are_noted_in_order.Goals as goal

pub returns : goal.returns
returns c past o base count h k f by fits v = noted_in_order past o base count h k f v
