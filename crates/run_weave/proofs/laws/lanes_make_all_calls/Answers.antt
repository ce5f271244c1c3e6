use Rattle.run_weave.proofs.Whole.{lanes_speak}
use Rattle.run_weave.proofs.laws.lanes_make_all_calls.Goals as goal

pub returns : goal.returns
returns c o calls lanes all each = lanes_speak o calls lanes all each
