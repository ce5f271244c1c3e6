use Rattle.std.proofs.Common.{arith}
use Rattle.std.proofs.lemmas.Grind.{common_steps}
use Rattle.script_draft.proofs.LastLanes.{lanes_last}
use Rattle.script_draft.proofs.phases.lanes.Goals as goal

pub returns : goal.returns
returns c = grind (arith, common_steps, lanes_last c.args.script.now)
