use Rattle.std.proofs.Common.{◌∙◌, ap}
use Rattle.run_history.specs.Calls.{edit}
use Rattle.still_graph.specs.Still.{StillState}
use Rattle.still_graph.proofs.Stays.{call_stays, call_made}
use Rattle.still_graph.proofs.still.Still.edit.Goals as goal

pub invariant_of-self : goal.invariant_of-self
invariant_of-self c = (call_stays _ c.self.inside.journal.spare c.edit.new.self c.args.pass (edit c.args.owner c.args.asked c.edit.result) c.self.invariant.0 (ap (λ (x : StillState). x.stage) c.self.view_is ∙ c.requires.«open») c.edit.ensures.stays.plan (λ ran g way. c.edit.ensures.call _ g way), c.self.invariant.1, c.self.invariant.2)

pub returns-clause-call : goal.returns-clause-call
returns-clause-call c = λ past g at. call_made _ c.args.self.now c.edit.new.self c.args.pass (edit c.args.owner c.args.asked c.edit.result) c.self.view_is (λ ran h way. c.edit.ensures.call _ h way) past g at
