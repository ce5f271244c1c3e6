use Rattle.std.proofs.Common.{◌∙◌, ap}
use Rattle.run_history.specs.Calls.{dispose}
use Rattle.still_graph.specs.Still.{StillState}
use Rattle.still_graph.proofs.Stays.{call_stays, call_made}
use Rattle.still_graph.proofs.still.Still.dispose.Goals as goal

pub invariant_of-self : goal.invariant_of-self
invariant_of-self c = (call_stays _ c.self.inside.journal.spare c.dispose.new.self 0 (dispose c.args.owner c.dispose.result) c.self.invariant.0 (ap (λ (x : StillState). x.stage) c.self.view_is ∙ c.requires.«open») c.dispose.ensures.stays.plan (λ ran g way. c.dispose.ensures.call _ g 0 way), c.self.invariant.1, c.self.invariant.2)

pub returns-clause-call : goal.returns-clause-call
returns-clause-call c = λ past g pass at. call_made _ c.args.self.now c.dispose.new.self pass (dispose c.args.owner c.dispose.result) c.self.view_is (λ ran h way. c.dispose.ensures.call _ h pass way) past g at
