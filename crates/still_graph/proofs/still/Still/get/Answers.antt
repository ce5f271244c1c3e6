use Rattle.std.proofs.Common.{◌∙◌, ap}
use Rattle.run_history.specs.Calls.{get}
use Rattle.still_graph.specs.Still.{StillState}
use Rattle.still_graph.proofs.Stays.{call_stays, call_made}
use Rattle.still_graph.proofs.still.Still.get.Goals as goal

pub invariant_of-self : goal.invariant_of-self
invariant_of-self c = (call_stays _ c.self.inside.journal.spare c.get.new.self 0 (get c.args.node c.get.result) c.self.invariant.0 (ap (λ (x : StillState). x.stage) c.self.view_is ∙ c.requires.«open») c.get.ensures.stays.plan (λ ran g way. c.get.ensures.call _ g 0 way), c.self.invariant.1, c.self.invariant.2)

pub returns-clause-call : goal.returns-clause-call
returns-clause-call c = λ past g pass at. call_made _ c.args.self.now c.get.new.self pass (get c.args.node c.get.result) c.self.view_is (λ ran h way. c.get.ensures.call _ h pass way) past g at
