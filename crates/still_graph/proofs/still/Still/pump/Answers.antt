use Rattle.std.proofs.Common.{◌∙◌, refl, ap}
use Rattle.run_history.specs.Calls.{pump}
use Rattle.still_graph.specs.Still.{StillState}
use Rattle.still_graph.proofs.Stays.{call_stays, call_made}
use Rattle.still_graph.proofs.Targets.{are_home}
use Rattle.still_graph.proofs.still.Still.pump.Goals as goal

pub invariant_of-self : goal.invariant_of-self
invariant_of-self c = (call_stays _ c.self.inside.journal.spare c.pump.new.self 0 (pump c.pump.result) c.self.invariant.0 (ap (λ (x : StillState). x.stage) c.self.view_is ∙ c.requires.«open») c.pump.ensures.stays.plan (λ ran g way. c.pump.ensures.call _ g 0 (are_home _ _ c.self.invariant.0 _ refl refl) way), c.self.invariant.1, c.self.invariant.2)

pub returns-clause-call : goal.returns-clause-call
returns-clause-call c = λ past g pass at. call_made _ c.args.self.now c.pump.new.self pass (pump c.pump.result) c.self.view_is (λ ran h way. c.pump.ensures.call _ h pass (are_home _ _ c.self.invariant.0 _ refl refl) way) past g at
