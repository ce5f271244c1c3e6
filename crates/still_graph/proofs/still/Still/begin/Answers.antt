use Rattle.std.proofs.Common.{◌∙◌, ap}
use Rattle.phase_graph.specs.Graph.{GraphState}
use Rattle.still_graph.specs.Still.{StillState}
use Rattle.still_graph.proofs.Stays.{stays_settled, opens, opens_behind}
use Rattle.still_graph.proofs.still.Still.begin.Goals as goal

pub invariant_of-self-in_err-begin : goal.invariant_of-self-in_err-begin
invariant_of-self-in_err-begin c = (stays_settled _ c.self.inside.journal.spare c.ready.new.self.spare c.begin.new.self c.ready.new.self.phases c.self.invariant.0 (ap (λ (x : StillState). x.stage) c.self.view_is ∙ c.requires.settled) c.in_err-begin.ensures.unchanged c.ready.ensures.phases, c.self.invariant.1, c.self.invariant.2)

pub invariant_of-self-2 : goal.invariant_of-self-2
invariant_of-self-2 c = (opens _ c.self.inside.journal.spare c.ready.new.self.spare c.begin.new.self c.ready.new.self.phases c.self.invariant.0 (ap (λ (x : StillState). x.stage) c.self.view_is ∙ c.requires.settled) (ap (λ (g : GraphState). g.plan) c.in_ok-begin.ensures.opened) c.in_ok-begin.ensures.way c.in_ok-ready.ensures.room, c.self.invariant.1, c.self.invariant.2)

pub returns-clause-opened : goal.returns-clause-opened
returns-clause-opened c = opens_behind _ c.args.self.now c.self.inside.journal.spare c.begin.new.self c.ready.new.self.phases c.self.invariant.0 (ap (λ (x : StillState). x.stage) c.self.view_is ∙ c.requires.settled) c.self.view_is c.ready.ensures.phases c.in_ok-begin.ensures.way
