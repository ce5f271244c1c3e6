use Rattle.still_graph.proofs.Begins.{begins}
use Rattle.still_graph.proofs.begun.Begun.new.Goals as goal

pub returns-clause-stands : goal.returns-clause-stands
returns-clause-stands c =
    begins c.args.component.now c.first_held.ensures.kept c.in_ok-held.held c.in_ok-names.field-0.names c.in_ok-names.field-0.graph c.new-4.result.phases c.new-5.result.items c.new-4.result.spare c.in_ok-loads.loads.loadings
    c.in_ok-held.ensures.is c.in_ok-names.ensures c.new-4.ensures c.in_ok-loads.ensures.loadings
