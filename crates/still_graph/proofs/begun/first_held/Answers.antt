use Rattle.std.proofs.Common.{sym, subst}
use Rattle.std.proofs.lemmas.Result.{IfOk-weaker}
use Rattle.held_state.specs.State.{IsOf}
use Rattle.held_state.proofs.OfComponent.{first_is_of}
use Rattle.still_graph.proofs.begun.first_held.Goals as goal

pub returns-clause-fits : goal.returns-clause-fits
returns-clause-fits c = IfOk-weaker c.first.result _ _ (λ held is. subst (IsOf c.args.component.now) (sym is) (first_is_of c.args.component.now c.items-items.ensures.kept)) c.first.ensures
