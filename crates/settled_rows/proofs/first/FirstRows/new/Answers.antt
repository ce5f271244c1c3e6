use Rattle.std.proofs.Common.{List, map, sym, ap, subst, ◌∙◌}
use Rattle.values.specs.declared.code.Code.{Code}
use Rattle.values.specs.Plan.{IsLawful}
use Rattle.plain_evaluation.specs.Held.{value_held}
use Rattle.plain_evaluation.specs.Place.{Place}
use Rattle.plain_evaluation.specs.Written.{state_of, written}
use Rattle.plain_evaluation.proofs.Fitting.{rows_of_held}
use Rattle.plan_meaning.specs.Layout.{places_of, plan_of}
use Rattle.plan_meaning.proofs.Owners.{lawful}
use Rattle.held_state.specs.State.{HeldState}
use Rattle.settled_rows.specs.Rows.{IsFirstGraph}
use Rattle.settled_rows.proofs.Begins.{is_first}
use Rattle.settled_rows.proofs.first.FirstRows.new.Goals as goal

pub first_graph-requires-clause-lawful : goal.first_graph-requires-clause-lawful
first_graph-requires-clause-lawful c = subst IsLawful (sym c.in_ok-plan.ensures.plan) (lawful c.args.component.now (state_of c.args.held.now.held) c.requires.kept (rows_of_held c.args.component.now c.args.held.now.held c.requires.fits.fits))

pub returns : goal.returns
returns c =
    let component = c.args.component.now in
    let codes = c.in_ok-codes.ensures ∙ ap (λ (h : HeldState). map (λ (p : Place). value_held h.held p.id) c.in_ok-plan.field-0.names) c.requires.state in
    is_first component c.requires.kept c.in_ok-plan.field-0.plan c.in_ok-codes.codes.items c.in_ok-plan.field-0.names c.in_ok-graph.graph
    (c.in_ok-plan.ensures.plan ∙ ap (λ (h : HeldState). plan_of component (state_of h.held)) c.requires.state)
    (c.in_ok-plan.ensures.names ∙ ap (λ (h : HeldState). places_of (written component h.held)) c.requires.state)
    codes
    (subst (λ (cs : List Code). IsFirstGraph c.in_ok-plan.field-0.plan cs c.in_ok-graph.graph) c.as_slice.ensures.value c.in_ok-graph.ensures)
