-- Held state that takes what the rows of its layout show.
use Rattle.std.proofs.Common.{◌≡◌, List, slice_get, refl, sym, ap, ◌∙◌}
use Rattle.component_items.specs.declared.component.Component.{Component}
use Rattle.sources.specs.Rows.{value_in}
use Rattle.plain_evaluation.specs.Held.{Held}
use Rattle.plain_evaluation.specs.Place.{Place}
use Rattle.plain_evaluation.specs.Written.{state_of, written}
use Rattle.plan_meaning.specs.Layout.{rows_of, places_of, plan_of}
use Rattle.held_state.specs.State.{HeldState, IsOf, with_held}
use Rattle.held_rows.specs.Shown.{held_shown}
use Rattle.held_rows.proofs.Shows.{shows_held}
use Rattle.phase_graph.specs.Graph.{GraphState}
use Rattle.next_layout.specs.Next.{IsLaidOut, LoadsStay}
use Rattle.next_layout.specs.Sources.{SourcesAreSaid}
use Rattle.next_layout.proofs.Shown.{shown_twice, same_places, same_plan, same_loads}

module _ (component : Component) (old : HeldState) (places : List Place) (graph : GraphState) (laid : IsLaidOut component old places graph)
    (state : HeldState) (held_is : state ≡ with_held old (held_shown places (value_in graph.rows) old.held)) (of : IsOf component state) where
  shown : state.held ≡ held_shown places (value_in graph.rows) old.held
  shown = ap (λ (s : HeldState). s.held) held_is

  pub laid_still : IsLaidOut component state places graph
  laid_still = record {
    kept = laid.kept;
    fits = of;
    named = laid.named ∙ sym (same_places places (value_in graph.rows) component old.held) ∙ ap (λ (h : Held). places_of (written component h)) (sym shown);
    plan = laid.plan ∙ sym (same_plan places (value_in graph.rows) component old.held) ∙ ap (λ (h : Held). plan_of component (state_of h)) (sym shown);
  }

  twice : held_shown (places_of (written component state.held)) (value_in graph.rows) state.held ≡ state.held
  twice =
      ap (λ (ps : List Place). held_shown ps (value_in graph.rows) state.held) (sym laid_still.named)
      ∙ ap (held_shown places (value_in graph.rows)) shown
      ∙ shown_twice places (value_in graph.rows) old.held
      ∙ sym shown

  pub said_still : SourcesAreSaid component (state_of state.held) graph.rows
  said_still = shows_held component state laid.kept of (value_in graph.rows) twice

  pub loads_still : LoadsStay component (state_of old.held) (state_of state.held) graph graph
  loads_still n w pairs key at says =
      let one = same_loads places (value_in graph.rows) component old.held n w pairs key (ap (λ (h : Held). slice_get (rows_of (written component h)) n) (sym shown) ∙ at) says in
      record { row = n; line = one.0; at_line = one.1; place = one.2; says = one.3; value = refl }
