-- Loads that are in step with one held state are in step with what a phase leaves of it.
use Rattle.std.proofs.Common.{◌≡◌, ℕ, Bool, true, List, Option, Some, slice_get, sym, ap, subst, ◌∙◌}
use Rattle.component_items.specs.declared.component.Component.{Component}
use Rattle.async_derived.specs.declared.loading.Loading.{Loading}
use Rattle.plain_evaluation.specs.Held.{Held, is_live, arrived_held}
use Rattle.plan_meaning.specs.Told.{owner_of_id}
use Rattle.held_state.specs.State.{HeldState, with_held}
use Rattle.load_meaning.specs.Polls.{IsInStep, AreInStep}

-- where each owner that is live was, and each live load has the key that it had
pub stays_in_step : (component : Component) (old new : Held) (loadings : List Loading)
    → ((owner : ℕ) → is_live new owner ≡ true → is_live old owner ≡ true)
    → ((id : ℕ) → is_live new (owner_of_id component id) ≡ true → arrived_held new id ≡ arrived_held old id)
    → AreInStep component (record { held = old; loadings = loadings }) → AreInStep component (record { held = new; loadings = loadings })
stays_in_step component old new loadings lived same before = record {
  paired = before.paired;
  each = λ place load loading at_load at_loading live. (
      let was = before.each place load loading at_load at_loading (lived (owner_of_id component load.id) live) in
      record { arrived = same load.id live ∙ was.arrived; last = was.last });
}

-- a state that is another in what is held alone
pub held_alone : (old state : HeldState) (held : Held) → state ≡ with_held old held → with_held old state.held ≡ state
held_alone old state held is = ap (λ (s : HeldState). with_held old s.held) is ∙ sym is
