-- Before anything was asked.
use Rattle.std.proofs.Common.{◌≡◌, ℕ, zero, suc, List, [], ◌∷◌, map, slice_get, Some, None, ap, sym, ◌∙◌}
use Rattle.std.proofs.lemmas.List.{length-map}
use Rattle.component_items.specs.declared.component.Component.{Component}
use Rattle.async_derived.specs.declared.loading.Loading.{Loading}
use Rattle.async_derived.specs.Loads.{first_load}
use Rattle.plain_evaluation.specs.Held.{Held, arrived_held}
use Rattle.load_table.specs.Loads.{LoadOf, loads_in}
use Rattle.load_meaning.specs.Polls.{first_loadings, AreInStep}

first_at : (loads : List LoadOf) (place : ℕ) (loading : Loading) → slice_get (map (λ load. first_load) loads) place ≡ Some loading → first_load ≡ loading
first_at [] place loading is = cc
first_at (x ∷ loads) zero loading is = cc
first_at (x ∷ loads) (suc place) loading is = first_at loads place loading is

pub first_in_step : (component : Component) (held : Held) → ((id : ℕ) → arrived_held held id ≡ None) → AreInStep component (record { held = held; loadings = first_loadings component })
first_in_step component held none = record {
  paired = length-map (loads_in component) (λ (load : LoadOf). first_load);
  each = λ place load loading is at lives. (
      let same : first_load ≡ loading = first_at (loads_in component) place loading at in
      let arrived : loading.arrived ≡ None = ap (λ (l : Loading). l.arrived) (sym same) in
      record { arrived = none load.id ∙ sym arrived; last = λ key mine. cc });
}
