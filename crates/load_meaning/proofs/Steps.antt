-- The laws of polls.
use Rattle.std.proofs.Common.{◌≡◌, ℕ, suc, ◌<◌, ◌⊎◌, inl, inr, zero, Bool, true, false, List, [], ◌∷◌, ◌++◌, map, length, slice_get, Option, Some, None, sym, ap, subst, ◌∙◌, arith}
use Rattle.std.specs.Prelude.{slice_index_or}
use Rattle.std.proofs.lemmas.List.{append-nil}
use Rattle.std.proofs.lemmas.Option.{slice_get_within}
use Rattle.values.specs.declared.code.Code.{Code}
use Rattle.component_items.specs.declared.component.Component.{Component}
use Rattle.component_items.specs.Kept.{IsKept}
use Rattle.outside.specs.Asks.{Ask}
use Rattle.outside.specs.declared.traits.Arrival.{Arrival}
use Rattle.async_derived.specs.declared.loading.Loading.{Loading}
use Rattle.plain_evaluation.specs.Held.{Held, arrived_held}
use Rattle.plain_evaluation.specs.Place.{outside}
use Rattle.plain_evaluation.specs.Scratch.{scratch_in, pending}
use Rattle.plain_evaluation.specs.Written.{State, written, state_of}
use Rattle.plain_evaluation.proofs.Fitting.{rows_of_held}
use Rattle.plan_meaning.specs.Layout.{rows_of, places_of, plan_of}
use Rattle.plan_meaning.specs.Told.{owner_of_id}
use Rattle.load_table.specs.Loads.{LoadOf, loads_in, is_live_load}
use Rattle.load_table.proofs.Pending.{pending_is}
use Rattle.held_state.specs.State.{HeldState, IsOf, with_held}
use Rattle.run_meaning.specs.Run.{held_arrived}
use Rattle.load_meaning.specs.declared.late.Late.{Late}
use Rattle.load_meaning.specs.Arrivals.{text_arrived}
use Rattle.load_meaning.specs.Polls.{Progress, key_of, AllPolled, AreInStep}
use Rattle.load_meaning.proofs.Arrives.{Arrives, arrives_are, are_arrivals, asked_alike}
use Rattle.load_meaning.proofs.Keys.{AmongLoads, ids_apart, key_stays, parts_at, among_at}
use Rattle.load_meaning.proofs.Loadings.{Stands, poll_arrived, poll_stands}
use Rattle.load_meaning.proofs.Polls.{some_at, WasPolled, AreDone, all_done}
use Rattle.load_meaning.proofs.Texts.{text_alike, rows_arrived, places_alike, plan_alike}

-- ---- polls

pub live_alike : (component : Component) (held later : Held) (load : LoadOf) → Arrives held later → is_live_load component (state_of later) load ≡ is_live_load component (state_of held) load
live_alike component held later load arrives = ap (λ (flags : List Bool). slice_index_or flags (owner_of_id component load.id) false) arrives.live

module _ {S : Type 0} (answers : S → Ask → Arrival → S → Type 0) (component : Component) (state : HeldState) (old new : Progress) (late : List (ℕ × Late)) (before after : S) (kept : IsKept component) (of : IsOf component (with_held state old.held)) (polls : AllPolled answers component old new late before after) where
  pub done : AreDone answers component state old (loads_in component) new late
  done = all_done answers component kept state old before (loads_in component) new late after [] of (sym (append-nil (loads_in component))) polls

  pub arrivals : new.held ≡ held_arrived (arrived_held new.held) old.held
  arrivals = arrives_are old.held new.held done.arrives

  pub still_of_it : IsOf component (with_held state new.held)
  still_of_it = done.of

  pub late_pending : map (λ l. l.0) late ≡ pending component new.held
  late_pending = done.late_are ∙ sym (pending_is component (state_of new.held) kept done.of.owners.areas)

  module _ (in_step : AreInStep component old) where
    -- what became of a live load
    pub became : (place : ℕ) (load : LoadOf) (loading : Loading) → slice_get (loads_in component) place ≡ Some load → slice_get new.loadings place ≡ Some loading → is_live_load component (state_of new.held) load ≡ true → (was : Loading) × (slice_get old.loadings place ≡ Some was) × WasPolled answers component new.held load was loading × Stands was
    became place load loading is at lives =
        let within = slice_get_within (loads_in component) place load is in
        let paired = in_step.paired in
        let one = some_at old.loadings place (omega (arith, within, paired)) in
        let lived = sym (live_alike component old.held new.held load done.arrives) ∙ lives in
        (one.0, one.1, done.each place load one.0 loading is one.1 at lives, (in_step.each place load one.0 is one.1 lived).last)

    pub polled_in_step : AreInStep component new
    polled_in_step = record {
      paired = done.paired;
      each = λ place load loading is at lives. (
          let one = became place load loading is at lives in
          record {
            arrived = one.2.arrived;
            last = subst Stands (sym one.2.polled.state) (poll_stands one.0 (key_of component new.held load) one.2.came one.3);
          });
    }

    pub arrived_or_not : (place : ℕ) (load : LoadOf) (loading : Loading) → slice_get (loads_in component) place ≡ Some load → slice_get new.loadings place ≡ Some loading → is_live_load component (state_of new.held) load ≡ true → (loading.arrived ≡ None) ⊎ (loading.arrived ≡ Some (key_of component new.held load))
    arrived_or_not place load loading is at lives =
        let one = became place load loading is at lives in
        subst (λ (l : Loading). (l.arrived ≡ None) ⊎ (l.arrived ≡ Some (key_of component new.held load))) (sym one.2.polled.state) (poll_arrived one.0 (key_of component new.held load) one.2.came one.3)

-- ---- keys

pub keys_follow : (component : Component) (state : HeldState) (later : Held) (keys : ℕ → Option Code) → IsKept component → IsOf component state → later ≡ held_arrived keys state.held → (place : ℕ) (load : LoadOf) → slice_get (loads_in component) place ≡ Some load → is_live_load component (state_of state.held) load ≡ true → ((earlier : ℕ) (other : LoadOf) → earlier < place → slice_get (loads_in component) earlier ≡ Some other → is_live_load component (state_of state.held) other ≡ true → arrived_held later other.id ≡ arrived_held state.held other.id) → key_of component later load ≡ key_of component state.held load
keys_follow component state later keys kept of arrived place load is lives same =
    ap (λ (s : State). scratch_in component s (outside (suc load.id))) (asked_alike state.held later arrives)
    ∙ key_stays component (state_of state.held) kept (rows_of_held component state.held of.fits) of.owners.areas parts.0 parts.1 load parts.2 lives (arrived_held later) (λ other among live. (
    let one = among_at parts.0 (load ∷ parts.1) other among in
    let long = parts.3 in
    same one.0 other (omega (arith, one.1, long)) (ap (λ (loads : List LoadOf). slice_get loads one.0) parts.2 ∙ one.2) live))
  where
    arrives : Arrives state.held later
    arrives = subst (Arrives state.held) (sym arrived) (are_arrivals state.held keys)

    parts : (before : List LoadOf) × (after : List LoadOf) × (loads_in component ≡ before ++ load ∷ after) × (length before ≡ place)
    parts = parts_at (loads_in component) place load is

before_it : (before after : List LoadOf) (place : ℕ) (other : LoadOf) → place < length before → slice_get (before ++ after) place ≡ Some other → AmongLoads before other
before_it [] after place other within is = absurd (omega arith)
before_it (x ∷ before) after zero other within is = let here : x ≡ other = cc in inl here
before_it (x ∷ before) after (suc place) other within is = inr (before_it before after place other (omega arith) is)

pub ids_differ : (component : Component) (state : HeldState) → IsKept component → IsOf component state → (place earlier : ℕ) (load other : LoadOf) → earlier < place → slice_get (loads_in component) place ≡ Some load → slice_get (loads_in component) earlier ≡ Some other → is_live_load component (state_of state.held) load ≡ true → is_live_load component (state_of state.held) other ≡ true → other.id ≡ load.id → ⊥
ids_differ component state kept of place earlier load other before is was lives lived =
    let parts = parts_at (loads_in component) place load is in
    let long = parts.3 in
    ids_apart component (state_of state.held) kept (rows_of_held component state.held of.fits) of.owners.areas parts.0 parts.1 load parts.2 lives other (before_it parts.0 (load ∷ parts.1) earlier other (omega (arith, before, long)) (ap (λ (loads : List LoadOf). slice_get loads earlier) (sym parts.2) ∙ was)) lived

-- ---- the layout

module _ (component : Component) (held later : Held) (keys : ℕ → Option Code) (arrived : later ≡ held_arrived keys held) where
  they_arrive : Arrives held later
  they_arrive = subst (Arrives held) (sym arrived) (are_arrivals held keys)

  pub rows_follow : rows_of (written component later) ≡ text_arrived (arrived_held later) (rows_of (written component held))
  rows_follow = ap rows_of (text_alike component held later they_arrive) ∙ rows_arrived (arrived_held later) (written component held)

  pub places_stay : places_of (written component later) ≡ places_of (written component held)
  places_stay = ap places_of (text_alike component held later they_arrive) ∙ places_alike (arrived_held later) (written component held)

  pub plan_stays : plan_of component (state_of later) ≡ plan_of component (state_of held)
  plan_stays = plan_alike component held later they_arrive
