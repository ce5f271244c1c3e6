-- Rounds of polls of a prompt loader.
use Rattle.std.proofs.Common.{◌≡◌, ℕ, zero, suc, ◌+◌, ◌^◌, ◌<◌, ◌≤◌, ◌&&◌, not, if◌then◌else◌, Bool, true, false, List, [], ◌∷◌, map, length, get_or, take, slice_get, Some, refl, sym, ap, subst, ◌∙◌, arith}
use Rattle.std.specs.Prelude.{fold}
use Rattle.std.specs.List.{filter, sum_by}
use Rattle.std.proofs.lemmas.List.{take_all}
use Rattle.std.proofs.lemmas.List.Sums.{sum_by_more}
use Rattle.std.proofs.lemmas.Option.{slice_get-get_or, slice_get_within, get_or_from_slice_get}
use Rattle.values.specs.declared.code.Code.{Code}
use Rattle.component_items.specs.declared.component.Component.{Component}
use Rattle.component_items.specs.Kept.{IsKept}
use Rattle.async_derived.specs.declared.loading.Loading.{Loading}
use Rattle.async_derived.specs.Loads.{after_poll, prompt_poll, first_load}
use Rattle.plain_evaluation.specs.Held.{Held, arrived_held}
use Rattle.plain_evaluation.specs.Scratch.{has_arrived, pending}
use Rattle.plain_evaluation.specs.Written.{state_of}
use Rattle.load_table.specs.Loads.{LoadOf, loads_in, is_live_load, is_pending, pending_among}
use Rattle.load_table.proofs.Pending.{pending_is}
use Rattle.held_state.specs.State.{HeldState, IsOf, with_held}
use Rattle.run_meaning.specs.Run.{held_arrived}
use Rattle.load_meaning.specs.Polls.{Progress, key_of, AreInStep, AnswersPromptly, all_promptly, rounds_promptly, enough_rounds}
use Rattle.load_meaning.proofs.Arrives.{Arrives, arrives_itself, arrives_on, arrives_are, arrived_twice}
use Rattle.load_meaning.proofs.Loadings.{is_the_key, arrived_key}
use Rattle.load_meaning.proofs.Promptly.{came_promptly, all_polled}
use Rattle.load_meaning.proofs.Steps.{live_alike, done, still_of_it, became, polled_in_step, keys_follow}
use Rattle.load_meaning.proofs.Unasked.{nothing_asked}
use Rattle.load_rounds.proofs.Waits.{AreRounds, all_stand}

-- ---- lists

summed : (loads : List LoadOf) (start : ℕ) → fold (λ (a x : ℕ). a + x) start (map (λ (load : LoadOf). load.after) loads) ≡ fold (λ (a : ℕ) (load : LoadOf). a + load.after) start loads
summed [] start = refl
summed (load ∷ loads) start = summed loads (start + load.after)

-- where each live load stands, none is pending
none_among : (component : Component) (held : Held) (loads : List LoadOf) → ((place : ℕ) (load : LoadOf) → slice_get loads place ≡ Some load → is_live_load component (state_of held) load ≡ true → has_arrived (arrived_held held load.id) (key_of component held load) ≡ true) → pending_among component (state_of held) loads ≡ []
none_among component held [] each = refl
none_among component held (load ∷ loads) each =
    ap (λ (b : Bool). map (λ (l : LoadOf). l.id) (if b then load ∷ filter (is_pending component (state_of held)) loads else filter (is_pending component (state_of held)) loads)) (stands (is_live_load component (state_of held) load) refl)
    ∙ none_among component held loads (λ place other is live. each (suc place) other is live)
  where
    stands : (b : Bool) → is_live_load component (state_of held) load ≡ b → is_pending component (state_of held) load ≡ false
    stands true live = λ i. live i && not (each 0 load refl live i)
    stands false live = ap (λ (b : Bool). b && not (has_arrived (arrived_held held load.id) (key_of component held load))) live

-- ---- one round after another

pub round_last : (rounds : ℕ) (component : Component) (progress : Progress) → rounds_promptly (suc rounds) component progress ≡ all_promptly component (rounds_promptly rounds component progress)
unfolding rounds_promptly
round_last zero component progress = refl
round_last (suc rounds) component progress = round_last rounds component (all_promptly component progress)

no_round : (component : Component) (progress : Progress) → rounds_promptly 0 component progress ≡ progress
unfolding rounds_promptly
no_round component progress = refl

-- what holds of all rounds
record IsGoing (component : Component) (state : HeldState) (first now : Progress) : Type 0 where
  pub of : IsOf component (with_held state now.held)
  pub in_step : AreInStep component now
  pub arrives : Arrives first.held now.held

-- a load that is none
abbrev no_load : LoadOf
no_load = record { id = 0; resource = 0; after = 0; pairs = [] }

module _ (component : Component) (state : HeldState) (first : Progress) (kept : IsKept component) (of : IsOf component (with_held state first.held)) (in_step : AreInStep component first) where
  abbrev at_round : ℕ → Progress
  at_round round = rounds_promptly round component first

  abbrev load_at : ℕ → LoadOf
  load_at place = get_or (loads_in component) place no_load

  abbrev loading_at : ℕ → ℕ → Loading
  loading_at round place = get_or (at_round round).loadings place first_load

  abbrev key_at : ℕ → ℕ → Code
  key_at round place = key_of component (at_round round).held (load_at place)

  abbrev live_at : ℕ → Bool
  live_at place = is_live_load component (state_of first.held) (load_at place)

  one_round : (now : Progress) → IsGoing component state first now → IsGoing component state first (all_promptly component now)
  one_round now going =
      let polls = all_polled component now going.in_step.paired in
      record {
        of = still_of_it AnswersPromptly component state now (all_promptly component now) polls.0 tt tt kept going.of polls.1;
        in_step = polled_in_step AnswersPromptly component state now (all_promptly component now) polls.0 tt tt kept going.of polls.1 going.in_step;
        arrives = arrives_on first.held now.held (all_promptly component now).held going.arrives (done AnswersPromptly component state now (all_promptly component now) polls.0 tt tt kept going.of polls.1).arrives;
      }

  going_at : (round : ℕ) → IsGoing component state first (at_round round)
  going_at zero = subst (IsGoing component state first) (sym (no_round component first)) (record { of = of; in_step = in_step; arrives = arrives_itself first.held })
  going_at (suc round) = subst (IsGoing component state first) (sym (round_last round component first)) (one_round (at_round round) (going_at round))

  load_there : (place : ℕ) → place < length (loads_in component) → slice_get (loads_in component) place ≡ Some (load_at place)
  load_there place within = slice_get-get_or (loads_in component) place no_load within

  loading_there : (round place : ℕ) → place < length (loads_in component) → slice_get (at_round round).loadings place ≡ Some (loading_at round place)
  loading_there round place within = let paired = (going_at round).in_step.paired in slice_get-get_or (at_round round).loadings place first_load (omega (arith, paired))

  live_then : (round place : ℕ) → live_at place ≡ true → is_live_load component (state_of (at_round round).held) (load_at place) ≡ true
  live_then round place is = live_alike component first.held (at_round round).held (load_at place) (going_at round).arrives ∙ is

  -- a round of a load
  one_poll : (now : Progress) → IsGoing component state first now → (place : ℕ) (load : LoadOf) (was new : Loading) → slice_get (loads_in component) place ≡ Some load → slice_get now.loadings place ≡ Some was → slice_get (all_promptly component now).loadings place ≡ Some new → is_live_load component (state_of (all_promptly component now).held) load ≡ true → new ≡ after_poll was (key_of component (all_promptly component now).held load) (prompt_poll was (key_of component (all_promptly component now).held load) load.after)
  one_poll now going place load was new is at_was at_new lives =
      let polls = all_polled component now going.in_step.paired in
      let one = became AnswersPromptly component state now (all_promptly component now) polls.0 tt tt kept going.of polls.1 going.in_step place load new is at_new lives in
      let same : one.0 ≡ was = cc in
      let key = key_of component (all_promptly component now).held load in
      let poll = one.2.polled in
      poll.state
      ∙ ap (after_poll one.0 (key_of component (all_promptly component now).held load)) (came_promptly load (key_of component (all_promptly component now).held load) one.0 new one.2.came one.2.before one.2.after poll)
      ∙ ap (λ (l : Loading). after_poll l (key_of component (all_promptly component now).held load) (prompt_poll l (key_of component (all_promptly component now).held load) load.after)) same

  -- ---- that they are rounds as they are thought of

  abbrev due : ℕ → ℕ
  due place = suc (sum_by (λ (load : LoadOf). load.after) (take place (loads_in component)))

  keys_stay : (round other place : ℕ) → place < length (loads_in component) → live_at place ≡ true → ((earlier : ℕ) → earlier < place → live_at earlier ≡ true → (loading_at round earlier).arrived ≡ (loading_at other earlier).arrived) → key_at round place ≡ key_at other place
  keys_stay round other place within lives same =
      keys_follow component (with_held state (at_round other).held) (at_round round).held (arrived_held (at_round round).held) kept (going_at other).of later place (load_at place) (load_there place within) (live_then other place lives) (λ earlier load lt is live. stay earlier load lt is live)
    where
      later : (at_round round).held ≡ held_arrived (arrived_held (at_round round).held) (at_round other).held
      later =
          arrives_are first.held (at_round round).held (going_at round).arrives
          ∙ sym (arrived_twice (arrived_held (at_round other).held) (arrived_held (at_round round).held) first.held)
          ∙ ap (held_arrived (arrived_held (at_round round).held)) (sym (arrives_are first.held (at_round other).held (going_at other).arrives))

      told : (n earlier : ℕ) (load : LoadOf) → earlier < length (loads_in component) → load ≡ load_at earlier → live_at earlier ≡ true → arrived_held (at_round n).held load.id ≡ (loading_at n earlier).arrived
      told n earlier load lt here live =
          ap (λ (l : LoadOf). arrived_held (at_round n).held l.id) here
          ∙ ((going_at n).in_step.each earlier (load_at earlier) (loading_at n earlier) (load_there earlier lt) (loading_there n earlier lt) (live_then n earlier live)).arrived

      stay : (earlier : ℕ) (load : LoadOf) → earlier < place → slice_get (loads_in component) earlier ≡ Some load → is_live_load component (state_of (at_round other).held) load ≡ true → arrived_held (at_round round).held load.id ≡ arrived_held (at_round other).held load.id
      stay earlier load lt is live =
          let short : earlier < length (loads_in component) = omega (arith, lt, within) in
          let here : load ≡ load_at earlier = sym (get_or_from_slice_get (loads_in component) earlier load no_load is) in
          let lived : live_at earlier ≡ true = ap (λ (l : LoadOf). is_live_load component (state_of first.held) l) (sym here) ∙ sym (live_alike component first.held (at_round other).held load (going_at other).arrives) ∙ live in
          told round earlier load short here lived ∙ same earlier lt lived ∙ sym (told other earlier load short here lived)

  each_polled : (round place : ℕ) → place < length (loads_in component) → live_at place ≡ true → loading_at (suc round) place ≡ after_poll (loading_at round place) (key_at (suc round) place) (prompt_poll (loading_at round place) (key_at (suc round) place) (load_at place).after)
  each_polled round place within lives =
      let next : at_round (suc round) ≡ all_promptly component (at_round round) = round_last round component first in
      subst (λ (p : Progress). get_or p.loadings place first_load ≡ after_poll (loading_at round place) (key_of component p.held (load_at place)) (prompt_poll (loading_at round place) (key_of component p.held (load_at place)) (load_at place).after)) (sym next)
      (one_poll (at_round round) (going_at round) place (load_at place) (loading_at round place) (get_or (all_promptly component (at_round round)).loadings place first_load) (load_there place within) (loading_there round place within)
      (subst (λ (p : Progress). slice_get p.loadings place ≡ Some (get_or p.loadings place first_load)) next (loading_there (suc round) place within))
      (subst (λ (p : Progress). is_live_load component (state_of p.held) (load_at place) ≡ true) next (live_then (suc round) place lives)))

  whole : due (length (loads_in component)) ≡ enough_rounds component
  whole = ap suc (ap (sum_by (λ (load : LoadOf). load.after)) (take_all (length (loads_in component)) (loads_in component) (omega arith)) ∙ sym (summed (loads_in component) 0))

  are_rounds : enough_rounds component ≤ 2 ^ 32 → AreRounds (length (loads_in component)) (λ place. (load_at place).after) due live_at loading_at key_at
  are_rounds few = record {
    polled = each_polled;
    keys = keys_stay;
    first = refl;
    next = λ place within. more place within;
    few = (let all = whole in omega (arith, all, few));
  }
    where
      more : (place : ℕ) → place < length (loads_in component) → due (suc place) ≡ due place + (load_at place).after
      more place within =
          let sums = sum_by_more (λ (load : LoadOf). load.after) (loads_in component) place no_load within in
          let same : sum_by (λ (load : LoadOf). load.after) (take (place + 1) (loads_in component)) ≡ sum_by (λ (load : LoadOf). load.after) (take (suc place) (loads_in component)) = ap (λ (n : ℕ). sum_by (λ (load : LoadOf). load.after) (take n (loads_in component))) {x = place + 1} {y = suc place} (omega arith) in
          omega (arith, sums, same)

  none_left : (round : ℕ) → enough_rounds component ≤ 2 ^ 32 → enough_rounds component ≤ round → pending component (at_round round).held ≡ []
  none_left round few ge = pending_is component (state_of (at_round round).held) kept (going_at round).of.owners.areas ∙ none_among component (at_round round).held (loads_in component) each
    where
      stands : (place : ℕ) (load : LoadOf) → place < length (loads_in component) → load ≡ load_at place → live_at place ≡ true → has_arrived (arrived_held (at_round round).held load.id) (key_of component (at_round round).held load) ≡ true
      stands place load within here lives =
          let all = whole in
          let told = ((going_at round).in_step.each place (load_at place) (loading_at round place) (load_there place within) (loading_there round place within) (live_then round place lives)).arrived in
          let arrived : arrived_held (at_round round).held (load_at place).id ≡ Some (key_at round place) = told ∙ all_stand (length (loads_in component)) (λ p. (load_at p).after) due live_at loading_at key_at (are_rounds few) place within lives round (omega (arith, all, ge)) in
          ap (λ (l : LoadOf). has_arrived (arrived_held (at_round round).held l.id) (key_of component (at_round round).held l)) here
          ∙ arrived_key (arrived_held (at_round round).held (load_at place).id) (key_at round place)
          ∙ is_the_key (arrived_held (at_round round).held (load_at place).id) (key_at round place) arrived

      each : (place : ℕ) (load : LoadOf) → slice_get (loads_in component) place ≡ Some load → is_live_load component (state_of (at_round round).held) load ≡ true → has_arrived (arrived_held (at_round round).held load.id) (key_of component (at_round round).held load) ≡ true
      each place load is live =
          let within = slice_get_within (loads_in component) place load is in
          let here : load ≡ load_at place = sym (get_or_from_slice_get (loads_in component) place load no_load is) in
          let lived : live_at place ≡ true = ap (λ (l : LoadOf). is_live_load component (state_of first.held) l) (sym here) ∙ sym (live_alike component first.held (at_round round).held load (going_at round).arrives) ∙ live in
          stands place load within here lived

pub enough_bring_all : (component : Component) (state : HeldState) (progress : Progress) (rounds : ℕ) → IsKept component → IsOf component (with_held state progress.held) → AreInStep component progress → enough_rounds component ≤ 2 ^ 32 → enough_rounds component ≤ rounds → pending component (rounds_promptly rounds component progress).held ≡ []
enough_bring_all component state progress rounds kept of in_step few ge = none_left component state progress kept of in_step rounds few ge

pub nothing_more : (component : Component) (state : HeldState) (progress : Progress) → IsKept component → IsOf component (with_held state progress.held) → AreInStep component progress → pending component progress.held ≡ [] → all_promptly component progress ≡ progress
nothing_more component state progress kept of in_step empty =
    let polls = all_polled component progress in_step.paired in
    (nothing_asked AnswersPromptly component state progress (all_promptly component progress) polls.0 tt tt kept of in_step polls.1 empty).2
