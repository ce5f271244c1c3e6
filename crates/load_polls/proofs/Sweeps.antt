-- One load more was polled.
use Rattle.std.proofs.Common.{◌≡◌, ℕ, suc, ◌+◌, ◌≤◌, inl, inr, not, if◌then◌else◌, Bool, true, false, List, [], ◌∷◌, ◌++◌, length, set, take, slice_get, Some, refl, sym, ap, subst, ◌∙◌, arith, length-append, length-set}
use Rattle.std.specs.List.{filter}
use Rattle.std.proofs.Math.Seq.{take-length, take-suc-set}
use Rattle.std.proofs.lemmas.List.{append-nil, length-take-le}
use Rattle.std.proofs.lemmas.List.Elements.{filter-append}
use Rattle.std.proofs.lemmas.Option.{slice_get_within}
use Rattle.values.specs.declared.code.Code.{Code}
use Rattle.values.specs.declared.plan.Plan.{Plan}
use Rattle.values.specs.PlanValues.{value_at, HaveSameSources}
use Rattle.sources.specs.declared.opening.Opened.{Opened}
use Rattle.sources.specs.Rows.{value_in}
use Rattle.component_items.specs.declared.component.Component.{Component}
use Rattle.component_items.specs.Kept.{IsKept}
use Rattle.outside.specs.Asks.{Ask}
use Rattle.outside.specs.Counts.{RoseBy}
use Rattle.outside.specs.declared.traits.Arrival.{Arrival}
use Rattle.async_derived.specs.declared.loading.Loading.{Loading}
use Rattle.async_derived.specs.Loads.{after_poll, prompt_poll}
use Rattle.plain_evaluation.specs.Changed.{with_arrived}
use Rattle.plain_evaluation.specs.Held.{Held}
use Rattle.plain_evaluation.specs.Place.{Place}
use Rattle.plain_evaluation.specs.Written.{state_of}
use Rattle.plain_evaluation.proofs.Fitting.{rows_of_held}
use Rattle.plan_meaning.specs.Values.{row_values}
use Rattle.plan_meaning.proofs.Owners.{lawful}
use Rattle.held_state.specs.State.{HeldState}
use Rattle.load_table.specs.Loads.{LoadOf, loads_in, is_live_load}
use Rattle.load_meaning.specs.declared.late.Late.{Late}
use Rattle.load_meaning.specs.Polls.{Progress, key_of, late_as, ArePolled, none, passed, polled, AllPolled, promptly_one, all_promptly, some_promptly}
use Rattle.load_meaning.proofs.Promptly.{one_more_promptly, all_of_them}
use Rattle.phase_graph.specs.Graph.{GraphState}
use Rattle.load_polls.specs.Loads.{is_not_yet, not_yet_count, failed_count, HasMoved, progress_of}
use Rattle.load_polls.specs.Stands.{Sweep, IsReady, IsPassed, IsTaken, IsTurned, ArePolledTo}
use Rattle.load_polls.proofs.Lists.{fellow, set_other, take_one_more}
use Rattle.load_polls.proofs.Values.{source_value}

-- ---- counts

pub not_yets_more : (late added : List (ℕ × Late)) → not_yet_count (late ++ added) ≡ not_yet_count late + not_yet_count added
not_yets_more late added = ap length (filter-append (λ one. is_not_yet one.1) late added) ∙ length-append (filter (λ one. is_not_yet one.1) late) (filter (λ one. is_not_yet one.1) added)

pub failed_more : (late added : List (ℕ × Late)) → failed_count (late ++ added) ≡ failed_count late + failed_count added
failed_more late added = ap length (filter-append (λ one. not (is_not_yet one.1)) late added) ∙ length-append (filter (λ one. not (is_not_yet one.1)) late) (filter (λ one. not (is_not_yet one.1)) added)

pub rose_more : (n m k before between after : ℕ) → k ≡ n + m → RoseBy n before between → RoseBy m between after → RoseBy k before after
rose_more n m k before between after e first second = omega (arith, e, first, second)

-- ---- what the graph did

pub moved_on : (first old new : GraphState) (n k m : ℕ) → m ≡ n + k → HasMoved first old n → HasMoved old new k → HasMoved first new m
moved_on first old new n k m e one two = record {
  rest = two.rest ∙ ap (λ (g : GraphState). record g { rows = new.rows; drawn = new.drawn }) one.rest;
  long = two.long ∙ one.long;
  raised = (let a = one.raised in let b = two.raised in omega (arith, a, b));
  few = (let a = one.few in let b = two.few in omega (arith, a, b, e));
  effects = λ row node here there at is at_here at_there. (
      let middle = fellow old.rows first.rows one.long row here at_here in
      let was = one.effects row node here middle.0 at is at_here middle.1 in
      two.effects row node middle.0 there (ap (λ (g : GraphState). slice_get g.plan.nodes row) one.rest ∙ at) is middle.1 at_there
      ∙ ap (λ (r : Opened). record r { colour = there.colour }) was);
}

pub moved_none : (graph : GraphState) → HasMoved graph graph 0
moved_none graph = record {
  rest = refl;
  long = refl;
  raised = omega arith;
  few = omega arith;
  effects = λ row node here there at is at_here at_there. (let same : Some here ≡ Some there = sym at_here ∙ at_there in let e : here ≡ there = cc in sym e ∙ ap (λ (r : Opened). record here { colour = r.colour }) e);
}

-- ---- one load more

abbrev live_one : Component → Progress → LoadOf → Loading → Progress
live_one component now load loading =
    let key : Code = key_of component now.held load in
    let new : Loading = after_poll loading key (prompt_poll loading key load.after) in
    record { held = with_arrived now.held load.id new.arrived; loadings = now.loadings ++ new ∷ [] }

abbrev dead_one : Progress → Loading → Progress
dead_one now loading = record { held = now.held; loadings = now.loadings ++ loading ∷ [] }

dead_promptly : (component : Component) (now : Progress) (load : LoadOf) (loading : Loading) → is_live_load component (state_of now.held) load ≡ false → promptly_one component now (load, loading) ≡ dead_one now loading
dead_promptly component now load loading dead = ap (λ (b : Bool). if b then live_one component now load loading else dead_one now loading) dead

live_promptly : (component : Component) (now : Progress) (load : LoadOf) (loading : Loading) → is_live_load component (state_of now.held) load ≡ true → promptly_one component now (load, loading) ≡ live_one component now load loading
live_promptly component now load loading live = ap (λ (b : Bool). if b then live_one component now load loading else dead_one now loading) live

module _ {S : Type 0} (answers : S → Ask → Arrival → S → Type 0) (is_prompt : Bool) (component : Component) (place : ℕ) (first : Progress) (x y : Sweep) (late added : List (ℕ × Late)) (before reached after : S)
    (done : ArePolledTo answers is_prompt component place first x late before reached) (load : LoadOf) (at : slice_get (loads_in component) place ≡ Some load) where
  abbrev loads : List LoadOf
  loads = loads_in component

  abbrev now : Progress
  now = record { held = x.held.held; loadings = take place x.loadings }

  counted : length (take place loads) ≡ place
  counted = let lt = slice_get_within loads place load at in length-take-le place loads (omega (arith, lt))

  loads_more : take place loads ++ load ∷ [] ≡ take (place + 1) loads
  loads_more = sym (take_one_more loads place load at)

  next_first : (loading : Loading) → slice_get x.loadings place ≡ Some loading → slice_get first.loadings (length (take place loads)) ≡ Some loading
  next_first loading is = ap (slice_get first.loadings) counted ∙ sym (done.rest place (omega arith)) ∙ is

  pub pass_on : (loading : Loading) → slice_get x.loadings place ≡ Some loading → IsPassed component load x y added reached after → ArePolledTo answers is_prompt component (place + 1) first y (late ++ added) before after
  pass_on loading at_loading pass =
      subst (λ (s : Sweep). ArePolledTo answers is_prompt component (place + 1) first s (late ++ added) before after) (sym pass.same)
      (subst (λ (s : S). ArePolledTo answers is_prompt component (place + 1) first x (late ++ added) before s) (sym pass.unasked)
      (subst (λ (l : List (ℕ × Late)). ArePolledTo answers is_prompt component (place + 1) first x l before reached) (sym (ap (λ (more : List (ℕ × Late)). late ++ more) pass.none ∙ append-nil late)) stays))
    where
      loadings_more : take place x.loadings ++ loading ∷ [] ≡ take (place + 1) x.loadings
      loadings_more = sym (take_one_more x.loadings place loading at_loading)

      stays : ArePolledTo answers is_prompt component (place + 1) first x late before reached
      stays = record {
        polled = subst (λ (ls : List LoadOf). ArePolled answers component first before ls (record { held = x.held.held; loadings = take (place + 1) x.loadings }) late reached) loads_more
            (subst (λ (ls : List Loading). ArePolled answers component first before (take place loads ++ load ∷ []) (record { held = x.held.held; loadings = ls }) late reached) loadings_more
            (passed load loading done.polled pass.dead (next_first loading at_loading)));
        rest = λ j le. done.rest j (omega (arith, le));
        long = done.long;
        prompt = λ e. (
            ap (λ (ls : List Loading). record { held = x.held.held; loadings = ls }) (sym loadings_more)
            ∙ sym (dead_promptly component now load loading pass.dead)
            ∙ ap (λ (p : Progress). promptly_one component p (load, loading)) (done.prompt e)
            ∙ sym (one_more_promptly component first place load loading at (sym (done.rest place (omega arith)) ∙ at_loading)));
      }

  pub take_on : IsTaken answers is_prompt component place load x y added reached after → ArePolledTo answers is_prompt component (place + 1) first y (late ++ added) before after
  take_on taken = record {
    polled =
        subst (λ (ls : List LoadOf). ArePolled answers component first before ls (record { held = y.held.held; loadings = take (place + 1) y.loadings }) (late ++ added) after) loads_more
        (subst (λ (more : List (ℕ × Late)). ArePolled answers component first before (take place loads ++ load ∷ []) (record { held = y.held.held; loadings = take (place + 1) y.loadings }) (late ++ more) after) (sym taken.added_is)
        (subst (λ (ls : List Loading). ArePolled answers component first before (take place loads ++ load ∷ []) (record { held = y.held.held; loadings = ls }) (late ++ late_as load.id taken.came) after) loadings_more
        (subst (λ (h : Held). ArePolled answers component first before (take place loads ++ load ∷ []) (record { held = h; loadings = take place x.loadings ++ taken.is ∷ [] }) (late ++ late_as load.id taken.came) after) (sym held_is)
        (polled load taken.was taken.is taken.came after done.polled taken.live (next_first taken.was taken.at) taken.polled))));
    rest = λ j le. (
        ap (λ (ls : List Loading). slice_get ls j) taken.loadings
        ∙ set_other x.loadings place j taken.is (λ e. absurd (omega (arith, e, le)))
        ∙ done.rest j (omega (arith, le)));
    long = ap length taken.loadings ∙ length-set x.loadings place taken.is ∙ done.long;
    prompt = λ e. (
        (λ i. record { held = held_is i; loadings = sym loadings_more i })
        ∙ (λ i. record { held = with_arrived x.held.held load.id (promptly e i).arrived; loadings = take place x.loadings ++ promptly e i ∷ [] })
        ∙ sym (live_promptly component now load taken.was taken.live)
        ∙ ap (λ (p : Progress). promptly_one component p (load, taken.was)) (done.prompt e)
        ∙ sym (one_more_promptly component first place load taken.was at (sym (done.rest place (omega arith)) ∙ taken.at)));
  }
    where
      held_is : y.held.held ≡ with_arrived x.held.held load.id taken.is.arrived
      held_is = ap (λ (h : HeldState). h.held) taken.held

      loadings_more : take place x.loadings ++ taken.is ∷ [] ≡ take (place + 1) y.loadings
      loadings_more =
          sym (take-suc-set x.loadings place taken.is (slice_get_within x.loadings place taken.was taken.at))
          ∙ ap (λ (n : ℕ). take n (set x.loadings place taken.is)) {x = suc place} {y = place + 1} (omega arith)
          ∙ ap (take (place + 1)) (sym taken.loadings)

      promptly : is_prompt ≡ true → taken.is ≡ after_poll taken.was (key_of component x.held.held load) (prompt_poll taken.was (key_of component x.held.held load) load.after)
      promptly e = taken.polled.state ∙ ap (after_poll taken.was (key_of component x.held.held load)) (taken.prompt e)

  pub turn_on : (loading : Loading) → slice_get x.loadings place ≡ Some loading → IsTurned answers is_prompt component place x y added reached after → ArePolledTo answers is_prompt component (place + 1) first y (late ++ added) before after
  turn_on loading at_loading turned = elim (turned load at) [ inl pass ↦ pass_on loading at_loading pass | inr taken ↦ take_on taken ]

-- ---- before the first, and behind the last

pub polled_none : {S : Type 0} (answers : S → Ask → Arrival → S → Type 0) (is_prompt : Bool) (component : Component) (x : Sweep) (state : S) → ArePolledTo answers is_prompt component 0 (progress_of x.held x.loadings) x [] state state
polled_none answers is_prompt component x state = record { polled = none; rest = λ j le. refl; long = refl; prompt = λ e. refl }

pub polled_all : {S : Type 0} (answers : S → Ask → Arrival → S → Type 0) (is_prompt : Bool) (component : Component) (place : ℕ) (first : Progress) (x : Sweep) (late : List (ℕ × Late)) (before after : S) → place ≡ length (loads_in component) → place ≡ length x.loadings → ArePolledTo answers is_prompt component place first x late before after → AllPolled answers component first (progress_of x.held x.loadings) late before after
polled_all answers is_prompt component place first x late before after all long done =
    subst (λ (ls : List LoadOf). ArePolled answers component first before ls (progress_of x.held x.loadings) late after) (ap (λ (n : ℕ). take n (loads_in component)) all ∙ take-length (loads_in component))
    (subst (λ (ls : List Loading). ArePolled answers component first before (take place (loads_in component)) (record { held = x.held.held; loadings = ls }) late after) (ap (λ (n : ℕ). take n x.loadings) long ∙ take-length x.loadings) done.polled)

pub promptly_all : {S : Type 0} (answers : S → Ask → Arrival → S → Type 0) (is_prompt : Bool) (component : Component) (place : ℕ) (first : Progress) (x : Sweep) (late : List (ℕ × Late)) (before after : S) → place ≡ length (loads_in component) → place ≡ length x.loadings → ArePolledTo answers is_prompt component place first x late before after → is_prompt ≡ true → progress_of x.held x.loadings ≡ all_promptly component first
promptly_all answers is_prompt component place first x late before after all long done e =
    ap (λ (ls : List Loading). record { held = x.held.held; loadings = ls }) (sym (ap (λ (n : ℕ). take n x.loadings) long ∙ take-length x.loadings))
    ∙ done.prompt e
    ∙ ap (some_promptly component first) all
    ∙ all_of_them component first

-- the span never goes past the rows, which are few
pub from_few : (component : Component) (places : List Place) (place from : ℕ) (x : Sweep) → IsKept component → IsReady component places place from x → from ≤ 4096
from_few component places place from x kept ready =
    let few = (lawful component (state_of x.held.held) kept (rows_of_held component x.held.held ready.fitting.fits.fits)).few_nodes in
    let e = ap (λ (p : Plan). length p.nodes) ready.fitting.plan in
    let within = ready.within in
    omega (arith, few, e, within)

-- sources have their values, where all loads were polled
pub evaluated : (component : Component) (places : List Place) (place from : ℕ) (x : Sweep) → IsKept component → IsReady component places place from x → place ≡ length (loads_in component) → HaveSameSources x.graph.plan.nodes (value_in x.graph.rows) (value_at (row_values component (state_of x.held.held)))
evaluated component places place from x kept ready all = record {
  same = λ row node at d. (
      source_value component (state_of x.held.held) kept (rows_of_held component x.held.held ready.fitting.fits.fits) ready.fitting.fits.owners.areas x.graph.rows ready.fitting.shown row node (ap (λ (p : Plan). slice_get p.nodes row) (sym ready.fitting.plan) ∙ at) d (λ j load at_load live here is. (
      let lt = slice_get_within (loads_in component) j load at_load in
      ready.polled j load (omega (arith, lt, all)) at_load live)));
}
