-- A pump goes through the rows, one by one.
use Rattle.std.proofs.Common.{◌≡◌, ◌≢◌, ◌⊎◌, inl, inr, ⊎_elim, ℕ, zero, suc, ◌+◌, ◌≤◌, ◌<◌, cond, Bool, true, false, Option, Some, None, List, [], ◌∷◌, ◌++◌, take, slice_get, set, get_or, length, refl, sym, ap, subst, ◌∙◌, arith}
use Rattle.std.specs.Prelude.{◌&&◌, ◌||◌, not, nat_eq, count_by, MatchOption}
use Rattle.std.specs.List.{range_with_len}
use Rattle.std.specs.Option.{option_or}
use Rattle.std.proofs.Math.Seq.{take-length}
use Rattle.std.proofs.lemmas.Bool.Decides.{nat_tests}
use Rattle.std.proofs.lemmas.List.{length-take-le}
use Rattle.std.proofs.lemmas.List.Sums.{sum_by-cons, count_by_more_yes, count_by_more_no, count_by-le-length}
use Rattle.std.proofs.lemmas.Option.{get_or_from_slice_get}
use Rattle.values.specs.declared.code.Code.{Code}
use Rattle.values.specs.declared.plan.Kind.TheVariants as kind
use Rattle.values.specs.declared.plan.Left.{Left}
use Rattle.values.specs.declared.plan.Left.TheVariants as left
use Rattle.values.specs.declared.plan.Noted.{Noted}
use Rattle.values.specs.declared.plan.Plan.{Plan}
use Rattle.values.specs.declared.plan.PlanNode.{PlanNode}
use Rattle.values.specs.declared.plan.Pumped.{Pumped}
use Rattle.values.specs.PlanValues.{plan_value}
use Rattle.sources.specs.declared.colour.Colour.TheVariants.{Dirty}
use Rattle.sources.specs.Rows.{value_in}
use Rattle.store_fields.specs.declared.edit.Edit.{Edit}
use Rattle.sources.specs.declared.opening.Opened.{Opened}
use Rattle.sources.specs.Colours.{is_clean}
use Rattle.sources.proofs.RowLemmas.{clean_at}
use Rattle.still_readers.proofs.Lists.{at_within, within_at, set_here, set_other, one_at, either, not_both}
use Rattle.still_rows.specs.Works.{unclean_count}
use Rattle.still_rows.proofs.FramesLemmas.{reads_back}
use Rattle.still_effects.specs.declared.effect.Effect.{Effect}
use Rattle.still_effects.specs.declared.effect.Effect.TheVariants as effect
use Rattle.still_effects.specs.Effects.{IsEffect}
use Rattle.still_effects.proofs.EffectLemmas.{effect_derived}
use Rattle.run_meaning.specs.Words.{In, is_among}
use Rattle.run_meaning.specs.Entries.{disposed_in}
use Rattle.run_meaning.specs.Merge.{is_effect_node}
use Rattle.run_meaning.specs.Causes.{is_gone}
use Rattle.run_history.specs.Going.{Start, Going, Goes, plain_code, last_value, IsDead}
use Rattle.run_history.specs.Calls.{pump, LeftFull, StandsNow}
use Rattle.run_history.proofs.Cut.{is_yes}
use Rattle.run_history.proofs.Steps.{nothing_goes}
use Rattle.phase_graph.specs.declared.pumping.Turn.{Turn}
use Rattle.phase_graph.specs.declared.pumping.Turn.TheVariants as turn
use Rattle.phase_graph.specs.declared.table.Table.{Table}
use Rattle.phase_graph.specs.Table.{state_of, open_seen, IsTable, IsKept, MakesHome}
use Rattle.phase_graph.specs.Pumping.{IsEffectOf, IsOther, IsDone, IsLeft, TurnedAs, counted}
use Rattle.phase_graph.specs.Graph.{AreRunOrLeft}
use Rattle.phase_graph.specs.Way.{IsOnWay, AreHome}
use Rattle.phase_graph.proofs.Changes as changes
use Rattle.phase_graph.proofs.Disposing.{kept_on}
use Rattle.phase_graph.proofs.Effects.{done_drawn, short_drawn, DrawsMost, done_draws, left_draws}
use Rattle.phase_graph.proofs.Lists.{in_filter}
use Rattle.phase_graph.proofs.Pumpings.{IsPumping, pumping_none, pumping_on, pumping_as}
use Rattle.phase_graph.proofs.Rows.{effect_yes, effect_no}
use Rattle.phase_graph.proofs.Running as running
use Rattle.phase_graph.proofs.Soiled.{on_soiled}
use Rattle.phase_graph.proofs.Starts.{at_clock, with_plan, plain_is}
use Rattle.phase_graph.proofs.Steps.{makes_home}
use Rattle.phase_graph.proofs.Stops.{fills, on_filled}
use Rattle.phase_graph.proofs.Tables.{still_open}

-- ---- what is counted

abbrev pub is_dead : Option Bool → Bool
is_dead None = false
is_dead (Some b) = not b

-- an effect whose owner is dead by this list
abbrev pub is_gone_in : List Bool → PlanNode → Bool
is_gone_in live node = is_effect_node node && is_dead (slice_get live node.owner)

-- the effect was left, and is dirty
abbrev pub IsLeftIn : Table → List ℕ → ℕ → Type 0
IsLeftIn t left n = In n left × ((opened : Opened) → slice_get t.rows.items n ≡ Some opened → opened.colour ≡ Dirty)

-- an effect that is not left, with a live owner, is clean
abbrev pub IsThrough : Table → List ℕ → ℕ → PlanNode → Type 0
IsThrough t left n node = IsLeftIn t left n ⊎ ((slice_get t.live.items node.owner ≡ Some false) ⊎ ((opened : Opened) → slice_get t.rows.items n ≡ Some opened → is_clean opened.colour ≡ true))

abbrev pub FirstLeft : Table → Option (ℕ × Left) → ℕ → Type 0
FirstLeft t first count = MatchOption first (count ≡ 0) (λ f. (0 < count) × IsEffect t.plan.nodes f.0 × LeftFull f.1 t.clock.drawn)

-- the rows below this number were gone through
pub record ArePumped (t0 t : Table) (at : ℕ) (told : Pumped) : Type 0 where
  pub kept : IsKept t0 t
  pub live : t.live ≡ t0.live
  pub within : at ≤ length t.plan.nodes
  pub counts : (told.ran + told.same) + (told.gone + told.left) ≡ count_by is_effect_node (take at t.plan.nodes)
  pub gone : told.gone ≡ count_by (is_gone_in t.live.items) (take at t.plan.nodes)
  pub draws : DrawsMost t (t0.clock.drawn + unclean_count t0.rows.items)
  pub first : FirstLeft t told.first_left told.left
  pub left : List ℕ
  pub few_left : length left ≤ told.left
  pub through : (n : ℕ) (node : PlanNode) → n < at → slice_get t.plan.nodes n ≡ Some node → node.kind ≡ kind.Effect → IsThrough t left n node
  pub way : (s : Start) (edits : List (List Edit)) (room : ℕ) → IsOnWay (with_plan s t0.plan) (at_clock t0.clock) (open_seen t0 edits room)
      → (block : List Noted) × IsPumping (with_plan s t0.plan) (at_clock t0.clock) block (at_clock t.clock) told.ran told.left × IsOnWay (with_plan s t0.plan) (at_clock t.clock) (open_seen t edits room)

-- what a turn notes, from where the graph stands
abbrev pub NotesSo : Table → Table → ℕ → ℕ → Type 0
NotesSo t t' ran void = (s : Start) (edits : List (List Edit)) (room : ℕ) → IsOnWay (with_plan s t.plan) (at_clock t.clock) (open_seen t edits room)
    → (block : List Noted) × IsPumping (with_plan s t.plan) (at_clock t.clock) block (at_clock t'.clock) ran void × IsOnWay (with_plan s t.plan) (at_clock t'.clock) (open_seen t' edits room)

-- ---- what each turn notes

none_notes : (t : Table) → NotesSo t t 0 0
none_notes t s edits room way = ([], pumping_none (with_plan s t.plan) (at_clock t.clock) (at_clock t.clock) (nothing_goes (with_plan s t.plan) (at_clock t.clock)), way)

module _ (t t' : Table) (plan : t'.plan ≡ t.plan) (live : t'.live ≡ t.live) (s : Start) (edits : List (List Edit)) (room : ℕ) where
  seen_so : IsOnWay (with_plan s t.plan) (at_clock t'.clock) (state_of t.plan t'.rows.items t.live.items t'.clock edits room) → IsOnWay (with_plan s t.plan) (at_clock t'.clock) (open_seen t' edits room)
  seen_so way = subst (IsOnWay (with_plan s t.plan) (at_clock t'.clock)) (λ i. state_of (sym plan i) t'.rows.items (sym live i).items t'.clock edits room) way

module _ (t t' : Table) (row : ℕ) (table : IsTable t) (is_open : t.clock.in_phase ≡ true) (of : IsEffectOf t row true) where
  same_notes : IsDone t t' row effect.Same → NotesSo t t' 0 0
  same_notes h s edits room way =
      let r = running.same (with_plan s t.plan) t.live.items edits room row of.effect t.rows.items t.readers t.clock (still_open t table is_open) way t'.rows.items t'.readers t'.clock h.ended in
      (r.0, r.1, seen_so t t' h.tried.plan h.tried.live s edits room r.2)

  ran_notes : (code : Code) → IsDone t t' row (effect.Ran code) → NotesSo t t' 1 0
  ran_notes code h s edits room way =
      let r = running.ran (with_plan s t.plan) t.live.items edits room row of.effect t.rows.items t.readers t.clock (still_open t table is_open) way t'.rows.items t'.readers t'.clock code of.owner of.has h.ended in
      (r.0, r.1, seen_so t t' h.tried.plan h.tried.live s edits room r.2)

  left_notes : (number : ℕ) → IsLeft t t' row number → NotesSo t t' 0 1
  left_notes number h s edits room way =
      let r = middle in
      let clock : at_clock h.dirty.clock ≡ at_clock h.short.clock = ap (λ (q : Table). at_clock q.clock) h.dirtied.rest in
      let on = seen_so t h.short h.stopped.tried.plan h.stopped.tried.live s edits room r.2 in
      let soiled = subst (λ (g : Going). IsOnWay (with_plan s t.plan) g (open_seen h.dirty edits room)) (sym clock) (on_soiled (with_plan s t.plan) (at_clock h.short.clock) h.short h.dirty row edits room h.dirtied on) in (
        r.0 ++ [],
        pumping_on (with_plan s t.plan) (at_clock t.clock) r.0 (at_clock h.short.clock) [] (at_clock t'.clock) 0 0 1 0 r.1
            (pumping_none (with_plan s t.plan) (at_clock h.short.clock) (at_clock t'.clock) (subst (λ (g : Going). Goes (with_plan s t.plan) g [] (at_clock t'.clock)) clock (fills (with_plan s t.plan) h.dirty t' number edits room h.filled))),
        on_filled (with_plan s t.plan) h.dirty t' number edits room h.filled soiled,
      )
    where
      more : (block : List Noted) → IsPumping (with_plan s t.plan) (at_clock t.clock) block (at_clock h.short.clock) 0 0 → IsPumping (with_plan s t.plan) (at_clock t.clock) block (at_clock h.short.clock) 0 1
      more block p = record { goes = p.goes; of_pump = p.of_pump; runs = p.runs; voids = (let v = p.voids in omega arith) }

      middle : (block : List Noted) × IsPumping (with_plan s t.plan) (at_clock t.clock) block (at_clock h.short.clock) 0 1 × IsOnWay (with_plan s t.plan) (at_clock h.short.clock) (state_of t.plan h.short.rows.items t.live.items h.short.clock edits room)
      middle = elim h.stopped.stopped [
        | inl q ↦ (let r = running.steps (with_plan s t.plan) t.live.items edits room row of.effect t.rows.items t.readers t.clock (still_open t table is_open) way h.short.rows.items h.short.readers h.short.clock q in (r.0, more r.0 r.1, r.2))
        | inr q ↦ running.cut_off (with_plan s t.plan) t.live.items edits room row of.effect t.rows.items t.readers t.clock (still_open t table is_open) way h.short.rows.items h.short.readers h.short.clock q
      ]

-- ---- one row more

first_later : (o : Option (ℕ × Left)) (count : ℕ) (t t' : Table) → t'.plan ≡ t.plan → t.clock.drawn ≤ t'.clock.drawn → FirstLeft t o count → FirstLeft t' o count
first_later None count t t' plan l h = h
first_later (Some f) count t t' plan l h = (h.0, subst (λ (q : Plan). IsEffect q.nodes f.0) (sym plan) h.1, later f.1 h.2)
  where
    later : (w : Left) → LeftFull w t.clock.drawn → LeftFull w t'.clock.drawn
    later (left.Busy n) q = absurd q
    later (left.Again n) q = absurd q
    later (left.Full n) q = let a = q.1 in (q.0, (omega arith))

-- what stays the same of all other effects
pub record OthersStay (t t' : Table) (at : ℕ) : Type 0 where
  pub plan : t'.plan ≡ t.plan
  pub live : t'.live ≡ t.live
  pub rows : (n : ℕ) (node : PlanNode) → slice_get t.plan.nodes n ≡ Some node → node.kind ≡ kind.Effect → n ≢ at → slice_get t'.rows.items n ≡ slice_get t.rows.items n

through_more : (t t' : Table) (at : ℕ) (left more : List ℕ) → OthersStay t t' at → ((n : ℕ) → In n left → In n more) → ((n : ℕ) (node : PlanNode) → n < at → slice_get t.plan.nodes n ≡ Some node → node.kind ≡ kind.Effect → IsThrough t left n node) → ((node : PlanNode) → slice_get t.plan.nodes at ≡ Some node → node.kind ≡ kind.Effect → IsThrough t' more at node) → (n : ℕ) (node : PlanNode) → n < at + 1 → slice_get t'.plan.nodes n ≡ Some node → node.kind ≡ kind.Effect → IsThrough t' more n node
through_more t t' at left more stay wider before here n node l is k = either n at (IsThrough t' more n node)
    (λ same. subst (λ (m : ℕ). IsThrough t' more m node) (sym same) (here node (ap (slice_get t.plan.nodes) (sym same) ∙ was) k))
    (λ other. old other (before n node (let o = other in grind arith) was k))
  where
    was : slice_get t.plan.nodes n ≡ Some node
    was = ap (λ (q : Plan). slice_get q.nodes n) (sym stay.plan) ∙ is

    old : n ≢ at → IsThrough t left n node → IsThrough t' more n node
    old other (inl i) = inl (wider n i.0, λ opened at'. i.1 opened (sym (stay.rows n node was k other) ∙ at'))
    old other (inr (inl d)) = inr (inl (ap (λ v. slice_get v.items node.owner) stay.live ∙ d))
    old other (inr (inr c)) = inr (inr (λ opened at'. c opened (sym (stay.rows n node was k other) ∙ at')))

module _ (nodes : List PlanNode) (at : ℕ) (node : PlanNode) (is : slice_get nodes at ≡ Some node) (p : PlanNode → Bool) where
  one_more_yes : p node ≡ true → count_by p (take (at + 1) nodes) ≡ count_by p (take at nodes) + 1
  one_more_yes e = count_by_more_yes p nodes at node (at_within nodes at node is) (ap p (get_or_from_slice_get nodes at node node is) ∙ e)

  one_more_no : p node ≡ false → count_by p (take (at + 1) nodes) ≡ count_by p (take at nodes)
  one_more_no e = count_by_more_no p nodes at node (at_within nodes at node is) (ap p (get_or_from_slice_get nodes at node node is) ∙ e)

module _ (t : Table) (row : ℕ) (live : Bool) (of : IsEffectOf t row live) where
  counts_one : count_by is_effect_node (take (row + 1) t.plan.nodes) ≡ count_by is_effect_node (take row t.plan.nodes) + 1
  counts_one = one_more_yes t.plan.nodes row of.effect.node of.effect.at is_effect_node (effect_yes of.effect.node.kind of.effect.is)

  owned : slice_get t.live.items of.effect.node.owner ≡ Some live
  owned = ap (slice_get t.live.items) (ap (λ (z : PlanNode). z.owner) (one_at of.effect.node of.has.node of.effect.at of.has.at) ∙ of.has.is_owner) ∙ of.has.is_live

  is_gone_so : is_gone_in t.live.items of.effect.node ≡ not live
  is_gone_so = (λ i. effect_yes of.effect.node.kind of.effect.is i && is_dead (owned i))

live_counts_none : (t : Table) (row : ℕ) → IsEffectOf t row true → count_by (is_gone_in t.live.items) (take (row + 1) t.plan.nodes) ≡ count_by (is_gone_in t.live.items) (take row t.plan.nodes)
live_counts_none t row of = one_more_no t.plan.nodes row of.effect.node of.effect.at (is_gone_in t.live.items) (is_gone_so t row true of)

gone_counts_one : (t : Table) (row : ℕ) → IsEffectOf t row false → count_by (is_gone_in t.live.items) (take (row + 1) t.plan.nodes) ≡ count_by (is_gone_in t.live.items) (take row t.plan.nodes) + 1
gone_counts_one t row of = one_more_yes t.plan.nodes row of.effect.node of.effect.at (is_gone_in t.live.items) (is_gone_so t row false of)

-- the counts over the rows of a table with the same plan and owners
effects_in : (t t' : Table) (n : ℕ) → t'.plan ≡ t.plan → count_by is_effect_node (take n t'.plan.nodes) ≡ count_by is_effect_node (take n t.plan.nodes)
effects_in t t' n plan = ap (λ (q : Plan). count_by is_effect_node (take n q.nodes)) plan

gone_in : (t t' : Table) (n : ℕ) → t'.plan ≡ t.plan → t'.live ≡ t.live → count_by (is_gone_in t'.live.items) (take n t'.plan.nodes) ≡ count_by (is_gone_in t.live.items) (take n t.plan.nodes)
gone_in t t' n plan live = (λ i. count_by (is_gone_in (live i).items) (take n (plan i).nodes))

stays : (t : Table) (at : ℕ) → OthersStay t t at
stays t at = record { plan = refl; live = refl; rows = (λ n node a k other. refl) }

module _ (t0 t t' : Table) (at : ℕ) (told : Pumped) (is : ArePumped t0 t at told) where
  -- what was noted before, and then by the turn
  way_on : (ran void : ℕ) → NotesSo t t' ran void → (s : Start) (edits : List (List Edit)) (room : ℕ) → IsOnWay (with_plan s t0.plan) (at_clock t0.clock) (open_seen t0 edits room)
      → (block : List Noted) × IsPumping (with_plan s t0.plan) (at_clock t0.clock) block (at_clock t'.clock) (told.ran + ran) (told.left + void) × IsOnWay (with_plan s t0.plan) (at_clock t'.clock) (open_seen t' edits room)
  way_on ran void notes s edits room way =
      let before = is.way s edits room way in
      let on = subst (λ (q : Plan). IsOnWay (with_plan s q) (at_clock t.clock) (open_seen t edits room)) (sym is.kept.plan) before.2 in
      let more = subst (λ (q : Plan). (block : List Noted) × IsPumping (with_plan s q) (at_clock t.clock) block (at_clock t'.clock) ran void × IsOnWay (with_plan s q) (at_clock t'.clock) (open_seen t' edits room)) is.kept.plan (notes s edits room on) in
      (before.0 ++ more.0, pumping_on (with_plan s t0.plan) (at_clock t0.clock) before.0 (at_clock t.clock) more.0 (at_clock t'.clock) told.ran ran told.left void before.1 more.1, more.2)

  -- the same of other counts that are equal
  way_as : (ran void ran' void' : ℕ) → told.ran + ran ≡ ran' → told.left + void ≡ void' → NotesSo t t' ran void → (s : Start) (edits : List (List Edit)) (room : ℕ) → IsOnWay (with_plan s t0.plan) (at_clock t0.clock) (open_seen t0 edits room)
      → (block : List Noted) × IsPumping (with_plan s t0.plan) (at_clock t0.clock) block (at_clock t'.clock) ran' void' × IsOnWay (with_plan s t0.plan) (at_clock t'.clock) (open_seen t' edits room)
  way_as ran void ran' void' r v notes s edits room way = let w = way_on ran void notes s edits room way in (w.0, pumping_as (with_plan s t0.plan) (at_clock t0.clock) w.0 (at_clock t'.clock) (told.ran + ran) ran' (told.left + void) void' r v w.1, w.2)

-- a row that is no effect, and an effect whose owner is disposed
module _ (t0 t : Table) (at : ℕ) (told : Pumped) (is : ArePumped t0 t at told) where
  pump_other : IsOther t at → ArePumped t0 t (at + 1) told
  pump_other o = record {
    kept = is.kept;
    live = is.live;
    within = (let l = at_within t.plan.nodes at o.node o.at in omega arith);
    counts = is.counts ∙ sym (one_more_no t.plan.nodes at o.node o.at is_effect_node no);
    gone = is.gone ∙ sym (one_more_no t.plan.nodes at o.node o.at (is_gone_in t.live.items) (ap (λ (b : Bool). b && is_dead (slice_get t.live.items o.node.owner)) no));
    draws = is.draws;
    first = is.first;
    left = is.left;
    few_left = is.few_left;
    through = through_more t t at is.left is.left (stays t at) (λ n i. i) is.through (λ node a k. absurd (o.other (ap (λ (z : PlanNode). z.kind) (one_at o.node node o.at a) ∙ k)));
    way = is.way;
  }
    where
      no : is_effect_node o.node ≡ false
      no = effect_no o.node.kind o.other

  pump_gone : IsEffectOf t at false → ArePumped t0 t (at + 1) (record told { gone = told.gone + 1 })
  pump_gone of = record {
    kept = is.kept;
    live = is.live;
    within = (let l = at_within t.plan.nodes at of.effect.node of.effect.at in omega arith);
    counts = (let a = is.counts in let b = counts_one t at false of in omega arith);
    gone = (let a = is.gone in let b = gone_counts_one t at of in omega arith);
    draws = is.draws;
    first = is.first;
    left = is.left;
    few_left = is.few_left;
    through = through_more t t at is.left is.left (stays t at) (λ n i. i) is.through (λ node a k. inr (inl (ap (λ (z : PlanNode). slice_get t.live.items z.owner) (one_at node of.effect.node a of.effect.at) ∙ owned t at false of)));
    way = is.way;
  }

-- an effect whose owner is live
module _ (t0 t t' : Table) (at : ℕ) (told : Pumped) (is : ArePumped t0 t at told) (is_open : t.clock.in_phase ≡ true) (kept : IsKept t t') (of : IsEffectOf t at true) where
  all_counts : count_by is_effect_node (take (at + 1) t'.plan.nodes) ≡ count_by is_effect_node (take at t.plan.nodes) + 1
  all_counts = effects_in t t' (at + 1) kept.plan ∙ counts_one t at true of

  gone_counts : t'.live ≡ t.live → count_by (is_gone_in t'.live.items) (take (at + 1) t'.plan.nodes) ≡ count_by (is_gone_in t.live.items) (take at t.plan.nodes)
  gone_counts live = gone_in t t' (at + 1) kept.plan live ∙ live_counts_none t at of

  within' : at + 1 ≤ length t'.plan.nodes
  within' = let l = at_within t.plan.nodes at of.effect.node of.effect.at in let e = ap (λ (q : Plan). length q.nodes) kept.plan in omega arith

  module _ (came : Effect) (done : IsDone t t' at came) where
    others : OthersStay t t' at
    others = record { plan = done.tried.plan; live = done.tried.live; rows = done.tried.others }

    first' : FirstLeft t' told.first_left told.left
    first' = first_later told.first_left told.left t t' kept.plan (done_drawn t t' at came done).grows is.first

    through' : (n : ℕ) (node : PlanNode) → n < at + 1 → slice_get t'.plan.nodes n ≡ Some node → node.kind ≡ kind.Effect → IsThrough t' is.left n node
    through' = through_more t t' at is.left is.left others (λ n i. i) is.through (λ node a k. inr (inr done.clean))

  pump_same : IsDone t t' at effect.Same → ArePumped t0 t' (at + 1) (record told { same = told.same + 1 })
  pump_same done = record {
    kept = kept_on t0 t t' is.kept kept;
    live = done.tried.live ∙ is.live;
    within = within';
    counts = (let a = is.counts in let b = all_counts in omega arith);
    gone = is.gone ∙ sym (gone_counts done.tried.live);
    draws = done_draws t t' at (t0.clock.drawn + unclean_count t0.rows.items) effect.Same is.kept.table done is.draws;
    first = first' effect.Same done;
    left = is.left;
    few_left = is.few_left;
    through = through' effect.Same done;
    way = way_as t0 t t' at told is 0 0 told.ran told.left (omega arith) (omega arith) (same_notes t t' at is.kept.table is_open of done);
  }

  pump_ran : (code : Code) → IsDone t t' at (effect.Ran code) → ArePumped t0 t' (at + 1) (record told { ran = told.ran + 1 })
  pump_ran code done = record {
    kept = kept_on t0 t t' is.kept kept;
    live = done.tried.live ∙ is.live;
    within = within';
    counts = (let a = is.counts in let b = all_counts in omega arith);
    gone = is.gone ∙ sym (gone_counts done.tried.live);
    draws = done_draws t t' at (t0.clock.drawn + unclean_count t0.rows.items) (effect.Ran code) is.kept.table done is.draws;
    first = first' (effect.Ran code) done;
    left = is.left;
    few_left = is.few_left;
    through = through' (effect.Ran code) done;
    way = way_as t0 t t' at told is 1 0 (told.ran + 1) told.left refl (omega arith) (ran_notes t t' at is.kept.table is_open of code done);
  }

  pump_left : (number : ℕ) → IsLeft t t' at number → ArePumped t0 t' (at + 1) (counted told at (turn.Left number))
  pump_left number h = record {
    kept = kept_on t0 t t' is.kept kept;
    live = live ∙ is.live;
    within = within';
    counts = (let a = is.counts in let b = all_counts in omega arith);
    gone = is.gone ∙ sym (gone_counts live);
    draws = left_draws t t' at number (t0.clock.drawn + unclean_count t0.rows.items) is.kept.table of.effect h is.draws;
    first = first_of told.first_left is.first;
    left = at ∷ is.left;
    few_left = (let l = is.few_left in omega arith);
    through = through_more t t' at is.left (at ∷ is.left) others_left (λ n i. inr i) is.through (λ node a k. inl (inl refl, dirty));
    way = way_as t0 t t' at told is 0 1 told.ran (told.left + 1) (omega arith) refl (left_notes t t' at is.kept.table is_open of number h);
  }
    where
      live : t'.live ≡ t.live
      live = ap (λ (q : Table). q.live) h.filled.same ∙ ap (λ (q : Table). q.live) h.dirtied.rest ∙ h.stopped.tried.live

      rows : t'.rows.items ≡ set h.short.rows.items at (record h.dirtied.opened { colour = Dirty })
      rows = ap (λ (q : Table). q.rows.items) h.filled.same ∙ h.dirtied.rows

      dirty : (opened : Opened) → slice_get t'.rows.items at ≡ Some opened → opened.colour ≡ Dirty
      dirty opened w = let same = one_at opened (record h.dirtied.opened { colour = Dirty }) w (ap (λ (q : List Opened). slice_get q at) rows ∙ set_here h.short.rows.items at h.dirtied.opened (record h.dirtied.opened { colour = Dirty }) h.dirtied.at) in ap (λ (z : Opened). z.colour) same

      grows : t.clock.drawn ≤ t'.clock.drawn
      grows =
          let g = (short_drawn t h.short at h.stopped).grows in
          let c : h.dirty.clock.drawn ≡ h.short.clock.drawn = ap (λ (q : Table). q.clock.drawn) h.dirtied.rest in
          ⊎_elim (λ (e : t'.clock.drawn ≡ h.dirty.clock.drawn). let l : t.clock.drawn ≤ t'.clock.drawn = omega arith in l) (λ (e : t'.clock.drawn ≡ h.dirty.clock.drawn + 1). let l : t.clock.drawn ≤ t'.clock.drawn = omega arith in l) h.filled.drawn

      others_left : OthersStay t t' at
      others_left = record {
        plan = kept.plan;
        live = live;
        rows = (λ n node a k other. ap (λ (q : List Opened). slice_get q n) rows ∙ set_other h.short.rows.items at n (record h.dirtied.opened { colour = Dirty }) other ∙ h.stopped.tried.others n node a k other);
      }

      first_of : (o : Option (ℕ × Left)) → FirstLeft t o told.left → FirstLeft t' (option_or o (Some (at, left.Full number))) (told.left + 1)
      first_of None f = ((omega arith), subst (λ (q : Plan). IsEffect q.nodes at) (sym kept.plan) of.effect, (h.filled.above, h.filled.within))
      first_of (Some w) f = let x = first_later (Some w) told.left t t' kept.plan grows f in ((omega arith), x.1, x.2)

-- ---- each turn

pub pump_on : (t0 t t' : Table) (at : ℕ) (told told' : Pumped) (came : Turn) → ArePumped t0 t at told → t.clock.in_phase ≡ true → IsKept t t' → TurnedAs t t' at came → told' ≡ counted told at came → ArePumped t0 t' (at + 1) told'
pump_on t0 t t' at told told' came is is_open kept turned now = subst (ArePumped t0 t' (at + 1)) (sym now) (by came turned)
  where
    by : (came : Turn) → TurnedAs t t' at came → ArePumped t0 t' (at + 1) (counted told at came)
    by turn.Other h = subst (λ (q : Table). ArePumped t0 q (at + 1) told) (sym h.1) (pump_other t0 t at told is h.0)
    by turn.Gone h = subst (λ (q : Table). ArePumped t0 q (at + 1) (record told { gone = told.gone + 1 })) (sym h.1) (pump_gone t0 t at told is h.0)
    by turn.Same h = pump_same t0 t t' at told is is_open kept h.0 h.1
    by (turn.Ran code) h = pump_ran t0 t t' at told is is_open kept h.0 code h.1
    by (turn.Left number) h = pump_left t0 t t' at told is is_open kept h.0 number h.1

-- ---- it begins

abbrev pub none_told : Pumped
none_told = record { ran = 0; same = 0; gone = 0; left = 0; first_left = None }

pub pump_begins : (t : Table) → IsTable t → ArePumped t t 0 none_told
pump_begins t table = record {
  kept = record { table = table; plan = refl; base = refl; in_phase = refl };
  live = refl;
  within = omega arith;
  counts = refl;
  gone = refl;
  draws = record { drawn = omega arith; left = (λ e. omega arith) };
  first = refl;
  left = [];
  few_left = omega arith;
  through = (λ n node l. absurd (omega arith));
  way = none_notes t;
}

-- few enough are counted
pub few_told : (t0 t : Table) (at : ℕ) (told : Pumped) → ArePumped t0 t at told → at < length t.plan.nodes → (told.ran + told.same) + (told.gone + told.left) < 4096
few_told t0 t at told is l =
    let a = is.counts in
    let b = count_by-le-length is_effect_node (take at t.plan.nodes) in
    let c = length-take-le at t.plan.nodes (omega arith) in
    let d = is.kept.table.lawful.few_nodes in
    omega arith

-- ---- it ends

among_in : (ns : List ℕ) (n : ℕ) → is_among ns n ≡ true → In n ns
among_in [] n e = cc
among_in (m ∷ ns) n e = elim (nat_eq n m) as (λ b. (nat_eq n m ≡ b) → (b || is_among ns n) ≡ true → (m ≡ n) ⊎ In n ns) [
  | true ↦ λ q h. inl (let r : m ≡ n = grind (arith, nat_tests) in r)
  | false ↦ λ q h. inr (among_in ns n h)
] refl e

in_among : (ns : List ℕ) (n : ℕ) → In n ns → is_among ns n ≡ true
in_among [] n i = absurd i
in_among (m ∷ ns) n i = ⊎_elim (λ (e : m ≡ n). ap (λ (b : Bool). b || is_among ns n) (is_yes n m (sym e))) (λ t. or_so (nat_eq n m) (is_among ns n) (in_among ns n t)) i
  where
    or_so : (a b : Bool) → b ≡ true → (a || b) ≡ true
    or_so true b e = refl
    or_so false b e = e

count_same : {A : Type 0} (p q : A → Bool) (xs : List A) → ((n : ℕ) (x : A) → slice_get xs n ≡ Some x → p x ≡ q x) → count_by p xs ≡ count_by q xs
count_same p q [] same = refl
count_same p q (x ∷ xs) same = sum_by-cons (λ y. cond (p y) 1 0) x xs ∙ (λ i. cond (same zero x refl i) 1 0 + count_same p q xs (λ n y at. same (suc n) y at) i) ∙ sym (sum_by-cons (λ y. cond (q y) 1 0) x xs)

module _ (s : Start) (g : Going) (t : Table) (edits : List (List Edit)) (room : ℕ) (home : AreHome s) (way : IsOnWay s g (open_seen t edits room)) where
  -- an owner of a row that is dead was disposed in the phase
  disposed : (n : ℕ) (node : PlanNode) → slice_get s.plan.nodes n ≡ Some node → slice_get t.live.items node.owner ≡ Some false → In node.owner (disposed_in g.entries)
  disposed n node at d = by (way.dead node.owner d)
    where
      by : IsDead s g.entries node.owner → In node.owner (disposed_in g.entries)
      by (inl i) =
          let r = in_filter (λ m. not (get_or s.live m false)) (range_with_len 0 (length s.live)) node.owner i in
          absurd (not_both (not (get_or s.live node.owner false)) r.1 (ap not (get_or_from_slice_get s.live node.owner true false (home.homes n node at))))
      by (inr i) = i

  -- the effects whose owner is dead are those whose owner was disposed in the phase
  gone_is : (n : ℕ) (node : PlanNode) → slice_get s.plan.nodes n ≡ Some node → (b : Bool) → slice_get t.live.items node.owner ≡ Some b → is_gone_in t.live.items node ≡ is_gone (disposed_in g.entries) node
  gone_is n node at false live = ap (λ (b : Bool). is_effect_node node && b) (ap is_dead live ∙ sym (in_among (disposed_in g.entries) node.owner (disposed n node at live)))
  gone_is n node at true live = ap (λ (b : Bool). is_effect_node node && b) (ap is_dead live ∙ sym (no (is_among (disposed_in g.entries) node.owner) refl))
    where
      no : (b : Bool) → is_among (disposed_in g.entries) node.owner ≡ b → is_among (disposed_in g.entries) node.owner ≡ false
      no true e = absurd (way.alive node.owner live (inr (among_in (disposed_in g.entries) node.owner e)))
      no false e = e

  -- the value of an effect that is clean stands
  stands_clean : IsTable t → t.clock.in_phase ≡ true → t.plan ≡ s.plan → (n : ℕ) (node : PlanNode) → slice_get s.plan.nodes n ≡ Some node → node.kind ≡ kind.Effect → ((opened : Opened) → slice_get t.rows.items n ≡ Some opened → is_clean opened.colour ≡ true) → last_value s g.entries n ≡ Some (plain_code s g.entries n)
  stands_clean table is_open plan n node at k clean =
      let e = ap (λ (q : Plan). length q.nodes) plan in
      let row = within_at t.rows.items n (let l = at_within s.plan.nodes n node at in let p = table.good.paired in omega arith) in
      let at' : slice_get t.plan.nodes n ≡ Some node = ap (λ (q : Plan). slice_get q.nodes n) plan ∙ at in
      let good = (table.good.each n node row.0 at' row.1).derived (effect_derived node.kind k) in
      let ran : row.0.body.cause ≢ None = (λ none. dirty row.0 (good.fresh none) (clean row.0 row.1)) in
      let value = running.effect_shows s g.entries t.clock.base n row.0 node.kind k (way.shown n node row.0 at row.1) ran in
      let still = still_open t table is_open in
      let plain = clean_at t.plan.nodes t.rows.items (reads_back t.plan.nodes still.lawful) table.good n row.0 row.1 (clean row.0 row.1) in
      let over = plain_is s g.entries t.clock.base t.rows.items (table.good.paired ∙ e) way.shown n in
      let same = ap (λ (q : Plan). plan_value q.nodes (value_in t.rows.items) n) plan in
      value ∙ ap (λ (c : Code). Some c) (sym plain ∙ same ∙ over)
    where
      dirty : (row : Opened) → row.colour ≡ Dirty → is_clean row.colour ≡ true → ⊥
      dirty row d c = not_both (is_clean row.colour) c (ap is_clean d)

pub pump_ends : (t t' : Table) (pass : ℕ) (told : Pumped) → IsTable t → t.clock.in_phase ≡ true → ArePumped t t' (length t'.plan.nodes) told → MakesHome t t' pass (pump told)
pump_ends t t' pass told table is_open is = makes_home t t' pass (pump told) (λ s edits room home way.
    let r = is.way s edits room way in
    let p = r.1 in
    let on = r.2 in (
      r.0,
      at_clock t'.clock,
      (
        p.goes,
        record {
          of_pump = p.of_pump;
          draws = (let d = is.draws.drawn in let u = changes.unclean_few t.plan.nodes t.rows.items table.good.paired (λ i node row n w k. (table.good.each i node row n w).source k) in omega arith);
          counts = is.counts ∙ all is_effect_node;
          ran = p.runs;
          void = (let v = p.voids in omega arith);
          gone = is.gone ∙ ap (λ (q : List PlanNode). count_by (is_gone_in t'.live.items) q) (take-length t'.plan.nodes) ∙ gone_of s edits room home way;
          first = first_of told.first_left is.first;
          stand = (is.left, is.few_left, (λ n e. stand s edits room home on n e.0 e.1 e.2 (is.through n e.0 (let l = at_within t.plan.nodes n e.0 e.1 in let q = ap (λ (x : Plan). length x.nodes) is.kept.plan in omega arith) (ap (λ (x : Plan). slice_get x.nodes n) is.kept.plan ∙ e.1) e.2)));
        },
      ),
      on,
    ))
  where
    all : (f : PlanNode → Bool) → count_by f (take (length t'.plan.nodes) t'.plan.nodes) ≡ count_by f t.plan.nodes
    all f = ap (λ (q : List PlanNode). count_by f q) (take-length t'.plan.nodes) ∙ ap (λ (q : Plan). count_by f q.nodes) is.kept.plan

    gone_of : (s : Start) (edits : List (List Edit)) (room : ℕ) → AreHome (with_plan s t.plan) → IsOnWay (with_plan s t.plan) (at_clock t.clock) (open_seen t edits room) → count_by (is_gone_in t'.live.items) t'.plan.nodes ≡ count_by (is_gone (disposed_in t.clock.entries.list)) t.plan.nodes
    gone_of s edits room home way = (λ i. count_by (is_gone_in (is.live i).items) (is.kept.plan i).nodes) ∙ count_same (is_gone_in t.live.items) (is_gone (disposed_in t.clock.entries.list)) t.plan.nodes (λ n node at.
        let o = within_at t.live.items node.owner (let w = table.lawful.owned n node at in let l = table.owners in omega arith) in
        gone_is (with_plan s t.plan) (at_clock t.clock) t edits room home way n node at o.0 o.1)

    first_of : (o : Option (ℕ × Left)) → FirstLeft t' o told.left → MatchOption o (told.left ≡ 0) (λ f. (0 < told.left) × ((node : PlanNode) × (slice_get t.plan.nodes f.0 ≡ Some node) × (node.kind ≡ kind.Effect)) × LeftFull f.1 t'.clock.drawn)
    first_of None f = f
    first_of (Some w) f = (f.0, (f.1.node, ap (λ (q : Plan). slice_get q.nodes w.0) (sym is.kept.plan) ∙ f.1.at, f.1.is), f.2)

    stand : (s : Start) (edits : List (List Edit)) (room : ℕ) → AreHome (with_plan s t.plan) → IsOnWay (with_plan s t.plan) (at_clock t'.clock) (open_seen t' edits room) → (n : ℕ) (node : PlanNode) → slice_get t.plan.nodes n ≡ Some node → node.kind ≡ kind.Effect → IsThrough t' is.left n node → In n is.left ⊎ StandsNow (with_plan s t.plan) t'.clock.entries.list n
    stand s edits room home on n node at k (inl i) = inl i.0
    stand s edits room home on n node at k (inr (inl d)) = inr (inl (node, at, disposed (with_plan s t.plan) (at_clock t'.clock) t' edits room home on n node at d))
    stand s edits room home on n node at k (inr (inr c)) = inr (inr (stands_clean (with_plan s t.plan) (at_clock t'.clock) t' edits room home on is.kept.table (is.kept.in_phase ∙ is_open) is.kept.plan n node at k c))

-- each effect whose owner is live is clean or dirty then
pub pump_leaves : (t t' : Table) (told : Pumped) → ArePumped t t' (length t'.plan.nodes) told → AreRunOrLeft t.plan.nodes t.live.items t'.rows.items
pump_leaves t t' told is n node row at k alive w = by (is.through n node (let l = at_within t.plan.nodes n node at in let q = ap (λ (x : Plan). length x.nodes) is.kept.plan in omega arith) (ap (λ (x : Plan). slice_get x.nodes n) is.kept.plan ∙ at) k)
  where
    by : IsThrough t' is.left n node → (is_clean row.colour ≡ true) ⊎ (row.colour ≡ Dirty)
    by (inl i) = inr (i.1 row w)
    by (inr (inl dead)) = let no : true ≡ false = one_at true false alive (ap (λ v. slice_get v.items node.owner) (sym is.live) ∙ dead) in cc
    by (inr (inr clean)) = inl (clean row w)
