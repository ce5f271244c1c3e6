-- How a phase opens.
use Rattle.std.proofs.Common.{◌≡◌, ◌≢◌, inl, inr, ℕ, zero, suc, ◌+◌, ◌≤◌, ◌<◌, ◌^◌, Bool, true, false, Option, Some, List, [], slice_get, length, get_or, refl, sym, ap, subst, ◌∙◌, arith}
use Rattle.std.specs.Prelude.{not, unwrap_or}
use Rattle.std.specs.List.{range_with_len}
use Rattle.std.proofs.lemmas.Option.{get_or_from_slice_get}
use Rattle.values.specs.declared.code.Code.{Code}
use Rattle.values.specs.declared.code.Code.TheVariants.{Empty}
use Rattle.values.specs.declared.plan.Kind.{Kind}
use Rattle.values.specs.declared.plan.Kind.TheVariants as kind
use Rattle.values.specs.declared.plan.Noted.{Noted}
use Rattle.values.specs.Packing.{unpacked}
use Rattle.values.specs.Reserved.{Reserve}
use Rattle.store_fields.specs.declared.edit.Edit.{Edit}
use Rattle.script_items.specs.Script.{numbered}
use Rattle.sources.specs.declared.opening.Opened.{Opened}
use Rattle.still_readers.proofs.Lists.{at_within, replicate_at, not_both}
use Rattle.run_history.specs.Going.{Start, just_opened, IsDead}
use Rattle.phase_graph.specs.declared.table.Table.{Table}
use Rattle.phase_graph.specs.Graph.{GraphState, ticks_of}
use Rattle.phase_graph.specs.Table.{seen, IsTable, begun}
use Rattle.phase_graph.specs.Way.{Shows, ShowsAs, IsOnWay, OpensAs, OpensWith, no_edits}
use Rattle.phase_graph.proofs.Lists.{filter_in, in_filter, range_in}

opening_as : (s : Start) (rs : List Opened) (n base : ℕ) (row : Opened) (k : Kind) → row.version ≤ base → OpensAs k s rs n row → ShowsAs k s [] base n row
opening_as s rs n base row k old h = by k h
  where
    shows : slice_get s.values n ≡ Some (unpacked row.code) → Shows [] base n row (unwrap_or (slice_get s.values n) Empty)
    shows e = record { value = ap (λ (o : Option Code). unwrap_or o Empty) (sym e); number = omega arith }

    by : (k : Kind) → OpensAs k s rs n row → ShowsAs k s [] base n row
    by kind.Signal e = shows e
    by kind.Field e = shows e
    by kind.Load e = shows e
    by kind.Memo e = shows e
    by kind.Effect e = e

opening_value : (s : Start) (rs : List Opened) (n : ℕ) (row : Opened) (k : Kind) → k ≢ kind.Effect → OpensAs k s rs n row → slice_get s.values n ≡ Some (unpacked row.code)
opening_value s rs n row kind.Signal e h = h
opening_value s rs n row kind.Field e h = h
opening_value s rs n row kind.Load e h = h
opening_value s rs n row kind.Memo e h = h
opening_value s rs n row kind.Effect e h = absurd (e refl)

none_noted : (passes pass : ℕ) (edits : List Edit) → numbered (no_edits passes) pass ≡ Some edits → length edits ≡ 0
none_noted passes zero edits at = cc
none_noted passes (suc pass) edits at = ap length (replicate_at passes [] pass edits at)

module _ (t : Table) (table : IsTable t) (list : Reserve Noted) (empty : list.list ≡ []) (passes room : ℕ) (early : t.clock.base + t.clock.drawn < 2 ^ 62) where
  opens_seen : (lists : List (List Edit)) (s : Start) → OpensWith s (seen t lists room) → (more : List (List Edit)) (width : ℕ) → more ≡ no_edits passes → IsOnWay s just_opened (seen (begun t list) more width)
  opens_seen lists s opens more width none = record {
    plan = opens.plan;
    is_open = refl;
    drawn = refl;
    entries = empty;
    numbered_so = (omega arith, λ l. absurd (omega arith));
    shown = (λ n node row at w. opening_as s t.rows.items n (t.clock.base + t.clock.drawn) row node.kind (old n row w) (opens.each n node row at w));
    current = (λ n node row at w k. let o = old n row w in inl ((omega arith), ap (λ (q : Option Code). unwrap_or q Empty) (opening_value s t.rows.items n row node.kind k (opens.each n node row at w))));
    dead = (λ owner at.
        let l = live_at owner false at in
        let w = at_within s.live owner false (sym (same owner) ∙ at) in
        inl (filter_in (λ m. not (get_or s.live m false)) (range_with_len 0 (length s.live)) owner (range_in 0 (length s.live) owner (omega arith) (omega arith)) (ap not l)));
    alive = (λ owner at d. by owner at d);
    noted_edits = (λ pass edits at. none_noted passes pass edits (ap (λ (q : List (List Edit)). numbered q pass) (sym none) ∙ at));
  }
    where
      old : (n : ℕ) (row : Opened) → slice_get t.rows.items n ≡ Some row → row.version ≤ t.clock.base + t.clock.drawn
      old n row w = (table.still (omega arith)).dated.held n row w

      same : (owner : ℕ) → slice_get t.live.items owner ≡ slice_get s.live owner
      same owner = ap (λ (q : List Bool). slice_get q owner) opens.live

      live_at : (owner : ℕ) (b : Bool) → slice_get t.live.items owner ≡ Some b → get_or s.live owner false ≡ b
      live_at owner b at = get_or_from_slice_get s.live owner b false (sym (same owner) ∙ at)

      by : (owner : ℕ) → slice_get t.live.items owner ≡ Some true → IsDead s [] owner → ⊥
      by owner at (inr z) = absurd z
      by owner at (inl i) =
          let r = in_filter (λ m. not (get_or s.live m false)) (range_with_len 0 (length s.live)) owner i in
          not_both (not (get_or s.live owner false)) r.1 (ap not (live_at owner true at))

pub opens_way : (x : GraphState) (t t' : Table) (list : Reserve Noted) (lists more : List (List Edit)) (room width passes : ℕ) → seen t lists room ≡ x → IsTable t → list.list ≡ [] → ticks_of x < 2 ^ 62 → more ≡ no_edits passes → t' ≡ begun t list → (s : Start) → OpensWith s x → IsOnWay s just_opened (seen t' more width)
opens_way x t t' list lists more room width passes view table empty early none is s opens =
    subst (λ (q : Table). IsOnWay s just_opened (seen q more width)) (sym is)
    (opens_seen t table list empty passes room (subst (λ (q : GraphState). ticks_of q < 2 ^ 62) (sym view) early) lists s (subst (OpensWith s) (sym view) opens) more width none)
