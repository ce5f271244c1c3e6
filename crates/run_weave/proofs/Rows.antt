-- The worked rows, call by call.
use Rattle.std.proofs.Common.{◌≡◌, ℕ, zero, suc, ◌+◌, ◌<◌, List, [], ◌∷◌, ◌++◌, refl, subst, inl, inr, ⊎_elim, arith, Ok, Err}
use Rattle.values.specs.declared.plan.Noted.{Noted}
use Rattle.values.specs.declared.plan.Fact.{Fact}
use Rattle.values.specs.declared.plan.Fact.TheVariants as fact
use Rattle.values.specs.declared.plan.Stop.TheVariants as stop
use Rattle.store_fields.specs.declared.edit.Edit.{Edit}
use Rattle.store_fields.specs.declared.edit.Verdict.TheVariants as verdict
use Rattle.run_items.specs.declared.limits.TheConstants.{LAST_NUMBER}
use Rattle.run_meaning.specs.Words.{In}
use Rattle.run_meaning.specs.Opened.{Target, at_row, at_none}
use Rattle.run_meaning.specs.Phase.{IsOfPlan}
use Rattle.run_meaning.specs.Merge.{DiffersFrom}
use Rattle.run_history.specs.Going.{Start, start_of, opened_at, just_opened, note, IsDead, IsOwnedBy, EntryFits, Goes, edits_by}
use Rattle.run_history.specs.Calls.{IsDisposed, set, dispose, edit, Makes, CallsLead, calls_by}
use Rattle.run_weave.specs.Lanes.{LaneSpeaks, ended, rests, speaks, LanesSpeak, lane_of, TargetsFit}
use Rattle.run_meaning.specs.Entries.{disposed_in}
use Rattle.values.specs.declared.code.Code.TheVariants.{Empty}
use Rattle.values.specs.declared.expr.Expr.TheVariants.{Lit}
use Rattle.values.specs.declared.plan.Kind.TheVariants as kind
use Rattle.run_weave.specs.Worked.{number, node, made, going, area_opened, area_calls, area_lanes, area_end, store_opened, insert, edits_calls, edits_lanes, edits_end, shared_calls, shared_lanes, shared_end}
use Rattle.run_history.proofs.Steps.{nothing_goes, one_goes as entry_goes}
use Rattle.run_weave.proofs.Whole.{lanes_speak}
use Rattle.run_weave.proofs.Opens.{row_or}

-- ---- a call that notes one entry

pub one_goes : (s : Start) (es : List Noted) (drawn : ℕ) (f : Fact) → drawn < LAST_NUMBER → IsOfPlan (opened_at s) f → DiffersFrom (opened_at s) es f → EntryFits s es (es ++ note (drawn + 1) f ∷ []) f
    → Goes s (going es drawn) (note (drawn + 1) f ∷ []) (going (es ++ note (drawn + 1) f ∷ []) (drawn + 1))
one_goes s es drawn f room of_plan differs fits = entry_goes s (going es drawn) f (inl room) of_plan differs fits

-- ---- the area

abbrev area_start : Start
area_start = start_of [] area_opened

abbrev gone : List Noted
gone = note 1 (fact.Disposed 1) ∷ []

first_disposal : IsDisposed area_start just_opened gone area_end 1 (record { now = 1; before = 0 })
first_disposal = record {
  disposals = refl;
  draws = refl;
  now = refl;
  all = refl;
  falls = (omega arith, tt);
  of_area = λ n i. (i, λ d. ⊎_elim (λ (z : ⊥). z) (λ (z : ⊥). z) d);
  dead = λ n i. inr i;
}

second_disposal : IsDisposed area_start area_end [] area_end 1 (record { now = 0; before = 1 })
second_disposal = record {
  disposals = refl;
  draws = refl;
  now = refl;
  all = refl;
  falls = tt;
  of_area = λ n i. absurd i;
  dead = λ n i. inr i;
}

pub area_lead : CallsLead area_start just_opened area_calls area_end
area_lead = (
  area_end,
  (gone, (one_goes area_start [] 0 (fact.Disposed 1) (omega arith) (omega arith) tt tt, first_disposal)),
  (
    area_end,
    ([], (nothing_goes area_start area_end, second_disposal)),
    (
      area_end,
      ([], (nothing_goes area_start area_end, ((1, (node kind.Signal (Lit Empty) 1, refl, refl), (refl, inr (inl refl), (refl, refl))), refl))),
      refl,
    ),
  ),
)

pub area_speak : LanesSpeak area_opened area_calls area_lanes
area_speak = lanes_speak area_opened area_calls area_lanes ((omega arith, omega arith), ((omega arith, omega arith), ((omega arith, omega arith), tt))) each
  where
    each : (i : ℕ) → i < 1 → LaneSpeaks area_opened (calls_by (suc i) area_calls) (lane_of area_lanes (suc i))
    each zero l = speaks (dispose 1 (record { now = 1; before = 0 })) _ (refl, refl) (speaks (dispose 1 (record { now = 0; before = 1 })) _ (refl, refl) (speaks (set 0 (number 2) (Err (stop.Disposed 1))) _ (refl, refl, refl) ended))
    each (suc i) l = absurd (omega arith)

-- ---- the store

abbrev store_start : Start
store_start = start_of [] store_opened

nobody : (es : List Noted) → disposed_in es ≡ [] → IsDead store_start es 0 → ⊥
nobody es none d = ⊎_elim (λ (z : ⊥). z) (λ (i : In 0 (disposed_in es)). subst (λ (t : List ℕ). In 0 t) none i) d

-- an edit by a pass that noted so many
edit_makes : (es : List Noted) (drawn pass : ℕ) (asked : Edit) → drawn < LAST_NUMBER → disposed_in es ≡ [] → Makes store_start (going es drawn) (made pass (edit 0 asked (Ok (drawn + 1)))) (going (es ++ note (drawn + 1) (fact.Edit pass (edits_by pass es)) ∷ []) (drawn + 1))
edit_makes es drawn pass asked room none = (note (drawn + 1) (fact.Edit pass (edits_by pass es)) ∷ [], (one_goes store_start es drawn (fact.Edit pass (edits_by pass es)) room tt tt tt, (nobody es none, record { number = refl; drawn = refl; block_is = refl })))

pub edits_lead : CallsLead store_start just_opened edits_calls edits_end
edits_lead = (
  going (note 1 (fact.Edit 1 0) ∷ []) 1,
  edit_makes [] 0 1 (insert 1 5) (omega arith) refl,
  (
    going (note 1 (fact.Edit 1 0) ∷ note 2 (fact.Edit 1 1) ∷ []) 2,
    edit_makes (note 1 (fact.Edit 1 0) ∷ []) 1 1 (insert 1 6) (omega arith) refl,
    (
      edits_end,
      edit_makes (note 1 (fact.Edit 1 0) ∷ note 2 (fact.Edit 1 1) ∷ []) 2 1 (insert 2 7) (omega arith) refl,
      refl,
    ),
  ),
)

pub edits_speak : LanesSpeak store_opened edits_calls edits_lanes
edits_speak = lanes_speak store_opened edits_calls edits_lanes ((omega arith, omega arith), ((omega arith, omega arith), ((omega arith, omega arith), tt))) each
  where
    each : (i : ℕ) → i < 1 → LaneSpeaks store_opened (calls_by (suc i) edits_calls) (lane_of edits_lanes (suc i))
    each zero l = speaks (edit 0 (insert 1 5) (Ok 1)) _ (refl, refl, (verdict.Done, refl)) (speaks (edit 0 (insert 1 6) (Ok 2)) _ (refl, refl, (verdict.Present, refl)) (speaks (edit 0 (insert 2 7) (Ok 3)) _ (refl, refl, (verdict.AtMax, refl)) ended))
    each (suc i) l = absurd (omega arith)

pub shared_lead : CallsLead store_start just_opened shared_calls shared_end
shared_lead = (
  going (note 1 (fact.Edit 1 0) ∷ []) 1,
  edit_makes [] 0 1 (insert 1 5) (omega arith) refl,
  (
    going (note 1 (fact.Edit 1 0) ∷ note 2 (fact.Edit 2 0) ∷ []) 2,
    edit_makes (note 1 (fact.Edit 1 0) ∷ []) 1 2 (insert 1 6) (omega arith) refl,
    (
      shared_end,
      edit_makes (note 1 (fact.Edit 1 0) ∷ note 2 (fact.Edit 2 0) ∷ []) 2 2 (insert 2 7) (omega arith) refl,
      refl,
    ),
  ),
)

pub shared_speak : LanesSpeak store_opened shared_calls shared_lanes
shared_speak = lanes_speak store_opened shared_calls shared_lanes ((omega arith, omega arith), ((omega arith, omega arith), ((omega arith, omega arith), tt))) each
  where
    each : (i : ℕ) → i < 2 → LaneSpeaks store_opened (calls_by (suc i) shared_calls) (lane_of shared_lanes (suc i))
    each zero l = speaks (edit 0 (insert 1 5) (Ok 1)) _ (refl, refl, (verdict.Done, refl)) ended
    each (suc zero) l = rests _ refl (speaks (edit 0 (insert 1 6) (Ok 2)) _ (refl, refl, (verdict.Present, refl)) (speaks (edit 0 (insert 2 7) (Ok 3)) _ (refl, refl, (verdict.AtMax, refl)) ended))
    each (suc (suc i)) l = absurd (omega arith)

-- ---- what ids stand for

pub area_targets : TargetsFit area_opened
area_targets = record { owned = λ past id key row e. subst (λ (t : Target). IsOwnedBy area_start (row_or t) 1) e (node kind.Signal (Lit Empty) 1, refl, refl) }

pub store_targets : TargetsFit store_opened
store_targets = record { owned = λ past id key row e. absurd (no_row row e) }
  where
    no_row : (row : ℕ) → at_none ≡ at_row row → ⊥
    no_row row e = cc
