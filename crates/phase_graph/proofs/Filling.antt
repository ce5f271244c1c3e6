-- The entry of a number that was held for a run says now that the effect ran.
use Rattle.std.proofs.Common.{◌≡◌, ◌⊎◌, inl, inr, ℕ, ◌+◌, cond, Bool, true, false, Option, Some, None, List, [], ◌∷◌, ◌++◌, drop, length, refl, sym, ap, subst, ◌∙◌}
use Rattle.std.specs.Prelude.{nat_eq, filter_map, unwrap_or}
use Rattle.std.specs.List.{cons_option, last_or}
use Rattle.std.specs.Option.{option_or}
use Rattle.std.proofs.lemmas.List.Elements.{filter_map-append}
use Rattle.std.proofs.lemmas.List.Sums.{sum_by-cons}
use Rattle.values.specs.declared.code.Code.{Code}
use Rattle.values.specs.declared.plan.Fact.{Fact}
use Rattle.values.specs.declared.plan.Fact.TheVariants as fact
use Rattle.values.specs.declared.plan.Noted.{Noted}
use Rattle.values.specs.PlanValues.{plan_value}
use Rattle.run_meaning.specs.Words.{In}
use Rattle.run_meaning.specs.Opened.{Opened, opening_code}
use Rattle.run_meaning.specs.Entries.{fact_at, written_of, changed_of, ran_of, disposed_by, disposed_in}
use Rattle.run_meaning.specs.Merge.{changed_to, DiffersFrom, AllDiffer}
use Rattle.run_meaning.specs.Told.{IsCurrent}
use Rattle.run_history.specs.Going.{Start, opened_at, note, all_are, new_value_of, latest_code, plain_code, shown_number, last_value, IsDead, is_edit_by, edits_by, EntryFits, Goes}
use Rattle.run_history.specs.Calls.{is_change}
use Rattle.run_history.proofs.Cut.{is_yes, is_no, some_same}
use Rattle.run_history.proofs.Disposals.{in_all}
use Rattle.phase_graph.proofs.Blocks.{last_is, edits_append}

-- what stands behind one more than the front
pub drop_front : {A : Type 0} (front : List A) (x : A) (later : List A) → drop (length (front ++ x ∷ [])) (front ++ x ∷ later) ≡ later
drop_front [] x later = refl
drop_front (y ∷ front) x later = drop_front front x later

-- an entry that is of no such kind is passed over
skips : {X : Type 0} (h : Noted → Option X) (front later : List Noted) (e : Noted) → h e ≡ None → filter_map h (front ++ e ∷ later) ≡ filter_map h (front ++ later)
skips {X} h front later e none = filter_map-append h front (e ∷ later) ∙ (ap (λ (o : Option X). filter_map h front ++ cons_option o (filter_map h later)) none ∙ sym (filter_map-append h front later))

-- ---- changes behind other entries

abbrev pub SameChanges : List Noted → List Noted → Type 0
SameChanges es es' = (n : ℕ) → filter_map (λ e. changed_of n e.fact) es' ≡ filter_map (λ e. changed_of n e.fact) es

differ_swap : (o : Opened) (es es' block : List Noted) → SameChanges es es' → AllDiffer o es block → AllDiffer o es' block
differ_swap o es es' [] same h = tt
differ_swap o es es' (e ∷ block) same h = (one e.fact h.0, differ_swap o (es ++ e ∷ []) (es' ++ e ∷ []) block more h.1)
  where
    more : SameChanges (es ++ e ∷ []) (es' ++ e ∷ [])
    more n = filter_map-append (λ (d : Noted). changed_of n d.fact) es' (e ∷ []) ∙ (ap (λ (t : List Code). t ++ filter_map (λ (d : Noted). changed_of n d.fact) (e ∷ [])) (same n) ∙ sym (filter_map-append (λ (d : Noted). changed_of n d.fact) es (e ∷ [])))

    one : (f : Fact) → DiffersFrom o es f → DiffersFrom o es' f
    one (fact.Write row code) d = tt
    one (fact.Change row code) d = (d.0, λ q. d.1 (sym (ap (λ (t : List Code). unwrap_or (last_or None t) (opening_code o row)) (same row)) ∙ q))
    one (fact.Ran row code) d = tt
    one (fact.Void row) d = tt
    one (fact.Disposed owner) d = tt
    one (fact.Edit pass index) d = tt

fit_swap : (s : Start) (es es' now now' : List Noted) (f : Fact) → ((n : ℕ) → plain_code s now' n ≡ plain_code s now n) → is_change f ≡ true → EntryFits s es now f → EntryFits s es' now' f
fit_swap s es es' now now' (fact.Write row code) same e fit = tt
fit_swap s es es' now now' (fact.Change row code) same e fit = fit ∙ sym (same row)
fit_swap s es es' now now' (fact.Ran row code) same e fit = cc
fit_swap s es es' now now' (fact.Void row) same e fit = tt
fit_swap s es es' now now' (fact.Disposed owner) same e fit = tt
fit_swap s es es' now now' (fact.Edit pass index) same e fit = tt

-- changes go behind other entries, which say the same of memos and of plain values
pub swap_goes : (s : Start) (a b : ℕ) (es es' now now' block : List Noted) → Goes s (record { drawn = a; entries = es }) block (record { drawn = b; entries = now }) → all_are is_change block ≡ true → now' ≡ es' ++ block → SameChanges es es' → ((n : ℕ) → plain_code s now' n ≡ plain_code s now n) → Goes s (record { drawn = a; entries = es' }) block (record { drawn = b; entries = now' })
swap_goes s a b es es' now now' block goes changes is same plain = record {
  entries = is;
  numbered = goes.numbered;
  of_plan = goes.of_plan;
  differ = differ_swap (opened_at s) es es' block same goes.differ;
  fit = (λ e i. fit_swap s es es' now now' e.fact plain (in_all is_change block e changes i) (goes.fit e i));
}

-- ---- what the entries say, but for the run

fact_swap : (m : ℕ) (x x' : Fact) (later : List Noted) (k : ℕ) (front : List Noted) (f : Fact) → (x ≡ f → ⊥) → fact_at k (front ++ note m x ∷ later) ≡ Some f → fact_at k (front ++ note m x' ∷ later) ≡ Some f
fact_swap m x x' later k [] f other at = elim (nat_eq k m) as (λ b. cond b (Some x) (fact_at k later) ≡ Some f → cond b (Some x') (fact_at k later) ≡ Some f) [ true ↦ λ e. absurd (other (some_same x f e)) | false ↦ λ e. e ] at
fact_swap m x x' later k (d ∷ front) f other at = elim (nat_eq k d.number) as (λ b. cond b (Some d.fact) (fact_at k (front ++ note m x ∷ later)) ≡ Some f → cond b (Some d.fact) (fact_at k (front ++ note m x' ∷ later)) ≡ Some f) [ true ↦ λ e. e | false ↦ λ e. fact_swap m x x' later k front f other e ] at

void_is_no_write : (row n : ℕ) (code : Code) → fact.Void row ≡ fact.Write n code → ⊥
void_is_no_write row n code e = cc

void_is_no_change : (row n : ℕ) (code : Code) → fact.Void row ≡ fact.Change n code → ⊥
void_is_no_change row n code e = cc

module _ (s : Start) (front later : List Noted) (k i : ℕ) (code : Code) where
  abbrev pub held : List Noted
  held = front ++ note k (fact.Void i) ∷ later

  abbrev pub ran : List Noted
  ran = front ++ note k (fact.Ran i code) ∷ later

  same_of : {X : Type 0} (h : Noted → Option X) → h (note k (fact.Void i)) ≡ None → h (note k (fact.Ran i code)) ≡ None → filter_map h ran ≡ filter_map h held
  same_of h void run = skips h front later (note k (fact.Ran i code)) run ∙ sym (skips h front later (note k (fact.Void i)) void)

  pub same_latest : (n : ℕ) → latest_code s ran n ≡ latest_code s held n
  same_latest n = ap (λ (t : List Code). unwrap_or (last_or None t) (opening_code (opened_at s) n)) (same_of (λ e. written_of n e.fact) refl refl)

  pub same_plain : (n : ℕ) → plain_code s ran n ≡ plain_code s held n
  same_plain n = λ j. plan_value s.plan.nodes (λ m. same_latest m j) n

  pub same_changed : (n : ℕ) → changed_to (opened_at s) n ran ≡ changed_to (opened_at s) n held
  same_changed n = ap (λ (t : List Code). unwrap_or (last_or None t) (opening_code (opened_at s) n)) (same_of (λ e. changed_of n e.fact) refl refl)

  pub same_memos : SameChanges held ran
  same_memos n = same_of (λ e. changed_of n e.fact) refl refl

  pub same_number : (n : ℕ) → shown_number ran n ≡ shown_number held n
  same_number n = ap (λ (t : List ℕ). unwrap_or (last_or None t) 0) (same_of (λ e. new_value_of n e.fact e.number) refl refl)

  pub same_runs : (n : ℕ) → (n ≡ i → ⊥) → last_value s ran n ≡ last_value s held n
  same_runs n other = ap (λ (t : List Code). option_or (last_or None t) (s.ran n)) (same_of (λ e. ran_of n e.fact) refl (ap (λ (b : Bool). cond b (Some code) None) (is_no n i other)))

  pub same_owners : disposed_in ran ≡ disposed_in held
  same_owners = same_of disposed_by refl refl

  pub same_dead : (n : ℕ) → IsDead s ran n → IsDead s held n
  same_dead n (inl d) = inl d
  same_dead n (inr d) = inr (subst (In n) same_owners d)

  pub dead_still : (n : ℕ) → IsDead s held n → IsDead s ran n
  dead_still n (inl d) = inl d
  dead_still n (inr d) = inr (subst (In n) (sym same_owners) d)

  pub same_edits : (pass : ℕ) → edits_by pass ran ≡ edits_by pass held
  same_edits pass =
      let a = edits_append pass front (note k (fact.Ran i code) ∷ later) in
      let b = edits_append pass front (note k (fact.Void i) ∷ later) in
      let c = sum_by-cons (λ (e : Noted). cond (is_edit_by pass e.fact) 1 0) (note k (fact.Ran i code)) later in
      let d = sum_by-cons (λ (e : Noted). cond (is_edit_by pass e.fact) 1 0) (note k (fact.Void i)) later in
      a ∙ ap (λ (z : ℕ). edits_by pass front + z) (c ∙ sym d) ∙ sym b

  pub same_current : (n : ℕ) (value : Code) (m : ℕ) → IsCurrent (opened_at s) held n value m → IsCurrent (opened_at s) ran n value m
  same_current n value m (inl h) = inl h
  same_current n value m (inr (inl h)) = inr (inl (fact_swap k (fact.Void i) (fact.Ran i code) later m front (fact.Write n value) (void_is_no_write i n value) h))
  same_current n value m (inr (inr h)) = inr (inr (fact_swap k (fact.Void i) (fact.Ran i code) later m front (fact.Change n value) (void_is_no_change i n value) h))

  -- the run is the last one of its row, where only changes stand behind it
  pub last_of : all_are is_change later ≡ true → last_value s ran i ≡ Some code
  last_of changes = ap (λ (o : Option Code). option_or o (s.ran i)) (last_is (λ e. ran_of i e.fact) front (note k (fact.Ran i code) ∷ later) (note k (fact.Ran i code)) code (inl refl) here all)
    where
      here : ran_of i (fact.Ran i code) ≡ Some code
      here = ap (λ (b : Bool). cond b (Some code) None) (is_yes i i refl)

      none : (f : Fact) → is_change f ≡ true → ran_of i f ≡ None
      none (fact.Write row c) e = refl
      none (fact.Change row c) e = refl
      none (fact.Ran row c) e = cc
      none (fact.Void row) e = refl
      none (fact.Disposed owner) e = refl
      none (fact.Edit pass index) e = refl

      all : (d : Noted) → In d (note k (fact.Ran i code) ∷ later) → (ran_of i d.fact ≡ None) ⊎ (ran_of i d.fact ≡ Some code)
      all d (inl e) = inr (ap (λ (z : Noted). ran_of i z.fact) (sym e) ∙ here)
      all d (inr t) = inl (none d.fact (in_all is_change later d changes t))
