-- Calls keep rows named.
use Rattle.std.proofs.Common.{◌≡◌, ◌⊎◌, ⊎_elim, inl, inr, ℕ, true, Option, Some, None, List, slice_get, set, refl, sym, ap, subst, ◌∙◌, arith, Contains}
use Rattle.values.specs.declared.plan.PlanNode.{PlanNode}
use Rattle.values.specs.Plan.{rows_in}
use Rattle.values.specs.PlanValues.{is_derived}
use Rattle.sources.specs.declared.body.Read.{Read}
use Rattle.sources.specs.declared.body.Cause.{Cause}
use Rattle.sources.specs.declared.body.Cause.TheVariants.{Changed}
use Rattle.sources.specs.declared.opening.Opened.{Opened}
use Rattle.sources.specs.Bodies.{IsChange, IsCaused}
use Rattle.sources.specs.Rows.{IsDerivedGood, IsGood}
use Rattle.still_readers.specs.declared.readers.Readers.{Readers}
use Rattle.still_readers.specs.Marking.{IsDarkened, written_row}
use Rattle.still_readers.proofs.Lists.{at_within, within_at, which, one_at}
use Rattle.still_readers.proofs.ReadersLemmas.{recorded_named}
use Rattle.still_rows.specs.declared.clock.Clock.{Clock}
use Rattle.still_rows.specs.Works.{IsStepped}
use Rattle.still_effects.specs.declared.effect.Effect.{Effect}
use Rattle.still_effects.specs.declared.effect.Effect.TheVariants as effect
use Rattle.still_effects.specs.Effects.{IsRunUnder, EndedAs, FullAs}
use Rattle.carried_rows.specs.Named.{IsNamed, AreNamed}

-- ---- one row

-- its body is as it was
pub same_body : (node : PlanNode) (old new : Opened) → new.body.reads.list ≡ old.body.reads.list → new.body.cause ≡ old.body.cause → IsNamed node old → IsNamed node new
same_body node old new reads cause named = record {
  unread = (λ none. reads ∙ named.unread (sym cause ∙ none));
  caused = (λ source a b is. named.caused source a b (sym cause ∙ is));
}

-- a source that was recorded is one that the expression names
change_named : (rows : List Opened) (i : ℕ) (node : PlanNode) (old : Opened) (Shown : ℕ → ℕ → Type 0) (source a b : ℕ) → IsDerivedGood rows i node old → IsNamed node old → IsChange old.body.reads.list Shown source a b → Contains (rows_in node.expr) source
change_named rows i node old Shown source a b good named change = by old.body.cause refl
  where
    by : (o : Option Cause) → old.body.cause ≡ o → Contains (rows_in node.expr) source
    by None e = let no : None ≡ Some change.read = ap (λ (l : List Read). slice_get l change.place) (sym (named.unread e)) ∙ change.recorded in cc
    by (Some cause) e =
        let right = good.right (λ none. let no : Some cause ≡ None = sym e ∙ none in cc) in
        subst (Contains (rows_in node.expr)) change.of_source (recorded_named node old.body.reads.list old.code change.place change.read right change.recorded)

-- its body is that of a run, which was caused
pub ran_body : (rows : List Opened) (i : ℕ) (node : PlanNode) (old new : Opened) (Shown : ℕ → ℕ → Type 0) (cause : Cause) → IsDerivedGood rows i node old → IsNamed node old → new.body.cause ≡ Some cause → IsCaused old.body.reads.list old.body.cause Shown cause → IsNamed node new
ran_body rows i node old new Shown cause good named is caused = record {
  unread = (λ none. let no : Some cause ≡ None = sym is ∙ none in cc);
  caused = (λ source a b e. let same : cause ≡ Changed source a b = one_at cause (Changed source a b) is e in change_named rows i node old Shown source a b good named (subst (IsCaused old.body.reads.list old.body.cause Shown) same caused));
}

-- ---- all rows

-- one row is put
pub set_named : (nodes : List PlanNode) (rows : List Opened) (k : ℕ) (old new : Opened) → slice_get rows k ≡ Some old → ((node : PlanNode) → slice_get nodes k ≡ Some node → is_derived node.kind ≡ true → IsNamed node old → IsNamed node new) → AreNamed nodes rows → AreNamed nodes (set rows k new)
set_named nodes rows k old new was one named i node row at is d = by (which rows k old new i row was is)
  where
    by : ((i ≡ k) × (row ≡ new)) ⊎ ((i ≡ k → ⊥) × (slice_get rows i ≡ Some row)) → IsNamed node row
    by (inl p) =
        let here = ap (slice_get nodes) (sym p.0) ∙ at in
        subst (IsNamed node) (sym p.1) (one node here d (named k node old here was d))
    by (inr p) = named i node row at p.1 d

-- rows grow darker
pub darkened_named : (nodes : List PlanNode) (rows rows' : List Opened) → IsDarkened rows rows' → AreNamed nodes rows → AreNamed nodes rows'
darkened_named nodes rows rows' dark named i node new at is d =
    let w = at_within rows' i new is in let p = dark.paired in
    let old = within_at rows i (omega arith) in
    let same = (dark.each i old.0 new old.1 is).same in
    same_body node old.0 new (ap (λ (z : Opened). z.body.reads.list) same) (ap (λ (z : Opened). z.body.cause) same) (named i node old.0 at old.1 d)

-- a row is written, and what reads it is marked
pub written_named : (nodes : List PlanNode) (rows rows' : List Opened) (k : ℕ) (was : Opened) (code version : ℕ) → slice_get rows k ≡ Some was → IsDarkened (set rows k (written_row was code version)) rows' → AreNamed nodes rows → AreNamed nodes rows'
written_named nodes rows rows' k was code version at dark named =
    let new = written_row was code version in
    darkened_named nodes (set rows k new) rows' dark (set_named nodes rows k was new at (λ node here d one. same_body node was new refl refl one) named)

-- memos run
pub stepped_named : (nodes : List PlanNode) (rows rows' : List Opened) (readers readers' : Readers) (c c' : Clock) → IsGood nodes rows → IsStepped nodes rows rows' readers readers' c c' → AreNamed nodes rows → AreNamed nodes rows'
stepped_named nodes rows rows' readers readers' c c' good step named i node new at is d =
    let w = at_within rows' i new is in let p = step.since.paired in
    let old = within_at rows i (omega arith) in
    let was = named i node old.0 at old.1 d in
    ⊎_elim
    (λ s. same_body node old.0 new s.0 s.1 was)
    (λ r. ran_body rows i node old.0 new _ r.0 ((good.each i node old.0 at old.1).derived d) was r.1 r.2)
    (step.since.each i old.0 new old.1 is).body

-- an effect runs
run_named : (nodes : List PlanNode) (rows rows' : List Opened) (readers readers' : Readers) (c c' : Clock) (k : ℕ) (code : _) (version : ℕ) → IsGood nodes rows → IsRunUnder nodes rows rows' readers readers' c c' k code version → AreNamed nodes rows → AreNamed nodes rows'
run_named nodes rows rows' readers readers' c c' k code version good h named =
    subst (AreNamed nodes) (sym h.put) (set_named nodes h.sourced k h.old h.new h.was
    (λ node at d was. ran_body h.sourced k node h.old h.new _ h.row.cause ((h.stepped.still.good.each k node h.old at h.was).derived d) was h.row.cause_is h.row.caused)
    (stepped_named nodes rows h.sourced readers h.enrolled c c' good h.stepped named))

pub ended_named : (nodes : List PlanNode) (rows rows' : List Opened) (readers readers' : Readers) (c c' : Clock) (k : ℕ) (came : Effect) → IsGood nodes rows → EndedAs nodes rows rows' readers readers' c c' k came → AreNamed nodes rows → AreNamed nodes rows'
ended_named nodes rows rows' readers readers' c c' k effect.Same good h named =
    subst (AreNamed nodes) (sym h.put) (set_named nodes h.sourced k h.row _ h.was (λ node at d was. same_body node h.row _ refl refl was)
    (stepped_named nodes rows h.sourced readers readers' c c' good h.stepped named))
ended_named nodes rows rows' readers readers' c c' k (effect.Ran code) good h named =
    run_named nodes h.found_rows rows' h.found_readers readers' h.drawn h.noted k code _ h.found.still.good h.run
    (stepped_named nodes rows h.found_rows readers h.found_readers c h.found_clock good h.found named)

pub full_named : (nodes : List PlanNode) (rows rows' : List Opened) (readers readers' : Readers) (c c' : Clock) (k : ℕ) → IsGood nodes rows → FullAs nodes rows rows' readers readers' c c' k → AreNamed nodes rows → AreNamed nodes rows'
full_named nodes rows rows' readers readers' c c' k good (inl h) named = stepped_named nodes rows rows' readers readers' c c' good h named
full_named nodes rows rows' readers readers' c c' k good (inr h) named =
    stepped_named nodes h.found_rows rows' h.found_readers readers' h.drawn c' h.found.still.good h.stepped
    (stepped_named nodes rows h.found_rows readers h.found_readers c h.found_clock good h.found named)
