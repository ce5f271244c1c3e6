-- What the call on an effect leaves, in the words of its contract.
use Rattle.std.proofs.Common.{◌≡◌, ◌≢◌, ℕ, suc, ◌+◌, ◌≤◌, inl, inr, List, [], ◌∷◌, ◌++◌, length, append_assoc, Result, Ok, Err, IfOk, OnOk, OnErr, slice_get, Some, set, refl, sym, ap, ◌∙◌, arith, true, false}
use Rattle.values.specs.declared.code.Code.{Code}
use Rattle.values.specs.declared.plan.Fact.{Fact}
use Rattle.values.specs.declared.plan.Kind.TheVariants.{Effect}
use Rattle.values.specs.declared.plan.Noted.{Noted}
use Rattle.values.specs.declared.plan.PlanNode.{PlanNode}
use Rattle.values.specs.Packing.{unpacked}
use Rattle.values.specs.PlanValues.{plan_value}
use Rattle.sources.specs.declared.opening.Opened.{Opened}
use Rattle.sources.specs.Colours.{is_clean}
use Rattle.sources.specs.Rows.{value_in, IsGood}
use Rattle.sources.proofs.RowLemmas.{clean_at}
use Rattle.still_readers.specs.declared.readers.Readers.{Readers}
use Rattle.still_readers.specs.Readers.{HasRead}
use Rattle.still_readers.proofs.Lists.{set_here, set_other, one_at}
use Rattle.still_rows.specs.declared.clock.Clock.{Clock}
use Rattle.still_rows.specs.declared.clock.Full.{Full}
use Rattle.still_rows.specs.Clock.{IsClock, IsTicked, filled, entry_at}
use Rattle.still_rows.specs.Frames.{AreLawful}
use Rattle.still_rows.specs.Since.{kept_row}
use Rattle.still_rows.specs.Works.{unclean_count, IsStill, IsStepped}
use Rattle.still_rows.proofs.FramesLemmas.{reads_back}
use Rattle.still_rows.proofs.WorksLemmas.{values_set, unclean_less, stepped_more}
use Rattle.still_effects.specs.declared.effect.Effect.{Effect as Outcome}
use Rattle.still_effects.specs.declared.effect.Effect.TheVariants as end
use Rattle.still_effects.specs.Effects.{IsEffect, EndedAs, FullAs}
use Rattle.still_effects.proofs.EffectLemmas.{effect_derived, unclean_put, same_more}

-- an entry that says something else is no matter of the rows
pub filled_still : (nodes : List PlanNode) (rows : List Opened) (readers : Readers) (c : Clock) (place : ℕ) (fact : Fact) → IsStill nodes rows readers c → IsClock (filled c place fact) → IsStill nodes rows readers (filled c place fact)
filled_still nodes rows readers c place fact s ticks = record { lawful = s.lawful; good = s.good; dated = s.dated; roomy = s.roomy; of_plan = s.of_plan; enrolled = s.enrolled; ticks = ticks }

prefix_of : (xs ys : List Noted) → ((k : ℕ) (x : Noted) → slice_get xs k ≡ Some x → slice_get ys k ≡ Some x) → (later : List Noted) × (ys ≡ xs ++ later)
prefix_of [] ys h = (ys, refl)
prefix_of (x ∷ xs) [] h = absurd (let e = h 0 x refl in cc)
prefix_of (x ∷ xs) (y ∷ ys) h =
    let same : y ≡ x = (let e = h 0 x refl in cc) in
    let rest = prefix_of xs ys (λ k z e. h (suc k) z e) in
    (rest.0, (λ i. same i ∷ rest.1 i))

set_after : (xs later : List Noted) (v w : Noted) → set (xs ++ v ∷ later) (length xs) w ≡ xs ++ w ∷ later
set_after [] later v w = refl
set_after (x ∷ xs) later v w = ap (λ (l : List Noted). x ∷ l) (set_after xs later v w)

-- what stands behind a number that was drawn, and the entries once it says something else
pub entries_after : (old new noted : Clock) (held fact : Fact) → IsClock old → old.in_phase ≡ true → IsTicked old new held → ((k : ℕ) (x : Noted) → slice_get new.entries.list k ≡ Some x → slice_get noted.entries.list k ≡ Some x)
    → (later : List Noted) × (noted.entries.list ≡ old.entries.list ++ entry_at old.drawn held ∷ later) × (set noted.entries.list old.drawn (entry_at old.drawn fact) ≡ old.entries.list ++ entry_at old.drawn fact ∷ later)
entries_after old new noted held fact clock phase tick stay =
    let p = prefix_of new.entries.list noted.entries.list stay in
    let e = p.1 ∙ ap (λ (l : List Noted). l ++ p.0) (tick.noted phase) ∙ append_assoc old.entries.list (entry_at old.drawn held ∷ []) p.0 in
    let n : length old.entries.list ≡ old.drawn = clock.noted phase (let f = tick.few in let d = tick.drawn in omega arith) in
    (p.0, e, ap (λ (l : List Noted). set l old.drawn (entry_at old.drawn fact)) e ∙ ap (λ (q : ℕ). set (old.entries.list ++ entry_at old.drawn held ∷ p.0) q (entry_at old.drawn fact)) (sym n) ∙ set_after old.entries.list p.0 (entry_at old.drawn held) (entry_at old.drawn fact))

-- the rows after the effect's row was put
module _ (nodes : List PlanNode) (rows sourced rows' : List Opened) (readers readers' : Readers) (c c' : Clock) (i : ℕ) (y : Opened) (is : IsEffect nodes i) (s : IsStepped nodes rows sourced readers readers' c c') (put : rows' ≡ set sourced i y) where
  pub put_values : plan_value nodes (value_in rows') ≡ plan_value nodes (value_in rows)
  put_values = ap (λ (q : List Opened). plan_value nodes (value_in q)) put ∙ values_set nodes sourced i is.node y is.at (effect_derived is.node.kind is.is) ∙ s.values

  pub put_others : (j : ℕ) (other : PlanNode) → slice_get nodes j ≡ Some other → other.kind ≡ Effect → j ≢ i → slice_get rows' j ≡ slice_get rows j
  put_others j other at k n = ap (λ (q : List Opened). slice_get q j) put ∙ set_other sourced i j y n ∙ s.effects j other at k

  -- the row, clean, has its plan value
  pub put_clean : (old : Opened) → slice_get sourced i ≡ Some old → is_clean y.colour ≡ true → AreLawful nodes → IsGood nodes rows' → (z : Opened) → slice_get rows' i ≡ Some z → (is_clean z.colour ≡ true) × (unpacked z.code ≡ plan_value nodes (value_in rows) i)
  put_clean old was clean lawful good z at = (zc, sym (clean_at nodes rows' (reads_back nodes lawful) good i z at zc) ∙ ap (λ (g : ℕ → Code). g i) put_values)
    where
      same : y ≡ z
      same = one_at y z (ap (λ (q : List Opened). slice_get q i) put ∙ set_here sourced i old y was) at

      zc : is_clean z.colour ≡ true
      zc = ap (λ (q : Opened). is_clean q.colour) (sym same) ∙ clean

-- what a call found before goes into what it ends with
pub ended_more : (nodes : List PlanNode) (rows0 rows1 rows2 : List Opened) (r0 r1 r2 : Readers) (c0 c1 c2 : Clock) (i : ℕ) → IsStepped nodes rows0 rows1 r0 r1 c0 c1 → (e : Outcome) → EndedAs nodes rows1 rows2 r1 r2 c1 c2 i e → EndedAs nodes rows0 rows2 r0 r2 c0 c2 i e
ended_more nodes rows0 rows1 rows2 r0 r1 r2 c0 c1 c2 i s end.Same h = same_more nodes rows0 rows1 rows2 r0 r1 r2 c0 c1 c2 i s h
ended_more nodes rows0 rows1 rows2 r0 r1 r2 c0 c1 c2 i s (end.Ran code) h = record {
  found_rows = h.found_rows;
  found_readers = h.found_readers;
  found_clock = h.found_clock;
  found = stepped_more nodes rows0 rows1 h.found_rows r0 r1 h.found_readers c0 c1 h.found_clock s h.found;
  drawn = h.drawn;
  ticked = h.ticked;
  noted = h.noted;
  run = h.run;
  after_is = h.after_is;
  later = h.later;
  held = h.held;
  entries = h.entries;
  still = h.still;
}

pub full_more : (nodes : List PlanNode) (rows0 rows1 rows2 : List Opened) (r0 r1 r2 : Readers) (c0 c1 c2 : Clock) (i : ℕ) → IsStepped nodes rows0 rows1 r0 r1 c0 c1 → FullAs nodes rows1 rows2 r1 r2 c1 c2 i → FullAs nodes rows0 rows2 r0 r2 c0 c2 i
full_more nodes rows0 rows1 rows2 r0 r1 r2 c0 c1 c2 i s (inl h) = inl (stepped_more nodes rows0 rows1 rows2 r0 r1 r2 c0 c1 c2 s h)
full_more nodes rows0 rows1 rows2 r0 r1 r2 c0 c1 c2 i s (inr h) = inr record {
  found_rows = h.found_rows;
  found_readers = h.found_readers;
  found_clock = h.found_clock;
  found = stepped_more nodes rows0 rows1 h.found_rows r0 r1 h.found_readers c0 c1 h.found_clock s h.found;
  drawn = h.drawn;
  ticked = h.ticked;
  stepped = h.stepped;
  later = h.later;
  entries = h.entries;
  left = h.left;
}

-- ---- results

pub if_ok_as : {A E : Type 0} {P Q : A → Type 0} (r : Result A E) → ((x : A) → P x → Q x) → IfOk r P → IfOk r Q
if_ok_as (Ok x) f h = f x h
if_ok_as (Err e) f h = tt

pub if_ok_on : {A E : Type 0} {P : A → Type 0} {Q : Type 0} (r : Result A E) → ((x : A) → P x → Q) → IfOk r P → OnOk r Q
if_ok_on (Ok x) f h = f x h
if_ok_on (Err e) f h = tt

pub on_err_as : {A E : Type 0} {P Q : Type 0} (r : Result A E) → (P → Q) → OnErr r P → OnErr r Q
on_err_as (Ok x) f h = tt
on_err_as (Err e) f h = f h

-- what the call leaves, by its result
module _ (nodes : List PlanNode) (rows rows' : List Opened) (readers readers' : Readers) (c c' : Clock) (i : ℕ) (is : IsEffect nodes i) where
  pub ended_still : (e : Outcome) → EndedAs nodes rows rows' readers readers' c c' i e → IsStill nodes rows' readers' c'
  ended_still end.Same h = h.still
  ended_still (end.Ran code) h = h.still

  pub full_still : FullAs nodes rows rows' readers readers' c c' i → IsStill nodes rows' readers' c'
  full_still (inl h) = h.still
  full_still (inr h) = h.stepped.still

  pub whole_still : (r : Result Outcome Full) → IfOk r (λ e. EndedAs nodes rows rows' readers readers' c c' i e) → OnErr r (FullAs nodes rows rows' readers readers' c c' i) → IsStill nodes rows' readers' c'
  whole_still (Ok e) h k = ended_still e h
  whole_still (Err x) h k = full_still k

  pub ended_values : (e : Outcome) → EndedAs nodes rows rows' readers readers' c c' i e → plan_value nodes (value_in rows') ≡ plan_value nodes (value_in rows)
  ended_values end.Same h = put_values nodes rows h.sourced rows' readers readers' c c' i (kept_row h.row) is h.stepped h.put
  ended_values (end.Ran code) h = put_values nodes h.found_rows h.run.sourced rows' h.found_readers h.run.enrolled h.drawn h.noted i h.run.new is h.run.stepped h.run.put ∙ h.found.values

  pub full_values : FullAs nodes rows rows' readers readers' c c' i → plan_value nodes (value_in rows') ≡ plan_value nodes (value_in rows)
  full_values (inl h) = h.values
  full_values (inr h) = h.stepped.values ∙ h.found.values

  pub whole_values : (r : Result Outcome Full) → IfOk r (λ e. EndedAs nodes rows rows' readers readers' c c' i e) → OnErr r (FullAs nodes rows rows' readers readers' c c' i) → plan_value nodes (value_in rows') ≡ plan_value nodes (value_in rows)
  whole_values (Ok e) h k = ended_values e h
  whole_values (Err x) h k = full_values k

  pub ended_others : (e : Outcome) → EndedAs nodes rows rows' readers readers' c c' i e → (j : ℕ) (other : PlanNode) → slice_get nodes j ≡ Some other → other.kind ≡ Effect → j ≢ i → slice_get rows' j ≡ slice_get rows j
  ended_others end.Same h j other at k n = put_others nodes rows h.sourced rows' readers readers' c c' i (kept_row h.row) is h.stepped h.put j other at k n
  ended_others (end.Ran code) h j other at k n = put_others nodes h.found_rows h.run.sourced rows' h.found_readers h.run.enrolled h.drawn h.noted i h.run.new is h.run.stepped h.run.put j other at k n ∙ h.found.effects j other at k

  pub full_others : FullAs nodes rows rows' readers readers' c c' i → (j : ℕ) (other : PlanNode) → slice_get nodes j ≡ Some other → other.kind ≡ Effect → slice_get rows' j ≡ slice_get rows j
  full_others (inl h) j other at k = h.effects j other at k
  full_others (inr h) j other at k = h.stepped.effects j other at k ∙ h.found.effects j other at k

  pub whole_others : (r : Result Outcome Full) → IfOk r (λ e. EndedAs nodes rows rows' readers readers' c c' i e) → OnErr r (FullAs nodes rows rows' readers readers' c c' i) → (j : ℕ) (other : PlanNode) → slice_get nodes j ≡ Some other → other.kind ≡ Effect → j ≢ i → slice_get rows' j ≡ slice_get rows j
  whole_others (Ok e) h k j other at is_effect n = ended_others e h j other at is_effect n
  whole_others (Err x) h k j other at is_effect n = full_others k j other at is_effect

  -- an effect that was cut off is as it was
  pub full_unrun : FullAs nodes rows rows' readers readers' c c' i → slice_get rows' i ≡ slice_get rows i
  full_unrun h = full_others h i is.node is.at is.is

  pub full_unclean : FullAs nodes rows rows' readers readers' c c' i → ((y : Opened) → slice_get rows i ≡ Some y → is_clean y.colour ≡ false) → (y : Opened) → slice_get rows' i ≡ Some y → is_clean y.colour ≡ false
  full_unclean h was y at = was y (sym (full_unrun h) ∙ at)

  pub ended_have : (e : Outcome) → EndedAs nodes rows rows' readers readers' c c' i e → (m row : ℕ) → HasRead readers m row → HasRead readers' m row
  ended_have end.Same h m row r = h.stepped.have_read m row r
  ended_have (end.Ran code) h m row r = h.run.have_read m row (h.run.stepped.have_read m row (h.found.have_read m row r))

  pub full_have : FullAs nodes rows rows' readers readers' c c' i → (m row : ℕ) → HasRead readers m row → HasRead readers' m row
  full_have (inl h) m row r = h.have_read m row r
  full_have (inr h) m row r = h.stepped.have_read m row (h.found.have_read m row r)

  pub whole_have : (r : Result Outcome Full) → IfOk r (λ e. EndedAs nodes rows rows' readers readers' c c' i e) → OnErr r (FullAs nodes rows rows' readers readers' c c' i) → (m row : ℕ) → HasRead readers m row → HasRead readers' m row
  whole_have (Ok e) h k = ended_have e h
  whole_have (Err x) h k = full_have k

  pub ended_clock : (e : Outcome) → EndedAs nodes rows rows' readers readers' c c' i e → (c'.base ≡ c.base) × (c'.in_phase ≡ c.in_phase)
  ended_clock end.Same h = (h.stepped.since.base, h.stepped.since.in_phase)
  ended_clock (end.Ran code) h = (
    ap (λ (q : Clock). q.base) h.after_is ∙ h.run.stepped.since.base ∙ h.ticked.base ∙ h.found.since.base,
    ap (λ (q : Clock). q.in_phase) h.after_is ∙ h.run.stepped.since.in_phase ∙ h.ticked.in_phase ∙ h.found.since.in_phase,
  )

  pub full_clock : FullAs nodes rows rows' readers readers' c c' i → (c'.base ≡ c.base) × (c'.in_phase ≡ c.in_phase)
  full_clock (inl h) = (h.since.base, h.since.in_phase)
  full_clock (inr h) = (h.stepped.since.base ∙ h.ticked.base ∙ h.found.since.base, h.stepped.since.in_phase ∙ h.ticked.in_phase ∙ h.found.since.in_phase)

  pub whole_clock : (r : Result Outcome Full) → IfOk r (λ e. EndedAs nodes rows rows' readers readers' c c' i e) → OnErr r (FullAs nodes rows rows' readers readers' c c' i) → (c'.base ≡ c.base) × (c'.in_phase ≡ c.in_phase)
  whole_clock (Ok e) h k = ended_clock e h
  whole_clock (Err x) h k = full_clock k

  pub ended_clean : (e : Outcome) → EndedAs nodes rows rows' readers readers' c c' i e → (z : Opened) → slice_get rows' i ≡ Some z → (is_clean z.colour ≡ true) × (unpacked z.code ≡ plan_value nodes (value_in rows) i)
  ended_clean end.Same h z at = put_clean nodes rows h.sourced rows' readers readers' c c' i (kept_row h.row) is h.stepped h.put h.row h.was refl h.still.lawful h.still.good z at
  ended_clean (end.Ran code) h z at =
      let p = put_clean nodes h.found_rows h.run.sourced rows' h.found_readers h.run.enrolled h.drawn h.noted i h.run.new is h.run.stepped h.run.put h.run.old h.run.was h.run.row.clean h.still.lawful h.still.good z at in
      (p.0, p.1 ∙ ap (λ (g : ℕ → Code). g i) h.found.values)

  pub ended_spent : (e : Outcome) → EndedAs nodes rows rows' readers readers' c c' i e → c'.drawn + unclean_count rows' ≤ c.drawn + unclean_count rows
  ended_spent end.Same h =
      let e = ap unclean_count h.put in
      let l = unclean_put h.sourced i (kept_row h.row) refl in
      let s = h.stepped.spent in omega arith
  ended_spent (end.Ran code) h =
      let e = ap unclean_count h.run.put in
      let l = unclean_less h.run.sourced i h.run.old h.run.new h.run.was h.run.unclean h.run.row.clean in
      let s = h.run.stepped.spent in let f = h.found.spent in let t = h.ticked.drawn in
      let d = ap (λ (q : Clock). q.drawn) h.after_is in omega arith

  pub full_short : FullAs nodes rows rows' readers readers' c c' i → c'.drawn + unclean_count rows' ≤ c.drawn + unclean_count rows + 1
  full_short (inl h) = let s = h.spent in omega arith
  full_short (inr h) = let s = h.stepped.spent in let f = h.found.spent in let t = h.ticked.drawn in omega arith
