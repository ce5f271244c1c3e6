-- The worked rows of bodies, rows and sets.
use Rattle.std.proofs.Common.{◌≡◌, ℕ, zero, suc, ◌+◌, ◌-◌, ◌≤◌, List, [], ◌∷◌, slice_get, drop, Some, None, Contains, inl, inr, refl, sym, ap, subst, ◌∙◌, arith, Bool, true, false}
use Rattle.std.proofs.lemmas.Bool.{cases_lt}
use Rattle.values.specs.declared.plan.Kind.TheVariants.{Memo}
use Rattle.values.specs.declared.plan.PlanNode.{PlanNode}
use Rattle.values.specs.Packing.{unpacked, IsPacked}
use Rattle.values.specs.PlanValues.{is_derived}
use Rattle.values.specs.PlanRows.{signal_in, reader}
use Rattle.values.proofs.Evaluation.{value_of-Read, reads_of-Lit, reads_of-Read}
use Rattle.values.proofs.PlanLemmas.{Contains-from_cons, further}
use Rattle.sources.specs.declared.body.Read.{Read}
use Rattle.sources.specs.declared.body.Cause.TheVariants.{First, Changed}
use Rattle.sources.specs.declared.colour.Colour.TheVariants.{Clean, Dirty}
use Rattle.sources.specs.declared.opening.Opened.{Opened}
use Rattle.sources.specs.Bits.{IsIn, members_at, members_from}
use Rattle.sources.specs.Bodies.{recorded_code, recorded_value, IsRight, IsChange, IsCaused}
use Rattle.sources.specs.Colours.{is_clean}
use Rattle.sources.specs.Rows.{IsGood, IsRowGood}
use Rattle.sources.specs.Tried.{five_at, row_alone, no_row, IsAtNine}
use Rattle.sources.proofs.BitLemmas.{slice_get_drop}

recorded_five : recorded_value (five_at 2 ∷ []) 2 ≡ unpacked 21
unfolding recorded_code
recorded_five = refl

pub right : IsRight (row_alone 2) (five_at 2 ∷ []) 21
right = record {
  read = sym (reads_of-Read 2 (recorded_value (five_at 2 ∷ [])));
  gives = value_of-Read 2 (recorded_value (five_at 2 ∷ [])) ∙ recorded_five;
}

five_is_not_six : unpacked 21 ≡ unpacked 25 → ⊥
unfolding unpacked
five_is_not_six e = cc

pub other_value : IsRight (row_alone 2) (five_at 2 ∷ []) 25 → ⊥
other_value r = five_is_not_six (sym recorded_five ∙ sym (value_of-Read 2 (recorded_value (five_at 2 ∷ []))) ∙ r.gives)

pub unread : IsRight (row_alone 2) [] 0 → ⊥
unread r = let e = r.read ∙ reads_of-Read 2 (recorded_value []) in cc

pub unasked : IsRight no_row (five_at 2 ∷ []) 0 → ⊥
unasked r = let e = r.read ∙ reads_of-Lit _ (recorded_value (five_at 2 ∷ [])) in cc

only : (x y : Read) (place : ℕ) → slice_get (x ∷ []) place ≡ Some y → x ≡ y
only x y zero e = cc
only x y (suc place) e = cc

pub changed : IsCaused (five_at 2 ∷ []) (Some First) IsAtNine (Changed 2 4 9)
changed = record { place = 0; read = five_at 2; recorded = refl; of_source = refl; at_old = refl; shown = refl; other = λ e. omega (arith, e) }

pub unrecorded : IsChange (five_at 2 ∷ []) IsAtNine 3 4 9 → ⊥
unrecorded h = let e = ap (λ x. x.row) (only (five_at 2) h.read h.place h.recorded) in omega (arith, e, h.of_source)

pub at_another : IsChange (five_at 2 ∷ []) IsAtNine 2 5 9 → ⊥
at_another h = let e = ap (λ x. x.version) (only (five_at 2) h.read h.place h.recorded) in omega (arith, e, h.at_old)

-- a signal and a memo that never ran
module _ (signal memo : Opened) where
  pub fresh : IsPacked signal.code → signal.colour ≡ Clean → IsPacked memo.code → memo.colour ≡ Dirty → memo.body.cause ≡ None → memo.body.reads.list ≡ [] → IsGood (signal_in 0 ∷ reader Memo 0 ∷ []) (signal ∷ memo ∷ [])
  fresh a clean b dirty none empty = record { paired = refl; each = each }
    where
      each : (i : ℕ) (node : PlanNode) (row : Opened) → slice_get (signal_in 0 ∷ reader Memo 0 ∷ []) i ≡ Some node → slice_get (signal ∷ memo ∷ []) i ≡ Some row → IsRowGood (signal ∷ memo ∷ []) i node row
      each zero node row n r =
          let same : signal ≡ row = cc in
          let kind : signal_in 0 ≡ node = cc in
          record {
            is_packed = subst (λ y. IsPacked y.code) same a;
            source = λ d. sym (ap (λ y. is_clean y.colour) same) ∙ ap is_clean clean;
            derived = λ d. let no : false ≡ true = ap (λ k. is_derived k.kind) kind ∙ d in cc;
          }
      each (suc zero) node row n r =
          let same : memo ≡ row = cc in
          let kind : reader Memo 0 ≡ node = cc in
          record {
            is_packed = subst (λ y. IsPacked y.code) same b;
            source = λ d. let no : true ≡ false = ap (λ k. is_derived k.kind) kind ∙ d in cc;
            derived = λ d. record {
              fresh = λ e. sym (ap (λ y. y.colour) same) ∙ dirty;
              right = λ ran. absurd (ran (sym (ap (λ y. y.body.cause) same) ∙ none));
              known = λ k x e. (let no : slice_get [] k ≡ Some x = ap (λ xs. slice_get xs k) (sym empty ∙ ap (λ y. y.body.reads.list) same) ∙ e in cc);
              clean = λ c. (let no : false ≡ true = sym (ap is_clean dirty) ∙ ap (λ y. is_clean y.colour) same ∙ c in cc);
            };
          }
      each (suc (suc k)) node row n r = cc

  -- a clean memo that read the signal at an older version
  pub stale : memo.colour ≡ Clean → memo.body.reads.list ≡ five_at 0 ∷ [] → signal.version ≡ 5 → IsGood (signal_in 0 ∷ reader Memo 0 ∷ []) (signal ∷ memo ∷ []) → ⊥
  stale clean reads later good =
      let g = (good.each 1 (reader Memo 0) memo refl refl).derived refl in
      let present = g.clean (ap is_clean clean) 0 (five_at 0) (ap (λ xs. slice_get xs 0) reads) in
      omega (arith, present.version signal refl, later)

members-from : (set : List Bool) (first n : ℕ) → Contains (members_at first set) n → (first ≤ n) × (slice_get set (n - first) ≡ Some true)
members-from [] first n c = absurd (omega (arith, c.1))
members-from (true ∷ set) first n c = elim (Contains-from_cons first n (members_at (first + 1) set) c) [
  | inl e ↦ (omega arith, (let at : n - first ≡ 0 = omega arith in rw at refl))
  | inr g ↦ (let rest = members-from set (first + 1) n g in (omega (arith, rest.0), (let at : n - first ≡ suc (n - (first + 1)) = omega (arith, rest.0) in rw at rest.1)))
]
members-from (false ∷ set) first n c =
    let rest = members-from set (first + 1) n c in
    (omega (arith, rest.0), (let at : n - first ≡ suc (n - (first + 1)) = omega (arith, rest.0) in rw at rest.1))

members-of : (set : List Bool) (first n : ℕ) → first ≤ n → slice_get set (n - first) ≡ Some true → Contains (members_at first set) n
members-of [] first n h is = cc
members-of (true ∷ set) first n h is = elim (cases_lt first n) [
  | inl l ↦ (let at : n - first ≡ suc (n - (first + 1)) = omega arith in further first n (members_at (first + 1) set) (members-of set (first + 1) n (omega arith) (rw at at is)))
  | inr g ↦ (0, omega arith, (let same : first ≡ n = omega arith in same))
]
members-of (false ∷ set) first n h is = elim (cases_lt first n) [
  | inl l ↦ (let at : n - first ≡ suc (n - (first + 1)) = omega arith in members-of set (first + 1) n (omega arith) (rw at at is))
  | inr g ↦ (let at : n - first ≡ 0 = omega arith in let no : slice_get (false ∷ set) 0 ≡ Some true = rw at at is in cc)
]

-- the members from a number on are those from there on that are in
pub members_from-Contains : (set : List Bool) (from n : ℕ) → (Contains (members_from set from) n → (from ≤ n) × IsIn set n) × ((from ≤ n) × IsIn set n → Contains (members_from set from) n)
members_from-Contains set from n = (
  λ c. (let h = members-from (drop from set) from n c in let at : from + (n - from) ≡ n = omega (arith, h.0) in
      (h.0, rw at at (sym (slice_get_drop from set (n - from)) ∙ h.1))),
  λ h. (let at : from + (n - from) ≡ n = omega (arith, h.0) in
      members-of (drop from set) from n h.0 (slice_get_drop from set (n - from) ∙ rw at h.1)),
)
