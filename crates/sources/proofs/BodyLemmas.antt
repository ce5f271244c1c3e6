-- Right bodies.
use Rattle.std.proofs.Common.{◌≡◌, ℕ, zero, suc, List, [], ◌∷◌, slice_get, Some, Contains, refl, sym, ap, subst, ◌∙◌, arith, Bool, true, false, if◌then◌else◌, ◌==◌}
use Rattle.values.specs.declared.code.Code.{Code}
use Rattle.values.specs.declared.expr.Expr.{Expr}
use Rattle.values.specs.Evaluation.{value_of, reads_of}
use Rattle.values.specs.Packing.{unpacked}
use Rattle.values.proofs.ReadsLemmas.{same_by_reads}
use Rattle.sources.specs.declared.body.Read.{Read}
use Rattle.sources.specs.Bodies.{rows_read, recorded_code, recorded_value, IsRight}

-- where each recorded value is the row's in `t`, so is what is recorded of a row that was read
pub recorded_value-agrees : (reads : List Read) (t : ℕ → Code) → ((k : ℕ) (x : Read) → slice_get reads k ≡ Some x → t x.row ≡ unpacked x.code) → (r : ℕ) → Contains (rows_read reads) r → recorded_value reads r ≡ t r
unfolding recorded_code
recorded_value-agrees [] t h r c = absurd (omega arith)
recorded_value-agrees (x ∷ xs) t h r c = by (x.row == r) refl (recorded_value-agrees xs t (λ k y e. h (suc k) y e) r)
  where
    by : (b : Bool) → (x.row == r) ≡ b → (Contains (rows_read xs) r → recorded_value xs r ≡ t r) → unpacked (if b then x.code else recorded_code xs r) ≡ t r
    by true is rec = let same : x.row ≡ r = grind arith in sym (h 0 x refl) ∙ ap t same
    by false is rec = rec (rest c)
      where
        rest : Contains (rows_read (x ∷ xs)) r → Contains (rows_read xs) r
        rest (zero, l, e) = let no : x.row ≡ r = e in absurd (grind (arith, no, is))
        rest (suc k, l, e) = (k, omega arith, e)

-- a right body has the value of evaluation over `t`, where each recorded value is the row's there
pub right_at : (e : Expr) (reads : List Read) (code : ℕ) (t : ℕ → Code) → IsRight e reads code → ((k : ℕ) (x : Read) → slice_get reads k ≡ Some x → t x.row ≡ unpacked x.code) → (value_of e t ≡ unpacked code) × (reads_of e t ≡ rows_read reads)
right_at e reads code t right h =
    let same = same_by_reads e (recorded_value reads) t (λ r c. recorded_value-agrees reads t h r (subst (λ (l : List ℕ). Contains l r) (sym right.read) c)) in
    (sym same.0 ∙ right.gives, sym same.1 ∙ sym right.read)

-- the reads of an evaluation, each with its row's value, are a right body for its value
pub right_from : (e : Expr) (reads : List Read) (code : ℕ) (t : ℕ → Code) → rows_read reads ≡ reads_of e t → ((k : ℕ) (x : Read) → slice_get reads k ≡ Some x → t x.row ≡ unpacked x.code) → value_of e t ≡ unpacked code → IsRight e reads code
right_from e reads code t rows h gives =
    let same = same_by_reads e t (recorded_value reads) (λ r c. sym (recorded_value-agrees reads t h r (subst (λ (l : List ℕ). Contains l r) (sym rows) c))) in
    record { read = rows ∙ same.1; gives = sym same.0 ∙ gives }
