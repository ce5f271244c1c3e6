-- A right body stays right with new numbers.
use Rattle.std.proofs.Common.{◌≡◌, ℕ, zero, suc, Bool, true, false, if◌then◌else◌, List, [], ◌∷◌, map, ◌==◌, slice_get, Some, Contains, refl, sym, ap, subst, ◌∙◌, arith}
use Rattle.values.specs.declared.code.Code.{Code}
use Rattle.values.specs.declared.expr.Expr.{Expr}
use Rattle.values.specs.Evaluation.{Evaluated, readings_of, distinct, reads_of}
use Rattle.values.specs.Packing.{unpacked}
use Rattle.values.proofs.ReadsLemmas.{same_by_reads}
use Rattle.sources.specs.declared.body.Read.{Read}
use Rattle.sources.specs.Bodies.{recorded_code, recorded_value, IsRight}
use Rattle.plan_meaning.specs.Renamed.{renumbered}
use Rattle.plan_meaning.proofs.Renumbered.{evaluation_renumbered, value_of-renumbered, Apart, distinct_moved, into_distinct}
use Rattle.carried_rows.specs.Moved.{read_moved}

-- no two recorded rows get one number
abbrev pub IsInjectiveOn : (ℕ → ℕ) → List Read → Type 0
IsInjectiveOn number reads = (j k : ℕ) (x y : Read) → slice_get reads j ≡ Some x → slice_get reads k ≡ Some y → number x.row ≡ number y.row → x.row ≡ y.row

-- a recorded row is that of some read
read_of : (reads : List Read) (r : ℕ) → Contains (map (λ x. x.row) reads) r → (k : ℕ) × (x : Read) × (slice_get reads k ≡ Some x) × (x.row ≡ r)
read_of [] r (k, l, e) = absurd (omega arith)
read_of (x ∷ xs) r (zero, l, e) = (zero, x, refl, e)
read_of (x ∷ xs) r (suc k, l, e) = let s = read_of xs r (k, omega arith, e) in (suc s.0, s.1, s.2, s.3)

recorded_moved : (number : ℕ → ℕ) (reads : List Read) → IsInjectiveOn number reads → (r : ℕ) → Contains (map (λ x. x.row) reads) r → recorded_code (map (read_moved number) reads) (number r) ≡ recorded_code reads r
unfolding recorded_code
recorded_moved number [] h r (k, l, e) = absurd (omega arith)
recorded_moved number (x ∷ xs) h r c = by (x.row == r) refl (read_of (x ∷ xs) r c) (recorded_moved number xs (λ j k y z a b. h (suc j) (suc k) y z a b) r)
  where
    not_equal : (a b : ℕ) → (a ≡ b → ⊥) → (a == b) ≡ false
    not_equal a b n = go (a == b) refl
      where
        go : (k : Bool) → (a == b) ≡ k → (a == b) ≡ false
        go true t = absurd (n (grind arith))
        go false t = t

    by : (b : Bool) → (x.row == r) ≡ b → (k : ℕ) × (y : Read) × (slice_get (x ∷ xs) k ≡ Some y) × (y.row ≡ r)
        → (Contains (map (λ y. y.row) xs) r → recorded_code (map (read_moved number) xs) (number r) ≡ recorded_code xs r)
        → (if number x.row == number r then x.code else recorded_code (map (read_moved number) xs) (number r)) ≡ (if b then x.code else recorded_code xs r)
    by true is s rec =
        let e : x.row ≡ r = grind arith in
        let q : (number x.row == number r) ≡ true = (let p : number x.row ≡ number r = ap number e in grind arith) in
        rw q refl
    by false is (k, y, at, e) rec =
        let n : number x.row ≡ number r → ⊥ = (λ p. let f : x.row ≡ y.row = h 0 k x y refl at (p ∙ ap number (sym e)) in let g : x.row ≡ r = f ∙ e in grind (arith, g, is)) in
        let q = not_equal (number x.row) (number r) n in
        rw q (rec (rest c))
      where
        rest : Contains (map (λ y. y.row) (x ∷ xs)) r → Contains (map (λ y. y.row) xs) r
        rest (zero, l, f) = let g : x.row ≡ r = f in absurd (grind (arith, g, is))
        rest (suc j, l, f) = (j, omega arith, f)

rows_moved : (number : ℕ → ℕ) (reads : List Read) → map (λ x. x.row) (map (read_moved number) reads) ≡ map number (map (λ x. x.row) reads)
rows_moved number [] = refl
rows_moved number (x ∷ xs) = ap (λ l. number x.row ∷ l) (rows_moved number xs)

pub right_moved : (number : ℕ → ℕ) (e : Expr) (reads : List Read) (code : ℕ) → IsInjectiveOn number reads → IsRight e reads code → IsRight (renumbered number e) (map (read_moved number) reads) code
right_moved number e reads code h right =
    let new : ℕ → Code = recorded_value (map (read_moved number) reads) in
    let t : ℕ → Code = (λ r. new (number r)) in
    let same = same_by_reads e (recorded_value reads) t (λ r c. ap unpacked (sym (recorded_moved number reads h r (subst (λ (l : List ℕ). Contains l r) (sym right.read) c)))) in
    let rows : reads_of e t ≡ map (λ (x : Read). x.row) reads = sym same.1 ∙ sym right.read in
    let apart : Apart number (readings_of e t) = (λ a b ca cb p.
    let x = read_of reads a (subst (λ (l : List ℕ). Contains l a) rows (into_distinct (readings_of e t) a ca)) in
    let y = read_of reads b (subst (λ (l : List ℕ). Contains l b) rows (into_distinct (readings_of e t) b cb)) in
    sym x.3 ∙ h x.0 y.0 x.1 y.1 x.2 y.2 (ap number x.3 ∙ p ∙ ap number (sym y.3)) ∙ y.3) in
    let whole : reads_of (renumbered number e) new ≡ map number (reads_of e t) = ap (λ (v : Evaluated). distinct v.reads) (evaluation_renumbered number e new) ∙ distinct_moved number (readings_of e t) apart in
    record {
      read = rows_moved number reads ∙ ap (map number) (sym rows) ∙ sym whole;
      gives = value_of-renumbered number e new ∙ sym same.0 ∙ right.gives;
    }
