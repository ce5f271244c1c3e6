-- An attempt that is asked again, each time with the row that it needed, reads the rows in order and ends with the value.
use Rattle.std.proofs.Common.{◌≡◌, ℕ, zero, suc, Bool, true, false, not, ◌||◌, Some, IfSome, is_some, if◌then◌else◌, List, [], ◌∷◌, take, slice_get, filter, ◌==◌, refl, ap, arith}
use Rattle.values.specs.declared.code.Code.{Code}
use Rattle.values.specs.declared.expr.Expr.{Expr}
use Rattle.values.specs.Evaluation.{value_of, distinct, reads_of, evaluation}
use Rattle.values.specs.Attempt.{known_value, known_by, Agrees, first_unknown, answer, tried_of}

-- the row is one of these
abbrev pub has : ℕ → List ℕ → Bool
has r [] = false
has r (x ∷ xs) = (x == r) || has r xs

is_known : (s : ℕ → Code) (rows : List ℕ) (r : ℕ) → is_some (known_value (known_by s rows) r) ≡ has r rows
is_known s [] r = refl
is_known s (x ∷ rows) r = grind (arith, is_known s rows r)

pub Agrees-known_by : (s : ℕ → Code) (rows : List ℕ) → Agrees s (known_by s rows)
Agrees-known_by s [] r = tt
Agrees-known_by s (x ∷ rows) r = by (x == r) refl (Agrees-known_by s rows r)
  where
    by : (b : Bool) → (x == r) ≡ b → IfSome (known_value (known_by s rows) r) (λ code. s r ≡ code) → IfSome (if b then Some (s x) else known_value (known_by s rows) r) (λ code. s r ≡ code)
    by true is rest = let same : r ≡ x = grind arith in ap s same
    by false is rest = rest

-- no row is one of the first list, nor stands twice
abbrev pub Fresh : List ℕ → List ℕ → Type 0
Fresh xs [] = Unit {0}
Fresh xs (y ∷ ys) = (has y xs ≡ false) × Fresh (y ∷ xs) ys

pub Fresh-fewer : (xs more ys : List ℕ) → ((r : ℕ) → has r xs ≡ true → has r more ≡ true) → Fresh more ys → Fresh xs ys
Fresh-fewer xs more [] within h = tt
Fresh-fewer xs more (y ∷ ys) within h =
    (by (has y xs) refl, Fresh-fewer (y ∷ xs) (y ∷ more) ys (λ r g. let w = within r in grind (arith, w, g)) h.1)
  where
    by : (b : Bool) → has y xs ≡ b → has y xs ≡ false
    by true is = let held = within y is in grind (arith, held, h.0)
    by false is = is

Fresh-filter : (xs : List ℕ) (row : ℕ) (rows : List ℕ) → Fresh xs rows → Fresh (row ∷ xs) (filter (λ r. not (r == row)) rows)
Fresh-filter xs row [] h = tt
Fresh-filter xs row (y ∷ rows) h = by (y == row) refl (Fresh-filter (y ∷ xs) row rows h.1)
  where
    kept : List ℕ
    kept = filter (λ r. not (r == row)) rows

    by : (b : Bool) → (y == row) ≡ b → Fresh (row ∷ y ∷ xs) kept → Fresh (row ∷ xs) (if not b then y ∷ kept else kept)
    by true is rest = Fresh-fewer (row ∷ xs) (row ∷ y ∷ xs) kept (λ r g. grind (arith, g)) rest
    by false is rest = (let old = h.0 in grind (arith, old, is), Fresh-fewer (y ∷ row ∷ xs) (row ∷ y ∷ xs) kept (λ r g. grind (arith, g)) rest)

pub Fresh-distinct : (rows : List ℕ) → Fresh [] (distinct rows)
Fresh-distinct [] = tt
Fresh-distinct (row ∷ rows) = (refl, Fresh-filter [] row (distinct rows) (Fresh-distinct rows))

-- with the first n rows known, the row at n is the first that is not
first_unknown-known : (s : ℕ → Code) (known xs ys : List ℕ) (n : ℕ) → ((r : ℕ) → has r known ≡ (has r xs || has r (take n ys))) → Fresh xs ys → first_unknown (known_by s known) ys ≡ slice_get ys n
first_unknown-known s known xs [] n same h = refl
first_unknown-known s known xs (y ∷ ys) zero same h = let here = same y in grind (arith, is_known s known y, here, h.0)
first_unknown-known s known xs (y ∷ ys) (suc n) same h =
    let here = same y in
    let rest = first_unknown-known s known (y ∷ xs) ys n (λ r. let there = same r in grind (arith, there)) h.1 in
    grind (arith, is_known s known y, here, rest)

pub tried_of-known_by : (e : Expr) (s : ℕ → Code) (n : ℕ) → tried_of e (known_by s (take n (reads_of e s))) s ≡ answer (slice_get (reads_of e s) n) (value_of e s)
tried_of-known_by e s n = ap (λ u. answer u (value_of e s)) (first_unknown-known s (take n (reads_of e s)) [] (reads_of e s) n (λ r. refl) (Fresh-distinct (evaluation e s).reads))
