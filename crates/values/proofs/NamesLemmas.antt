-- No evaluation reads more rows than the expression names.
use Rattle.std.proofs.Common.{◌≡◌, ℕ, suc, ◌≤◌, inl, inr, Bool, true, false, not, if◌then◌else◌, List, [], ◌∷◌, length, filter, ◌==◌, Contains, refl, sym, ap, ◌∙◌, arith}
use Rattle.values.specs.declared.code.Code.{Code}
use Rattle.values.specs.declared.expr.Expr.{Expr}
use Rattle.values.specs.Evaluation.{distinct, readings_of, reads_of}
use Rattle.values.specs.Plan.{rows_in, names_of}
use Rattle.values.proofs.AskedLemmas.{has, Fresh, Fresh-fewer, Fresh-distinct}
use Rattle.values.proofs.PlanLemmas.{Contains-from_cons, further, reads_named}

Contains-from_has : (r : ℕ) (xs : List ℕ) → has r xs ≡ true → Contains xs r
Contains-from_has r [] h = cc
Contains-from_has r (x ∷ xs) h = by (x == r) refl (Contains-from_has r xs)
  where
    by : (b : Bool) → (x == r) ≡ b → (has r xs ≡ true → Contains xs r) → Contains (x ∷ xs) r
    by true is rest = let same : x ≡ r = grind arith in (0, omega arith, same)
    by false is rest = let later : has r xs ≡ true = grind (arith, h, is) in further x r xs (rest later)

has-from_Contains : (r : ℕ) (xs : List ℕ) → Contains xs r → has r xs ≡ true
has-from_Contains r [] c = absurd (omega (arith, c.1))
has-from_Contains r (x ∷ xs) c =
    let later : Contains xs r → has r xs ≡ true = has-from_Contains r xs in
    elim (Contains-from_cons x r xs c) [ inl e ↦ grind (arith, e) | inr g ↦ (let held = later g in grind (arith, held)) ]

has-filter : (r row : ℕ) (xs : List ℕ) → (r == row) ≡ false → has r (filter (λ q. not (q == row)) xs) ≡ has r xs
has-filter r row [] other = refl
has-filter r row (x ∷ xs) other = grind (arith, has-filter r row xs other, other)

has-distinct : (r : ℕ) (xs : List ℕ) → has r xs ≡ true → has r (distinct xs) ≡ true
has-distinct r [] h = h
has-distinct r (x ∷ xs) h = by (r == x) refl (has-distinct r xs)
  where
    by : (b : Bool) → (r == x) ≡ b → (has r xs ≡ true → has r (distinct xs) ≡ true) → has r (distinct (x ∷ xs)) ≡ true
    by true is rest = grind (arith, is)
    by false is rest =
        let later : has r xs ≡ true = grind (arith, h, is) in
        let held = rest later in
        grind (arith, held, has-filter r x (distinct xs) is)

-- the list without the first place of x
abbrev without : ℕ → List ℕ → List ℕ
without x [] = []
without x (y ∷ ys) = if y == x then ys else y ∷ without x ys

length-without : (x : ℕ) (ys : List ℕ) → has x ys ≡ true → suc (length (without x ys)) ≡ length ys
length-without x [] h = cc
length-without x (y ∷ ys) h = by (y == x) refl (length-without x ys)
  where
    by : (b : Bool) → (y == x) ≡ b → (has x ys ≡ true → suc (length (without x ys)) ≡ length ys) → suc (length (if b then ys else y ∷ without x ys)) ≡ length (y ∷ ys)
    by true is rest = refl
    by false is rest = let later : has x ys ≡ true = grind (arith, h, is) in ap suc (rest later)

has-without : (r x : ℕ) (ys : List ℕ) → (r == x) ≡ false → has r ys ≡ true → has r (without x ys) ≡ true
has-without r x [] other h = h
has-without r x (y ∷ ys) other h = by (y == x) (y == r) refl refl (has-without r x ys other)
  where
    by : (b k : Bool) → (y == x) ≡ b → (y == r) ≡ k → (has r ys ≡ true → has r (without x ys) ≡ true) → has r (if b then ys else y ∷ without x ys) ≡ true
    by true k is at rest = grind (arith, h, is, other)
    by false true is at rest = grind (arith, at)
    by false false is at rest = let later : has r ys ≡ true = grind (arith, h, at) in let held = rest later in grind (arith, held)

-- what was seen does not come again
not_again : (r : ℕ) (seen xs : List ℕ) → Fresh seen xs → has r seen ≡ true → has r xs ≡ false
not_again r seen [] h held = refl
not_again r seen (x ∷ xs) h held =
    let rest = not_again r (x ∷ seen) xs h.1 in
    let kept : has r (x ∷ seen) ≡ true = grind (arith, held) in
    let later = rest kept in
    by (x == r) refl later
  where
    by : (b : Bool) → (x == r) ≡ b → has r xs ≡ false → has r (x ∷ xs) ≡ false
    by true is later = let new = h.0 in let same : x ≡ r = grind arith in grind (arith, new, same, held)
    by false is later = grind (arith, is, later)

-- a list that repeats nothing is no longer than one that has all that it has
fits : (xs ys : List ℕ) → Fresh [] xs → ((r : ℕ) → has r xs ≡ true → has r ys ≡ true) → length xs ≤ length ys
fits [] ys h within = omega arith
fits (x ∷ xs) ys h within =
    let new = not_again x (x ∷ []) xs h.1 (grind arith) in
    let here : has x ys ≡ true = within x (grind arith) in
    let rest = fits xs (without x ys) (Fresh-fewer [] (x ∷ []) xs (λ r g. cc) h.1) (λ r g.
    let held = within r in
    let other : (r == x) ≡ false = differs r (r == x) refl new g in
    let also : has r (x ∷ xs) ≡ true = grind (arith, g) in
    has-without r x ys other (held also)) in
    omega (arith, rest, length-without x ys here)
  where
    differs : (r : ℕ) (b : Bool) → (r == x) ≡ b → has x xs ≡ false → has r xs ≡ true → (r == x) ≡ false
    differs r true is new g = let same : r ≡ x = grind arith in let held : has x xs ≡ true = ap (λ q. has q xs) (sym same) ∙ g in cc
    differs r false is new g = is

pub reads_fit : (e : Expr) (s : ℕ → Code) → length (reads_of e s) ≤ length (names_of e)
reads_fit e s = fits (reads_of e s) (names_of e) (Fresh-distinct (readings_of e s))
    (λ r g. has-distinct r (rows_in e) (has-from_Contains r (rows_in e) (reads_named e s r (Contains-from_has r (reads_of e s) g))))
