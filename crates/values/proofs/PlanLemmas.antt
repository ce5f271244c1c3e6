-- The rows that an expression names.
use Rattle.std.proofs.Common.{◌≡◌, ℕ, zero, suc, ◌⊎◌, inl, inr, Bool, true, false, not, if◌then◌else◌, List, [], ◌∷◌, ◌++◌, filter, ◌==◌, Contains, sym, ap, subst, ◌∙◌, arith}
use Rattle.std.proofs.lemmas.List.Elements.{Contains-append_left, Contains-append_right, Contains-append_cases}
use Rattle.values.specs.declared.code.Code.{Code}
use Rattle.values.specs.declared.code.Op.{Op}
use Rattle.values.specs.declared.expr.Expr.{Expr}
use Rattle.values.specs.declared.expr.Expr.TheOpen as level
use Rattle.values.specs.declared.expr.Expr.TheOpen.{Expr-F}
use Rattle.values.specs.declared.expr.Expr.TheVariants.{Lit, Read, Binary, If, rolls-Lit, rolls-Read, rolls-Binary, rolls-If}
use Rattle.values.specs.declared.expr.Expr.TheViews.{roll-Expr}
use Rattle.values.specs.declared.expr.Expr.TheFolds.{fold-roll-Expr, map-Expr, ind-Expr}
use Rattle.values.specs.Evaluation.{truth, value_of, readings_of, distinct, reads_of}
use Rattle.values.specs.Plan.{rows_step, rows_in}
use Rattle.values.proofs.Evaluation.{readings_of-Lit, readings_of-Read, readings_of-Binary, readings_of-If}

pub rows_in-Lit : (code : Code) → rows_in (Lit code) ≡ []
unfolding rows_in
rows_in-Lit code = ap rows_in (sym (rolls-Lit code)) ∙ fold-roll-Expr (List ℕ) rows_step (level.Lit code)

pub rows_in-Read : (row : ℕ) → rows_in (Read row) ≡ row ∷ []
unfolding rows_in
rows_in-Read row = ap rows_in (sym (rolls-Read row)) ∙ fold-roll-Expr (List ℕ) rows_step (level.Read row)

pub rows_in-Binary : (op : Op) (a b : Expr) → rows_in (Binary op a b) ≡ rows_in a ++ rows_in b
unfolding rows_in
rows_in-Binary op a b = ap rows_in (sym (rolls-Binary op a b)) ∙ fold-roll-Expr (List ℕ) rows_step (level.Binary op a b)

pub rows_in-If : (c a b : Expr) → rows_in (If c a b) ≡ rows_in c ++ rows_in a ++ rows_in b
unfolding rows_in
rows_in-If c a b = ap rows_in (sym (rolls-If c a b)) ∙ fold-roll-Expr (List ℕ) rows_step (level.If c a b)

-- what an evaluation reads is named
abbrev ReadsNamed : Expr → Type 0
ReadsNamed e = (s : ℕ → Code) (r : ℕ) → Contains (readings_of e s) r → Contains (rows_in e) r

abbrev Known : Type 0
Known = (e : Expr) × ReadsNamed e

by_form : (y : Expr-F Known) → ReadsNamed (roll-Expr (map-Expr Known Expr (λ e. e.0) y))
by_form (level.Lit code) = subst ReadsNamed (sym (rolls-Lit code)) (λ s r h. rw (rows_in-Lit code) (subst (λ xs. Contains xs r) (readings_of-Lit code s) h))
by_form (level.Read row) = subst ReadsNamed (sym (rolls-Read row)) (λ s r h. rw (rows_in-Read row) (subst (λ xs. Contains xs r) (readings_of-Read row s) h))
by_form (level.Binary op a b) = subst ReadsNamed (sym (rolls-Binary op a.0 b.0)) (λ s r h.
    let cases = Contains-append_cases (readings_of a.0 s) (readings_of b.0 s) r (subst (λ xs. Contains xs r) (readings_of-Binary op a.0 b.0 s) h) in
    let left : Contains (readings_of a.0 s) r → Contains (rows_in a.0 ++ rows_in b.0) r = λ g. Contains-append_left (rows_in a.0) (rows_in b.0) r (a.1 s r g) in
    let right : Contains (readings_of b.0 s) r → Contains (rows_in a.0 ++ rows_in b.0) r = λ g. Contains-append_right (rows_in a.0) (rows_in b.0) r (b.1 s r g) in
    rw (rows_in-Binary op a.0 b.0) (elim cases [ inl g ↦ left g | inr g ↦ right g ]))
by_form (level.If c a b) = subst ReadsNamed (sym (rolls-If c.0 a.0 b.0)) (λ s r h.
    let cases = Contains-append_cases (readings_of c.0 s) (if truth (value_of c.0 s) then readings_of a.0 s else readings_of b.0 s) r (subst (λ xs. Contains xs r) (readings_of-If c.0 a.0 b.0 s) h) in
    rw (rows_in-If c.0 a.0 b.0) (elim cases [ inl g ↦ test s r g | inr g ↦ branch s r (truth (value_of c.0 s)) g ]))
  where
    all : List ℕ
    all = rows_in c.0 ++ rows_in a.0 ++ rows_in b.0

    test : (s : ℕ → Code) (r : ℕ) → Contains (readings_of c.0 s) r → Contains all r
    test s r g = Contains-append_left (rows_in c.0 ++ rows_in a.0) (rows_in b.0) r (Contains-append_left (rows_in c.0) (rows_in a.0) r (c.1 s r g))

    branch : (s : ℕ → Code) (r : ℕ) (k : Bool) → Contains (if k then readings_of a.0 s else readings_of b.0 s) r → Contains all r
    branch s r true g = Contains-append_left (rows_in c.0 ++ rows_in a.0) (rows_in b.0) r (Contains-append_right (rows_in c.0) (rows_in a.0) r (a.1 s r g))
    branch s r false g = Contains-append_right (rows_in c.0 ++ rows_in a.0) (rows_in b.0) r (b.1 s r g)

readings_named : (e : Expr) → ReadsNamed e
readings_named = ind-Expr ReadsNamed (λ x y is. subst (λ z. ReadsNamed (roll-Expr z)) is (by_form y))

-- the place of an element, one place further on
pub further : (x r : ℕ) (xs : List ℕ) → Contains xs r → Contains (x ∷ xs) r
further x r xs c = (suc c.0, omega (arith, c.1), c.2)

pub Contains-from_cons : (x r : ℕ) (xs : List ℕ) → Contains (x ∷ xs) r → (x ≡ r) ⊎ Contains xs r
Contains-from_cons x r xs (zero, l, c) = inl c
Contains-from_cons x r xs (suc k, l, c) = inr (k, omega (arith, l), c)

Contains-from_filter : (p : ℕ → Bool) (xs : List ℕ) (r : ℕ) → Contains (filter p xs) r → Contains xs r
Contains-from_filter p [] r c = c
Contains-from_filter p (x ∷ xs) r c = by (p x) c (Contains-from_filter p xs r)
  where
    by : (k : Bool) → Contains (if k then x ∷ filter p xs else filter p xs) r → (Contains (filter p xs) r → Contains xs r) → Contains (x ∷ xs) r
    by true d rest = elim (Contains-from_cons x r (filter p xs) d) [ inl e ↦ (0, omega arith, e) | inr g ↦ further x r xs (rest g) ]
    by false d rest = further x r xs (rest d)

Contains-from_distinct : (xs : List ℕ) (r : ℕ) → Contains (distinct xs) r → Contains xs r
Contains-from_distinct [] r c = c
Contains-from_distinct (x ∷ xs) r c =
    let later : Contains (filter (λ q. not (q == x)) (distinct xs)) r → Contains xs r = λ g. Contains-from_distinct xs r (Contains-from_filter (λ q. not (q == x)) (distinct xs) r g) in
    elim (Contains-from_cons x r (filter (λ q. not (q == x)) (distinct xs)) c) [ inl e ↦ (0, omega arith, e) | inr g ↦ further x r xs (later g) ]

-- an evaluation reads no row that the expression does not name
pub reads_named : (e : Expr) (s : ℕ → Code) (r : ℕ) → Contains (reads_of e s) r → Contains (rows_in e) r
reads_named e s r c = readings_named e s r (Contains-from_distinct (readings_of e s) r c)
