-- Evaluation depends on the rows that it reads, and asks for them in order.
use Rattle.std.proofs.Common.{◌≡◌, ℕ, suc, Bool, true, false, not, if◌then◌else◌, List, [], ◌∷◌, ◌++◌, filter, ◌==◌, Contains, refl, sym, ap, subst, ◌∙◌, arith}
use Rattle.std.specs.List.{AllByRecursion}
use Rattle.values.specs.declared.code.Code.{Code}
use Rattle.values.specs.declared.expr.Expr.{Expr}
use Rattle.values.specs.declared.expr.Expr.TheOpen as level
use Rattle.values.specs.declared.expr.Expr.TheOpen.{Expr-F}
use Rattle.values.specs.declared.expr.Expr.TheViews.{roll-Expr}
use Rattle.values.specs.declared.expr.Expr.TheFolds.{fold-roll-Expr, map-Expr, ind-Expr}
use Rattle.values.specs.Evaluation.{truth, combined, Evaluated, evaluation_step, evaluation, value_of, distinct, reads_of}

-- two assignments agree on the rows
abbrev AgreeOn : (ℕ → Code) → (ℕ → Code) → List ℕ → Type 0
AgreeOn s t rows = AllByRecursion (λ r. s r ≡ t r) rows

abbrev IsByReads : Expr → Type 0
IsByReads e = (s t : ℕ → Code) → AgreeOn s t (evaluation e s).reads → evaluation e s ≡ evaluation e t

AgreeOn-append : (s t : ℕ → Code) (xs ys : List ℕ) → AgreeOn s t (xs ++ ys) → AgreeOn s t xs × AgreeOn s t ys
AgreeOn-append s t [] ys h = (tt, h)
AgreeOn-append s t (x ∷ xs) ys h = let rest = AgreeOn-append s t xs ys h.1 in ((h.0, rest.0), rest.1)

-- an expression with what is known of it
abbrev Known : Type 0
Known = (e : Expr) × IsByReads e

-- the equation of one form
layer : (x : Expr-F Expr) (s : ℕ → Code) → evaluation (roll-Expr x) s ≡ evaluation_step s (map-Expr Expr Evaluated (λ e. evaluation e s) x)
unfolding evaluation
layer x s = fold-roll-Expr Evaluated (evaluation_step s) x

abbrev joined : Evaluated → Evaluated → Evaluated
joined c taken = record { value = taken.value; reads = c.reads ++ taken.reads }

abbrev picked : Bool → Evaluated → Evaluated → Evaluated
picked k a b = if k then a else b

by_form : (y : Expr-F Known) → IsByReads (roll-Expr (map-Expr Known Expr (λ e. e.0) y))
by_form (level.Lit code) s t h = layer (level.Lit code) s ∙ sym (layer (level.Lit code) t)
by_form (level.Read row) s t h =
    let agree = subst (λ v. AgreeOn s t v.reads) (layer (level.Read row) s) h in
    layer (level.Read row) s ∙ (λ i. record { value = agree.0 i; reads = row ∷ [] }) ∙ sym (layer (level.Read row) t)
by_form (level.Binary op a b) s t h =
    let agree = AgreeOn-append s t (evaluation a.0 s).reads (evaluation b.0 s).reads (subst (λ v. AgreeOn s t v.reads) (layer (level.Binary op a.0 b.0) s) h) in
    let left = a.1 s t agree.0 in
    let right = b.1 s t agree.1 in
    layer (level.Binary op a.0 b.0) s
    ∙ (λ i. record { value = combined op (left i).value (right i).value; reads = (left i).reads ++ (right i).reads })
    ∙ sym (layer (level.Binary op a.0 b.0) t)
by_form (level.If c a b) s t h =
    let at : (ℕ → Code) → Evaluated = λ u. picked (truth (evaluation c.0 s).value) (evaluation a.0 u) (evaluation b.0 u) in
    let agree = AgreeOn-append s t (evaluation c.0 s).reads (at s).reads (subst (λ v. AgreeOn s t v.reads) (layer (level.If c.0 a.0 b.0) s) h) in
    let test = c.1 s t agree.0 in
    layer (level.If c.0 a.0 b.0) s
    ∙ ap (joined (evaluation c.0 s)) (branch (truth (evaluation c.0 s).value) agree.1)
    ∙ ap (λ v. joined v (picked (truth v.value) (evaluation a.0 t) (evaluation b.0 t))) test
    ∙ sym (layer (level.If c.0 a.0 b.0) t)
  where
    branch : (k : Bool) → AgreeOn s t (picked k (evaluation a.0 s) (evaluation b.0 s)).reads → picked k (evaluation a.0 s) (evaluation b.0 s) ≡ picked k (evaluation a.0 t) (evaluation b.0 t)
    branch true g = a.1 s t g
    branch false g = b.1 s t g

evaluation_by_reads : (e : Expr) → IsByReads e
evaluation_by_reads = ind-Expr IsByReads (λ x y is. subst (λ z. IsByReads (roll-Expr z)) is (by_form y))

-- from the distinct rows to all
AgreeOn-filter : (s t : ℕ → Code) (row : ℕ) (rows : List ℕ) → s row ≡ t row → AgreeOn s t (filter (λ r. not (r == row)) rows) → AgreeOn s t rows
AgreeOn-filter s t row [] e h = tt
AgreeOn-filter s t row (r ∷ rows) e h = by (r == row) refl (AgreeOn-filter s t row rows e)
  where
    kept : List ℕ
    kept = filter (λ q. not (q == row)) rows

    by : (b : Bool) → (r == row) ≡ b → (AgreeOn s t kept → AgreeOn s t rows) → AgreeOn s t (r ∷ rows)
    by true is rest = let same : r ≡ row = grind arith in (rw same e, rest (subst (λ (b : Bool). AgreeOn s t (if not b then r ∷ kept else kept)) is h))
    by false is rest = let both = subst (λ (b : Bool). AgreeOn s t (if not b then r ∷ kept else kept)) is h in (both.0, rest both.1)

AgreeOn-distinct : (s t : ℕ → Code) (rows : List ℕ) → AgreeOn s t (distinct rows) → AgreeOn s t rows
AgreeOn-distinct s t [] h = tt
AgreeOn-distinct s t (row ∷ rows) h = (h.0, AgreeOn-distinct s t rows (AgreeOn-filter s t row (distinct rows) h.0 h.1))

AgreeOn-contains : (s t : ℕ → Code) (rows : List ℕ) → ((r : ℕ) → Contains rows r → s r ≡ t r) → AgreeOn s t rows
AgreeOn-contains s t [] h = tt
AgreeOn-contains s t (row ∷ rows) h = (h row (0, omega arith, refl), AgreeOn-contains s t rows (λ r c. h r (suc c.0, omega (arith, c.1), c.2)))

-- Where two assignments agree on the rows that are read with the one, the value and the reads are the same with the other.
pub same_by_reads : (e : Expr) (s t : ℕ → Code) → ((r : ℕ) → Contains (reads_of e s) r → s r ≡ t r) → (value_of e s ≡ value_of e t) × (reads_of e s ≡ reads_of e t)
same_by_reads e s t h =
    let same = evaluation_by_reads e s t (AgreeOn-distinct s t (evaluation e s).reads (AgreeOn-contains s t (reads_of e s) h)) in
    (ap (λ v. v.value) same, ap (λ v. distinct v.reads) same)
