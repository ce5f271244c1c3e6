-- Renumbered expressions: their value and what they read, and the rows that they name.
use Rattle.std.proofs.Common.{◌≡◌, ℕ, zero, suc, Bool, true, false, not, if◌then◌else◌, List, [], ◌∷◌, ◌++◌, map, filter, ◌==◌, Contains, refl, sym, ap, subst, ◌∙◌, arith}
use Rattle.std.proofs.lemmas.List.{map-append}
use Rattle.values.specs.declared.code.Code.{Code}
use Rattle.values.specs.declared.expr.Expr.{Expr}
use Rattle.values.specs.declared.expr.Expr.TheOpen as form
use Rattle.values.specs.declared.expr.Expr.TheOpen.{Expr-F}
use Rattle.values.specs.declared.expr.Expr.TheVariants.{Read, rolls-Lit, rolls-Read, rolls-Binary, rolls-If}
use Rattle.values.specs.declared.expr.Expr.TheViews.{roll-Expr}
use Rattle.values.specs.declared.expr.Expr.TheFolds.{fold-roll-Expr, map-Expr, ind-Expr}
use Rattle.values.specs.Evaluation.{truth, combined, Evaluated, evaluation_step, evaluation, value_of, distinct}
use Rattle.values.specs.Plan.{rows_in}
use Rattle.values.proofs.Evaluation.{evaluation-Lit, evaluation-Read, evaluation-Binary, evaluation-If}
use Rattle.values.proofs.PlanLemmas.{rows_in-Lit, rows_in-Read, rows_in-Binary, rows_in-If}
use Rattle.plan_meaning.specs.Renamed.{renamed, renamed_step, renumbered}
use Rattle.plan_meaning.proofs.Renamed.{renamed-Lit, renamed-Read, renamed-Binary, renamed-If}

-- ---- evaluation

abbrev pub over : (ℕ → ℕ) → Evaluated → Evaluated
over number v = record { value = v.value; reads = map number v.reads }

abbrev pub IsRenumbered : (ℕ → ℕ) → Expr → Type 0
IsRenumbered number e = (s : ℕ → Code) → evaluation (renumbered number e) s ≡ over number (evaluation e (λ r. s (number r)))

abbrev Evaluating : (ℕ → ℕ) → Type 0
Evaluating number = (e : Expr) × IsRenumbered number e

layer : (x : Expr-F Expr) (s : ℕ → Code) → evaluation (roll-Expr x) s ≡ evaluation_step s (map-Expr Expr Evaluated (λ e. evaluation e s) x)
unfolding evaluation
layer x s = fold-roll-Expr Evaluated (evaluation_step s) x

named : (number : ℕ → ℕ) (x : Expr-F Expr) → renumbered number (roll-Expr x) ≡ renamed_step (λ row. Read (number row)) (map-Expr Expr Expr (renumbered number) x)
unfolding renamed
named number x = fold-roll-Expr Expr (renamed_step (λ row. Read (number row))) x

abbrev picked : Bool → Evaluated → Evaluated → Evaluated
picked k a b = if k then a else b

picked_over : (number : ℕ → ℕ) (k : Bool) (a b : Evaluated) → picked k (over number a) (over number b) ≡ over number (picked k a b)
picked_over number true a b = refl
picked_over number false a b = refl

evaluates_by_form : (number : ℕ → ℕ) (y : Expr-F (Evaluating number)) → IsRenumbered number (roll-Expr (map-Expr (Evaluating number) Expr (λ e. e.0) y))
evaluates_by_form number (form.Lit code) s =
    ap (λ e. evaluation e s) (named number (form.Lit code)) ∙ evaluation-Lit code s ∙ ap (over number) (sym (layer (form.Lit code) (λ r. s (number r))))
evaluates_by_form number (form.Read row) s =
    ap (λ e. evaluation e s) (named number (form.Read row)) ∙ evaluation-Read (number row) s ∙ ap (over number) (sym (layer (form.Read row) (λ r. s (number r))))
evaluates_by_form number (form.Binary op a b) s =
    let t : ℕ → Code = (λ r. s (number r)) in
    ap (λ e. evaluation e s) (named number (form.Binary op a.0 b.0)) ∙ evaluation-Binary op (renumbered number a.0) (renumbered number b.0) s
    ∙ (λ i. record { value = combined op (a.1 s i).value (b.1 s i).value; reads = (a.1 s i).reads ++ (b.1 s i).reads })
    ∙ (λ i. record { value = combined op (evaluation a.0 t).value (evaluation b.0 t).value; reads = sym (map-append number (evaluation a.0 t).reads (evaluation b.0 t).reads) i })
    ∙ ap (over number) (sym (layer (form.Binary op a.0 b.0) t))
evaluates_by_form number (form.If c a b) s =
    let t : ℕ → Code = (λ r. s (number r)) in
    let v : Evaluated = picked (truth (evaluation c.0 t).value) (evaluation a.0 t) (evaluation b.0 t) in
    ap (λ e. evaluation e s) (named number (form.If c.0 a.0 b.0)) ∙ evaluation-If (renumbered number c.0) (renumbered number a.0) (renumbered number b.0) s
    ∙ (λ i. record { value = (picked (truth (c.1 s i).value) (a.1 s i) (b.1 s i)).value; reads = (c.1 s i).reads ++ (picked (truth (c.1 s i).value) (a.1 s i) (b.1 s i)).reads })
    ∙ ap (λ (w : Evaluated). record { value = w.value; reads = map number (evaluation c.0 t).reads ++ w.reads }) (picked_over number (truth (evaluation c.0 t).value) (evaluation a.0 t) (evaluation b.0 t))
    ∙ (λ i. record { value = v.value; reads = sym (map-append number (evaluation c.0 t).reads v.reads) i })
    ∙ ap (over number) (sym (layer (form.If c.0 a.0 b.0) t))

pub evaluation_renumbered : (number : ℕ → ℕ) (e : Expr) → IsRenumbered number e
evaluation_renumbered number = ind-Expr (IsRenumbered number) (λ x y is. subst (λ z. IsRenumbered number (roll-Expr z)) is (evaluates_by_form number y))

pub value_of-renumbered : (number : ℕ → ℕ) (e : Expr) (s : ℕ → Code) → value_of (renumbered number e) s ≡ value_of e (λ r. s (number r))
value_of-renumbered number e s = ap (λ v. v.value) (evaluation_renumbered number e s)

-- ---- distinct rows with new numbers

abbrev pub Apart : (ℕ → ℕ) → List ℕ → Type 0
Apart number xs = (a b : ℕ) → Contains xs a → Contains xs b → number a ≡ number b → a ≡ b

apart_tail : (number : ℕ → ℕ) (x : ℕ) (xs : List ℕ) → Apart number (x ∷ xs) → Apart number xs
apart_tail number x xs h a b (j, l, e) (k, m, f) same = h a b (suc j, omega arith, e) (suc k, omega arith, f) same

filter_moved : (number : ℕ → ℕ) (x : ℕ) (xs : List ℕ) → ((b : ℕ) → Contains xs b → number b ≡ number x → b ≡ x) → filter (λ r. not (r == number x)) (map number xs) ≡ map number (filter (λ r. not (r == x)) xs)
filter_moved number x [] h = refl
filter_moved number x (y ∷ xs) h = by (y == x) refl (filter_moved number x xs (λ b (k, l, e) same. h b (suc k, omega arith, e) same))
  where
    by : (b : Bool) → (y == x) ≡ b → filter (λ r. not (r == number x)) (map number xs) ≡ map number (filter (λ r. not (r == x)) xs)
        → (if not (number y == number x) then number y ∷ filter (λ r. not (r == number x)) (map number xs) else filter (λ r. not (r == number x)) (map number xs)) ≡ map number (if not b then y ∷ filter (λ r. not (r == x)) xs else filter (λ r. not (r == x)) xs)
    by true is rest =
        let e : y ≡ x = grind arith in
        let q : (number y == number x) ≡ true = (let p : number y ≡ number x = ap number e in grind arith) in
        rw q rest
    by false is rest =
        let n : number y ≡ number x → ⊥ = (λ p. let e : y ≡ x = h y (0, omega arith, refl) p in grind (arith, e, is)) in
        let q : (number y == number x) ≡ false = not_equal (number y) (number x) n in
        rw q (ap (λ l. number y ∷ l) rest)
      where
        not_equal : (a b : ℕ) → (a ≡ b → ⊥) → (a == b) ≡ false
        not_equal a b n = go (a == b) refl
          where
            go : (k : Bool) → (a == b) ≡ k → (a == b) ≡ false
            go true t = absurd (n (grind arith))
            go false t = t

kept_from : (x : ℕ) (xs : List ℕ) (a : ℕ) → Contains (filter (λ r. not (r == x)) xs) a → Contains xs a
kept_from x [] a (k, l, e) = absurd (omega arith)
kept_from x (y ∷ xs) a c = by (y == x) refl c (kept_from x xs a)
  where
    wider : Contains xs a → Contains (y ∷ xs) a
    wider (k, l, e) = (suc k, omega arith, e)

    by : (b : Bool) → (y == x) ≡ b → Contains (if not b then y ∷ filter (λ r. not (r == x)) xs else filter (λ r. not (r == x)) xs) a → (Contains (filter (λ r. not (r == x)) xs) a → Contains xs a) → Contains (y ∷ xs) a
    by true is c' rec = wider (rec c')
    by false is (zero, l, e) rec = (zero, omega arith, e)
    by false is (suc k, l, e) rec = wider (rec (k, omega arith, e))

distinct_from : (xs : List ℕ) (a : ℕ) → Contains (distinct xs) a → Contains xs a
distinct_from [] a c = c
distinct_from (x ∷ xs) a (zero, l, e) = (zero, omega arith, e)
distinct_from (x ∷ xs) a (suc k, l, e) =
    let r = distinct_from xs a (kept_from x (distinct xs) a (k, omega arith, e)) in (suc r.0, (let w = r.1 in omega arith), r.2)

pub distinct_moved : (number : ℕ → ℕ) (xs : List ℕ) → Apart number xs → distinct (map number xs) ≡ map number (distinct xs)
distinct_moved number [] h = refl
distinct_moved number (x ∷ xs) h =
    let rest = distinct_moved number xs (apart_tail number x xs h) in
    ap (λ l. number x ∷ l) (ap (filter (λ r. not (r == number x))) rest
    ∙ filter_moved number x (distinct xs) (λ b c same. let w = distinct_from xs b c in h b x (suc w.0, (let l = w.1 in omega arith), w.2) (0, omega arith, refl) same))

kept_into : (x : ℕ) (xs : List ℕ) (a : ℕ) → (a ≡ x → ⊥) → Contains xs a → Contains (filter (λ r. not (r == x)) xs) a
kept_into x [] a n (k, l, e) = absurd (omega arith)
kept_into x (y ∷ xs) a n c = by (y == x) refl c (kept_into x xs a n)
  where
    by : (b : Bool) → (y == x) ≡ b → Contains (y ∷ xs) a → (Contains xs a → Contains (filter (λ r. not (r == x)) xs) a) → Contains (if not b then y ∷ filter (λ r. not (r == x)) xs else filter (λ r. not (r == x)) xs) a
    by true is (zero, l, e) rec = let q : y ≡ x = grind arith in let f : y ≡ a = e in absurd (n (sym f ∙ q))
    by true is (suc k, l, e) rec = rec (k, omega arith, e)
    by false is (zero, l, e) rec = (zero, omega arith, e)
    by false is (suc k, l, e) rec = let r = rec (k, omega arith, e) in (suc r.0, (let w = r.1 in omega arith), r.2)

pub into_distinct : (xs : List ℕ) (a : ℕ) → Contains xs a → Contains (distinct xs) a
into_distinct [] a c = c
into_distinct (x ∷ xs) a (zero, l, e) = (zero, omega arith, e)
into_distinct (x ∷ xs) a (suc k, l, e) = by (a == x) refl (into_distinct xs a (k, omega arith, e))
  where
    by : (b : Bool) → (a == x) ≡ b → Contains (distinct xs) a → Contains (distinct (x ∷ xs)) a
    by true is c = (zero, omega arith, (let q : x ≡ a = grind arith in q))
    by false is c = let r = kept_into x (distinct xs) a (λ q. grind (arith, q, is)) c in (suc r.0, (let w = r.1 in omega arith), r.2)

-- ---- the rows that are named

abbrev IsMapped : Expr → Type 0
IsMapped e = (number : ℕ → ℕ) → rows_in (renumbered number e) ≡ map number (rows_in e)

abbrev Mapping : Type 0
Mapping = (e : Expr) × IsMapped e

abbrev by_number : (ℕ → ℕ) → ℕ → Expr
by_number number row = Read (number row)

maps_by_form : (y : Expr-F Mapping) → IsMapped (roll-Expr (map-Expr Mapping Expr (λ e. e.0) y))
maps_by_form (form.Lit code) = subst IsMapped (sym (rolls-Lit code)) (λ number. ap rows_in (renamed-Lit (by_number number) code) ∙ rows_in-Lit code ∙ ap (map number) (sym (rows_in-Lit code)))
maps_by_form (form.Read id) = subst IsMapped (sym (rolls-Read id)) (λ number. ap rows_in (renamed-Read (by_number number) id) ∙ rows_in-Read (number id) ∙ ap (map number) (sym (rows_in-Read id)))
maps_by_form (form.Binary op a b) = subst IsMapped (sym (rolls-Binary op a.0 b.0)) (λ number.
    ap rows_in (renamed-Binary (by_number number) op a.0 b.0)
    ∙ rows_in-Binary op (renumbered number a.0) (renumbered number b.0)
    ∙ (λ i. a.1 number i ++ b.1 number i)
    ∙ sym (map-append number (rows_in a.0) (rows_in b.0))
    ∙ ap (map number) (sym (rows_in-Binary op a.0 b.0)))
maps_by_form (form.If c a b) = subst IsMapped (sym (rolls-If c.0 a.0 b.0)) (λ number.
    ap rows_in (renamed-If (by_number number) c.0 a.0 b.0)
    ∙ rows_in-If (renumbered number c.0) (renumbered number a.0) (renumbered number b.0)
    ∙ (λ i. (c.1 number i ++ a.1 number i) ++ b.1 number i)
    ∙ ap (λ xs. xs ++ map number (rows_in b.0)) (sym (map-append number (rows_in c.0) (rows_in a.0)))
    ∙ sym (map-append number (rows_in c.0 ++ rows_in a.0) (rows_in b.0))
    ∙ ap (map number) (sym (rows_in-If c.0 a.0 b.0)))

-- the rows that the renumbered expression names are those of the first, renumbered
pub rows_renumbered : (e : Expr) → IsMapped e
rows_renumbered = ind-Expr IsMapped (λ x y is. subst (λ z. IsMapped (roll-Expr z)) is (maps_by_form y))
