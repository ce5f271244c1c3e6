-- What the rows tell, and what an evaluation over them reads.
use Rattle.std.proofs.Common.{◌≡◌, ℕ, zero, suc, ◌+◌, ◌<◌, ◌≤◌, ◌⊎◌, inl, inr, Bool, true, false, not, if◌then◌else◌, ◌==◌, List, [], ◌∷◌, ◌++◌, filter, slice_get, length, Some, None, refl, sym, ap, subst, ◌∙◌, arith, length-append}
use Rattle.std.proofs.lemmas.List.{map-append, append_assoc, append-nil}
use Rattle.values.specs.declared.code.Code.{Code}
use Rattle.values.specs.declared.code.Op.{Op}
use Rattle.values.specs.declared.expr.Expr.{Expr}
use Rattle.values.specs.declared.expr.Expr.TheVariants as of
use Rattle.values.specs.Evaluation.{truth, Evaluated, value_of, readings_of, distinct}
use Rattle.values.specs.Packing.{unpacked, IsPacked}
use Rattle.values.specs.Plan.{rows_in}
use Rattle.values.proofs.PlanLemmas.{rows_in-Read, rows_in-Binary, rows_in-If}
use Rattle.values.specs.Attempt.{known_value}
use Rattle.values.proofs.Evaluation.{evaluation-Lit, evaluation-Read, evaluation-Binary, evaluation-If, taken}
use Rattle.sources.specs.declared.body.Read.{Read}
use Rattle.sources.specs.declared.opening.Opened.{Opened}
use Rattle.sources.specs.Bodies.{rows_read}
use Rattle.sources.specs.Colours.{is_clean}
use Rattle.sources.specs.Rows.{IsPresent}
use Rattle.still_readers.specs.Readers.{stands_in}
use Rattle.still_readers.proofs.Lists.{one_at, snoc_at}
use Rattle.still_rows.specs.Shown.{shown_from, shown, told, added, noted, IsFresh}

-- no entry is below where the list begins
known_early : (i r : ℕ) (rows : List Opened) → r < i → known_value (shown_from i rows) r ≡ None
unfolding shown_from
known_early i r [] h = refl
known_early i r (row ∷ rows) h = by (is_clean row.colour) (known_early (suc i) r rows (omega arith))
  where
    off : (b : Bool) → (i == r) ≡ b → known_value (shown_from (suc i) rows) r ≡ None → (if b then Some (unpacked row.code) else known_value (shown_from (suc i) rows) r) ≡ None
    off true e rest = let same : i ≡ r = grind arith in absurd (omega arith)
    off false e rest = rest

    by : (c : Bool) → known_value (shown_from (suc i) rows) r ≡ None → known_value (if c then (i, unpacked row.code) ∷ shown_from (suc i) rows else shown_from (suc i) rows) r ≡ None
    by true rest = off (i == r) refl rest
    by false rest = rest

known_from : (i k : ℕ) (rows : List Opened) → known_value (shown_from i rows) (i + k) ≡ told (slice_get rows k)
unfolding shown_from
known_from i k [] = refl
known_from i zero (row ∷ rows) = by (is_clean row.colour)
  where
    at : i + 0 ≡ i
    at = omega arith

    here : (b : Bool) → (i == (i + 0)) ≡ b → (if b then Some (unpacked row.code) else known_value (shown_from (suc i) rows) (i + 0)) ≡ Some (unpacked row.code)
    here true e = refl
    here false e = absurd (grind (arith, e, at))

    by : (c : Bool) → known_value (if c then (i, unpacked row.code) ∷ shown_from (suc i) rows else shown_from (suc i) rows) (i + 0) ≡ (if c then Some (unpacked row.code) else None)
    by true = here (i == (i + 0)) refl
    by false = known_early (suc i) (i + 0) rows (omega arith)
known_from i (suc k) (row ∷ rows) = let at : i + suc k ≡ suc i + k = omega arith in by (is_clean row.colour) (ap (known_value (shown_from (suc i) rows)) at ∙ known_from (suc i) k rows)
  where
    off : (b : Bool) → (i == (i + suc k)) ≡ b → known_value (shown_from (suc i) rows) (i + suc k) ≡ told (slice_get rows k) → (if b then Some (unpacked row.code) else known_value (shown_from (suc i) rows) (i + suc k)) ≡ told (slice_get rows k)
    off true e rest = let same : i ≡ i + suc k = grind arith in absurd (omega arith)
    off false e rest = rest

    by : (c : Bool) → known_value (shown_from (suc i) rows) (i + suc k) ≡ told (slice_get rows k) → known_value (if c then (i, unpacked row.code) ∷ shown_from (suc i) rows else shown_from (suc i) rows) (i + suc k) ≡ told (slice_get rows k)
    by true rest = off (i == (i + suc k)) refl rest
    by false rest = rest

pub known_shown : (rows : List Opened) (r : ℕ) → known_value (shown rows) r ≡ told (slice_get rows r)
known_shown rows r = ap (λ (q : ℕ). known_value (shown_from 0 rows) q) (let e : r ≡ 0 + r = omega arith in e) ∙ known_from 0 r rows

pub noted-append : (done xs ys : List ℕ) → noted done (xs ++ ys) ≡ noted (noted done xs) ys
unfolding noted
noted-append done [] ys = refl
noted-append done (x ∷ xs) ys = noted-append (added done x) xs ys

pub noted-Lit : (code : Code) (s : ℕ → Code) (done : List ℕ) → noted done (readings_of (of.Lit code) s) ≡ done
unfolding noted
noted-Lit code s done = ap (λ (v : Evaluated). noted done v.reads) (evaluation-Lit code s)

pub noted-Read : (row : ℕ) (s : ℕ → Code) (done : List ℕ) → noted done (readings_of (of.Read row) s) ≡ added done row
unfolding noted
noted-Read row s done = ap (λ (v : Evaluated). noted done v.reads) (evaluation-Read row s)

pub noted-Binary : (op : Op) (a b : Expr) (s : ℕ → Code) (done : List ℕ) → noted done (readings_of (of.Binary op a b) s) ≡ noted (noted done (readings_of a s)) (readings_of b s)
noted-Binary op a b s done = ap (λ (v : Evaluated). noted done v.reads) (evaluation-Binary op a b s) ∙ noted-append done (readings_of a s) (readings_of b s)

pub noted-If : (c a b : Expr) (s : ℕ → Code) (done : List ℕ) → noted done (readings_of (of.If c a b) s) ≡ noted (noted done (readings_of c s)) (if truth (value_of c s) then readings_of a s else readings_of b s)
noted-If c a b s done = ap (λ (v : Evaluated). noted done v.reads) (evaluation-If c a b s) ∙ noted-append done (readings_of c s) (taken c a b s).reads ∙ by (truth (value_of c s)) refl
  where
    by : (t : Bool) → truth (value_of c s) ≡ t → noted (noted done (readings_of c s)) (taken c a b s).reads ≡ noted (noted done (readings_of c s)) (if t then readings_of a s else readings_of b s)
    by true is = rw is refl
    by false is = rw is refl

-- filters
filter_same : (p q : ℕ → Bool) (xs : List ℕ) → ((x : ℕ) → p x ≡ q x) → filter p xs ≡ filter q xs
filter_same p q [] h = refl
filter_same p q (x ∷ xs) h = let e = h x in let r = filter_same p q xs h in rw e (by (q x) r)
  where
    by : (b : Bool) → filter p xs ≡ filter q xs → (if b then x ∷ filter p xs else filter p xs) ≡ (if b then x ∷ filter q xs else filter q xs)
    by true r = ap (λ l. x ∷ l) r
    by false r = r

abbrev both : Bool → Bool → Bool
both a b = if a then b else false

filter_filter : (p q : ℕ → Bool) (xs : List ℕ) → filter p (filter q xs) ≡ filter (λ x. both (q x) (p x)) xs
filter_filter p q [] = refl
filter_filter p q (x ∷ xs) = by (q x) (filter_filter p q xs)
  where
    next : (b : Bool) → filter p (filter q xs) ≡ filter (λ x. both (q x) (p x)) xs → (if b then x ∷ filter p (filter q xs) else filter p (filter q xs)) ≡ (if b then x ∷ filter (λ x. both (q x) (p x)) xs else filter (λ x. both (q x) (p x)) xs)
    next true r = ap (λ l. x ∷ l) r
    next false r = r

    by : (b : Bool) → filter p (filter q xs) ≡ filter (λ x. both (q x) (p x)) xs → filter p (if b then x ∷ filter q xs else filter q xs) ≡ (if both b (p x) then x ∷ filter (λ x. both (q x) (p x)) xs else filter (λ x. both (q x) (p x)) xs)
    by true r = next (p x) r
    by false r = r

stands_in-append : (r : ℕ) (xs ys : List ℕ) → stands_in r (xs ++ ys) ≡ (if stands_in r xs then true else stands_in r ys)
unfolding stands_in
stands_in-append r [] ys = refl
stands_in-append r (x ∷ xs) ys = by (x == r) (stands_in-append r xs ys)
  where
    by : (b : Bool) → stands_in r (xs ++ ys) ≡ (if stands_in r xs then true else stands_in r ys) → (if b then true else stands_in r (xs ++ ys)) ≡ (if (if b then true else stands_in r xs) then true else stands_in r ys)
    by true h = refl
    by false h = h

noted_is : (done xs : List ℕ) → noted done xs ≡ done ++ filter (λ x. not (stands_in x done)) (distinct xs)
unfolding noted stands_in
noted_is done [] = sym (append-nil done)
noted_is done (r ∷ rs) = by (stands_in r done) refl (noted_is done rs) (noted_is (done ++ r ∷ []) rs)
  where
    there : (x : ℕ) → stands_in r done ≡ true → both (not (x == r)) (not (stands_in x done)) ≡ not (stands_in x done)
    there x is = at (x == r) refl
      where
        at : (b : Bool) → (x == r) ≡ b → both (not b) (not (stands_in x done)) ≡ not (stands_in x done)
        at true e = let same : x ≡ r = grind arith in rw (same, is) refl
        at false e = refl

    gone : (x : ℕ) → both (not (x == r)) (not (stands_in x done)) ≡ not (stands_in x (done ++ r ∷ []))
    gone x = rw (stands_in-append x done (r ∷ [])) (at (stands_in x done) (x == r) (r == x) (turned x))
      where
        turned : (x : ℕ) → (x == r) ≡ (r == x)
        turned x = grind arith

        at : (d b c : Bool) → b ≡ c → both (not b) (not d) ≡ not (if d then true else (if c then true else false))
        at true true c e = refl
        at true false c e = refl
        at false true c e = rw (← e) refl
        at false false c e = rw (← e) refl

    by : (b : Bool) → stands_in r done ≡ b → noted done rs ≡ done ++ filter (λ x. not (stands_in x done)) (distinct rs) → noted (done ++ r ∷ []) rs ≡ (done ++ r ∷ []) ++ filter (λ x. not (stands_in x (done ++ r ∷ []))) (distinct rs) → noted (if b then done else done ++ r ∷ []) rs ≡ done ++ (if not b then r ∷ filter (λ x. not (stands_in x done)) (filter (λ q. not (q == r)) (distinct rs)) else filter (λ x. not (stands_in x done)) (filter (λ q. not (q == r)) (distinct rs)))
    by true is rest more = rest ∙ ap (λ l. done ++ l) (sym (filter_filter (λ x. not (stands_in x done)) (λ q. not (q == r)) (distinct rs) ∙ filter_same _ _ (distinct rs) (λ x. there x is)))
    by false is rest more = more ∙ append_assoc done (r ∷ []) _ ∙ ap (λ l. done ++ (r ∷ l)) (sym (filter_filter (λ x. not (stands_in x done)) (λ q. not (q == r)) (distinct rs) ∙ filter_same _ _ (distinct rs) gone))

filter_all : (xs : List ℕ) → filter (λ x. not (stands_in x [])) xs ≡ xs
unfolding stands_in
filter_all [] = refl
filter_all (x ∷ xs) = ap (λ l. x ∷ l) (filter_all xs)

-- from nothing, the distinct ones in order
pub noted_distinct : (xs : List ℕ) → noted [] xs ≡ distinct xs
noted_distinct xs = noted_is [] xs ∙ filter_all (distinct xs)

pub fits_read : (row : ℕ) → length (rows_in (of.Read row)) ≡ 1
fits_read row = ap length (rows_in-Read row)

pub fits_binary : (op : Op) (a b : Expr) → length (rows_in (of.Binary op a b)) ≡ length (rows_in a) + length (rows_in b)
fits_binary op a b = ap length (rows_in-Binary op a b) ∙ length-append (rows_in a) (rows_in b)

pub fits_if : (c a b : Expr) → length (rows_in (of.If c a b)) ≡ length (rows_in c) + length (rows_in a) + length (rows_in b)
fits_if c a b = ap length (rows_in-If c a b) ∙ length-append (rows_in c ++ rows_in a) (rows_in b) ∙ ap (λ (n : ℕ). n + length (rows_in b)) (length-append (rows_in c) (rows_in a))

-- a row more, shown as it is
pub fresh_more : (rows : List Opened) (reads : List Read) (x : Read) (y : Opened) → IsFresh rows reads → slice_get rows x.row ≡ Some y → is_clean y.colour ≡ true → IsPacked y.code → x.version ≡ y.version → x.code ≡ y.code → IsFresh rows (reads ++ x ∷ [])
fresh_more rows reads x y fresh here clean packs version code = record { each = (λ k z at. by k z (snoc_at reads x k z at)) }
  where
    by : (k : ℕ) (z : Read) → (slice_get reads k ≡ Some z) ⊎ ((k ≡ length reads) × (z ≡ x)) → IsPresent rows z × IsPacked z.code × ((w : Opened) → slice_get rows z.row ≡ Some w → z.code ≡ w.code)
    by k z (inl e) = fresh.each k z e
    by k z (inr e) = subst (λ (q : Read). IsPresent rows q × IsPacked q.code × ((w : Opened) → slice_get rows q.row ≡ Some w → q.code ≡ w.code)) (sym e.1) (
      record { version = (λ w h. version ∙ ap (λ (q : Opened). q.version) (one_at y w here h)); clean = (λ w h. ap (λ (q : Opened). is_clean q.colour) (sym (one_at y w here h)) ∙ clean) },
      subst (λ (c : ℕ). IsPacked c) (sym code) packs,
      (λ w h. code ∙ ap (λ (q : Opened). q.code) (one_at y w here h)),
    )

pub rows_read-snoc : (reads : List Read) (x : Read) → rows_read (reads ++ x ∷ []) ≡ rows_read reads ++ x.row ∷ []
rows_read-snoc reads x = map-append (λ (q : Read). q.row) reads (x ∷ [])

pub room_left : (e l : Expr) (op : Op) (a b : Expr) (n : ℕ) → e ≡ of.Binary op a b → l ≡ a → length (rows_in e) ≤ n → length (rows_in l) ≤ n
room_left e l op a b n is at h = let f = ap (λ (q : Expr). length (rows_in q)) is ∙ fits_binary op a b in let g = ap (λ (q : Expr). length (rows_in q)) at in omega arith

pub room_right : (e l : Expr) (op : Op) (a b : Expr) (n m : ℕ) → e ≡ of.Binary op a b → l ≡ b → length (rows_in e) ≤ n → n ≤ m + length (rows_in a) → length (rows_in l) ≤ m
room_right e l op a b n m is at h k = let f = ap (λ (q : Expr). length (rows_in q)) is ∙ fits_binary op a b in let g = ap (λ (q : Expr). length (rows_in q)) at in omega arith

pub room_test : (e l c a b : Expr) (n : ℕ) → e ≡ of.If c a b → l ≡ c → length (rows_in e) ≤ n → length (rows_in l) ≤ n
room_test e l c a b n is at h = let f = ap (λ (q : Expr). length (rows_in q)) is ∙ fits_if c a b in let g = ap (λ (q : Expr). length (rows_in q)) at in omega arith

pub room_first : (e l c a b : Expr) (n m : ℕ) → e ≡ of.If c a b → l ≡ a → length (rows_in e) ≤ n → n ≤ m + length (rows_in c) → length (rows_in l) ≤ m
room_first e l c a b n m is at h k = let f = ap (λ (q : Expr). length (rows_in q)) is ∙ fits_if c a b in let g = ap (λ (q : Expr). length (rows_in q)) at in omega arith

pub room_second : (e l c a b : Expr) (n m : ℕ) → e ≡ of.If c a b → l ≡ b → length (rows_in e) ≤ n → n ≤ m + length (rows_in c) → length (rows_in l) ≤ m
room_second e l c a b n m is at h k = let f = ap (λ (q : Expr). length (rows_in q)) is ∙ fits_if c a b in let g = ap (λ (q : Expr). length (rows_in q)) at in omega arith
