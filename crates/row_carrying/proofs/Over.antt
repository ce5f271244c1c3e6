-- Rows put in place one after another, from the last.
use Rattle.std.proofs.Common.{◌≡◌, ℕ, zero, suc, ◌<◌, ◌≤◌, List, [], ◌∷◌, ◌++◌, map, length, slice_get, set, take, drop, Option, Some, refl, sym, ap, subst, ◌∙◌, arith, get_or, Bool, true, false, ◌==◌}
use Rattle.std.proofs.lemmas.List.{length-set}
use Rattle.std.proofs.lemmas.Bool.{eqb-true}
use Rattle.sources.specs.declared.body.Read.{Read}
use Rattle.sources.specs.declared.opening.Opened.{Opened}
use Rattle.carried_rows.specs.Moved.{HasMoved}
use Rattle.row_carrying.specs.Target.{number_by, AreTargets}

-- the rows from the first on have gone over
pub record IsOver (to : List (Option ℕ)) (old before : List Opened) (first : ℕ) (rows : List Opened) : Type 0 where
  pub long : length rows ≡ length before
  pub kept : (row later : ℕ) (one two : Opened) → first ≤ row → slice_get to row ≡ Some (Some later) → slice_get old row ≡ Some one → slice_get rows later ≡ Some two → HasMoved (number_by to) one two
  pub fresh : (later : ℕ) → ((row : ℕ) → first ≤ row → slice_get to row ≡ Some (Some later) → ⊥) → slice_get rows later ≡ slice_get before later

-- ---- lists by place

pub one_at : {A : Type 0} {o : Option A} (x y : A) → o ≡ Some x → o ≡ Some y → x ≡ y
one_at x y h k = cc

set_here : (xs : List Opened) (i : ℕ) (y z : Opened) → slice_get (set xs i y) i ≡ Some z → z ≡ y
set_here [] i y z is = cc
set_here (x ∷ xs) zero y z is = cc
set_here (x ∷ xs) (suc i) y z is = set_here xs i y z is

set_other : (xs : List Opened) (i j : ℕ) (y : Opened) → (j ≡ i → ⊥) → slice_get (set xs i y) j ≡ slice_get xs j
set_other [] i j y ne = refl
set_other (x ∷ xs) zero zero y ne = absurd (ne refl)
set_other (x ∷ xs) zero (suc j) y ne = refl
set_other (x ∷ xs) (suc i) zero y ne = refl
set_other (x ∷ xs) (suc i) (suc j) y ne = set_other xs i j y (λ e. ne (ap suc e))

-- ---- renumbering in place

pub next_mapped : (f : Read → Read) (d : Read) (xs : List Read) (i : ℕ) → i < length xs → set (map f (take i xs) ++ drop i xs) i (f (get_or (map f (take i xs) ++ drop i xs) i d)) ≡ map f (take (suc i) xs) ++ drop (suc i) xs
next_mapped f d [] i lt = absurd (omega (arith, lt))
next_mapped f d (x ∷ xs) zero lt = refl
next_mapped f d (x ∷ xs) (suc i) lt = ap (λ ys. f x ∷ ys) (next_mapped f d xs i (omega (arith, lt)))

-- ---- one row more

pub take_more : {A : Type 0} (xs : List A) (i : ℕ) (x : A) → slice_get xs i ≡ Some x → take i xs ++ x ∷ [] ≡ take (suc i) xs
take_more [] i x is = cc
take_more (y ∷ xs) zero x is = let e : y ≡ x = cc in (λ j. sym e j ∷ [])
take_more (y ∷ xs) (suc i) x is = ap (λ ys. y ∷ ys) (take_more xs i x is)

pub last_of : (k : ℕ) (ys xs : List Opened) (row : Opened) → suc k ≤ length ys → take (suc k) ys ≡ xs ++ row ∷ [] → (xs ≡ take k ys) × (slice_get ys k ≡ Some row)
last_of k [] xs row le is = absurd (omega (arith, le))
last_of zero (y ∷ ys) [] row le is = let e : y ≡ row = cc in (refl, ap Some e)
last_of zero (y ∷ ys) (x ∷ []) row le is = absurd cc
last_of zero (y ∷ ys) (x ∷ z ∷ xs) row le is = absurd cc
last_of (suc k) (y ∷ ys) [] row le is = absurd (none ys le is)
  where
    none : (zs : List Opened) → suc (suc k) ≤ suc (length zs) → y ∷ take (suc k) zs ≡ row ∷ [] → ⊥
    none [] le is = omega (arith, le)
    none (z ∷ zs) le is = cc
last_of (suc k) (y ∷ ys) (x ∷ xs) row le is =
    let first : y ≡ x = cc in
    let rest : take (suc k) ys ≡ xs ++ row ∷ [] = cc in
    let both = last_of k ys xs row (omega (arith, le)) rest in
    ((λ i. sym first i ∷ both.0 i), both.1)

pub over_more : (to : List (Option ℕ)) (old before : List Opened) (k later : ℕ) (row moved : Opened) (rows : List Opened) → AreTargets to (length before) → slice_get to k ≡ Some (Some later) → slice_get old k ≡ Some row → HasMoved (number_by to) row moved → IsOver to old before (suc k) rows → IsOver to old before k (set rows later moved)
over_more to old before k later row moved rows targets goes is has over = record {
  long = length-set rows later moved ∙ over.long;
  kept = λ r t one two le at_to at_old at_rows. kept r t one two le at_to at_old at_rows (k == r) refl;
  fresh = λ t none. (let ne : t ≡ later → ⊥ = (λ e. none k (omega arith) (goes ∙ ap (λ n. Some (Some n)) (sym e))) in set_other rows later t moved ne ∙ over.fresh t (λ r le at. none r (omega (arith, le)) at));
}
  where
    kept : (r t : ℕ) (one two : Opened) → k ≤ r → slice_get to r ≡ Some (Some t) → slice_get old r ≡ Some one → slice_get (set rows later moved) t ≡ Some two → (b : Bool) → (k == r) ≡ b → HasMoved (number_by to) one two
    kept r t one two le at_to at_old at_rows true same =
        let e : k ≡ r = eqb-true k r same in
        let t_is : later ≡ t = (let q : Some (Some later) ≡ Some (Some t) = sym goes ∙ ap (slice_get to) e ∙ at_to in cc) in
        let one_is : row ≡ one = one_at row one is (ap (slice_get old) e ∙ at_old) in
        let two_is : two ≡ moved = set_here rows later moved two (ap (slice_get (set rows later moved)) t_is ∙ at_rows) in
        subst (λ (q : Opened). HasMoved (number_by to) q two) one_is (subst (λ (q : Opened). HasMoved (number_by to) row q) (sym two_is) has)
    kept r t one two le at_to at_old at_rows false other =
        let ne : t ≡ later → ⊥ = (λ e. let q : k ≡ r = targets.apart k r later goes (at_to ∙ ap (λ n. Some (Some n)) e) in grind (arith, q, other)) in
        over.kept r t one two (grind (arith, le, other)) at_to at_old (sym (set_other rows later t moved ne) ∙ at_rows)

pub over_none : (to : List (Option ℕ)) (old before : List Opened) (k : ℕ) (rows : List Opened) → ((later : ℕ) → slice_get to k ≡ Some (Some later) → ⊥) → IsOver to old before (suc k) rows → IsOver to old before k rows
over_none to old before k rows stays over = record {
  long = over.long;
  kept = λ r t one two le at_to at_old at_rows. kept r t one two le at_to at_old at_rows (k == r) refl;
  fresh = λ t none. over.fresh t (λ r le at. none r (omega (arith, le)) at);
}
  where
    kept : (r t : ℕ) (one two : Opened) → k ≤ r → slice_get to r ≡ Some (Some t) → slice_get old r ≡ Some one → slice_get rows t ≡ Some two → (b : Bool) → (k == r) ≡ b → HasMoved (number_by to) one two
    kept r t one two le at_to at_old at_rows true same = absurd (stays t (ap (slice_get to) (eqb-true k r same) ∙ at_to))
    kept r t one two le at_to at_old at_rows false other = over.kept r t one two (grind (arith, le, other)) at_to at_old at_rows
