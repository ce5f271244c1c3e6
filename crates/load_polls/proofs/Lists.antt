-- Places of lists, and values of rows.
use Rattle.std.proofs.Common.{◌≡◌, ◌≢◌, ℕ, zero, suc, ◌+◌, ◌<◌, replicate, unwrap_or, List, [], ◌∷◌, ◌++◌, map, length, set, take, slice_get, Option, Some, None, refl, sym, ap, ◌∙◌, arith}
use Rattle.std.proofs.Math.Seq.{take-suc}
use Rattle.std.proofs.lemmas.Option.{slice_get_within, get_or_from_slice_get}
use Rattle.std.specs.Option.{option_map}
use Rattle.values.specs.declared.code.Code.TheVariants.{Empty}
use Rattle.values.specs.Packing.{unpacked}
use Rattle.sources.specs.declared.opening.Opened.{Opened}
use Rattle.sources.specs.Rows.{code_in, value_in}

pub set_here : {A : Type 0} (xs : List A) (place : ℕ) (y : A) → place < length xs → slice_get (set xs place y) place ≡ Some y
set_here [] place y within = absurd (omega arith)
set_here (x ∷ xs) zero y within = refl
set_here (x ∷ xs) (suc place) y within = set_here xs place y (omega arith)

pub set_other : {A : Type 0} (xs : List A) (place other : ℕ) (y : A) → other ≢ place → slice_get (set xs place y) other ≡ slice_get xs other
set_other [] place other y apart = refl
set_other (x ∷ xs) zero zero y apart = absurd (apart refl)
set_other (x ∷ xs) zero (suc other) y apart = refl
set_other (x ∷ xs) (suc place) zero y apart = refl
set_other (x ∷ xs) (suc place) (suc other) y apart = set_other xs place other y (λ e. apart (ap suc e))

pub take_one_more : {A : Type 0} (xs : List A) (place : ℕ) (x : A) → slice_get xs place ≡ Some x → take (place + 1) xs ≡ take place xs ++ x ∷ []
take_one_more xs place x is =
    ap (λ (n : ℕ). take n xs) {x = place + 1} {y = suc place} (omega arith)
    ∙ take-suc xs place x (slice_get_within xs place x is)
    ∙ ap (λ (y : _). take place xs ++ y ∷ []) (get_or_from_slice_get xs place x x is)

pub fellow : {A B : Type 0} (xs : List A) (ys : List B) → length xs ≡ length ys → (n : ℕ) (y : B) → slice_get ys n ≡ Some y → (x : A) × (slice_get xs n ≡ Some x)
fellow [] [] long n y is = cc
fellow [] (z ∷ ys) long n y is = absurd (omega arith)
fellow (x ∷ xs) [] long n y is = absurd (omega arith)
fellow (x ∷ xs) (z ∷ ys) long zero y is = (x, refl)
fellow (x ∷ xs) (z ∷ ys) long (suc n) y is = fellow xs ys (omega arith) n y is

-- ---- values of rows

abbrev code_or : Option Opened → ℕ
code_or None = 0
code_or (Some row) = row.code

code_is : (rows : List Opened) (n : ℕ) → code_in rows n ≡ code_or (slice_get rows n)
unfolding code_in
code_is [] n = refl
code_is (row ∷ rows) zero = refl
code_is (row ∷ rows) (suc n) = code_is rows n

pub row_value : (rows : List Opened) (n : ℕ) (row : Opened) → slice_get rows n ≡ Some row → value_in rows n ≡ unpacked row.code
row_value rows n row at = ap unpacked (code_is rows n ∙ ap code_or at)

-- the same row has the same value
pub same_value : (old new : List Opened) (n : ℕ) → slice_get new n ≡ slice_get old n → value_in new n ≡ value_in old n
same_value old new n same = ap unpacked (code_is new n ∙ ap code_or same ∙ sym (code_is old n))

-- and so has one that differs in its colour alone
pub coloured_value : (old new : List Opened) (n : ℕ) → length new ≡ length old → ((one two : Opened) → slice_get old n ≡ Some one → slice_get new n ≡ Some two → two ≡ record one { colour = two.colour }) → value_in new n ≡ value_in old n
coloured_value old new n long coloured = by (slice_get old n) refl (slice_get new n) refl
  where
    by : (o : Option Opened) → slice_get old n ≡ o → (p : Option Opened) → slice_get new n ≡ p → value_in new n ≡ value_in old n
    by None none None gone = same_value old new n (gone ∙ sym none)
    by None none (Some two) at = let one = fellow old new (sym long) n two at in let both : None ≡ Some one.0 = sym none ∙ one.1 in cc
    by (Some one) at None gone = let two = fellow new old long n one at in let both : None ≡ Some two.0 = sym gone ∙ two.1 in cc
    by (Some one) at (Some two) here = row_value new n two here ∙ ap (λ (r : Opened). unpacked r.code) (coloured one two at here) ∙ sym (row_value old n one at)

nothing_there : Empty ≡ unpacked 0
unfolding unpacked
nothing_there = refl

pub found_value : (rows : List Opened) (n : ℕ) → unwrap_or (option_map (λ (row : Opened). unpacked row.code) (slice_get rows n)) Empty ≡ value_in rows n
found_value rows n = by (slice_get rows n) refl
  where
    by : (o : Option Opened) → slice_get rows n ≡ o → unwrap_or (option_map (λ (row : Opened). unpacked row.code) o) Empty ≡ value_in rows n
    by None none = nothing_there ∙ ap unpacked (sym (code_is rows n ∙ ap code_or none))
    by (Some row) at = sym (row_value rows n row at)

pub all_first : {A : Type 0} {B : Type 0} (first : B) (xs : List A) → replicate (length xs) first ≡ map (λ x. first) xs
all_first first [] = refl
all_first first (x ∷ xs) = ap (λ more. first ∷ more) (all_first first xs)
