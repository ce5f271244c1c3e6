-- Rows by number, and their values.
use Rattle.std.proofs.Common.{◌≡◌, ℕ, zero, suc, List, [], ◌∷◌, length, Some, slice_get, refl, sym, ap, arith}
use Rattle.std.specs.Prelude.{unwrap_or}
use Rattle.std.specs.Option.{option_map}
use Rattle.values.specs.declared.code.Code.TheVariants.{Empty}
use Rattle.values.specs.Packing.{unpacked}
use Rattle.values.proofs.PackingLemmas.{unpacked-packed}
use Rattle.sources.specs.declared.opening.Opened as rows
use Rattle.sources.specs.Rows.{code_in, value_in}

-- where two lists are as long, what is in one has a fellow in the other
pub fellow : {A B : Type 0} (xs : List A) (ys : List B) → length xs ≡ length ys → (n : ℕ) (y : B) → slice_get ys n ≡ Some y → (x : A) × (slice_get xs n ≡ Some x)
fellow [] [] long n y is = cc
fellow [] (z ∷ ys) long n y is = absurd (omega arith)
fellow (x ∷ xs) [] long n y is = absurd (omega arith)
fellow (x ∷ xs) (z ∷ ys) long zero y is = (x, refl)
fellow (x ∷ xs) (z ∷ ys) long (suc n) y is = fellow xs ys (omega arith) n y is

code_at : (rs : List rows.Opened) (i : ℕ) (row : rows.Opened) → slice_get rs i ≡ Some row → code_in rs i ≡ row.code
unfolding code_in
code_at [] i row is = cc
code_at (x ∷ rs) zero row is = let e : x ≡ row = cc in ap (λ (r : rows.Opened). r.code) e
code_at (x ∷ rs) (suc i) row is = code_at rs i row is

pub row_value : (rs : List rows.Opened) (i : ℕ) (row : rows.Opened) → slice_get rs i ≡ Some row → value_in rs i ≡ unpacked row.code
row_value rs i row is = ap unpacked (code_at rs i row is)

-- what is got of a row, or nothing past the end
pub value_got : (rs : List rows.Opened) (i : ℕ) → unwrap_or (option_map (λ (row : rows.Opened). unpacked row.code) (slice_get rs i)) Empty ≡ value_in rs i
unfolding code_in
value_got [] i = sym (unpacked-packed Empty tt)
value_got (x ∷ rs) zero = refl
value_got (x ∷ rs) (suc i) = value_got rs i
