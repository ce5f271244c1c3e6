-- Tokens with the next one.
use Rattle.std.specs.Prelude.{List, [], ◌∷◌, get_or}

pub record WithNext (A : Type 0) : Type 0 where
  pub token : A
  pub next : A

-- each with the one behind it, the last one with itself
abbrev pub with_next : {A : Type 0} → List A → List (WithNext A)
with_next [] = []
with_next (x ∷ xs) = record { token = x; next = get_or xs 0 x } ∷ with_next xs
