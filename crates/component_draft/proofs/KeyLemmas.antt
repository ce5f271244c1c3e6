-- Keys that are told apart.
use Rattle.std.proofs.Common.{◌≡◌, Bool, true, false, cond, ◌||◌, List, [], ◌∷◌, ◌++◌, refl, arith}
use Rattle.std.specs.List.{list_any}
use Rattle.std.proofs.lemmas.Bool.Decides.{nat_tests, Decides-int_eq}
use Rattle.std.proofs.lemmas.List.Folds.{list_any-append}
use Rattle.values.specs.declared.code.Code.{Code}
use Rattle.values.specs.declared.code.Code.TheVariants.{Empty, Number, Word}
use Rattle.values.specs.Evaluation.{is_same}

pub is_same-swap : (a b : Code) → is_same a b ≡ is_same b a
is_same-swap Empty Empty = refl
is_same-swap Empty (Number n) = refl
is_same-swap Empty (Word n) = refl
is_same-swap (Number m) Empty = refl
is_same-swap (Number m) (Number n) = grind (arith, Decides-int_eq m n, Decides-int_eq n m)
is_same-swap (Number m) (Word n) = refl
is_same-swap (Word m) Empty = refl
is_same-swap (Word m) (Number n) = refl
is_same-swap (Word m) (Word n) = grind (arith, nat_tests)

-- a key is among those before or is the last one
pub among_more : (key last : Code) (keys : List Code) (before : Bool) → before ≡ list_any (is_same key) keys → cond (is_same last key) true before ≡ list_any (is_same key) (keys ++ last ∷ [])
among_more key last keys before e = rw (list_any-append, is_same-swap last key, e) (by_last (is_same key last) (list_any (is_same key) keys))
  where
    by_last : (a b : Bool) → cond a true b ≡ (b || (a || false))
    by_last true true = refl
    by_last true false = refl
    by_last false true = refl
    by_last false false = refl
