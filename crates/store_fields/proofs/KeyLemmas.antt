-- The derived `==` of values is the test of the definitions, which decides equality.
use Rattle.std.proofs.Common.{◌≡◌, Bool, true, false, refl, sym, ap, ◌∙◌, arith}
use Rattle.std.proofs.lemmas.Bool.{eqb-true, eq-eqb, false≢true}
use Rattle.std.proofs.lemmas.Bool.Decides.{Decides-int_eq}
use Rattle.values.specs.declared.code.Code.{Code}
use Rattle.values.specs.declared.code.Code.TheVariants.{Empty, Number, Word}
use Rattle.values.specs.contracts.code.CodePartialEq.TheImpl.{ghosts}
use Rattle.values.specs.Evaluation.{is_same}

pub eq_is_same : (a b : Code) → ghosts.eq a b ≡ is_same a b
eq_is_same Empty Empty = refl
eq_is_same (Number a) (Number b) = grind arith
eq_is_same (Word a) (Word b) = grind arith
eq_is_same Empty (Number b) = refl
eq_is_same Empty (Word b) = refl
eq_is_same (Number a) Empty = refl
eq_is_same (Number a) (Word b) = refl
eq_is_same (Word a) Empty = refl
eq_is_same (Word a) (Number b) = refl

pub same_true : (a b : Code) → is_same a b ≡ true → a ≡ b
same_true Empty Empty h = refl
same_true (Number a) (Number b) h = ap Number ((Decides-int_eq a b).0 h)
same_true (Word a) (Word b) h = ap Word (eqb-true a b h)
same_true Empty (Number b) h = absurd (false≢true h)
same_true Empty (Word b) h = absurd (false≢true h)
same_true (Number a) Empty h = absurd (false≢true h)
same_true (Number a) (Word b) h = absurd (false≢true h)
same_true (Word a) Empty h = absurd (false≢true h)
same_true (Word a) (Number b) h = absurd (false≢true h)

pub same_itself : (a : Code) → is_same a a ≡ true
same_itself Empty = refl
same_itself (Number a) = (Decides-int_eq a a).1 refl
same_itself (Word a) = eq-eqb a a refl

-- a value that is another's no twin is also not the twin of it
pub apart_flips : (a b : Code) → is_same a b ≡ false → is_same b a ≡ false
apart_flips a b apart = by (is_same b a) refl
  where
    by : (t : Bool) → is_same b a ≡ t → is_same b a ≡ false
    by false e = e
    by true e = absurd (false≢true (sym apart ∙ ap (λ c. is_same a c) (same_true b a e) ∙ same_itself a))

pub same_flips : (a b : Code) → is_same a b ≡ is_same b a
same_flips a b = by (is_same a b) refl
  where
    by : (t : Bool) → is_same a b ≡ t → is_same a b ≡ is_same b a
    by false e = e ∙ sym (apart_flips a b e)
    by true e = e ∙ sym (ap (λ c. is_same b c) (same_true a b e) ∙ same_itself b)
