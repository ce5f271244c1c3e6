-- What follows where bytes are written one after another.
use Rattle.std.proofs.Common.{◌≡◌, ℕ, List, [], ◌++◌, Option, Some, None, Result, Ok, Err, IsErr, sym, subst, ap, arith}
use Rattle.std.proofs.lemmas.List.{append-nil}
use Rattle.std.proofs.KnownBytes.{Appends-trans}
use Rattle.outside.specs.declared.traits.Failed.{Failed}
use Rattle.outside.specs.Puts.{Puts, PutsAll, PutsPart}
use Rattle.outside.proofs.ByteLemmas.{AppendsPart-after}

module _ {a b : Option (List ℕ)} {f g : ℕ} where
  -- both were written whole
  pub then_all : {c : Option (List ℕ)} {h : ℕ} (x y : List ℕ) → PutsAll a b f g x → PutsAll b c g h y → PutsAll a c f h (x ++ y)
  then_all {c = c} x y p q = record { appended = Appends-trans a b c x y p.appended q.appended; counted = omega (arith, p.counted, q.counted) }

  -- one was written whole and a part of the next: so was a part of what begins with the two
  pub then_part : {c : Option (List ℕ)} {h : ℕ} (x y rest : List ℕ) → PutsAll a b f g x → PutsPart b c g h y → PutsPart a c f h (x ++ (y ++ rest))
  then_part {c = c} x y rest p q = record { part = AppendsPart-after a b c x y rest p.appended q.part; failed = omega (arith, p.counted, q.failed); counted = omega (arith, p.counted, q.counted) }

-- nothing was written
pub none_put : (a : Option (List ℕ)) (f : ℕ) → PutsAll a a f f []
none_put None f = record { appended = tt; counted = omega arith }
none_put (Some xs) f = record { appended = sym (append-nil xs); counted = omega arith }

-- one was written whole, and then what a call says of the next
pub then_puts : {a b : Option (List ℕ)} {f g : ℕ} (c : Option (List ℕ)) (h : ℕ) (x y : List ℕ) (r : Result (Unit {0}) Failed) → PutsAll a b f g x → Puts b c g h y r → Puts a c f h (x ++ y) r
then_puts c h x y (Ok done) p q = then_all x y p q
then_puts {a = a} {f = f} c h x y (Err failed) p q = subst (PutsPart a c f h) (ap (λ l. x ++ l) (append-nil y)) (then_part x y [] p q)

-- what an early exit answers
pub at_err : (a b : Option (List ℕ)) (f g : ℕ) (x : List ℕ) (r : Result (Unit {0}) Failed) → IsErr r → PutsPart a b f g x → Puts a b f g x r
at_err a b f g x (Ok done) h p = cc
at_err a b f g x (Err failed) h p = p

pub same_all : {a b : Option (List ℕ)} {f g : ℕ} (x y : List ℕ) → x ≡ y → PutsAll a b f g x → PutsAll a b f g y
same_all {a = a} {b = b} {f = f} {g = g} x y e p = subst (PutsAll a b f g) e p

pub same_part : {a b : Option (List ℕ)} {f g : ℕ} (x y : List ℕ) → x ≡ y → PutsPart a b f g x → PutsPart a b f g y
same_part {a = a} {b = b} {f = f} {g = g} x y e p = subst (PutsPart a b f g) e p

pub same_puts : (a b : Option (List ℕ)) (f g : ℕ) (x y : List ℕ) (r : Result (Unit {0}) Failed) → x ≡ y → Puts a b f g x r → Puts a b f g y r
same_puts a b f g x y r e p = subst (λ bytes. Puts a b f g bytes r) e p
