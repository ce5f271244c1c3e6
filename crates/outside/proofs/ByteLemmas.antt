-- What follows from what reads and writes do to told bytes.
use Rattle.std.proofs.Common.{◌≡◌, ℕ, ◌+◌, List, Option, Result, Ok, Err, OnErr, IfSome, None, Some, ◌++◌, [], ◌∙◌, ap, take, drop, length, sym, subst, ◌≤◌, arith, length-append}
use Rattle.std.proofs.lemmas.List.{take-append-le, length-take-le, take-take, drop-drop, take-append-drop}
use Rattle.std.proofs.Math.Seq.{take-add, take-append-add}
use Rattle.std.proofs.KnownBytes.{Appends-trans, Consumes-trans, Consumes-nil, Consumes-kept}
use Rattle.outside.specs.Bytes.{AppendsPart, LosesFront, IsZeroAtEnd}
use Rattle.std.specs.Io.KnownBytes.{Appends, Consumes, Keeps}

-- a front was appended, and then a front of the rest
pub Appends-more : (a b c : Option (List ℕ)) (bytes : List ℕ) (n m : ℕ) → Appends a b (take n bytes) → Appends b c (take m (drop n bytes)) → Appends a c (take (n + m) bytes)
Appends-more a b c bytes n m p q = subst (Appends a c) (sym (take-add n m bytes)) (Appends-trans a b c _ _ p q)

-- bytes that stay lost an empty front
pub LosesFront-kept : (a b : Option (List ℕ)) → Keeps a b → LosesFront a b
LosesFront-kept a b p = ([], Consumes-kept a a b [] (Consumes-nil a) p)

-- a front was consumed, and then another was lost
pub LosesFront-more : (a b c : Option (List ℕ)) (front : List ℕ) → Consumes a b front → LosesFront b c → LosesFront a c
LosesFront-more a b c front p q = (front ++ q.0, Consumes-trans a b c front q.0 p q.1)

-- what was consumed, and then a front of a buffer, is what the bytes have become
pub Consumes-more : (a b c : Option (List ℕ)) (old new front : List ℕ) → Consumes a b old → Consumes b c front → new ≡ old ++ front → Consumes a c new
Consumes-more a b c old new front p q e = subst (Consumes a c) (sym e) (Consumes-trans a b c old front p q)

-- where a read gave none, all was consumed before
pub whole_at_end : (a b : Option (List ℕ)) (old new front : List ℕ) (n : ℕ) → Consumes a b old → IsZeroAtEnd b n → n ≡ 0 → new ≡ old ++ front → front ≡ [] → IfSome a (λ held. new ≡ held)
whole_at_end None b old new front n p z e f t = tt
whole_at_end (Some x) None old new front n p z e f t = absurd p
whole_at_end (Some x) (Some y) old new front n p z e f t = f ∙ ap (λ l. old ++ l) (t ∙ sym (z.0 e)) ∙ sym p

-- what holds holds at a refusal
pub OnErr-always : {T E P : Type 0} (r : Result T E) → P → OnErr r P
OnErr-always (Ok x) p = tt
OnErr-always (Err e) p = p

-- the front of a buffer that a front was copied to
pub take-copied : (xs ys : List ℕ) (n : ℕ) → n ≤ length xs → take n (take n xs ++ ys) ≡ take n xs
take-copied xs ys n h =
    take-append-le n (take n xs) ys (omega (arith, length-take-le n xs h)) ∙ take-take n n xs (omega arith)

-- bytes from a position on, by the front that was copied to a buffer and the bytes behind it
pub held_is_copied : (bytes buffer copied : List ℕ) (position n : ℕ) → n ≤ length (drop position bytes) → copied ≡ take n (drop position bytes) → drop position bytes ≡ take n (copied ++ buffer) ++ drop (position + n) bytes
held_is_copied bytes buffer copied position n h e =
    let held = drop position bytes in
    sym (take-append-drop n held)
    ∙ ap (λ front. front ++ drop n held) (sym (ap (λ front. take n (front ++ buffer)) e ∙ take-copied held buffer n h))
    ∙ ap (λ rest. take n (copied ++ buffer) ++ rest) (drop-drop n position bytes)

-- a text was appended whole, and then a part of the next: so was a part of any text that begins with the two
pub AppendsPart-after : (a b c : Option (List ℕ)) (text next rest : List ℕ) → Appends a b text → AppendsPart b c next → AppendsPart a c (text ++ (next ++ rest))
AppendsPart-after a b c text next rest p q =
    let whole = text ++ (next ++ rest) in
    let front : take (length text + q.0) whole ≡ text ++ take q.0 next =
    take-append-add text (next ++ rest) q.0 ∙ ap (λ l. text ++ l) (take-append-le q.0 next rest (omega (arith, q.1))) in (
      length text + q.0,
      omega (arith, q.1, length-append text (next ++ rest), length-append next rest),
      subst (Appends a c) (sym front) (Appends-trans a b c text (take q.0 next) p q.2),
    )
