-- Where names stand among fields and declarations.
use Rattle.std.proofs.Common.{◌≡◌, ℕ, zero, suc, ◌+◌, ◌-◌, ◌<◌, ◌==◌, Bool, true, false, Option, Some, None, is_some, not, if◌then◌else◌, List, [], ◌∷◌, ◌++◌, length, reverse, drop, find, map, option_map, slice_get, position, refl, sym, ap, ◌∙◌, subst, arith}
use Rattle.std.specs.List.{position_or_len}
use Rattle.std.proofs.lemmas.Grind.{common_steps, reverse_onto}
use Rattle.std.proofs.lemmas.Bool.Decides.{nat_tests}
use Rattle.std.proofs.lemmas.List.{length-append, length-reverse, reverse-reverse}
use Rattle.std.proofs.lemmas.List.Folds.{position_or_len_push}
use Rattle.std.proofs.lemmas.List.Sums.{prefix_len-le-length}
use Rattle.component_meaning.specs.State.{Declared}
use Rattle.component_meaning.specs.Actions.{rest}
use Rattle.component_scope.specs.declared.scope.Seen.{Seen}
use Rattle.component_scope.specs.Scope.{place_of, oldest}
use Rattle.component_scope.specs.Seen.{seen_in}

-- ---- fields

-- a name that has no place yet has the last one, once it is added
pub position-push : {X : Type 0} (p : X → Bool) (xs : List X) (x : X) → position p (xs ++ x ∷ []) ≡ (if is_some (position p xs) then position p xs else (if p x then Some (length xs) else None))
position-push p xs x = grind (arith, common_steps, nat_tests, position_or_len_push p xs x, prefix_len-le-length (λ y. not (p y)) xs, length-append xs (x ∷ []))

-- ---- declarations

slice_get-front : {X : Type 0} (xs ys : List X) (i : ℕ) → i < length xs → slice_get (xs ++ ys) i ≡ slice_get xs i
slice_get-front [] ys i h = absurd (omega arith)
slice_get-front (x ∷ xs) ys zero h = refl
slice_get-front (x ∷ xs) ys (suc i) h = slice_get-front xs ys i (omega arith)

slice_get-end : {X : Type 0} (xs : List X) (x : X) → slice_get (xs ++ x ∷ []) (length xs) ≡ Some x
slice_get-end [] x = refl
slice_get-end (y ∷ xs) x = slice_get-end xs x

pub length-seen_in : (stack : List Seen) → length (seen_in stack) ≡ length stack
length-seen_in [] = refl
length-seen_in (s ∷ stack) = ap suc (length-seen_in stack)

place_of-within : (name : ℕ) (stack : List Seen) (i : ℕ) → place_of name (seen_in stack) ≡ Some i → i < length stack
place_of-within name [] i h = cc
place_of-within name (s ∷ stack) i h = at (s.declaration.name == name) (place_of-within name stack i) h
  where
    at : (b : Bool) → (place_of name (seen_in stack) ≡ Some i → i < length stack) → (if b then Some (length (seen_in stack)) else place_of name (seen_in stack)) ≡ Some i → i < suc (length stack)
    at true further h = let e : length (seen_in stack) ≡ i = cc in omega (arith, length-seen_in stack)
    at false further h = omega (arith, further h)

-- what stands at the place of a name is its last declaration
declared_at : (name : ℕ) (stack : List Seen) (i : ℕ) → place_of name (seen_in stack) ≡ Some i → option_map (λ s. s.declaration) (slice_get (reverse stack) i) ≡ find (λ d. d.name == name) (seen_in stack)
declared_at name [] i h = cc
declared_at name (s ∷ stack) i h = rw (reverse_onto stack s []) (at (s.declaration.name == name) (declared_at name stack i) h)
  where
    at : (b : Bool) → (place_of name (seen_in stack) ≡ Some i → option_map (λ s. s.declaration) (slice_get (reverse stack) i) ≡ find (λ d. d.name == name) (seen_in stack)) → (if b then Some (length (seen_in stack)) else place_of name (seen_in stack)) ≡ Some i
        → option_map (λ s. s.declaration) (slice_get (reverse stack ++ s ∷ []) i) ≡ (if b then Some s.declaration else find (λ d. d.name == name) (seen_in stack))
    at true further h =
        let e : length (seen_in stack) ≡ i = cc in
        let here : length (reverse stack) ≡ i = length-reverse stack ∙ sym (length-seen_in stack) ∙ e in
        subst (λ k. option_map (λ s. s.declaration) (slice_get (reverse stack ++ s ∷ []) k) ≡ Some s.declaration) here (ap (option_map (λ s. s.declaration)) (slice_get-end (reverse stack) s))
    at false further h =
        let within = place_of-within name stack i h in
        ap (option_map (λ s. s.declaration)) (slice_get-front (reverse stack) (s ∷ []) i (omega (arith, length-reverse stack))) ∙ further h

pub found_at : (name : ℕ) (slice stack : List Seen) (i : ℕ) → reverse slice ≡ stack → place_of name (seen_in stack) ≡ Some i → option_map (λ s. s.declaration) (slice_get slice i) ≡ find (λ d. d.name == name) (seen_in stack)
found_at name slice stack i e h =
    let back : reverse stack ≡ slice = ap reverse (sym e) ∙ reverse-reverse slice in
    subst (λ xs. option_map (λ s. s.declaration) (slice_get xs i) ≡ find (λ d. d.name == name) (seen_in stack)) back (declared_at name stack i h)

pub none_found : (name : ℕ) (stack : List Seen) → place_of name (seen_in stack) ≡ None → find (λ d. d.name == name) (seen_in stack) ≡ None
none_found name [] h = refl
none_found name (s ∷ stack) h = at (s.declaration.name == name) (none_found name stack) h
  where
    at : (b : Bool) → (place_of name (seen_in stack) ≡ None → find (λ d. d.name == name) (seen_in stack) ≡ None) → (if b then Some (length (seen_in stack)) else place_of name (seen_in stack)) ≡ None → (if b then Some s.declaration else find (λ d. d.name == name) (seen_in stack)) ≡ None
    at true further h = cc
    at false further h = further h

pub is_found : (name : ℕ) (slice stack : List Seen) (i : ℕ) → reverse slice ≡ stack → place_of name (seen_in stack) ≡ Some i → i < length slice
is_found name slice stack i e h = let within = place_of-within name stack i h in omega (arith, length-reverse slice, ap length e)

-- ---- what is seen

-- the oldest stay where a later one goes
pub oldest-rest : (n : ℕ) (seen : List Declared) → n < length seen → oldest n (rest seen) ≡ oldest n seen
oldest-rest n [] h = refl
oldest-rest n (d ∷ seen) h = let e : length (d ∷ seen) - n ≡ suc (length seen - n) = omega arith in rw e refl
