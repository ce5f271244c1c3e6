-- The first of a list that a test passes, and its place.
use Rattle.std.proofs.Common.{◌≡◌, ℕ, zero, suc, nat_lt, ◌==◌, ◌&&◌, Bool, true, false, Option, Some, None, is_some, if◌then◌else◌, cond, List, [], ◌∷◌, ◌++◌, length, map, find, option_map, slice_get, position, refl, sym, ap, ◌∙◌, arith}
use Rattle.std.specs.Option.{option_and_then}
use Rattle.std.specs.List.{position_or_len}
use Rattle.std.proofs.lemmas.List.Folds.{find_at}
use Rattle.std.proofs.lemmas.Bool.Decides.{nat_tests}
use Rattle.std.proofs.lemmas.List.{length-map}
use Rattle.component_scope.proofs.Places.{position-push}
use Rattle.script_meaning.specs.Names.{Declaration, find_name}
use Rattle.script_names.specs.declared.names.Declared.{Declared}
use Rattle.script_names.specs.Named.{named_as, declaration_of}

slice_get-out : {X : Type 0} (xs : List X) (i : ℕ) → nat_lt i (length xs) ≡ false → slice_get xs i ≡ None
slice_get-out [] i h = refl
slice_get-out (x ∷ xs) zero h = grind arith
slice_get-out (x ∷ xs) (suc i) h = slice_get-out xs i (grind arith)

pub find_by_place : {X : Type 0} (p : X → Bool) (xs : List X) → find p xs ≡ option_and_then (slice_get xs) (position p xs)
find_by_place {X} p xs = find_at p xs ∙ at (nat_lt (position_or_len p xs) (length xs)) refl
  where
    at : (b : Bool) → nat_lt (position_or_len p xs) (length xs) ≡ b → slice_get xs (position_or_len p xs) ≡ option_and_then (slice_get xs) (cond b (Some (position_or_len p xs)) None)
    at true is = refl
    at false is = slice_get-out xs (position_or_len p xs) is

pub slice_get-map : {X Y : Type 0} (f : X → Y) (xs : List X) (i : ℕ) → slice_get (map f xs) i ≡ option_map f (slice_get xs i)
slice_get-map f [] i = refl
slice_get-map f (x ∷ xs) zero = refl
slice_get-map f (x ∷ xs) (suc i) = slice_get-map f xs i

-- ---- names

abbrev is_of : ℕ → ℕ → Declaration → Bool
is_of owner name d = d.owner == owner && d.name == name

pub none_named : (owner name : ℕ) (ds : List Declared) (names : List Declaration) → map declaration_of ds ≡ names → position (is_of owner name) (map declaration_of ds) ≡ None → find_name owner name names ≡ None
none_named owner name ds names view none =
    ap (λ ns. find_name owner name ns) (sym view)
    ∙ ap (option_map (λ (d : Declaration). d.what)) (find_by_place (is_of owner name) (map declaration_of ds) ∙ ap (option_and_then (slice_get (map declaration_of ds))) none)

pub one_named : (owner name place : ℕ) (ds : List Declared) (names : List Declaration) → map declaration_of ds ≡ names → position (is_of owner name) (map declaration_of ds) ≡ Some place
    → find_name owner name names ≡ option_map (λ (d : Declaration). d.what) (option_map declaration_of (slice_get ds place))
one_named owner name place ds names view some =
    ap (λ ns. find_name owner name ns) (sym view)
    ∙ ap (option_map (λ (d : Declaration). d.what)) (find_by_place (is_of owner name) (map declaration_of ds) ∙ ap (option_and_then (slice_get (map declaration_of ds))) some ∙ slice_get-map declaration_of ds place)

map-push : {X Y : Type 0} (f : X → Y) (xs : List X) (x : X) → map f (xs ++ x ∷ []) ≡ map f xs ++ f x ∷ []
map-push f [] x = refl
map-push f (y ∷ xs) x = ap (λ ys. f y ∷ ys) (map-push f xs x)

-- the place of a name, where one more declaration comes behind the others
pub place-push : (owner name : ℕ) (ds : List Declared) (d : Declared)
    → position (is_of owner name) (map declaration_of (ds ++ d ∷ [])) ≡ (if is_some (position (is_of owner name) (map declaration_of ds)) then position (is_of owner name) (map declaration_of ds) else (if d.owner == owner && d.name == name then Some (length ds) else None))
place-push owner name ds d =
    ap (position (is_of owner name)) (map-push declaration_of ds d)
    ∙ position-push (is_of owner name) (map declaration_of ds) (declaration_of d)
    ∙ ap (λ n. if is_some (position (is_of owner name) (map declaration_of ds)) then position (is_of owner name) (map declaration_of ds) else (if d.owner == owner && d.name == name then Some n else None)) (length-map ds declaration_of)

-- ---- the map of places

pub placed_once : (same : Bool) (old : Option ℕ) (place : ℕ) → (same ≡ true → old ≡ None) → cond same (Some place) old ≡ (if is_some old then old else (if same then Some place else None))
placed_once true old place none = let e = none refl in rw e refl
placed_once false None place none = refl
placed_once false (Some p) place none = refl

pub same_numbers : (a b x y : ℕ) → (a == x && b == y) ≡ true → (a ≡ x) × (b ≡ y)
same_numbers a b x y h = at (a == x) (b == y) refl refl h
  where
    at : (p q : Bool) → (a == x) ≡ p → (b == y) ≡ q → (p && q) ≡ true → (a ≡ x) × (b ≡ y)
    at true true is also both = (grind (arith, nat_tests), grind (arith, nat_tests))
    at true false is also both = cc
    at false q is also both = cc

-- ---- what is found

shown : (o : Option Declared) → option_map named_as (option_map (λ (d : Declared). d.what) o) ≡ option_map (λ (d : Declaration). d.what) (option_map declaration_of o)
shown None = refl
shown (Some d) = refl

pub shown_at : (ds : List Declared) (place : ℕ) → option_map named_as (option_map (λ (d : Declared). d.what) (slice_get ds place)) ≡ option_map (λ (d : Declaration). d.what) (option_map declaration_of (slice_get ds place))
shown_at ds place = shown (slice_get ds place)
