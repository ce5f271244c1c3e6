-- What a value reads stands before it in the text.
use Rattle.std.proofs.Common.{◌≡◌, ℕ, suc, ◌<◌, ◌≤◌, inl, inr, ◌||◌, if◌then◌else◌, Bool, true, false, List, [], ◌∷◌, ◌++◌, map, length, Contains, Option, Some, None, refl, sym, subst, append_assoc, arith}
use Rattle.std.specs.Option.{option_map}
use Rattle.std.specs.List.{list_all}
use Rattle.std.proofs.lemmas.List.{append-nil}
use Rattle.component_items.specs.declared.component.Component.{Component}
use Rattle.component_items.specs.Kept.{IsKept}
use Rattle.plain_evaluation.specs.Place.{Place, same_place, position_of}
use Rattle.plain_evaluation.specs.Written.{State, Written, place_of, written_in}
use Rattle.plain_evaluation.specs.Keyed.{place, stands_for, is_keyed}
use Rattle.plain_evaluation.specs.Sound.{has_place, places_differ, comes_before, ids_read, names_come_before, IsSound, Among, stands_at}
use Rattle.plain_evaluation.specs.Fits.{RowsFit}
use Rattle.plain_evaluation.proofs.Places.{and_cases, or_none, place_itself, apart}
use Rattle.plain_evaluation.proofs.Solves.{each_of, has_named}
use Rattle.plain_evaluation.proofs.Makes.{makes_sense}

-- the position of a place that a first part has is in that part
pub position_within : (xs ys : List Written) (p : Place) (r : ℕ) → has_place xs p ≡ true → position_of (map place_of (xs ++ ys)) p ≡ Some r → r < length xs
position_within [] ys p r has is = cc
position_within (x ∷ xs) ys p r has is = at (same_place (place_of x) p) (position_of (map place_of (xs ++ ys)) p) refl has is (λ k. position_within xs ys p k)
  where
    at : (b : Bool) (o : Option ℕ) → position_of (map place_of (xs ++ ys)) p ≡ o → (b || has_place xs p) ≡ true → (if b then Some 0 else option_map suc o) ≡ Some r → ((k : ℕ) → has_place xs p ≡ true → position_of (map place_of (xs ++ ys)) p ≡ Some k → k < length xs) → r < suc (length xs)
    at true o found has is later = let e : r ≡ 0 = cc in omega arith
    at false None found has is later = cc
    at false (Some k) found has is later = let e : r ≡ suc k = cc in let lt = later k has found in omega arith

-- what a place of the text names comes before it
pub names_at : (keyed : ℕ → Bool) (before xs ys : List Written) (w : Written) → names_come_before keyed before (xs ++ w ∷ ys) ≡ true → list_all (λ id. comes_before (before ++ xs) (stands_for keyed w.scene id)) (ids_read w.says w.id) ≡ true
names_at keyed before [] ys w come = subst (λ zs. list_all (λ id. comes_before zs (stands_for keyed w.scene id)) (ids_read w.says w.id) ≡ true) (sym (append-nil before)) (and_cases _ (names_come_before keyed (before ++ w ∷ []) ys) come).0
names_at keyed before (x ∷ xs) ys w come = subst (λ zs. list_all (λ id. comes_before zs (stands_for keyed w.scene id)) (ids_read w.says w.id) ≡ true) (append_assoc before (x ∷ []) xs) (names_at keyed (before ++ x ∷ []) xs ys w (and_cases (list_all (λ id. comes_before before (stands_for keyed x.scene id)) (ids_read x.says x.id)) (names_come_before keyed (before ++ x ∷ []) (xs ++ w ∷ ys)) come).1)

-- a place that a first part lacks stands behind it
behind : (xs ys : List Written) (p : Place) (r : ℕ) → has_place xs p ≡ false → position_of (map place_of (xs ++ ys)) p ≡ Some r → length xs ≤ r
behind [] ys p r none is = omega arith
behind (x ∷ xs) ys p r none is =
    let both = or_none (same_place (place_of x) p) (has_place xs p) none in
    at (same_place (place_of x) p) both.0 (position_of (map place_of (xs ++ ys)) p) refl is (λ k. behind xs ys p k both.1)
  where
    at : (b : Bool) → b ≡ false → (o : Option ℕ) → position_of (map place_of (xs ++ ys)) p ≡ o → (if b then Some 0 else option_map suc o) ≡ Some r → ((k : ℕ) → position_of (map place_of (xs ++ ys)) p ≡ Some k → length xs ≤ k) → suc (length xs) ≤ r
    at true is o found e later = cc
    at false is None found e later = cc
    at false is (Some k) found e later = let s : r ≡ suc k = cc in let le = later k found in omega arith

parted : (ws : List Written) (w : Written) → Among ws w → (before : List Written) × (after : List Written) × (ws ≡ before ++ w ∷ after)
parted [] w among = absurd among
parted (x ∷ ws) w (inl here) = ([], ws, λ i. here i ∷ ws)
parted (x ∷ ws) w (inr later) = let one = parted ws w later in (x ∷ one.0, one.1, λ i. x ∷ one.2 i)

-- the place of a later element is none of those before it
not_before : (before after : List Written) (w : Written) → places_differ (before ++ w ∷ after) ≡ true → has_place before (place_of w) ≡ false
not_before before after w differ = at (has_place before (place_of w)) refl
  where
    at : (b : Bool) → has_place before (place_of w) ≡ b → b ≡ false
    at false is = refl
    at true is =
        let none : (same_place (place_of w) (place_of w) || has_place after (place_of w)) ≡ false = apart before (w ∷ after) (place_of w) differ is in
        let itself = place_itself (place_of w) in
        absurd (both_ways (same_place (place_of w) (place_of w)) (or_none (same_place (place_of w) (place_of w)) (has_place after (place_of w)) none).0 itself)
      where
        both_ways : (b : Bool) → b ≡ false → b ≡ true → ⊥
        both_ways true f t = cc
        both_ways false f t = cc

before_it : (keyed : ℕ → Bool) (ws : List Written) → IsSound keyed ws → (w : Written) → Among ws w → (id : ℕ) → Contains (ids_read w.says w.id) id → (p : Place) → stands_for keyed w.scene id ≡ place p → (i j : ℕ) → stands_at ws p ≡ Some i → stands_at ws (place_of w) ≡ Some j → i < j
before_it keyed ws sound w among id reads p stand i j first second =
    let split = parted ws w among in
    let before = split.0 in
    let after = split.1 in
    let come = names_at keyed [] before after w (subst (λ xs. names_come_before keyed [] xs ≡ true) split.2 sound.back) in
    let here = each_of (λ n. comes_before before (stands_for keyed w.scene n)) (ids_read w.says w.id) id come reads in
    let has = has_named before p (subst (λ s. comes_before before s ≡ true) stand here) in
    let low = position_within before (w ∷ after) p i has (subst (λ xs. position_of (map place_of xs) p ≡ Some i) split.2 first) in
    let none = not_before before after w (subst (λ xs. places_differ xs ≡ true) split.2 sound.differ) in
    let high = behind before (w ∷ after) (place_of w) j none (subst (λ xs. position_of (map place_of xs) (place_of w) ≡ Some j) split.2 second) in
    omega (arith, low, high)

pub stand_before : (component : Component) (state : State) → IsKept component → RowsFit component state → (w : Written) → Among (written_in component state) w → (id : ℕ) → Contains (ids_read w.says w.id) id → (p : Place) → stands_for (is_keyed component) w.scene id ≡ place p → (i j : ℕ) → stands_at (written_in component state) p ≡ Some i → stands_at (written_in component state) (place_of w) ≡ Some j → i < j
stand_before component state kept fits = before_it (is_keyed component) (written_in component state) (makes_sense component state kept fits)
