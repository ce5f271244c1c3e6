-- The rows of a text that is written out: they have its lines, and its places each once.
use Rattle.std.proofs.Common.{◌≡◌, ℕ, zero, suc, ◌+◌, ◌<◌, ◌⊎◌, inl, inr, ◌||◌, not, if◌then◌else◌, Bool, true, false, List, [], ◌∷◌, ◌++◌, map, length, slice_get, Option, Some, None, refl, sym, ap, subst, ◌∙◌, arith, length-append}
use Rattle.std.specs.List.{list_any, filter}
use Rattle.std.specs.Option.{option_map}
use Rattle.std.proofs.lemmas.Option.{slice_get-map, slice_get_within}
use Rattle.std.proofs.lemmas.List.Folds.{list_any-append}
use Rattle.plain_evaluation.specs.Place.{Place, same_place}
use Rattle.plain_evaluation.specs.Written.{Written, place_of}
use Rattle.plain_evaluation.specs.Sound.{Among, has_place, places_differ}
use Rattle.plain_evaluation.proofs.Differ.{differ-append}
use Rattle.plain_evaluation.proofs.Every.{Every, every-append}
use Rattle.plain_evaluation.proofs.Places.{and_cases, and_both, or_none, or_right, not_true, same_places, place_itself}
use Rattle.plan_meaning.specs.Layout.{is_computed, rows_of, places_of, row_of}
use Rattle.plan_meaning.specs.Carried.{AreApart}

abbrev pub sources_of : List Written → List Written
sources_of ws = filter (λ w. not (is_computed w.says)) ws

abbrev pub computed_of : List Written → List Written
computed_of ws = filter (λ w. is_computed w.says) ws

pub true_or_false : (b : Bool) → b ≡ true → b ≡ false → ⊥
true_or_false true t f = cc
true_or_false false t f = cc

-- ---- lines and rows

pub every_of : (P : Written → Type 0) (ws : List Written) → ((w : Written) → Among ws w → P w) → Every P ws
every_of P [] each = tt
every_of P (w ∷ ws) each = (each w (inl refl), every_of P ws (λ v among. each v (inr among)))

every_filter : (P : Written → Type 0) (f : Written → Bool) (ws : List Written) → Every P ws → Every P (filter f ws)
every_filter P f [] h = tt
every_filter P f (x ∷ ws) h = at (f x) (every_filter P f ws h.1)
  where
    at : (b : Bool) → Every P (filter f ws) → Every P (if b then x ∷ filter f ws else filter f ws)
    at true rest = (h.0, rest)
    at false rest = rest

pub every_row : (P : Written → Type 0) (ws : List Written) → Every P ws → Every P (rows_of ws)
every_row P ws h = every-append P (sources_of ws) (computed_of ws) (every_filter P (λ w. not (is_computed w.says)) ws h) (every_filter P (λ w. is_computed w.says) ws h)

pub every_at : (P : Written → Type 0) (ws : List Written) (r : ℕ) (w : Written) → Every P ws → slice_get ws r ≡ Some w → P w
every_at P [] r w h is = cc
every_at P (x ∷ ws) zero w h is = let e : x ≡ w = cc in subst P e h.0
every_at P (x ∷ ws) (suc r) w h is = every_at P ws r w h.1 is

-- a row is a line of the text
pub row_among : (ws : List Written) (r : ℕ) (w : Written) → slice_get (rows_of ws) r ≡ Some w → Among ws w
row_among ws r w = every_at (Among ws) (rows_of ws) r w (every_row (Among ws) ws (every_of (Among ws) ws (λ v among. among)))

pub among-append : (xs ys : List Written) (w : Written) → Among xs w ⊎ Among ys w → Among (xs ++ ys) w
among-append [] ys w (inl among) = absurd among
among-append [] ys w (inr among) = among
among-append (x ∷ xs) ys w (inl (inl here)) = inl here
among-append (x ∷ xs) ys w (inl (inr later)) = inr (among-append xs ys w (inl later))
among-append (x ∷ xs) ys w (inr among) = inr (among-append xs ys w (inr among))

among_filter : (f : Written → Bool) (ws : List Written) (w : Written) → f w ≡ true → Among ws w → Among (filter f ws) w
among_filter f [] w is among = among
among_filter f (x ∷ ws) w is (inl here) = at (f x) (ap f here ∙ is)
  where
    at : (b : Bool) → b ≡ true → Among (if b then x ∷ filter f ws else filter f ws) w
    at true is = inl here
    at false is = cc
among_filter f (x ∷ ws) w is (inr later) = at (f x) (among_filter f ws w is later)
  where
    at : (b : Bool) → Among (filter f ws) w → Among (if b then x ∷ filter f ws else filter f ws) w
    at true among = inr among
    at false among = among

at_place : (ws : List Written) (w : Written) → Among ws w → (r : ℕ) × (slice_get ws r ≡ Some w)
at_place [] w among = absurd among
at_place (x ∷ ws) w (inl here) = (0, ap Some here)
at_place (x ∷ ws) w (inr later) = let one = at_place ws w later in (suc one.0, one.1)

-- a line of the text has a row
pub among_row : (ws : List Written) (w : Written) → Among ws w → (r : ℕ) × (slice_get (rows_of ws) r ≡ Some w)
among_row ws w among = at_place (rows_of ws) w (among-append (sources_of ws) (computed_of ws) w (at (is_computed w.says) refl))
  where
    at : (b : Bool) → is_computed w.says ≡ b → Among (sources_of ws) w ⊎ Among (computed_of ws) w
    at true is = inr (among_filter (λ v. is_computed v.says) ws w is among)
    at false is = inl (among_filter (λ v. not (is_computed v.says)) ws w (ap not is) among)

-- there are as many rows as lines
pub length_rows : (ws : List Written) → length (rows_of ws) ≡ length ws
length_rows ws = length-append (sources_of ws) (computed_of ws) ∙ parts ws
  where
    parts : (xs : List Written) → length (sources_of xs) + length (computed_of xs) ≡ length xs
    parts [] = refl
    parts (x ∷ xs) = at (is_computed x.says) (parts xs)
      where
        at : (d : Bool) → length (sources_of xs) + length (computed_of xs) ≡ length xs → length (if not d then x ∷ sources_of xs else sources_of xs) + length (if d then x ∷ computed_of xs else computed_of xs) ≡ suc (length xs)
        at true h = omega arith
        at false h = omega arith

-- the rows have what the text has
pub any_rows : (f : Written → Bool) (ws : List Written) → list_any f (rows_of ws) ≡ list_any f ws
any_rows f ws = list_any-append f (sources_of ws) (computed_of ws) ∙ parts ws
  where
    parts : (xs : List Written) → (list_any f (sources_of xs) || list_any f (computed_of xs)) ≡ list_any f xs
    parts [] = refl
    parts (x ∷ xs) = at (is_computed x.says) (parts xs)
      where
        swap : (a s b : Bool) → (a || (s || b)) ≡ (s || (a || b))
        swap true true b = refl
        swap true false b = refl
        swap false s b = refl

        assoc : (s a b : Bool) → ((s || a) || b) ≡ (s || (a || b))
        assoc true a b = refl
        assoc false a b = refl

        at : (d : Bool) → (list_any f (sources_of xs) || list_any f (computed_of xs)) ≡ list_any f xs → (list_any f (if not d then x ∷ sources_of xs else sources_of xs) || list_any f (if d then x ∷ computed_of xs else computed_of xs)) ≡ (f x || list_any f xs)
        at true h = swap (list_any f (sources_of xs)) (f x) (list_any f (computed_of xs)) ∙ ap (λ c. f x || c) h
        at false h = assoc (f x) (list_any f (sources_of xs)) (list_any f (computed_of xs)) ∙ ap (λ c. f x || c) h

pub has_place_row : (ws : List Written) (p : Place) → has_place (rows_of ws) p ≡ has_place ws p
has_place_row ws p = any_rows (λ w. same_place (place_of w) p) ws

-- ---- each place once

fewer : (f : Written → Bool) (ws : List Written) (p : Place) → has_place ws p ≡ false → has_place (filter f ws) p ≡ false
fewer f [] p none = refl
fewer f (x ∷ ws) p none =
    let both = or_none (same_place (place_of x) p) (has_place ws p) none in
    at (f x) both.0 (fewer f ws p both.1)
  where
    at : (b : Bool) → same_place (place_of x) p ≡ false → has_place (filter f ws) p ≡ false → has_place (if b then x ∷ filter f ws else filter f ws) p ≡ false
    at true here rest = ap (λ b. b || has_place (filter f ws) p) here ∙ rest
    at false here rest = rest

kept_apart : (f : Written → Bool) (ws : List Written) → places_differ ws ≡ true → places_differ (filter f ws) ≡ true
kept_apart f [] differ = refl
kept_apart f (x ∷ ws) differ =
    let both = and_cases (not (has_place ws (place_of x))) (places_differ ws) differ in
    at (f x) (fewer f ws (place_of x) (not_true _ both.0)) (kept_apart f ws both.1)
  where
    at : (b : Bool) → has_place (filter f ws) (place_of x) ≡ false → places_differ (filter f ws) ≡ true → places_differ (if b then x ∷ filter f ws else filter f ws) ≡ true
    at true here rest = and_both _ _ (ap not here) rest
    at false here rest = rest

parted : (f : Written → Bool) (ws : List Written) (p : Place) → places_differ ws ≡ true → has_place (filter (λ w. not (f w)) ws) p ≡ true → has_place (filter f ws) p ≡ false
parted f [] p differ has = refl
parted f (x ∷ ws) p differ has =
    let both = and_cases (not (has_place ws (place_of x))) (places_differ ws) differ in
    at (f x) (same_place (place_of x) p) refl (not_true _ both.0) has (parted f ws p both.1)
  where
    at : (b s : Bool) → same_place (place_of x) p ≡ s → has_place ws (place_of x) ≡ false → has_place (if not b then x ∷ filter (λ w. not (f w)) ws else filter (λ w. not (f w)) ws) p ≡ true → (has_place (filter (λ w. not (f w)) ws) p ≡ true → has_place (filter f ws) p ≡ false) → has_place (if b then x ∷ filter f ws else filter f ws) p ≡ false
    at true true same none there later =
        let gone : has_place (filter (λ w. not (f w)) ws) p ≡ false = fewer (λ w. not (f w)) ws p (subst (λ q. has_place ws q ≡ false) (same_places (place_of x) p same) none) in
        absurd (true_or_false (has_place (filter (λ w. not (f w)) ws) p) there gone)
    at true false same none there later = ap (λ b. b || has_place (filter f ws) p) same ∙ later there
    at false true same none there later = fewer f ws p (subst (λ q. has_place ws q ≡ false) (same_places (place_of x) p same) none)
    at false false same none there later = later (sym (ap (λ b. b || has_place (filter (λ w. not (f w)) ws) p) same) ∙ there)

rows_differ : (ws : List Written) → places_differ ws ≡ true → places_differ (rows_of ws) ≡ true
rows_differ ws differ = differ-append (sources_of ws) (computed_of ws) (kept_apart (λ w. not (is_computed w.says)) ws differ) (kept_apart (λ w. is_computed w.says) ws differ) (λ p has. parted (λ w. is_computed w.says) ws p differ has)

has_at : (ws : List Written) (r : ℕ) (p : Place) → slice_get (map place_of ws) r ≡ Some p → has_place ws p ≡ true
has_at [] r p is = cc
has_at (x ∷ ws) zero p is = let e : place_of x ≡ p = cc in ap (λ b. b || has_place ws p) (subst (λ q. same_place (place_of x) q ≡ true) e (place_itself (place_of x)))
has_at (x ∷ ws) (suc r) p is = or_right (same_place (place_of x) p) (has_place ws p) (has_at ws r p is)

row_at : (ws : List Written) → places_differ ws ≡ true → (r : ℕ) (p : Place) → slice_get (map place_of ws) r ≡ Some p → row_of (map place_of ws) p ≡ Some r
row_at [] differ r p is = cc
row_at (x ∷ ws) differ zero p is =
    let e : place_of x ≡ p = cc in
    ap (λ (b : Bool). if b then Some 0 else option_map suc (row_of (map place_of ws) p)) (subst (λ q. same_place (place_of x) q ≡ true) e (place_itself (place_of x)))
row_at (x ∷ ws) differ (suc r) p is =
    let both = and_cases (not (has_place ws (place_of x))) (places_differ ws) differ in
    at (same_place (place_of x) p) refl (not_true _ both.0) (has_at ws r p is) (row_at ws both.1 r p is)
  where
    at : (b : Bool) → same_place (place_of x) p ≡ b → has_place ws (place_of x) ≡ false → has_place ws p ≡ true → row_of (map place_of ws) p ≡ Some r → (if b then Some 0 else option_map suc (row_of (map place_of ws) p)) ≡ Some (suc r)
    at true same none there later = absurd (true_or_false (has_place ws p) there (subst (λ q. has_place ws q ≡ false) (same_places (place_of x) p same) none))
    at false same none there later = ap (option_map suc) later

pub are_apart : (ws : List Written) → places_differ ws ≡ true → AreApart (places_of ws)
are_apart ws differ = row_at (rows_of ws) (rows_differ ws differ)

-- the row of a place has that place
pub row_got : (places : List Place) (p : Place) (r : ℕ) → row_of places p ≡ Some r → slice_get places r ≡ Some p
row_got [] p r is = cc
row_got (q ∷ places) p r is = at (same_place q p) refl (row_of places p) refl r is (λ k. row_got places p k)
  where
    at : (b : Bool) → same_place q p ≡ b → (o : Option ℕ) → row_of places p ≡ o → (r : ℕ) → (if b then Some 0 else option_map suc o) ≡ Some r → ((k : ℕ) → row_of places p ≡ Some k → slice_get places k ≡ Some p) → slice_get (q ∷ places) r ≡ Some p
    at true same o found r is later = let e : r ≡ 0 = cc in rw e (ap Some (same_places q p same))
    at false same None found r is later = cc
    at false same (Some k) found r is later = let e : r ≡ suc k = cc in rw e (later k found)

-- where a place has no row, the text has it not
pub none_found : (ws : List Written) (p : Place) → row_of (places_of ws) p ≡ None → has_place ws p ≡ false
none_found ws p is = sym (has_place_row ws p) ∙ among (rows_of ws) is
  where
    among : (xs : List Written) → row_of (map place_of xs) p ≡ None → has_place xs p ≡ false
    among [] is = refl
    among (w ∷ xs) is = at (same_place (place_of w) p) (row_of (map place_of xs) p) refl is (among xs)
      where
        at : (b : Bool) (o : Option ℕ) → row_of (map place_of xs) p ≡ o → (if b then Some 0 else option_map suc o) ≡ None → (row_of (map place_of xs) p ≡ None → has_place xs p ≡ false) → (b || has_place xs p) ≡ false
        at true o found is later = cc
        at false None found is later = later found
        at false (Some k) found is later = cc

-- a place of the text has a row
pub row_there : (ws : List Written) (p : Place) → has_place ws p ≡ true → (r : ℕ) × (row_of (places_of ws) p ≡ Some r) × (slice_get (places_of ws) r ≡ Some p)
row_there ws p has = at (row_of (places_of ws) p) refl
  where
    at : (o : Option ℕ) → row_of (places_of ws) p ≡ o → (r : ℕ) × (row_of (places_of ws) p ≡ Some r) × (slice_get (places_of ws) r ≡ Some p)
    at None found = absurd (true_or_false (has_place ws p) has (none_found ws p found))
    at (Some r) found = (r, found, row_got (places_of ws) p r found)

pub not_there : (ws : List Written) (p : Place) → has_place ws p ≡ false → row_of (places_of ws) p ≡ None
not_there ws p none = at (row_of (places_of ws) p) refl
  where
    at : (o : Option ℕ) → row_of (places_of ws) p ≡ o → o ≡ None
    at None found = refl
    at (Some r) found = absurd (true_or_false (has_place ws p) (sym (has_place_row ws p) ∙ has_at (rows_of ws) r p (row_got (places_of ws) p r found)) none)

pub among_has : (ws : List Written) (w : Written) → Among ws w → has_place ws (place_of w) ≡ true
among_has [] w among = absurd among
among_has (x ∷ ws) w (inl here) = subst (λ v. has_place (x ∷ ws) (place_of v) ≡ true) here (ap (λ b. b || has_place ws (place_of x)) (place_itself (place_of x)))
among_has (x ∷ ws) w (inr later) = or_right (same_place (place_of x) (place_of w)) (has_place ws (place_of w)) (among_has ws w later)

-- ---- lists that are made of the rows, element by element

pub at_map : {A B : Type 0} (f : A → B) (xs : List A) (r : ℕ) (x : A) → slice_get xs r ≡ Some x → slice_get (map f xs) r ≡ Some (f x)
at_map f xs r x is = slice_get-map f xs r ∙ ap (option_map f) is

pub map_at : {A B : Type 0} (f : A → B) (xs : List A) (r : ℕ) (y : B) → slice_get (map f xs) r ≡ Some y → (x : A) × (slice_get xs r ≡ Some x) × (f x ≡ y)
map_at f [] r y is = cc
map_at f (x ∷ xs) zero y is = (x, refl, cc)
map_at f (x ∷ xs) (suc r) y is = map_at f xs r y is

pub append_at : {A : Type 0} (xs ys : List A) (r : ℕ) (w : A) → slice_get (xs ++ ys) r ≡ Some w → (slice_get xs r ≡ Some w) ⊎ ((j : ℕ) × (r ≡ length xs + j) × (slice_get ys j ≡ Some w))
append_at [] ys r w is = inr (r, omega arith, is)
append_at (x ∷ xs) ys zero w is = inl is
append_at (x ∷ xs) ys (suc r) w is = elim (append_at xs ys r w is) [ inl here ↦ inl here | inr one ↦ (let e = one.1 in inr (one.0, omega arith, one.2)) ]

pub passes : {A : Type 0} (f : A → Bool) (ws : List A) (r : ℕ) (w : A) → slice_get (filter f ws) r ≡ Some w → f w ≡ true
passes f [] r w is = cc
passes f (x ∷ ws) r w is = at (f x) refl r is (λ k. passes f ws k w)
  where
    at : (b : Bool) → f x ≡ b → (r : ℕ) → slice_get (if b then x ∷ filter f ws else filter f ws) r ≡ Some w → ((k : ℕ) → slice_get (filter f ws) k ≡ Some w → f w ≡ true) → f w ≡ true
    at true fx zero is later = let e : x ≡ w = cc in subst (λ v. f v ≡ true) e fx
    at true fx (suc r) is later = later r is
    at false fx r is later = later r is

-- ---- sources come first

pub sources_first : (ws : List Written) (r s : ℕ) (v w : Written) → slice_get (rows_of ws) r ≡ Some v → slice_get (rows_of ws) s ≡ Some w → is_computed v.says ≡ false → is_computed w.says ≡ true → r < s
sources_first ws r s v w at_r at_s source computed =
    elim (append_at (sources_of ws) (computed_of ws) r v at_r) [
      | inl here ↦ elim (append_at (sources_of ws) (computed_of ws) s w at_s) [
        | inl early ↦ absurd (true_or_false (is_computed w.says) computed (not_true _ (passes (λ x. not (is_computed x.says)) ws s w early)))
        | inr late ↦ (let e = late.1 in let lt = slice_get_within (sources_of ws) r v here in omega arith)
      ]
      | inr there ↦ absurd (true_or_false (is_computed v.says) (passes (λ x. is_computed x.says) ws there.0 v there.2) source)
    ]
