-- Slots that are mounted part after part.
use Rattle.std.proofs.Common.{◌≡◌, ℕ, zero, suc, ◌+◌, ◌<◌, ◌⊎◌, inl, inr, ◌==◌, ◌||◌, ◌&&◌, Bool, true, false, if◌then◌else◌, Option, Some, List, [], ◌∷◌, ◌++◌, length, map, replicate, take, drop, slice_get, slice_set, refl, sym, ap, ◌∙◌, arith}
use Rattle.std.specs.List.{list_any, flat_map}
use Rattle.std.specs.Option.{option_map}
use Rattle.std.proofs.lemmas.Bool.{eqb-true}
use Rattle.std.proofs.lemmas.List.{take_more, append-nil}
use Rattle.std.proofs.lemmas.List.Concat.{flat_map-append}
use Rattle.std.proofs.lemmas.List.Folds.{list_any-append}
use Rattle.std.proofs.lemmas.Option.{slice_get_within, get_or_from_slice_get}
use Rattle.values.specs.declared.code.Code.{Code}
use Rattle.plain_evaluation.specs.Place.{Place, place_at, same_key, same_place}
use Rattle.plain_evaluation.proofs.Places.{place_itself}
use Rattle.view_meaning.specs.Mounted.{Seen, cell_again}
use Rattle.view_meaning.specs.Parts.{Part, shows, area, branch, each, begins, begun, ending, cell_in, has_cell}
use Rattle.view_slots.specs.Home.{Sides, opens_at, has_open, repeats, has_rows, sides_with, sides_celled, sides_opened, sides_repeated, by_id, mounted_with, IsOutside}

-- ---- what is changed by id

pub by_id-same : (f g : ℕ → Sides → Sides) (base : ℕ) (sides : List Sides) → ((id : ℕ) (s : Sides) → f id s ≡ g id s) → by_id f base sides ≡ by_id g base sides
by_id-same f g base [] same = refl
by_id-same f g base (s ∷ sides) same = λ i. same base s i ∷ by_id-same f g (base + 1) sides same i

by_id-twice : (f g : ℕ → Sides → Sides) (base : ℕ) (sides : List Sides) → by_id f base (by_id g base sides) ≡ by_id (λ id s. f id (g id s)) base sides
by_id-twice f g base [] = refl
by_id-twice f g base (s ∷ sides) = ap (λ more. f base (g base s) ∷ more) (by_id-twice f g (base + 1) sides)

by_id-none : (base : ℕ) (sides : List Sides) → by_id (λ id s. s) base sides ≡ sides
by_id-none base [] = refl
by_id-none base (s ∷ sides) = ap (λ more. s ∷ more) (by_id-none (base + 1) sides)

pub length-by_id : (f : ℕ → Sides → Sides) (base : ℕ) (sides : List Sides) → length (by_id f base sides) ≡ length sides
length-by_id f base [] = refl
length-by_id f base (s ∷ sides) = ap suc (length-by_id f (base + 1) sides)

pub by_id-get : (f : ℕ → Sides → Sides) (base : ℕ) (sides : List Sides) (i : ℕ) → slice_get (by_id f base sides) i ≡ option_map (f (base + i)) (slice_get sides i)
by_id-get f base [] i = refl
by_id-get f base (s ∷ sides) zero = ap (λ n. Some (f n s)) {x = base} {y = base + 0} (omega arith)
by_id-get f base (s ∷ sides) (suc i) = by_id-get f (base + 1) sides i ∙ ap (λ n. option_map (f n) (slice_get sides i)) {x = (base + 1) + i} {y = base + suc i} (omega arith)

-- what changes one id alone
module _ (f : ℕ → Sides → Sides) (id : ℕ) (skips : (q : ℕ) (s : Sides) → (id == q) ≡ false → f q s ≡ s) where
  apart : (a b : ℕ) → (a < b) ⊎ (b < a) → (a == b) ≡ false
  apart a b h = at (a == b) refl
    where
      no : a ≡ b → ⊥
      no e = elim h [ inl l ↦ omega (arith, l, e) | inr l ↦ omega (arith, l, e) ]

      at : (t : Bool) → (a == b) ≡ t → t ≡ false
      at true is = absurd (no (eqb-true a b is))
      at false is = refl

  once-outside : (base : ℕ) (sides : List Sides) → IsOutside id base (length sides) → by_id f base sides ≡ sides
  once-outside base [] out = refl
  once-outside base (s ∷ sides) out =
      let here : (id < base) ⊎ (base < id) = elim out [ inl l ↦ inl l | inr l ↦ inr (omega (arith, l)) ] in
      let rest : IsOutside id (base + 1) (length sides) = elim out [ inl l ↦ inl (omega (arith, l)) | inr l ↦ inr (omega (arith, l)) ] in
      λ i. skips base s (apart id base here) i ∷ once-outside (base + 1) sides rest i

  once-at : (base : ℕ) (sides : List Sides) (at : ℕ) (s : Sides) → id ≡ base + at → slice_get sides at ≡ Some s → slice_set sides at (f id s) ≡ by_id f base sides
  once-at base [] at s is got = cc
  once-at base (y ∷ ys) zero s is got =
      let same : y ≡ s = cc in
      let here : id ≡ base = omega (arith, is) in
      λ i. (ap (λ q. f q s) here ∙ ap (f base) (sym same)) i ∷ sym (once-outside (base + 1) ys (inl (omega (arith, is)))) i
  once-at base (y ∷ ys) (suc at) s is got =
      λ i. sym (skips base y (apart id base (inr (omega (arith, is))))) i ∷ once-at (base + 1) ys at s (omega (arith, is)) got i

-- ---- parts

-- of what two lists of parts say the second has the last word
later : {X : Type 0} (a b : Bool) (x y : X) → (if a || b then x else y) ≡ (if b then x else (if a then x else y))
later true true x y = refl
later true false x y = refl
later false true x y = refl
later false false x y = refl

pub has_cell-append : (xs ys : List Part) (p : Place) → has_cell (xs ++ ys) p ≡ (has_cell xs p || has_cell ys p)
has_cell-append xs ys p = ap (list_any (λ q. same_place q p)) (flat_map-append cell_in xs ys) ∙ list_any-append (λ q. same_place q p) (flat_map cell_in xs) (flat_map cell_in ys)

module _ (seen : Seen) where
  sides-append : (xs ys : List Part) (p : Place) (s : Sides) → sides_with seen (xs ++ ys) p s ≡ sides_with seen ys p (sides_with seen xs p s)
  sides-append xs ys p s = λ i. record {
    before = s.before;
    now = record {
      cell = (ap (λ b. if b then Some (cell_again s.before.cell (seen.view.value p) (seen.version p)) else s.now.cell) (has_cell-append xs ys p) ∙ later (has_cell xs p) (has_cell ys p) (Some (cell_again s.before.cell (seen.view.value p) (seen.version p))) s.now.cell) i;
      is_open = (ap (λ b. if b then true else s.now.is_open) (list_any-append (opens_at p) xs ys) ∙ later (has_open xs p) (has_open ys p) true s.now.is_open) i;
      has_rows = (ap (λ b. if b then true else s.now.has_rows) (list_any-append (repeats p.id) xs ys) ∙ later (has_rows xs p.id) (has_rows ys p.id) true s.now.has_rows) i;
    };
  }

  module _ (key : Option Code) (base : ℕ) where
    abbrev with : List Part → List Sides → List Sides
    with parts sides = mounted_with seen parts key base sides

    pub mounted-none : (sides : List Sides) → with [] sides ≡ sides
    mounted-none sides = by_id-none base sides

    pub mounted-append : (xs ys : List Part) (sides : List Sides) → with (xs ++ ys) sides ≡ with ys (with xs sides)
    mounted-append xs ys sides =
        by_id-same (λ id. sides_with seen (xs ++ ys) (place_at id key)) (λ id s. sides_with seen ys (place_at id key) (sides_with seen xs (place_at id key) s)) base sides (λ id s. sides-append xs ys (place_at id key) s)
        ∙ sym (by_id-twice (λ id. sides_with seen ys (place_at id key)) (λ id. sides_with seen xs (place_at id key)) base sides)

    pub mounted-more : {X : Type 0} (f : X → List Part) (xs : List X) (i : ℕ) (x : X) (sides : List Sides) → slice_get xs i ≡ Some x → with (flat_map f (take (i + 1) xs)) sides ≡ with (f x) (with (flat_map f (take i xs)) sides)
    mounted-more f xs i x sides is =
        ap (λ l. with l sides) (ap (flat_map f) (take_more xs i x (slice_get_within xs i x is) ∙ ap (λ y. take i xs ++ y ∷ []) (get_or_from_slice_get xs i x x is)) ∙ flat_map-append f (take i xs) (x ∷ []) ∙ ap (λ l. flat_map f (take i xs) ++ l) (append-nil (f x)))
        ∙ mounted-append (flat_map f (take i xs)) (f x) sides

    -- an element mounts its attributes and its items
    pub mounted-element : (tag : ℕ) (closed : Bool) (attrs inner : List Part) (sides : List Sides) → with (begins tag ∷ attrs ++ begun ∷ inner ++ ending tag closed) sides ≡ with inner (with attrs sides)
    mounted-element tag closed attrs inner sides =
        mounted-append (begins tag ∷ attrs ++ begun ∷ inner) (ending tag closed) sides
        ∙ ap (with (ending tag closed)) (mounted-append (begins tag ∷ attrs) (begun ∷ inner) sides)
        ∙ ended closed (with inner (with attrs sides))
      where
        ended : (closed : Bool) (more : List Sides) → with (ending tag closed) more ≡ more
        ended true more = by_id-none base more
        ended false more = by_id-none base more

    apart_place : (id q : ℕ) → (id == q) ≡ false → (same_place (place_at id key) (place_at q key) || false) ≡ false
    apart_place id q e = ap (λ b. (b && same_key key key) || false) e

    same_itself : (id : ℕ) → (same_place (place_at id key) (place_at id key) || false) ≡ true
    same_itself id = ap (λ b. b || false) (place_itself (place_at id key))

    id_itself : (id : ℕ) → ((id == id) || false) ≡ true
    id_itself id = ap (λ b. b || false) {x = id == id} {y = true} (grind arith)

    abbrev by : Part → ℕ → Sides → Sides
    by part id s = sides_with seen (part ∷ []) (place_at id key) s

    skips-shown : (id q : ℕ) (s : Sides) → (id == q) ≡ false → by (shows (place_at id key)) q s ≡ s
    skips-shown id q s e = λ i. record s { now = record s.now { cell = if apart_place id q e i then Some (cell_again s.before.cell (seen.view.value (place_at q key)) (seen.version (place_at q key))) else s.now.cell } }

    skips-branch : (id q : ℕ) (s : Sides) → (id == q) ≡ false → by (branch (place_at id key)) q s ≡ s
    skips-branch id q s e = λ i. record s { now = record s.now { is_open = if apart_place id q e i then true else s.now.is_open } }

    skips-area : (id q : ℕ) (s : Sides) → (id == q) ≡ false → by (area (place_at id key)) q s ≡ s
    skips-area id q s e = λ i. record s { now = record s.now { is_open = if apart_place id q e i then true else s.now.is_open } }

    skips-each : (id store q : ℕ) (s : Sides) → (id == q) ≡ false → by (each id store) q s ≡ s
    skips-each id store q s e = λ i. record s { now = record s.now { has_rows = if (e i || false) then true else s.now.has_rows } }

    pub shown-outside : (id : ℕ) (sides : List Sides) → IsOutside id base (length sides) → sides ≡ with (shows (place_at id key) ∷ []) sides
    shown-outside id sides out = sym (once-outside (by (shows (place_at id key))) id (skips-shown id) base sides out)

    pub branch-outside : (id : ℕ) (sides : List Sides) → IsOutside id base (length sides) → sides ≡ with (branch (place_at id key) ∷ []) sides
    branch-outside id sides out = sym (once-outside (by (branch (place_at id key))) id (skips-branch id) base sides out)

    pub area-outside : (id : ℕ) (sides : List Sides) → IsOutside id base (length sides) → sides ≡ with (area (place_at id key) ∷ []) sides
    area-outside id sides out = sym (once-outside (by (area (place_at id key))) id (skips-area id) base sides out)

    pub each-outside : (id store : ℕ) (sides : List Sides) → IsOutside id base (length sides) → sides ≡ with (each id store ∷ []) sides
    each-outside id store sides out = sym (once-outside (by (each id store)) id (skips-each id store) base sides out)

    module _ (id at : ℕ) (sides : List Sides) (s : Sides) (is : id ≡ base + at) (got : slice_get sides at ≡ Some s) where
      pub shown-at : slice_set sides at (sides_celled (cell_again s.before.cell (seen.view.value (place_at id key)) (seen.version (place_at id key))) s) ≡ with (shows (place_at id key) ∷ []) sides
      shown-at =
          ap (slice_set sides at) (λ i. record s { now = record s.now { cell = if sym (same_itself id) i then Some (cell_again s.before.cell (seen.view.value (place_at id key)) (seen.version (place_at id key))) else s.now.cell } })
          ∙ once-at (by (shows (place_at id key))) id (skips-shown id) base sides at s is got

      pub branch-at : slice_set sides at (sides_opened s) ≡ with (branch (place_at id key) ∷ []) sides
      branch-at =
          ap (slice_set sides at) (λ i. record s { now = record s.now { is_open = if sym (same_itself id) i then true else s.now.is_open } })
          ∙ once-at (by (branch (place_at id key))) id (skips-branch id) base sides at s is got

      pub area-at : slice_set sides at (sides_opened s) ≡ with (area (place_at id key) ∷ []) sides
      area-at =
          ap (slice_set sides at) (λ i. record s { now = record s.now { is_open = if sym (same_itself id) i then true else s.now.is_open } })
          ∙ once-at (by (area (place_at id key))) id (skips-area id) base sides at s is got

      pub each-at : (store : ℕ) → slice_set sides at (sides_repeated s) ≡ with (each id store ∷ []) sides
      each-at store =
          ap (slice_set sides at) (λ i. record s { now = record s.now { has_rows = if sym (id_itself id) i then true else s.now.has_rows } })
          ∙ once-at (by (each id store)) id (skips-each id store) base sides at s is got

-- ---- slots that are changed one by one

pub map-map : {X Y Z : Type 0} (g : Y → Z) (f : X → Y) (xs : List X) → map (λ x. g (f x)) xs ≡ map g (map f xs)
map-map g f [] = refl
map-map g f (x ∷ xs) = ap (λ more. g (f x) ∷ more) (map-map g f xs)

change-step : {X Y : Type 0} (f g : X → Y) (xs : List X) (i : ℕ) (x y : X) → slice_get xs i ≡ Some x → f y ≡ g x → map f (take (suc i) (slice_set xs i y)) ++ map g (drop (suc i) (slice_set xs i y)) ≡ map f (take i xs) ++ map g (drop i xs)
change-step f g [] i x y is same = cc
change-step f g (z ∷ xs) zero x y is same = let e : x ≡ z = cc in λ k. (same ∙ ap g e) k ∷ map g xs
change-step f g (z ∷ xs) (suc i) x y is same = ap (λ l. f z ∷ l) (change-step f g xs i x y is same)

pub change-more : {X Y : Type 0} (f g : X → Y) (xs : List X) (i : ℕ) (x y : X) → slice_get xs i ≡ Some x → f y ≡ g x → map f (take (i + 1) (slice_set xs i y)) ++ map g (drop (i + 1) (slice_set xs i y)) ≡ map f (take i xs) ++ map g (drop i xs)
change-more f g xs i x y is same = ap (λ n. map f (take n (slice_set xs i y)) ++ map g (drop n (slice_set xs i y))) {x = i + 1} {y = suc i} (omega arith) ∙ change-step f g xs i x y is same

pub map-slice_set : {X Y : Type 0} (f : X → Y) (xs : List X) (i : ℕ) (x : X) → map f (slice_set xs i x) ≡ slice_set (map f xs) i (f x)
map-slice_set f [] i x = refl
map-slice_set f (y ∷ xs) zero x = refl
map-slice_set f (y ∷ xs) (suc i) x = ap (λ l. f y ∷ l) (map-slice_set f xs i x)

pub map-replicate : {X Y : Type 0} (f : X → Y) (n : ℕ) (x : X) → map f (replicate n x) ≡ replicate n (f x)
map-replicate f zero x = refl
map-replicate f (suc n) x = ap (λ l. f x ∷ l) (map-replicate f n x)
