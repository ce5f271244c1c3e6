-- Slots as the code keeps them, mounted one by one.
use Rattle.std.proofs.Common.{◌≡◌, ℕ, ◌+◌, ◌-◌, ◌<◌, inl, inr, nat_le, Bool, true, false, if◌then◌else◌, arith, Option, Some, None, List, replicate, [], ◌∷◌, length, get_or, map, slice_get, slice_set, sym, ap, subst, ◌∙◌}
use Rattle.std.specs.Bool.{OnTrue, OnFalse}
use Rattle.std.specs.Option.{option_map, option_map_or}
use Rattle.std.proofs.Math.Seq.{map-set_same}
use Rattle.std.proofs.lemmas.List.{length-map}
use Rattle.std.proofs.lemmas.Option.{slice_get-get_or, slice_get-map, slice_get_past}
use Rattle.values.specs.declared.code.Code.{Code}
use Rattle.plain_evaluation.specs.Place.{place_at}
use Rattle.view_meaning.specs.Mounted.{Seen, Cell, cell_again}
use Rattle.view_meaning.specs.Parts.{Part, shows, area, branch, each}
use Rattle.view_slots.specs.declared.slot.Slot.{Slot}
use Rattle.view_slots.specs.Home.{Home, blank_face, blank_sides, blank_home, turned, sides_celled, sides_opened, sides_repeated, mounted_with, remounted, IsOutside, sides_at, face_at}
use Rattle.view_slots.specs.Plain.{face_meant, sides_of, all_sides, home_of}
use Rattle.view_slots.proofs.SlotLemmas.{map-slice_set, map-replicate, mounted-none, shown-at, branch-at, area-at, each-at, shown-outside, branch-outside, area-outside, each-outside}

module _ (seen : Seen) (key : Option Code) (base : ℕ) (slots : List Slot) (id : ℕ) where
  -- ---- where the id has a slot
  module _ (at : ℕ) (d new : Slot) (is : id ≡ base + at) (within : at < length slots) where
    got : slice_get (all_sides slots) at ≡ Some (sides_of (get_or slots at d))
    got = slice_get-map sides_of slots at ∙ ap (option_map sides_of) (slice_get-get_or slots at d within)

    pub slot_shown : (cell : Cell) → sides_of new ≡ sides_celled cell (sides_of (get_or slots at d)) → (code : Code) (version : ℕ) → cell ≡ cell_again (sides_of (get_or slots at d)).before.cell code version → code ≡ seen.view.value (place_at id key) → version ≡ seen.version (place_at id key) → all_sides (slice_set slots at new) ≡ mounted_with seen (shows (place_at id key) ∷ []) key base (all_sides slots)
    slot_shown cell change code version again codes versions =
        map-slice_set sides_of slots at new
        ∙ ap (slice_set (all_sides slots) at) (change ∙ ap (λ c. sides_celled c (sides_of (get_or slots at d))) (again ∙ (λ i. cell_again (sides_of (get_or slots at d)).before.cell (codes i) (versions i))))
        ∙ shown-at seen key base id at (all_sides slots) (sides_of (get_or slots at d)) is got

    pub slot_branch : sides_of new ≡ sides_opened (sides_of (get_or slots at d)) → all_sides (slice_set slots at new) ≡ mounted_with seen (branch (place_at id key) ∷ []) key base (all_sides slots)
    slot_branch change =
        map-slice_set sides_of slots at new
        ∙ ap (slice_set (all_sides slots) at) change
        ∙ branch-at seen key base id at (all_sides slots) (sides_of (get_or slots at d)) is got

    pub slot_area : sides_of new ≡ sides_opened (sides_of (get_or slots at d)) → all_sides (slice_set slots at new) ≡ mounted_with seen (area (place_at id key) ∷ []) key base (all_sides slots)
    slot_area change =
        map-slice_set sides_of slots at new
        ∙ ap (slice_set (all_sides slots) at) change
        ∙ area-at seen key base id at (all_sides slots) (sides_of (get_or slots at d)) is got

    pub slot_each : (store : ℕ) → sides_of new ≡ sides_repeated (sides_of (get_or slots at d)) → all_sides (slice_set slots at new) ≡ mounted_with seen (each id store ∷ []) key base (all_sides slots)
    slot_each store change =
        map-slice_set sides_of slots at new
        ∙ ap (slice_set (all_sides slots) at) change
        ∙ each-at seen key base id at (all_sides slots) (sides_of (get_or slots at d)) is got store

    -- one that is seen as before changes nothing
    pub slot_same : sides_of new ≡ sides_of (get_or slots at d) → all_sides (slice_set slots at new) ≡ all_sides slots
    slot_same change = map-set_same sides_of slots at new d change

    -- by what the condition of the branch is
    pub branch_opened : (holds : Bool) → OnTrue holds (sides_of new ≡ sides_opened (sides_of (get_or slots at d))) → OnTrue holds (all_sides (slice_set slots at new) ≡ mounted_with seen (branch (place_at id key) ∷ []) key base (all_sides slots))
    branch_opened true change = slot_branch change
    branch_opened false change = change

    pub branch_closed : (holds : Bool) → OnFalse holds (sides_of new ≡ sides_of (get_or slots at d)) → OnFalse holds (all_sides (slice_set slots at new) ≡ all_sides slots)
    branch_closed true change = change
    branch_closed false change = slot_same change

  -- ---- where it has none
  module _ (out : IsOutside id base (length slots)) where
    outside : IsOutside id base (length (all_sides slots))
    outside = subst (IsOutside id base) (sym (length-map slots sides_of)) out

    pub none_shown : all_sides slots ≡ mounted_with seen (shows (place_at id key) ∷ []) key base (all_sides slots)
    none_shown = shown-outside seen key base id (all_sides slots) outside

    pub none_branch : (holds : Bool) → OnTrue holds (all_sides slots ≡ mounted_with seen (branch (place_at id key) ∷ []) key base (all_sides slots))
    none_branch true = branch-outside seen key base id (all_sides slots) outside
    none_branch false = tt

    pub none_area : all_sides slots ≡ mounted_with seen (area (place_at id key) ∷ []) key base (all_sides slots)
    none_area = area-outside seen key base id (all_sides slots) outside

    pub none_each : (store : ℕ) → all_sides slots ≡ mounted_with seen (each id store ∷ []) key base (all_sides slots)
    none_each store = each-outside seen key base id store (all_sides slots) outside

-- ---- homes

-- a home that is turned, and in which these parts are mounted then
pub remounts : (seen : Seen) (parts : List Part) (key : Option Code) (base : ℕ) (old turns new : List Slot) → all_sides turns ≡ map turned (all_sides old) → all_sides new ≡ mounted_with seen parts key base (all_sides turns) → home_of base new ≡ remounted seen parts key (home_of base old)
remounts seen parts key base old turns new first rest = λ i. record { base = base; sides = (rest ∙ ap (mounted_with seen parts key base) first) i }

pub remounts_none : (seen : Seen) (key : Option Code) (base : ℕ) (old turns : List Slot) → all_sides turns ≡ map turned (all_sides old) → home_of base turns ≡ remounted seen [] key (home_of base old)
remounts_none seen key base old turns first = remounts seen [] key base old turns turns first (sym (mounted-none seen key base (all_sides turns)))

-- the face of an id
pub sides_there : (home : Home) (id at : ℕ) → id ≡ home.base + at → sides_at home id ≡ slice_get home.sides at
sides_there home id at is = ap (λ b. if b then slice_get home.sides (id - home.base) else None) {x = nat_le home.base id} {y = true} (grind (arith, is)) ∙ ap (slice_get home.sides) {x = id - home.base} {y = at} (omega (arith, is))

pub sides_out : (home : Home) (id : ℕ) → IsOutside id home.base (length home.sides) → sides_at home id ≡ None
sides_out home id (inl below) = ap (λ b. if b then slice_get home.sides (id - home.base) else None) {x = nat_le home.base id} {y = false} (grind (arith, below))
sides_out home id (inr past) = ap (λ b. if b then slice_get home.sides (id - home.base) else None) {x = nat_le home.base id} {y = true} (grind (arith, past)) ∙ slice_get_past home.sides (id - home.base) (omega (arith, past))

module _ (base : ℕ) (slots : List Slot) (home : Home) (is_home : home_of base slots ≡ home) (id : ℕ) where
  pub face_found : (at : ℕ) (slot : Slot) → id ≡ base + at → at < length slots → slot ≡ get_or slots at slot → face_meant slot.now ≡ face_at home id
  face_found at slot is within got =
      ap (λ o. option_map_or (λ s. s.now) o blank_face) (sym (sides_there (home_of base slots) id at is ∙ slice_get-map sides_of slots at ∙ ap (option_map sides_of) (slice_get-get_or slots at slot within ∙ ap Some (sym got))))
      ∙ ap (λ h. face_at h id) is_home

  pub face_none : IsOutside id base (length slots) → blank_face ≡ face_at home id
  face_none out =
      ap (λ o. option_map_or (λ s. s.now) o blank_face) (sym (sides_out (home_of base slots) id (subst (IsOutside id base) (sym (length-map slots sides_of)) out)))
      ∙ ap (λ h. face_at h id) is_home

pub blank_is : (base count : ℕ) (slot : Slot) (slots : List Slot) → sides_of slot ≡ blank_sides → slots ≡ replicate count slot → home_of base slots ≡ blank_home base count
blank_is base count slot slots blank are = λ i. record { base = base; sides = (ap all_sides are ∙ map-replicate sides_of count slot ∙ ap (replicate count) blank) i }
