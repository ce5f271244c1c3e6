-- Sets of numbers in words of 64 bits.
use Rattle.std.proofs.Common.{◌≡◌, ◌≢◌, ℕ, zero, suc, IsTrue, IfSome, IfNone, MatchOption, nat_eq, ◌+◌, ◌-◌, ◌*◌, ◌/◌, ◌%◌, ◌^◌, ◌<◌, ◌≤◌, List, [], ◌∷◌, slice_get, length, get_or, set, drop, replicate, Option, Some, None, ◌⊎◌, inl, inr, refl, sym, ap, ◌∙◌, arith, Bool, true, false, ◌==◌, not, bit_or, bit_and, get_or-set_other, get_or-set_same}
use Rattle.std.specs.Int.{bit_at, trailing_zeros, w64}
use Rattle.std.proofs.lemmas.List.{ext_get_or, get_or_past, get_or-replicate, length-set, length-replicate, drop-drop}
use Rattle.std.proofs.lemmas.List.FromFn.{length-map-range_with_len, get_or-map-range_with_len}
use Rattle.std.proofs.lemmas.Option.{slice_get_within, slice_get-get_or}
use Rattle.std.proofs.lemmas.Bool.{cases_lt}
use Rattle.std.proofs.lemmas.Nat.Bits.{bit_at-zero, bit_at-lt, bit_at_or, bit_at_set_same, bit_at_set_other, bit_at-trailing_zeros, bit_at_and, bit_at_mask_inside, bit_at_mask_below, shr_and_one}
use Rattle.sources.specs.Bits.{IsIn, bit_in, set_of, word_count, HoldsSet, IsLeastBit, AreZeroFrom, IsLeastFrom, IsEmptyFrom, IsInWord, members_at, members_from}

is_one : (n : ℕ) → (n == 1) ≡ true → n ≡ 1
is_one n h = grind arith

one_is : (n : ℕ) → n ≡ 1 → (n == 1) ≡ true
one_is n h = grind arith

zero_is : (n : ℕ) → n ≡ 0 → (n == 1) ≡ false
zero_is n h = grind arith

not_one : (n : ℕ) → n < 2 → (n == 1) ≡ false → n ≡ 0
not_one n l h = grind arith

same_or_other : (a b : ℕ) → (a ≡ b) ⊎ (a ≢ b)
same_or_other a b = elim (cases_lt a b) [ inl l ↦ inr (λ e. omega arith) | inr g ↦ elim (cases_lt b a) [ inl l ↦ inr (λ e. omega arith) | inr k ↦ inl (omega arith) ] ]

-- a bit of the words, by its word and its place there
pub bit_in-at : (words : List ℕ) (number index place : ℕ) → number ≡ 64 * index + place → place < 64 → bit_in words number ≡ (bit_at (get_or words index 0) place == 1)
unfolding bit_in
bit_in-at words number index place h l =
    let i : number / 64 ≡ index = omega arith in
    let p : number % 64 ≡ place = omega arith in
    rw (i, p) refl

pub bit_in-one : (words : List ℕ) (number : ℕ) → bit_in words number ≡ true → bit_at (get_or words (number / 64) 0) (number % 64) ≡ 1
unfolding bit_in
bit_in-one words number h = is_one (bit_at (get_or words (number / 64) 0) (number % 64)) h

pub one-bit_in : (words : List ℕ) (number : ℕ) → bit_at (get_or words (number / 64) 0) (number % 64) ≡ 1 → bit_in words number ≡ true
unfolding bit_in
one-bit_in words number h = one_is (bit_at (get_or words (number / 64) 0) (number % 64)) h

-- a word of 0 has no 1
pub bit_in-zero : (words : List ℕ) (number : ℕ) → get_or words (number / 64) 0 ≡ 0 → bit_in words number ≡ false
unfolding bit_in
bit_in-zero words number h = rw h (zero_is (bit_at 0 (number % 64)) (bit_at-zero (number % 64)))

pub bit_in-past : (words : List ℕ) (number : ℕ) → length words ≤ number / 64 → bit_in words number ≡ false
bit_in-past words number h = bit_in-zero words number (get_or_past words (number / 64) 0 h)

-- a 1 stands below the bound
pub bit_below : (words : List ℕ) (bits number : ℕ) → HoldsSet words bits → bit_in words number ≡ true → number < bits
bit_below words bits number holds h = elim (cases_lt number bits) [ inl l ↦ l | inr g ↦ (let no = holds.none_above number g in cc) ]

pub length-set_of : (words : List ℕ) (bits : ℕ) → length (set_of words bits) ≡ bits
unfolding set_of
length-set_of words bits = length-map-range_with_len (bit_in words) 0 bits

pub get_or-set_of : (words : List ℕ) (bits number : ℕ) → number < bits → get_or (set_of words bits) number false ≡ bit_in words number
unfolding set_of
get_or-set_of words bits number l = get_or-map-range_with_len (bit_in words) 0 bits number number false l (omega arith)

pub slice_get-set_of : (words : List ℕ) (bits number : ℕ) → number < bits → slice_get (set_of words bits) number ≡ Some (bit_in words number)
slice_get-set_of words bits number l =
    slice_get-get_or (set_of words bits) number false (let e = length-set_of words bits in omega arith) ∙ ap Some (get_or-set_of words bits number l)

pub IsIn-bit : (words : List ℕ) (bits number : ℕ) → IsIn (set_of words bits) number → bit_in words number ≡ true
IsIn-bit words bits number h =
    let l : number < bits = (let w = slice_get_within (set_of words bits) number true h in let e = length-set_of words bits in omega arith) in
    let e = slice_get-set_of words bits number l in
    cc

pub bit-IsIn : (words : List ℕ) (bits number : ℕ) → HoldsSet words bits → bit_in words number ≡ true → IsIn (set_of words bits) number
bit-IsIn words bits number holds h = slice_get-set_of words bits number (bit_below words bits number holds h) ∙ ap Some h

-- two sets of numbers below one bound are equal where their words' bits are
pub same_set : (words others : List ℕ) (bits : ℕ) → ((number : ℕ) → number < bits → bit_in words number ≡ bit_in others number) → set_of words bits ≡ set_of others bits
same_set words others bits same =
    ext_get_or false (set_of words bits) (set_of others bits) (length-set_of words bits ∙ sym (length-set_of others bits)) (λ number l. at number (let e = length-set_of words bits in omega arith))
  where
    at : (number : ℕ) → number < bits → get_or (set_of words bits) number false ≡ get_or (set_of others bits) number false
    at number l = get_or-set_of words bits number l ∙ same number l ∙ sym (get_or-set_of others bits number l)

-- ---- nothing is in words of 0

get_or-zeroes : (count i : ℕ) → ◌≡◌ {A = ℕ} (get_or (replicate count 0) i 0) 0
get_or-zeroes count i = elim (cases_lt i count) [ inl l ↦ get_or-replicate count i 0 0 l | inr g ↦ get_or_past (replicate count 0) i 0 (let e : length (replicate {A = ℕ} count 0) ≡ count = length-replicate count 0 in omega (arith, e)) ]

pub bit_in-zeroes : (count number : ℕ) → bit_in (replicate count 0) number ≡ false
bit_in-zeroes count number = bit_in-zero (replicate count 0) number (get_or-zeroes count (number / 64))

pub HoldsSet-zeroes : (count bits : ℕ) → bits < 2 ^ 32 → count ≡ word_count bits → HoldsSet (replicate count 0) bits
HoldsSet-zeroes count bits l h = record { few = l; long = length-replicate count 0 ∙ h; none_above = λ number l. bit_in-zeroes count number }

pub set_of-zeroes : (count bits : ℕ) → set_of (replicate count 0) bits ≡ replicate bits false
set_of-zeroes count bits =
    ext_get_or false (set_of (replicate count 0) bits) (replicate bits false) (length-set_of (replicate count 0) bits ∙ sym (length-replicate bits false)) (λ number l. at number (let e = length-set_of (replicate count 0) bits in omega arith))
  where
    at : (number : ℕ) → number < bits → get_or (set_of (replicate count 0) bits) number false ≡ get_or (replicate bits false) number false
    at number l = get_or-set_of (replicate count 0) bits number l ∙ bit_in-zeroes count number ∙ sym (get_or-replicate bits number false false l)

-- ---- a word with more ones

-- another word's bits stay
pub bit_in-set_other : (words : List ℕ) (index word number : ℕ) → number / 64 ≢ index → bit_in (set words index word) number ≡ bit_in words number
unfolding bit_in
bit_in-set_other words index word number other = ap (λ w. bit_at w (number % 64) == 1) (get_or-set_other words index (number / 64) word 0 other)

pub bit_in-set_same : (words : List ℕ) (index word number : ℕ) → number / 64 ≡ index → index < length words → bit_in (set words index word) number ≡ (bit_at word (number % 64) == 1)
unfolding bit_in
bit_in-set_same words index word number same within = rw same (ap (λ w. bit_at w (number % 64) == 1) (get_or-set_same words index word 0 within))

-- the bit of an or
or_one : (a b i : ℕ) → bit_at (bit_or a b) i ≡ 1 → (bit_at a i ≡ 1) ⊎ (bit_at b i ≡ 1)
or_one a b i h =
    let e = bit_at_or a b i in let l = bit_at-lt a i in let m = bit_at-lt b i in
    elim (cases_lt (bit_at a i) 1) [ inl x ↦ inr (omega arith) | inr x ↦ inl (omega arith) ]

one_or_left : (a b i : ℕ) → bit_at a i ≡ 1 → bit_at (bit_or a b) i ≡ 1
one_or_left a b i h = let e = bit_at_or a b i in let m = bit_at-lt b i in omega arith

one_or_right : (a b i : ℕ) → bit_at b i ≡ 1 → bit_at (bit_or a b) i ≡ 1
one_or_right a b i h = let e = bit_at_or a b i in let m = bit_at-lt a i in omega arith

-- the words after these bits were put into one of them
abbrev pub with_ones : List ℕ → ℕ → ℕ → List ℕ
with_ones words index ones = set words index (bit_or (get_or words index 0) ones)

pub bit_in-with_ones : (words : List ℕ) (index ones number : ℕ) → index < length words → bit_in (with_ones words index ones) number ≡ true → (bit_in words number ≡ true) ⊎ IsInWord index ones number
bit_in-with_ones words index ones number within h = elim (same_or_other (number / 64) index) [
  | inl same ↦
      (let one : bit_at (bit_or (get_or words index 0) ones) (number % 64) ≡ 1 = is_one (bit_at (bit_or (get_or words index 0) ones) (number % 64)) (sym (bit_in-set_same words index (bit_or (get_or words index 0) ones) number same within) ∙ h) in
      elim (or_one (get_or words index 0) ones (number % 64) one) [
        | inl a ↦ inl (one-bit_in words number (rw same a))
        | inr b ↦ inr (record { place = same; bit = b })
      ])
  | inr other ↦ inl (sym (bit_in-set_other words index (bit_or (get_or words index 0) ones) number other) ∙ h)
]

pub kept-with_ones : (words : List ℕ) (index ones number : ℕ) → index < length words → bit_in words number ≡ true → bit_in (with_ones words index ones) number ≡ true
kept-with_ones words index ones number within h = elim (same_or_other (number / 64) index) [
  | inl same ↦
      (let a : bit_at (get_or words index 0) (number % 64) ≡ 1 = rw same at (bit_in-one words number h) in
      bit_in-set_same words index (bit_or (get_or words index 0) ones) number same within
      ∙ one_is (bit_at (bit_or (get_or words index 0) ones) (number % 64)) (one_or_left (get_or words index 0) ones (number % 64) a))
  | inr other ↦ bit_in-set_other words index (bit_or (get_or words index 0) ones) number other ∙ h
]

pub put-with_ones : (words : List ℕ) (index ones number : ℕ) → index < length words → IsInWord index ones number → bit_in (with_ones words index ones) number ≡ true
put-with_ones words index ones number within put =
    bit_in-set_same words index (bit_or (get_or words index 0) ones) number put.place within
    ∙ one_is (bit_at (bit_or (get_or words index 0) ones) (number % 64)) (one_or_right (get_or words index 0) ones (number % 64) put.bit)

false_unless : (b : Bool) → (b ≡ true → ⊥) → b ≡ false
false_unless true h = absurd (h refl)
false_unless false h = refl

pub HoldsSet-with_ones : (words : List ℕ) (bits index ones : ℕ) → HoldsSet words bits → index < length words → ((number : ℕ) → IsInWord index ones number → number < bits) → HoldsSet (with_ones words index ones) bits
HoldsSet-with_ones words bits index ones holds within below = record {
  few = holds.few;
  long = length-set words index (bit_or (get_or words index 0) ones) ∙ holds.long;
  none_above = λ number l. false_unless (bit_in (with_ones words index ones) number) (λ h. elim (bit_in-with_ones words index ones number within h) [
    | inl old ↦ (let no = holds.none_above number l in cc)
    | inr put ↦ (let b = below number put in absurd (omega arith))
  ]);
}

pub members-with_ones : (words : List ℕ) (bits index ones : ℕ) → HoldsSet words bits → index < length words → ((number : ℕ) → IsInWord index ones number → number < bits) → (number : ℕ) → (IsIn (set_of (with_ones words index ones) bits) number → IsIn (set_of words bits) number ⊎ IsInWord index ones number) × (IsIn (set_of words bits) number ⊎ IsInWord index ones number → IsIn (set_of (with_ones words index ones) bits) number)
members-with_ones words bits index ones holds within below number = (
  λ h. elim (bit_in-with_ones words index ones number within (IsIn-bit (with_ones words index ones) bits number h)) [
    | inl old ↦ inl (bit-IsIn words bits number holds old)
    | inr put ↦ inr put
  ],
  λ h. bit-IsIn (with_ones words index ones) bits number (HoldsSet-with_ones words bits index ones holds within below) (either h),
)
  where
    either : IsIn (set_of words bits) number ⊎ IsInWord index ones number → bit_in (with_ones words index ones) number ≡ true
    either (inl old) = kept-with_ones words index ones number within (IsIn-bit words bits number old)
    either (inr put) = put-with_ones words index ones number within put

-- ---- one more number

-- the bit that the code puts in
abbrev pub one_bit : ℕ → ℕ
one_bit place = 1 * 2 ^ place % 2 ^ 64

pub bit_in-add_same : (words : List ℕ) (bit : ℕ) → bit / 64 < length words → bit_in (with_ones words (bit / 64) (one_bit (bit % 64))) bit ≡ true
bit_in-add_same words bit within =
    let w = get_or words (bit / 64) 0 in
    bit_in-set_same words (bit / 64) (bit_or w (one_bit (bit % 64))) bit refl within
    ∙ one_is (bit_at (bit_or w (one_bit (bit % 64))) (bit % 64)) (bit_at_set_same w64 w (bit % 64) (omega arith))

pub bit_in-add_other : (words : List ℕ) (bit number : ℕ) → bit / 64 < length words → number ≢ bit → bit_in (with_ones words (bit / 64) (one_bit (bit % 64))) number ≡ bit_in words number
bit_in-add_other words bit number within other = elim (same_or_other (number / 64) (bit / 64)) [
  | inl same ↦
      (let w = get_or words (bit / 64) 0 in
      let place : number % 64 ≢ bit % 64 = (λ e. other (omega arith)) in
      bit_in-set_same words (bit / 64) (bit_or w (one_bit (bit % 64))) number same within
      ∙ ap (λ n. n == 1) (bit_at_set_other w64 w (bit % 64) (omega arith) (number % 64) place)
      ∙ sym (bit_in-at words number (bit / 64) (number % 64) (omega arith) (omega arith)))
  | inr apart ↦ bit_in-set_other words (bit / 64) (bit_or (get_or words (bit / 64) 0) (one_bit (bit % 64))) number apart
]

pub HoldsSet-add : (words : List ℕ) (bits bit : ℕ) → HoldsSet words bits → bit < bits → bit / 64 < length words → HoldsSet (with_ones words (bit / 64) (one_bit (bit % 64))) bits
HoldsSet-add words bits bit holds below within = record {
  few = holds.few;
  long = length-set words (bit / 64) (bit_or (get_or words (bit / 64) 0) (one_bit (bit % 64))) ∙ holds.long;
  none_above = λ number l. bit_in-add_other words bit number within (λ e. omega arith) ∙ holds.none_above number l;
}

pub set_of-add : (words : List ℕ) (bits bit : ℕ) → bit < bits → bit / 64 < length words → set_of (with_ones words (bit / 64) (one_bit (bit % 64))) bits ≡ set (set_of words bits) bit true
set_of-add words bits bit below within =
    let new = with_ones words (bit / 64) (one_bit (bit % 64)) in
    ext_get_or false (set_of new bits) (set (set_of words bits) bit true) (length-set_of new bits ∙ sym (length-set (set_of words bits) bit true ∙ length-set_of words bits)) (λ number l. at number (let e = length-set_of new bits in omega arith) (same_or_other number bit))
  where
    at : (number : ℕ) → number < bits → (number ≡ bit) ⊎ (number ≢ bit) → get_or (set_of (with_ones words (bit / 64) (one_bit (bit % 64))) bits) number false ≡ get_or (set (set_of words bits) bit true) number false
    at number l (inl same) =
        get_or-set_of (with_ones words (bit / 64) (one_bit (bit % 64))) bits number l
        ∙ rw same (bit_in-add_same words bit within ∙ sym (get_or-set_same (set_of words bits) bit true false (let e = length-set_of words bits in omega arith)))
    at number l (inr other) =
        get_or-set_of (with_ones words (bit / 64) (one_bit (bit % 64))) bits number l
        ∙ bit_in-add_other words bit number within other
        ∙ sym (get_or-set_other (set_of words bits) bit number true false other ∙ get_or-set_of words bits number l)

-- ---- the next member

pub IsLeastFrom-bit : (words : List ℕ) (bits from number : ℕ) → HoldsSet words bits → IsLeastBit words from number → IsLeastFrom (set_of words bits) from number
IsLeastFrom-bit words bits from number holds h = record {
  member = bit-IsIn words bits number holds h.one;
  from_on = h.from_on;
  least = λ other l m is. let no = h.zeroes other l m in let yes = IsIn-bit words bits other is in cc;
}

pub IsEmptyFrom-bits : (words : List ℕ) (bits from : ℕ) → AreZeroFrom words from → IsEmptyFrom (set_of words bits) from
IsEmptyFrom-bits words bits from h = record {
  none = λ number l is. let no = h.zeroes number l in let yes = IsIn-bit words bits number is in cc;
}

-- ---- the least 1

-- the word with its low bits taken out
abbrev pub masked : ℕ → ℕ → ℕ
masked word place = bit_and word (2 ^ 64 - 2 ^ place)

masked_above : (word place i : ℕ) → place ≤ i → i < 64 → bit_at (masked word place) i ≡ bit_at word i
masked_above word place i h l =
    let e = bit_at_and word (2 ^ 64 - 2 ^ place) i in
    let one = bit_at_mask_inside place 64 i h l in
    let b = bit_at-lt word i in
    omega arith

masked_below : (word place i : ℕ) → i < place → bit_at (masked word place) i ≡ 0
masked_below word place i h =
    let e = bit_at_and word (2 ^ 64 - 2 ^ place) i in
    let no = bit_at_mask_below place 64 i h in
    omega arith

-- a 1 that has only zeroes below it in its word, from a place of that word on
pub IsLeastBit-in_word : (words : List ℕ) (from index place found : ℕ) → from ≡ 64 * index + place → place ≤ found → found < 64 → bit_at (get_or words index 0) found ≡ 1 → ((i : ℕ) → place ≤ i → i < found → bit_at (get_or words index 0) i ≡ 0) → IsLeastBit words from (index * 64 + found)
IsLeastBit-in_word words from index place found at on l one none = record {
  one = bit_in-at words (index * 64 + found) index found (omega arith) l ∙ one_is (bit_at (get_or words index 0) found) one;
  from_on = omega arith;
  zeroes = λ other h m. (let i = other - 64 * index in
      bit_in-at words other index i (omega arith) (omega arith) ∙ zero_is (bit_at (get_or words index 0) i) (none i (omega arith) (omega arith)));
}

pub IsLeastBit-masked : (words : List ℕ) (from rest : ℕ) → rest ≡ masked (get_or words (from / 64) 0) (from % 64) → 0 < rest → rest < 2 ^ 64 → IsLeastBit words from (from / 64 * 64 + trailing_zeros w64 rest)
IsLeastBit-masked words from rest is some small =
    let w = get_or words (from / 64) 0 in
    let place = from % 64 in
    let t = trailing_zeros w64 rest in
    let low = bit_at-trailing_zeros w64 rest some small in
    let one : bit_at (masked w place) t ≡ 1 = ap (λ n. bit_at n t) (sym is) ∙ low.1 in
    let on : place ≤ t = elim (cases_lt t place) [ inl l ↦ (let no = masked_below w place t l in absurd (omega arith)) | inr g ↦ g ] in
    IsLeastBit-in_word words from (from / 64) place t (omega arith) on low.0 (sym (masked_above w place t on low.0) ∙ one) (λ i h m. sym (masked_above w place i h (let l = low.0 in omega arith)) ∙ ap (λ n. bit_at n i) (sym is) ∙ low.2 i m)

pub zeroes-masked : (words : List ℕ) (from : ℕ) → masked (get_or words (from / 64) 0) (from % 64) ≡ 0 → (other : ℕ) → from ≤ other → other < 64 * (from / 64 + 1) → bit_in words other ≡ false
zeroes-masked words from none other h m =
    let w = get_or words (from / 64) 0 in
    let i = other - 64 * (from / 64) in
    bit_in-at words other (from / 64) i (omega arith) (omega arith)
    ∙ zero_is (bit_at w i) (sym (masked_above w (from % 64) i (omega arith) (omega arith)) ∙ ap (λ n. bit_at n i) none ∙ bit_at-zero i)

pub IsLeastBit-later : (words : List ℕ) (from middle number : ℕ) → from ≤ middle → ((other : ℕ) → from ≤ other → other < middle → bit_in words other ≡ false) → IsLeastBit words middle number → IsLeastBit words from number
IsLeastBit-later words from middle number h none least = record {
  one = least.one;
  from_on = let l = least.from_on in omega arith;
  zeroes = λ other l m. elim (cases_lt other middle) [ inl k ↦ none other l k | inr g ↦ least.zeroes other g m ];
}

pub AreZeroFrom-later : (words : List ℕ) (from middle : ℕ) → ((other : ℕ) → from ≤ other → other < middle → bit_in words other ≡ false) → AreZeroFrom words middle → AreZeroFrom words from
AreZeroFrom-later words from middle none zero_on = record {
  zeroes = λ other l. elim (cases_lt other middle) [ inl k ↦ none other l k | inr g ↦ zero_on.zeroes other g ];
}

pub AreZeroFrom-past : (words : List ℕ) (from : ℕ) → length words ≤ from / 64 → AreZeroFrom words from
AreZeroFrom-past words from h = record { zeroes = λ other l. bit_in-past words other (omega arith) }

-- the next word is 0 too
pub zeroes_more : (words : List ℕ) (first index : ℕ) → ((other : ℕ) → 64 * first ≤ other → other < 64 * index → bit_in words other ≡ false) → get_or words index 0 ≡ 0 → (other : ℕ) → 64 * first ≤ other → other < 64 * (index + 1) → bit_in words other ≡ false
zeroes_more words first index before none other l m = elim (cases_lt other (64 * index)) [
  | inl k ↦ before other l k
  | inr g ↦ bit_in-zero words other (let at : other / 64 ≡ index = omega arith in rw at none)
]

-- ---- the members from a number on

pub slice_get_drop : {A : Type 0} (n : ℕ) (xs : List A) (k : ℕ) → slice_get (drop n xs) k ≡ slice_get xs (n + k)
slice_get_drop zero xs k = let e : zero + k ≡ k = omega arith in rw e refl
slice_get_drop (suc n) [] k = refl
slice_get_drop (suc n) (x ∷ xs) k = let e : suc n + k ≡ suc (n + k) = omega arith in rw e (slice_get_drop n xs k)

members_at-none : (set : List Bool) (first : ℕ) → ((k : ℕ) → slice_get set k ≡ Some true → ⊥) → members_at first set ≡ []
members_at-none [] first none = refl
members_at-none (true ∷ set) first none = absurd (none zero refl)
members_at-none (false ∷ set) first none = members_at-none set (first + 1) (λ k e. none (suc k) e)

members_at-least : (set : List Bool) (first m : ℕ) → slice_get set m ≡ Some true → ((k : ℕ) → k < m → slice_get set k ≡ Some true → ⊥) → members_at first set ≡ (first + m) ∷ members_at (first + m + 1) (drop (suc m) set)
members_at-least [] first m is none = cc
members_at-least (true ∷ set) first zero is none = let e : first + zero ≡ first = omega arith in rw e refl
members_at-least (false ∷ set) first zero is none = cc
members_at-least (true ∷ set) first (suc m) is none = absurd (none zero (omega arith) refl)
members_at-least (false ∷ set) first (suc m) is none =
    let e : first + suc m ≡ first + 1 + m = omega arith in
    rw e (members_at-least set (first + 1) m is (λ k l f. none (suc k) (omega arith) f))

pub members_from-empty : (set : List Bool) (from : ℕ) → IsEmptyFrom set from → members_from set from ≡ []
members_from-empty set from empty = members_at-none (drop from set) from (λ k e. empty.none (from + k) (omega arith) (sym (slice_get_drop from set k) ∙ e))

pub members_from-least : (set : List Bool) (from number : ℕ) → IsLeastFrom set from number → members_from set from ≡ number ∷ members_from set (number + 1)
members_from-least set from number least =
    let m = number - from in
    let on = least.from_on in
    let there : from + m ≡ number = omega arith in
    let next : from + suc m ≡ number + 1 = omega arith in
    let is : slice_get (drop from set) m ≡ Some true = slice_get_drop from set m ∙ rw there least.member in
    let none : (k : ℕ) → k < m → slice_get (drop from set) k ≡ Some true → ⊥ = (λ k l e. least.least (from + k) (omega arith) (omega arith) (sym (slice_get_drop from set k) ∙ e)) in
    members_at-least (drop from set) from m is none
    ∙ (rw (there, drop-drop (suc m) from set, next) refl)

pub rest_of : (set : List Bool) (from : ℕ) (next : Option ℕ) → IfSome next (IsLeastFrom set from) → IfNone next (IsEmptyFrom set from) → MatchOption next (members_from set from ≡ []) (λ n. members_from set from ≡ n ∷ members_from set (n + 1))
rest_of set from None some none = members_from-empty set from none
rest_of set from (Some n) some none = members_from-least set from n some

-- ---- what the code tests

pub has_bit : (set : List Bool) (word number : ℕ) → ((bit : ℕ) → bit < 64 → (bit_at word bit ≡ 1 → IsIn set (64 * (number / 64) + bit)) × (IsIn set (64 * (number / 64) + bit) → bit_at word bit ≡ 1)) → (IsTrue (nat_eq (bit_and (word / 2 ^ (number % 64)) 1) 1) → IsIn set number) × (IsIn set number → IsTrue (nat_eq (bit_and (word / 2 ^ (number % 64)) 1) 1))
has_bit set word number h =
    let both = h (number % 64) (omega arith) in
    let at : 64 * (number / 64) + number % 64 ≡ number = omega arith in
    let e = shr_and_one word (number % 64) in (
      λ t. let one : bit_at word (number % 64) ≡ 1 = grind arith in let is = both.0 one in rw at at is,
      λ is. let back : IsIn set (64 * (number / 64) + number % 64) = rw at is in let one = both.1 back in rw (e, one) refl,
    )

not_true : (b : Bool) (P : Type 0) → (IsTrue b → P) × (P → IsTrue b) → (IsTrue (not b) → P → ⊥) × ((P → ⊥) → IsTrue (not b))
not_true true P h = (λ t p. absurd (grind (arith, t)), λ none. absurd (none (h.0 refl)))
not_true false P h = (λ t p. absurd (grind (arith, h.1 p)), λ none. refl)

pub is_new_bit : (set : List Bool) (word number : ℕ) → ((bit : ℕ) → bit < 64 → (bit_at word bit ≡ 1 → IsIn set (64 * (number / 64) + bit)) × (IsIn set (64 * (number / 64) + bit) → bit_at word bit ≡ 1)) → (IsTrue (not (nat_eq (bit_and (word / 2 ^ (number % 64)) 1) 1)) → IsIn set number → ⊥) × ((IsIn set number → ⊥) → IsTrue (not (nat_eq (bit_and (word / 2 ^ (number % 64)) 1) 1)))
is_new_bit set word number h = not_true (nat_eq (bit_and (word / 2 ^ (number % 64)) 1) 1) (IsIn set number) (has_bit set word number h)

pub word_bits : (words : List ℕ) (bits index : ℕ) → HoldsSet words bits → (bit : ℕ) → bit < 64 → (bit_at (get_or words index 0) bit ≡ 1 → IsIn (set_of words bits) (64 * index + bit)) × (IsIn (set_of words bits) (64 * index + bit) → bit_at (get_or words index 0) bit ≡ 1)
word_bits words bits index holds bit l =
    let e = bit_in-at words (64 * index + bit) index bit refl l in (
      λ one. bit-IsIn words bits (64 * index + bit) holds (e ∙ one_is (bit_at (get_or words index 0) bit) one),
      λ is. is_one (bit_at (get_or words index 0) bit) (sym e ∙ IsIn-bit words bits (64 * index + bit) is),
    )

-- ---- the rest of the code's goals

pub within_words : (words : List ℕ) (bits number : ℕ) → HoldsSet words bits → number < bits → number / 64 < length words
within_words words bits number holds l = let e = holds.long in omega arith

pub IsLeastBit-word : (words : List ℕ) (first index : ℕ) → first ≤ index → ((other : ℕ) → 64 * first ≤ other → other < 64 * index → bit_in words other ≡ false) → 0 < get_or words index 0 → get_or words index 0 < 2 ^ 64 → IsLeastBit words (64 * first) (index * 64 + trailing_zeros w64 (get_or words index 0))
IsLeastBit-word words first index h none some small =
    let low = bit_at-trailing_zeros w64 (get_or words index 0) some small in
    IsLeastBit-later words (64 * first) (64 * index) (index * 64 + trailing_zeros w64 (get_or words index 0)) (omega arith) none
    (IsLeastBit-in_word words (64 * index) index 0 (trailing_zeros w64 (get_or words index 0)) (omega arith) (omega arith) low.0 low.1 (λ i l m. low.2 i m))

pub AreZeroFrom-end : (words : List ℕ) (first index : ℕ) → length words ≤ index → ((other : ℕ) → 64 * first ≤ other → other < 64 * index → bit_in words other ≡ false) → AreZeroFrom words (64 * first)
AreZeroFrom-end words first index h none = AreZeroFrom-later words (64 * first) (64 * index) none (AreZeroFrom-past words (64 * index) (omega arith))

pub some-later : (words : List ℕ) (from middle : ℕ) (next : Option ℕ) → from ≤ middle → ((other : ℕ) → from ≤ other → other < middle → bit_in words other ≡ false) → IfSome next (IsLeastBit words middle) → IfSome next (IsLeastBit words from)
some-later words from middle None h none least = least
some-later words from middle (Some number) h none least = IsLeastBit-later words from middle number h none least

pub none-later : (words : List ℕ) (from middle : ℕ) (next : Option ℕ) → ((other : ℕ) → from ≤ other → other < middle → bit_in words other ≡ false) → IfNone next (AreZeroFrom words middle) → IfNone next (AreZeroFrom words from)
none-later words from middle None none zeroes = AreZeroFrom-later words from middle none zeroes
none-later words from middle (Some number) none zeroes = zeroes

pub where_none : {A : Type 0} (next : Option A) (P : Type 0) → P → IfNone next P
where_none None P p = p
where_none (Some x) P p = tt
