-- Sets of numbers below a bound, as the list that says of each number whether it is in.
use Rattle.std.specs.Prelude.{◌≡◌, ℕ, ◌+◌, ◌/◌, ◌%◌, ◌^◌, ◌<◌, ◌≤◌, Bool, true, false, ◌==◌, if◌then◌else◌, List, [], ◌∷◌, length, map, drop, slice_get, slice_index, Option, Some, None}
use Rattle.std.specs.List.{range_with_len}
use Rattle.std.specs.Int.{bit_at}

-- the number is in the set
abbrev pub IsIn : List Bool → ℕ → Type 0
IsIn set number = slice_get set number ≡ Some true

-- the least number that may come after it
abbrev pub floor_of : Option ℕ → ℕ
floor_of None = 0
floor_of (Some number) = number + 1

-- the least member from a number on
pub record IsLeastFrom (set : List Bool) (from number : ℕ) : Type 0 where
  pub member : IsIn set number
  pub from_on : from ≤ number
  pub least : (other : ℕ) → from ≤ other → other < number → ¬ IsIn set other

-- no member is there from a number on
pub record IsEmptyFrom (set : List Bool) (from : ℕ) : Type 0 where
  pub none : (number : ℕ) → from ≤ number → ¬ IsIn set number

-- the members of a set whose first number is `first`, in order
abbrev pub members_at : ℕ → List Bool → List ℕ
members_at first [] = []
members_at first (here ∷ set) = if here then first ∷ members_at (first + 1) set else members_at (first + 1) set

-- the members from a number on, in order
abbrev pub members_from : List Bool → ℕ → List ℕ
members_from set from = members_at from (drop from set)

-- how many words of 64 bits hold a set of numbers below `bits`
abbrev pub word_count : ℕ → ℕ
word_count bits = (bits + 63) / 64

-- the number is one of the 64 that this word stands for, and its bit is 1
pub record IsInWord (index word number : ℕ) : Type 0 where
  pub place : number / 64 ≡ index
  pub bit : bit_at word (number % 64) ≡ 1

-- whether the words have a 1 at this place
unfoldable pub bit_in : List ℕ → ℕ → Bool
bit_in words number = bit_at (slice_index words (number / 64)) (number % 64) == 1

-- the set of numbers below `bits` that the words hold
unfoldable pub set_of : List ℕ → ℕ → List Bool
set_of words bits = map (bit_in words) (range_with_len 0 bits)

-- words that hold a set of numbers below `bits`, and nothing else
pub record HoldsSet (words : List ℕ) (bits : ℕ) : Type 0 where
  pub few : bits < 2 ^ 32
  pub long : length words ≡ word_count bits
  pub none_above : (number : ℕ) → bits ≤ number → bit_in words number ≡ false

-- the least 1 of the words from a place on
pub record IsLeastBit (words : List ℕ) (from number : ℕ) : Type 0 where
  pub one : bit_in words number ≡ true
  pub from_on : from ≤ number
  pub zeroes : (other : ℕ) → from ≤ other → other < number → bit_in words other ≡ false

-- the words are 0 from a place on
pub record AreZeroFrom (words : List ℕ) (from : ℕ) : Type 0 where
  pub zeroes : (other : ℕ) → from ≤ other → bit_in words other ≡ false
