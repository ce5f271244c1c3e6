-- Serials: who keeps one, and who takes which.
use Rattle.std.proofs.Common.{◌≡◌, ℕ, suc, ◌+◌, ◌≤◌, ◌<◌, min, inl, inr, ◌⊎◌, if◌then◌else◌, Bool, true, false, length, List, [], ◌∷◌, map, Option, Some, None, unwrap_or, refl, sym, ap, subst, ◌∙◌, arith}
use Rattle.std.specs.Option.{option_map}
use Rattle.values.specs.declared.code.Code.{Code}
use Rattle.values.specs.Evaluation.{is_same}
use Rattle.outside.specs.Counts.{last_count}
use Rattle.component_items.specs.declared.component.Item.{Item}
use Rattle.plain_evaluation.proofs.Places.{same_code}
use Rattle.view_meaning.specs.Counted.{AreCounted}
use Rattle.view_meaning.specs.Mounted.{Seen, Mounted, no_rows, nothing_mounted, mounted_again, mounted_after}
use Rattle.view_meaning.specs.Parts.{keys_mounted}
use Rattle.view_meaning.specs.Serials.{Rows, serial_among, next_after, numbered, next_behind, rows_again, one_if_fresh, fresh_among, before_it}

-- ---- the keys before one

none_inside : (x : Code) (o : Option (List Code)) → option_map (λ before. x ∷ before) o ≡ None → o ≡ None
none_inside x None is = refl
none_inside x (Some inner) is = cc

some_inside : (x : Code) (o : Option (List Code)) (before : List Code) → option_map (λ more. x ∷ more) o ≡ Some before → (inner : List Code) × (o ≡ Some inner) × (before ≡ x ∷ inner)
some_inside x None before is = cc
some_inside x (Some inner) before is = (inner, refl, cc)

-- ---- one key

pub absent : (old : List (Code × ℕ)) (keys : List Code) (next : ℕ) (key : Code) → before_it keys key ≡ None → serial_among (numbered old keys next) key ≡ None
absent old [] next key none = refl
absent old (x ∷ keys) next key none = at (is_same x key) none (λ later. absent old keys (next_after (serial_among old x) next) key later)
  where
    at : (b : Bool) → (if b then Some [] else option_map (λ before. x ∷ before) (before_it keys key)) ≡ None → (before_it keys key ≡ None → serial_among (numbered old keys (next_after (serial_among old x) next)) key ≡ None) → (if b then Some (unwrap_or (serial_among old x) next) else serial_among (numbered old keys (next_after (serial_among old x) next)) key) ≡ None
    at true none later = cc
    at false none later = later (none_inside x (before_it keys key) none)

pub kept : (old : List (Code × ℕ)) (keys : List Code) (next : ℕ) (key : Code) (serial : ℕ) (before : List Code) → before_it keys key ≡ Some before → serial_among old key ≡ Some serial → serial_among (numbered old keys next) key ≡ Some serial
kept old [] next key serial before is had = cc
kept old (x ∷ keys) next key serial before is had = at (is_same x key) refl is (λ inner there. kept old keys (next_after (serial_among old x) next) key serial inner there had)
  where
    at : (b : Bool) → is_same x key ≡ b → (if b then Some [] else option_map (λ more. x ∷ more) (before_it keys key)) ≡ Some before → ((inner : List Code) → before_it keys key ≡ Some inner → serial_among (numbered old keys (next_after (serial_among old x) next)) key ≡ Some serial) → (if b then Some (unwrap_or (serial_among old x) next) else serial_among (numbered old keys (next_after (serial_among old x) next)) key) ≡ Some serial
    at true same is later = ap (λ (o : Option ℕ). Some (unwrap_or o next)) (ap (serial_among old) (same_code x key same) ∙ had)
    at false same is later = let m = some_inside x (before_it keys key) before is in later m.0 m.1

-- ---- fresh ones

min_step : (n f last : ℕ) → n ≤ last → min (min (n + 1) last + f) last ≡ min (n + suc f) last
min_step n f last most = omega arith

min_first : (n last : ℕ) → n ≤ last → n ≡ min (n + 0) last
min_first n last most = omega arith

min_below : (n last : ℕ) → min n last ≤ last
min_below n last = omega arith

after_most : (o : Option ℕ) (next : ℕ) → next ≤ last_count → next_after o next ≤ last_count
after_most None next most = min_below (next + 1) last_count
after_most (Some serial) next most = most

min_after : (o : Option ℕ) (next f : ℕ) → next ≤ last_count → min (next_after o next + f) last_count ≡ min (next + one_if_fresh o f) last_count
min_after None next f most = min_step next f last_count most
min_after (Some serial) next f most = refl

pub fresh_serial : (old : List (Code × ℕ)) (keys : List Code) (next : ℕ) (key : Code) (before : List Code) → next ≤ last_count → before_it keys key ≡ Some before → serial_among old key ≡ None → serial_among (numbered old keys next) key ≡ Some (min (next + fresh_among old before) last_count)
fresh_serial old [] next key before most is none = cc
fresh_serial old (x ∷ keys) next key before most is none = at (is_same x key) refl is (λ inner there. fresh_serial old keys (next_after (serial_among old x) next) key inner (after_most (serial_among old x) next most) there none)
  where
    at : (b : Bool) → is_same x key ≡ b → (if b then Some [] else option_map (λ more. x ∷ more) (before_it keys key)) ≡ Some before → ((inner : List Code) → before_it keys key ≡ Some inner → serial_among (numbered old keys (next_after (serial_among old x) next)) key ≡ Some (min (next_after (serial_among old x) next + fresh_among old inner) last_count)) → (if b then Some (unwrap_or (serial_among old x) next) else serial_among (numbered old keys (next_after (serial_among old x) next)) key) ≡ Some (min (next + fresh_among old before) last_count)
    at true same is later =
        let e : [] ≡ before = cc in
        ap (λ (o : Option ℕ). Some (unwrap_or o next)) (ap (serial_among old) (same_code x key same) ∙ none)
        ∙ ap Some (min_first next last_count most)
        ∙ ap (λ l. Some (min (next + fresh_among old l) last_count)) e
    at false same is later =
        let m = some_inside x (before_it keys key) before is in
        later m.0 m.1
        ∙ ap Some (min_after (serial_among old x) next (fresh_among old m.0) most)
        ∙ ap (λ l. Some (min (next + fresh_among old l) last_count)) (sym m.2)

pub behind_is : (old : List (Code × ℕ)) (keys : List Code) (next : ℕ) → next ≤ last_count → next_behind old keys next ≡ min (next + fresh_among old keys) last_count
behind_is old [] next most = min_first next last_count most
behind_is old (x ∷ keys) next most = behind_is old keys (next_after (serial_among old x) next) (after_most (serial_among old x) next most) ∙ min_after (serial_among old x) next (fresh_among old keys) most

-- ---- how many fresh ones come before

more_fresh : (o : Option ℕ) (a b : ℕ) → a < b → one_if_fresh o a < one_if_fresh o b
more_fresh None a b lt = omega arith
more_fresh (Some serial) a b lt = lt

as_many : (o : Option ℕ) (a b : ℕ) → one_if_fresh o a ≡ one_if_fresh o b → a ≡ b
as_many None a b is = cc
as_many (Some serial) a b is = is

one_more : (o : Option ℕ) (a : ℕ) → o ≡ None → 0 < one_if_fresh o a
one_more None a is = omega arith
one_more (Some serial) a is = cc

fresh_first : (old : List (Code × ℕ)) (x key : Code) → is_same x key ≡ true → serial_among old key ≡ None → serial_among old x ≡ None
fresh_first old x key same none = ap (serial_among old) (same_code x key same) ∙ none

pub fewer_before : (old : List (Code × ℕ)) (keys : List Code) (key : Code) (before : List Code) → before_it keys key ≡ Some before → serial_among old key ≡ None → fresh_among old before < fresh_among old keys
fewer_before old [] key before is none = cc
fewer_before old (x ∷ keys) key before is none = at (is_same x key) refl is (λ inner there. fewer_before old keys key inner there none)
  where
    at : (b : Bool) → is_same x key ≡ b → (if b then Some [] else option_map (λ more. x ∷ more) (before_it keys key)) ≡ Some before → ((inner : List Code) → before_it keys key ≡ Some inner → fresh_among old inner < fresh_among old keys) → fresh_among old before < one_if_fresh (serial_among old x) (fresh_among old keys)
    at true same is later =
        let e : [] ≡ before = cc in
        subst (λ l. fresh_among old l < one_if_fresh (serial_among old x) (fresh_among old keys)) e (one_more (serial_among old x) (fresh_among old keys) (fresh_first old x key same none))
    at false same is later =
        let m = some_inside x (before_it keys key) before is in
        subst (λ l. fresh_among old l < one_if_fresh (serial_among old x) (fresh_among old keys)) (sym m.2) (more_fresh (serial_among old x) (fresh_among old m.0) (fresh_among old keys) (later m.0 m.1))

-- of two fresh keys, as many fresh ones come before each only where they are one
pub one_key : (old : List (Code × ℕ)) (keys : List Code) (key other : Code) (before more : List Code) → before_it keys key ≡ Some before → before_it keys other ≡ Some more → serial_among old key ≡ None → serial_among old other ≡ None → fresh_among old before ≡ fresh_among old more → key ≡ other
one_key old [] key other before more is also none nor many = cc
one_key old (x ∷ keys) key other before more is also none nor many = at (is_same x key) (is_same x other) refl refl is also (λ b m there too same. one_key old keys key other b m there too none nor same)
  where
    first : (inner : List Code) → before ≡ [] → more ≡ x ∷ inner → serial_among old x ≡ None → key ≡ other
    first inner a b free =
        let lt : 0 < one_if_fresh (serial_among old x) (fresh_among old inner) = one_more (serial_among old x) (fresh_among old inner) free in
        let e : 0 ≡ one_if_fresh (serial_among old x) (fresh_among old inner) = sym (ap (fresh_among old) a) ∙ many ∙ ap (fresh_among old) b in
        absurd (omega (arith, lt, e))

    second : (inner : List Code) → before ≡ x ∷ inner → more ≡ [] → serial_among old x ≡ None → key ≡ other
    second inner a b free =
        let lt : 0 < one_if_fresh (serial_among old x) (fresh_among old inner) = one_more (serial_among old x) (fresh_among old inner) free in
        let e : one_if_fresh (serial_among old x) (fresh_among old inner) ≡ 0 = sym (ap (fresh_among old) a) ∙ many ∙ ap (fresh_among old) b in
        absurd (omega (arith, lt, e))

    at : (b c : Bool) → is_same x key ≡ b → is_same x other ≡ c → (if b then Some [] else option_map (λ t. x ∷ t) (before_it keys key)) ≡ Some before → (if c then Some [] else option_map (λ t. x ∷ t) (before_it keys other)) ≡ Some more → ((b m : List Code) → before_it keys key ≡ Some b → before_it keys other ≡ Some m → fresh_among old b ≡ fresh_among old m → key ≡ other) → key ≡ other
    at true true same too is also later = sym (same_code x key same) ∙ same_code x other too
    at true false same too is also later =
        let m = some_inside x (before_it keys other) more also in
        let e : before ≡ [] = cc in
        first m.0 e m.2 (fresh_first old x key same none)
    at false true same too is also later =
        let m = some_inside x (before_it keys key) before is in
        let e : more ≡ [] = cc in
        second m.0 m.2 e (fresh_first old x other too nor)
    at false false same too is also later =
        let m = some_inside x (before_it keys key) before is in
        let n = some_inside x (before_it keys other) more also in
        later m.0 n.0 m.1 n.1 (as_many (serial_among old x) (fresh_among old m.0) (fresh_among old n.0) (sym (ap (fresh_among old) m.2) ∙ many ∙ ap (fresh_among old) n.2))

-- of two keys of which the first is fresh, fewer fresh ones come before the one that comes first
pub comes_first : (old : List (Code × ℕ)) (keys : List Code) (key other : Code) (before more : List Code) → before_it keys key ≡ Some before → before_it keys other ≡ Some more → serial_among old key ≡ None → length before < length more → fresh_among old before < fresh_among old more
comes_first old [] key other before more is also none shorter = cc
comes_first old (x ∷ keys) key other before more is also none shorter = at (is_same x key) (is_same x other) refl is also (λ b m there too fewer. comes_first old keys key other b m there too none fewer)
  where
    at : (b c : Bool) → is_same x key ≡ b → (if b then Some [] else option_map (λ t. x ∷ t) (before_it keys key)) ≡ Some before → (if c then Some [] else option_map (λ t. x ∷ t) (before_it keys other)) ≡ Some more → ((b m : List Code) → before_it keys key ≡ Some b → before_it keys other ≡ Some m → length b < length m → fresh_among old b < fresh_among old m) → fresh_among old before < fresh_among old more
    at true true same is also later =
        let e : more ≡ [] = cc in
        let long : length more ≡ 0 = ap length e in
        absurd (omega (arith, long, shorter))
    at true false same is also later =
        let m = some_inside x (before_it keys other) more also in
        let e : [] ≡ before = cc in
        subst (λ l. fresh_among old l < fresh_among old more) e (subst (λ l. 0 < fresh_among old l) (sym m.2) (one_more (serial_among old x) (fresh_among old m.0) (fresh_first old x key same none)))
    at false true same is also later =
        let e : more ≡ [] = cc in
        let long : length more ≡ 0 = ap length e in
        absurd (omega (arith, long, shorter))
    at false false same is also later =
        let m = some_inside x (before_it keys key) before is in
        let n = some_inside x (before_it keys other) more also in
        let first : length before ≡ suc (length m.0) = ap length m.2 in
        let second : length more ≡ suc (length n.0) = ap length n.2 in
        let fewer : length m.0 < length n.0 = omega (arith, first, second, shorter) in
        let both = more_fresh (serial_among old x) (fresh_among old m.0) (fresh_among old n.0) (later m.0 n.0 m.1 n.1 fewer) in
        subst (λ l. fresh_among old l < fresh_among old more) (sym m.2) (subst (λ l. one_if_fresh (serial_among old x) (fresh_among old m.0) < fresh_among old l) (sym n.2) both)

-- ---- a mounted row was there, or is fresh

abbrev IsFresh : List (Code × ℕ) → List Code → ℕ → Code → ℕ → Type 0
IsFresh old keys next key serial = (before : List Code) × (before_it keys key ≡ Some before) × (serial_among old key ≡ None) × (serial ≡ min (next + fresh_among old before) last_count)

which : (old : List (Code × ℕ)) (keys : List Code) (next : ℕ) (key : Code) (serial : ℕ) → next ≤ last_count → serial_among (numbered old keys next) key ≡ Some serial → (serial_among old key ≡ Some serial) ⊎ IsFresh old keys next key serial
which old keys next key serial most is = at (before_it keys key) refl (serial_among old key) refl
  where
    at : (b : Option (List Code)) → before_it keys key ≡ b → (o : Option ℕ) → serial_among old key ≡ o → (serial_among old key ≡ Some serial) ⊎ IsFresh old keys next key serial
    at None e o f = let a = absent old keys next key e in absurd cc
    at (Some before) e (Some s) f = let k = kept old keys next key s before e f in inl (f ∙ sym k ∙ is)
    at (Some before) e None f = let k = fresh_serial old keys next key before most e f in inr (before, e, f, cc)

sum_is : (n f last behind : ℕ) → behind ≡ min (n + f) last → behind < last → n + f ≡ behind
sum_is n f last behind is lt = omega arith

part_is : (n f all last behind serial : ℕ) → behind ≡ min (n + all) last → behind < last → f ≤ all → serial ≡ min (n + f) last → serial ≡ n + f
part_is n f all last behind serial is lt few s = omega arith

-- the serial of a fresh row, where the count does not stand at its last value
fresh_is : (old : List (Code × ℕ)) (keys : List Code) (next : ℕ) (key : Code) (serial : ℕ) → next ≤ last_count → next_behind old keys next < last_count → (fresh : IsFresh old keys next key serial) → (serial ≡ next + fresh_among old fresh.0) × (serial < next_behind old keys next)
fresh_is old keys next key serial most lt fresh =
    let fewer = fewer_before old keys key fresh.0 fresh.1 fresh.2 in
    let behind = behind_is old keys next most in
    let is = part_is next (fresh_among old fresh.0) (fresh_among old keys) last_count (next_behind old keys next) serial behind lt (omega (arith, fewer)) fresh.3 in
    let sum = sum_is next (fresh_among old keys) last_count (next_behind old keys next) behind lt in
    (is, omega (arith, is, sum, fewer))

-- ---- all rows

pub none_counted : AreCounted no_rows
none_counted = record { counted = omega arith; below = λ lt key serial is. cc; differ = λ lt key other serial is also. cc }

module _ (old : Rows) (keys : List Code) (before : AreCounted old) where
  abbrev behind : ℕ
  behind = next_behind old.rows keys old.next

  grown : behind < last_count → (old.next < last_count) × (old.next ≤ behind)
  grown lt =
      let sum = sum_is old.next (fresh_among old.rows keys) last_count behind (behind_is old.rows keys old.next before.counted) lt in
      (omega (arith, sum, lt), omega (arith, sum))

  below_again : behind < last_count → (key : Code) (serial : ℕ) → serial_among (numbered old.rows keys old.next) key ≡ Some serial → serial < behind
  below_again lt key serial is = elim (which old.rows keys old.next key serial before.counted is) [
    | inl had ↦ let g = grown lt in let b = before.below g.0 key serial had in omega (arith, g.1, b)
    | inr fresh ↦ (fresh_is old.rows keys old.next key serial before.counted lt fresh).1
  ]

  -- one that was there is below each fresh one
  pub older : behind < last_count → (key other : Code) (serial more : ℕ) → serial_among old.rows key ≡ Some serial → IsFresh old.rows keys old.next other more → serial < more
  older lt key other serial more had fresh =
      let b = before.below (grown lt).0 key serial had in
      let f = (fresh_is old.rows keys old.next other more before.counted lt fresh).0 in
      omega (arith, b, f)

  differ_again : behind < last_count → (key other : Code) (serial : ℕ) → serial_among (numbered old.rows keys old.next) key ≡ Some serial → serial_among (numbered old.rows keys old.next) other ≡ Some serial → key ≡ other
  differ_again lt key other serial is also = elim (which old.rows keys old.next key serial before.counted is) [
    | inl had ↦ elim (which old.rows keys old.next other serial before.counted also) [
      | inl too ↦ before.differ (grown lt).0 key other serial had too
      | inr fresh ↦ let o = older lt key other serial serial had fresh in absurd (omega (arith, o))
    ]
    | inr fresh ↦ elim (which old.rows keys old.next other serial before.counted also) [
      | inl too ↦ let o = older lt other key serial serial too fresh in absurd (omega (arith, o))
      | inr more ↦
          let a = (fresh_is old.rows keys old.next key serial before.counted lt fresh).0 in
          let b = (fresh_is old.rows keys old.next other serial before.counted lt more).0 in
          one_key old.rows keys key other fresh.0 more.0 fresh.1 more.1 fresh.2 more.2 (omega (arith, a, b))
    ]
  ]

  pub counted_again : AreCounted (rows_again old keys)
  counted_again = record {
    counted = subst (λ n. n ≤ last_count) (sym (behind_is old.rows keys old.next before.counted)) (min_below (old.next + fresh_among old.rows keys) last_count);
    below = below_again;
    differ = differ_again;
  }

  -- a fresh row comes behind those that were there
  pub later_rows : behind < last_count → (key other : Code) (serial more : ℕ) → serial_among old.rows key ≡ Some serial → serial_among old.rows other ≡ None → serial_among (numbered old.rows keys old.next) other ≡ Some more → serial < more
  later_rows lt key other serial more had none is = elim (which old.rows keys old.next other more before.counted is) [
    | inl too ↦ absurd cc
    | inr fresh ↦ older lt key other serial more had fresh
  ]

  -- and fresh rows come in the store's order
  pub fresh_rows : behind < last_count → (key other : Code) (first second : List Code) (serial more : ℕ) → before_it keys key ≡ Some first → before_it keys other ≡ Some second → length first < length second → serial_among old.rows key ≡ None → serial_among old.rows other ≡ None → serial_among (numbered old.rows keys old.next) key ≡ Some serial → serial_among (numbered old.rows keys old.next) other ≡ Some more → serial < more
  fresh_rows lt key other first second serial more there also shorter none nor is too =
      let k = fresh_serial old.rows keys old.next key first before.counted there none in
      let o = fresh_serial old.rows keys old.next other second before.counted also nor in
      let a = (fresh_is old.rows keys old.next key serial before.counted lt (first, there, none, cc)).0 in
      let b = (fresh_is old.rows keys old.next other more before.counted lt (second, also, nor, cc)).0 in
      let c = comes_first old.rows keys key other first second there also none shorter in
      omega (arith, a, b, c)

-- in each view that was ever made
counted_from : (items : List Item) (seens : List Seen) (mounted : Mounted) → ((id : ℕ) → AreCounted (mounted.rows id)) → (id : ℕ) → AreCounted ((mounted_after items seens mounted).rows id)
counted_from items [] mounted before id = before id
counted_from items (seen ∷ seens) mounted before id = counted_from items seens (mounted_again items seen mounted) (λ e. counted_again (mounted.rows e) (keys_mounted (mounted_again items seen mounted).parts e) (before e)) id

pub counted_ever : (items : List Item) (seens : List Seen) (id : ℕ) → AreCounted ((mounted_after items seens nothing_mounted).rows id)
counted_ever items seens id = counted_from items seens nothing_mounted (λ e. none_counted) id

-- rows stand in the store's order
pub keys_numbered : (old : List (Code × ℕ)) (keys : List Code) (next : ℕ) → map (λ pair. pair.0) (numbered old keys next) ≡ keys
keys_numbered old [] next = refl
keys_numbered old (key ∷ keys) next = ap (λ more. key ∷ more) (keys_numbered old keys (next_after (serial_among old key) next))
