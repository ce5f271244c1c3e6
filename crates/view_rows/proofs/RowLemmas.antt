-- The mounted rows of an `each`.
use Rattle.std.proofs.Common.{◌≡◌, ℕ, zero, suc, ◌+◌, ◌<◌, Bool, true, false, Option, Some, None, List, [], ◌∷◌, ◌++◌, length, map, take, drop, slice_get, slice_set, unwrap_or, is_some, ◌≤◌, cond, ◌||◌, if◌then◌else◌, refl, inl, inr, sym, ap, subst, ◌∙◌, arith}
use Rattle.std.specs.List.{IsDistinct, AllByRecursion, list_any}
use Rattle.std.specs.Map.{lookup, keys_of}
use Rattle.std.specs.Option.{option_map, option_map_or}
use Rattle.std.proofs.lemmas.Bool.{false≢true, cases_Bool}
use Rattle.std.proofs.lemmas.List.{map-append, take_more}
use Rattle.std.proofs.lemmas.Option.{slice_get_within, get_or_from_slice_get}
use Rattle.indexmap.specs.IndexMap.{insert_entry}
use Rattle.indexmap.specs.Layout.{set_value_at}
use Rattle.values.specs.declared.code.Code.{Code}
use Rattle.values.specs.contracts.code.CodePartialEq.TheImpl.{ghosts as codes}
use Rattle.values.specs.Evaluation.{is_same}
use Rattle.store_fields.proofs.KeyLemmas.{eq_is_same, same_true, same_itself}
use Rattle.view_slots.specs.Home.{blank_home}
use Rattle.view_rows.specs.declared.table.RowPart.{RowPart}
use Rattle.view_rows.specs.Listed.{Row, count_after, counted, arranged, planned}
use Rattle.view_rows.specs.Parts.{row_of, with_row}

-- ---- look-ups by the derived test and by that of the definitions

pub at_key : {X : Type 0} (k : Code) (es : List (Code × X)) → lookup (codes.eq k) es ≡ lookup (is_same k) es
at_key k es = ap (λ (t : Code → Bool). lookup t es) (λ i q. eq_is_same k q i)

-- keys that the test of the definitions tells apart
pub apart_by_code : (ks : List Code) → IsDistinct is_same ks → IsDistinct codes.eq ks
apart_by_code ks d = subst (λ (e : Code → Code → Bool). IsDistinct e ks) (λ i a b. sym (eq_is_same a b) i) d

-- ---- rows and their entries

pub lookup-rows : (k : Code) (es : List (Code × RowPart)) → lookup (is_same k) (map with_row es) ≡ option_map row_of (lookup (is_same k) es)
lookup-rows k [] = refl
lookup-rows k (e ∷ es) = ap (cond (is_same k e.0) (Some (row_of e.1))) (lookup-rows k es) ∙ by (is_same k e.0)
  where
    by : (b : Bool) → cond b (Some (row_of e.1)) (option_map row_of (lookup (is_same k) es)) ≡ option_map row_of (cond b (Some e.1) (lookup (is_same k) es))
    by true = refl
    by false = refl

pub value-set : (es : List (Code × RowPart)) (i : ℕ) (k : Code) (row : Row) (part : RowPart) → slice_get (map with_row es) i ≡ Some (k, row) → map with_row (set_value_at es i part) ≡ slice_set (map with_row es) i (k, row_of part)
value-set [] i k row part is = cc
value-set (e ∷ es) zero k row part is = let pair : with_row e ≡ (k, row) = cc in λ j. ((pair j).0, row_of part) ∷ map with_row es
value-set (e ∷ es) (suc i) k row part is = ap (λ l. with_row e ∷ l) (value-set es i k row part is)

pub set-same : {X : Type 0} (xs : List X) (i : ℕ) (x : X) → slice_get xs i ≡ Some x → slice_set xs i x ≡ xs
set-same [] i x is = refl
set-same (y ∷ ys) zero x is = let same : x ≡ y = cc in ap (λ z. z ∷ ys) same
set-same (y ∷ ys) (suc i) x is = ap (λ l. y ∷ l) (set-same ys i x is)

-- ---- one more key

pub take_one : {X : Type 0} (xs : List X) (i : ℕ) (x : X) → slice_get xs i ≡ Some x → take (i + 1) xs ≡ take i xs ++ x ∷ []
take_one xs i x is = take_more xs i x (slice_get_within xs i x is) ∙ ap (λ y. take i xs ++ y ∷ []) (get_or_from_slice_get xs i x x is)

module _ (base width : ℕ) (old : List (Code × Row)) where
  pub counted-snoc : (ks : List Code) (k : Code) (next : ℕ) → counted old (ks ++ k ∷ []) next ≡ count_after (lookup (is_same k) old) (counted old ks next)
  counted-snoc [] k next = refl
  counted-snoc (x ∷ xs) k next = counted-snoc xs k (count_after (lookup (is_same x) old) next)

  pub arranged-snoc : (ks : List Code) (k : Code) (next : ℕ) → arranged base width old (ks ++ k ∷ []) next ≡ arranged base width old ks next ++ (k, unwrap_or (lookup (is_same k) old) (counted old ks next, blank_home base width)) ∷ []
  arranged-snoc [] k next = refl
  arranged-snoc (x ∷ xs) k next = ap (λ l. (x, unwrap_or (lookup (is_same x) old) (next, blank_home base width)) ∷ l) (arranged-snoc xs k (count_after (lookup (is_same x) old) next))

  pub planned-snoc : (ks : List Code) (k : Code) (next : ℕ) → planned base width old (ks ++ k ∷ []) next ≡ planned base width old ks next ++ (k, option_map_or (λ known. (0, blank_home 0 0)) (lookup (is_same k) old) (counted old ks next, blank_home base width)) ∷ []
  planned-snoc [] k next = refl
  planned-snoc (x ∷ xs) k next = ap (λ l. (x, option_map_or (λ known. (0, blank_home 0 0)) (lookup (is_same x) old) (next, blank_home base width)) ∷ l) (planned-snoc xs k (count_after (lookup (is_same x) old) next))

  -- the row of a key, arranged and planned
  pub record At (ks : List Code) (next i : ℕ) (k : Code) : Type 0 where
    pub serial : ℕ
    pub row : slice_get (arranged base width old ks next) i ≡ Some (k, unwrap_or (lookup (is_same k) old) (serial, blank_home base width))
    pub room : slice_get (planned base width old ks next) i ≡ Some (k, option_map_or (λ known. (0, blank_home 0 0)) (lookup (is_same k) old) (serial, blank_home base width))

  pub rows_at : (ks : List Code) (next i : ℕ) (k : Code) → slice_get ks i ≡ Some k → At ks next i k
  rows_at [] next i k is = cc
  rows_at (x ∷ xs) next zero k is = let same : x ≡ k = cc in record {
    serial = next;
    row = λ j. Some (same j, unwrap_or (lookup (is_same (same j)) old) (next, blank_home base width));
    room = λ j. Some (same j, option_map_or (λ known. (0, blank_home 0 0)) (lookup (is_same (same j)) old) (next, blank_home base width));
  }
  rows_at (x ∷ xs) next (suc i) k is = let rest = rows_at xs (count_after (lookup (is_same x) old) next) i k is in record { serial = rest.serial; row = rest.row; room = rest.room }

-- the first ones from one list and the others from another
pub mixed-at : {X : Type 0} (ls rs : List X) (i : ℕ) (a b : X) → slice_get ls i ≡ Some a → slice_get rs i ≡ Some b → slice_get (take i ls ++ drop i rs) i ≡ Some b
mixed-at [] rs i a b is now = cc
mixed-at (x ∷ xs) [] i a b is now = cc
mixed-at (x ∷ xs) (y ∷ ys) zero a b is now = now
mixed-at (x ∷ xs) (y ∷ ys) (suc i) a b is now = mixed-at xs ys i a b is now

pub mixed-step : {X : Type 0} (ls rs : List X) (i : ℕ) (a b : X) → slice_get ls i ≡ Some a → slice_get rs i ≡ Some b → slice_set (take i ls ++ drop i rs) i a ≡ take (suc i) ls ++ drop (suc i) rs
mixed-step [] rs i a b is now = cc
mixed-step (x ∷ xs) [] i a b is now = cc
mixed-step (x ∷ xs) (y ∷ ys) zero a b is now = let same : a ≡ x = cc in ap (λ z. z ∷ ys) same
mixed-step (x ∷ xs) (y ∷ ys) (suc i) a b is now = ap (λ l. x ∷ l) (mixed-step xs ys i a b is now)

-- ---- a key that is not there yet

pub at_recursion : {X : Type 0} (P : X → Type 0) (xs : List X) (i : ℕ) (x : X) → AllByRecursion P xs → slice_get xs i ≡ Some x → P x
at_recursion P [] i x all is = cc
at_recursion P (y ∷ ys) zero x all is = let e : y ≡ x = cc in subst P e all.0
at_recursion P (y ∷ ys) (suc i) x all is = at_recursion P ys i x all.1 is

apart : (e : Code → Code → Bool) (ks : List Code) (i : ℕ) (k : Code) → IsDistinct e ks → slice_get ks i ≡ Some k → AllByRecursion (λ y. e y k ≡ false) (take i ks)
unfolding IsDistinct
apart e [] i k d is = cc
apart e (x ∷ xs) zero k d is = tt
apart e (x ∷ xs) (suc i) k d is = (at_recursion (λ y. e x y ≡ false) xs i k d.0 is, apart e xs i k d.1 is)

pub other_way : (k y : Code) → codes.eq y k ≡ false → codes.eq k y ≡ false
other_way k y h = elim (cases_Bool (codes.eq k y)) [
  | inl e ↦
      let same : k ≡ y = same_true k y (sym (eq_is_same k y) ∙ e) in
      let both : codes.eq y k ≡ true = ap (codes.eq y) same ∙ eq_is_same y y ∙ same_itself y in
      absurd (false≢true (sym h ∙ both))
  | inr e ↦ e
]

insert_absent : {X : Type 0} (es : List (Code × X)) (k : Code) (v : X) → AllByRecursion (λ y. codes.eq y k ≡ false) (keys_of es) → insert_entry codes.eq es k v ≡ es ++ (k, v) ∷ []
insert_absent [] k v all = refl
insert_absent (e ∷ es) k v all =
    ap (λ b. if b then (e.0, v) ∷ es else e ∷ insert_entry codes.eq es k v) (other_way k e.0 all.0) ∙ ap (λ l. e ∷ l) (insert_absent es k v all.1)

pub inserted_last : {X : Type 0} (es : List (Code × X)) (ks : List Code) (i : ℕ) (k : Code) (v : X) → IsDistinct codes.eq ks → keys_of es ≡ take i ks → slice_get ks i ≡ Some k → insert_entry codes.eq es k v ≡ es ++ (k, v) ∷ []
inserted_last es ks i k v d same is = insert_absent es k v (subst (AllByRecursion (λ y. codes.eq y k ≡ false)) (sym same) (apart codes.eq ks i k d is))

pub keys_more : {X : Type 0} (es : List (Code × X)) (ks : List Code) (i : ℕ) (k : Code) (v : X) → keys_of es ≡ take i ks → slice_get ks i ≡ Some k → keys_of (es ++ (k, v) ∷ []) ≡ take (i + 1) ks
keys_more {X} es ks i k v same is = map-append (λ (e : Code × X). e.0) es ((k, v) ∷ []) ∙ ap (λ l. l ++ k ∷ []) same ∙ sym (take_one ks i k is)

none_of : (k : Code) (ks : List Code) → AllByRecursion (λ y. codes.eq y k ≡ false) ks → list_any (λ y. is_same y k) ks ≡ false
none_of k [] all = refl
none_of k (y ∷ ys) all = ap (λ b. b || list_any (λ z. is_same z k) ys) (sym (eq_is_same y k) ∙ all.0) ∙ none_of k ys all.1

-- a key is not among the earlier ones
pub new_key : (ks : List Code) (i : ℕ) (k : Code) → IsDistinct codes.eq ks → slice_get ks i ≡ Some k → list_any (λ y. is_same y k) (take i ks) ≡ false
new_key ks i k d is = none_of k (take i ks) (apart codes.eq ks i k d is)

any-snoc : (p : Code → Bool) (xs : List Code) (x : Code) → list_any p (xs ++ x ∷ []) ≡ false → (list_any p xs ≡ false) × (p x ≡ false)
any-snoc p [] x h = (refl, by (p x) h)
  where
    by : (b : Bool) → (b || false) ≡ false → b ≡ false
    by true e = e
    by false e = refl
any-snoc p (y ∷ ys) x h = by (p y) refl h (any-snoc p ys x)
  where
    by : (b : Bool) → p y ≡ b → (b || list_any p (ys ++ x ∷ [])) ≡ false → (list_any p (ys ++ x ∷ []) ≡ false → (list_any p ys ≡ false) × (p x ≡ false)) → (list_any p (y ∷ ys) ≡ false) × (p x ≡ false)
    by true e bad more = absurd (false≢true (sym bad))
    by false e rest more = let both = more rest in (ap (λ b. b || list_any p ys) e ∙ both.0, both.1)

pub not_yet : (ks : List Code) (i : ℕ) (k q : Code) → slice_get ks i ≡ Some k → list_any (λ y. is_same y q) (take (i + 1) ks) ≡ false → (list_any (λ y. is_same y q) (take i ks) ≡ false) × (is_same k q ≡ false)
not_yet ks i k q is h = any-snoc (λ y. is_same y q) (take i ks) k (ap (list_any (λ y. is_same y q)) (sym (take_one ks i k is)) ∙ h)

-- ---- whole lists

pub all_of_it : {X : Type 0} (xs : List X) (i : ℕ) → length xs ≤ i → take i xs ≡ xs
all_of_it [] zero h = refl
all_of_it [] (suc i) h = refl
all_of_it (x ∷ xs) zero h = absurd (omega (arith, h))
all_of_it (x ∷ xs) (suc i) h = ap (λ l. x ∷ l) (all_of_it xs i (omega (arith, h)))

pub none_left : {X : Type 0} (xs : List X) (i : ℕ) → length xs ≤ i → drop i xs ≡ []
none_left [] zero h = refl
none_left [] (suc i) h = refl
none_left (x ∷ xs) zero h = absurd (omega (arith, h))
none_left (x ∷ xs) (suc i) h = none_left xs i (omega (arith, h))

pub set-length : {X : Type 0} (xs : List X) (i : ℕ) (x : X) → length (slice_set xs i x) ≡ length xs
set-length [] i x = refl
set-length (y ∷ ys) zero x = refl
set-length (y ∷ ys) (suc i) x = ap suc (set-length ys i x)

pub within : {X : Type 0} (xs : List X) (i : ℕ) → i < length xs → (x : X) × (slice_get xs i ≡ Some x)
within [] i h = absurd (omega (arith, h))
within (x ∷ xs) zero h = (x, refl)
within (x ∷ xs) (suc i) h = within xs i (omega (arith, h))

pub mixed-end : (base width : ℕ) (old : List (Code × Row)) (ks : List Code) (next i : ℕ) → length ks ≤ i → take i (arranged base width old ks next) ++ drop i (planned base width old ks next) ≡ arranged base width old ks next
mixed-end base width old [] next zero h = refl
mixed-end base width old [] next (suc i) h = refl
mixed-end base width old (k ∷ ks) next zero h = absurd (omega (arith, h))
mixed-end base width old (k ∷ ks) next (suc i) h = ap (λ l. (k, unwrap_or (lookup (is_same k) old) (next, blank_home base width)) ∷ l) (mixed-end base width old ks (count_after (lookup (is_same k) old) next) i (omega (arith, h)))

-- ---- what the map answers

pub known : (k : Code) (es : List (Code × RowPart)) → is_some (lookup (codes.eq k) es) ≡ true → (row : Row) × (lookup (is_same k) (map with_row es) ≡ Some row)
known k es h = by (lookup (codes.eq k) es) refl h
  where
    by : (o : Option RowPart) → lookup (codes.eq k) es ≡ o → is_some o ≡ true → (row : Row) × (lookup (is_same k) (map with_row es) ≡ Some row)
    by None e bad = absurd (false≢true bad)
    by (Some part) e there = (row_of part, lookup-rows k es ∙ ap (option_map row_of) (sym (at_key k es) ∙ e))

pub unknown : (k : Code) (es : List (Code × RowPart)) → is_some (lookup (codes.eq k) es) ≡ false → lookup (is_same k) (map with_row es) ≡ None
unknown k es h = by (lookup (codes.eq k) es) refl h
  where
    by : (o : Option RowPart) → lookup (codes.eq k) es ≡ o → is_some o ≡ false → lookup (is_same k) (map with_row es) ≡ None
    by None e none = lookup-rows k es ∙ ap (option_map row_of) (sym (at_key k es) ∙ e)
    by (Some part) e bad = absurd (false≢true (sym bad))

pub room_or : (o : Option Row) (room d : Row) → unwrap_or o (option_map_or (λ known. room) o d) ≡ unwrap_or o d
room_or None room d = refl
room_or (Some row) room d = refl

-- ---- rows that are changed one by one

change-step : {X : Type 0} (f : X → X) (xs : List X) (i : ℕ) (x : X) → slice_get xs i ≡ Some x → take (suc i) (slice_set xs i (f x)) ++ map f (drop (suc i) (slice_set xs i (f x))) ≡ take i xs ++ map f (drop i xs)
change-step f [] i x is = cc
change-step f (y ∷ ys) zero x is = let same : x ≡ y = cc in λ k. f (same k) ∷ map f ys
change-step f (y ∷ ys) (suc i) x is = ap (λ l. y ∷ l) (change-step f ys i x is)

pub change-more : {X : Type 0} (f : X → X) (xs : List X) (i : ℕ) (x : X) → slice_get xs i ≡ Some x → take (i + 1) (slice_set xs i (f x)) ++ map f (drop (i + 1) (slice_set xs i (f x))) ≡ take i xs ++ map f (drop i xs)
change-more f xs i x is = ap (λ n. take n (slice_set xs i (f x)) ++ map f (drop n (slice_set xs i (f x)))) {x = i + 1} {y = suc i} (omega arith) ∙ change-step f xs i x is
