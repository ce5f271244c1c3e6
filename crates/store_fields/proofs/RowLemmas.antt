-- The entries of a map that holds each row at its key, and what edits do to them.
use Rattle.std.proofs.Common.{Result, Ok, Err, IfOk, OnErr, ◌≡◌, ℕ, suc, ◌+◌, ◌-◌, ◌<◌, ◌≤◌, Bool, true, false, not, Option, Some, None, List, [], ◌∷◌, ◌++◌, length, map, take, drop, min, nat_le, insert, remove, slice_get, slice_set, option_map, refl, sym, ap, subst, ◌∙◌, cond, nat_lt, zero, get_or, is_some, ◌⊎◌, inl, inr, arith, position, if◌then◌else◌, ◌==◌}
use Rattle.std.proofs.lemmas.Map.Keys.{IsDistinct-head, IsDistinct-tail}
use Rattle.std.specs.List.{All, AllByRecursion, IsDistinct, prefix_len, position_or_len, take-map, drop-map}
use Rattle.std.specs.Option.{option_map_or}
use Rattle.std.proofs.lemmas.Bool.{cases_Bool, eqb-true}
use Rattle.std.specs.Map.{keys_of, values_of}
use Rattle.std.proofs.lemmas.List.{map-append}
use Rattle.std.proofs.lemmas.Option.{slice_get-map, slice_get-get_or, slice_get_within, get_or_from_slice_get}
use Rattle.std.proofs.lemmas.List.Sums.{prefix_len-le-length}
use Rattle.indexmap.specs.IndexMap.{index_before}
use Rattle.indexmap.specs.Layout.{set_value_at}
use Rattle.indexmap.specs.IndexMap.{insert_entry, move_index}
use Rattle.values.specs.declared.code.Code.{Code}
use Rattle.values.specs.contracts.code.CodePartialEq.TheImpl.{ghosts}
use Rattle.values.specs.declared.memory.NoMemory.{NoMemory}
use Rattle.values.specs.Evaluation.{is_same}
use Rattle.store_fields.proofs.KeyLemmas.{eq_is_same, apart_flips}
use Rattle.store_fields.specs.declared.row.Row.{Row}
use Rattle.store_fields.specs.declared.edit.EditOp.{EditOp}
use Rattle.store_fields.specs.declared.edit.EditOp.TheVariants as ops
use Rattle.store_fields.specs.declared.edit.Verdict.{Verdict}
use Rattle.store_fields.specs.declared.edit.Verdict.TheVariants.{Done, Absent, Present, AtMax}
use Rattle.std.proofs.lemmas.List.Edits.{length-remove, length-insert}
use Rattle.std.proofs.lemmas.List.Elements.{All-append, All-cons, All-take, All-drop, All-get_or}
use Rattle.store_fields.specs.Edits.{Edited, IsStore, keys, place_of, edited, made, put_at, removed, moved, moved_from, inserted, field_set, edit, rows_after, verdicts_of}
use Rattle.store_fields.specs.Table.{paired, IsPaired}

prefix_len-map : {X Y : Type 0} (p : Y → Bool) (f : X → Y) (xs : List X) → prefix_len p (map f xs) ≡ prefix_len (λ x. p (f x)) xs
prefix_len-map p f [] = refl
prefix_len-map p f (x ∷ xs) = ap (λ n. cond (p (f x)) (1 + n) 0) (prefix_len-map p f xs)

length-map_here : {X Y : Type 0} (f : X → Y) (xs : List X) → length (map f xs) ≡ length xs
length-map_here f [] = refl
length-map_here f (x ∷ xs) = ap suc (length-map_here f xs)

pub position-map : {X Y : Type 0} (p : Y → Bool) (f : X → Y) (xs : List X) → position p (map f xs) ≡ position (λ x. p (f x)) xs
position-map p f xs =
    let n = prefix_len-map (λ y. not (p y)) f xs in
    ap (λ m. cond (nat_lt m (length (map f xs))) (Some m) None) n
    ∙ ap (λ l. cond (nat_lt (prefix_len (λ x. not (p (f x))) xs) l) (Some (prefix_len (λ x. not (p (f x))) xs)) None) (length-map_here f xs)

pub remove-map : {X Y : Type 0} (f : X → Y) (xs : List X) (i : ℕ) → remove (map f xs) i ≡ map f (remove xs i)
remove-map f xs i = ap (λ a. a ++ drop (suc i) (map f xs)) (take-map f i xs) ∙ ap (λ b. map f (take i xs) ++ b) (drop-map f (suc i) xs) ∙ sym (map-append f (take i xs) (drop (suc i) xs))

pub insert-map : {X Y : Type 0} (f : X → Y) (xs : List X) (i : ℕ) (x : X) → insert (map f xs) i (f x) ≡ map f (insert xs i x)
insert-map f xs i x = ap (λ a. a ++ f x ∷ drop i (map f xs)) (take-map f i xs) ∙ ap (λ b. map f (take i xs) ++ f x ∷ b) (drop-map f i xs) ∙ sym (map-append f (take i xs) (x ∷ drop i xs))

pub values-paired : (rows : List Row) → values_of (map paired rows) ≡ rows
values-paired [] = refl
values-paired (row ∷ rows) = ap (λ r. row ∷ r) (values-paired rows)

pub keys-paired : (rows : List Row) → keys_of (map paired rows) ≡ map (λ row. row.key) rows
keys-paired [] = refl
keys-paired (row ∷ rows) = ap (λ r. row.key ∷ r) (keys-paired rows)

-- entries that are rows beside their keys are paired, and their values are the rows
pub values_are : (entries : List (Code × Row)) (rows : List Row) → entries ≡ map paired rows → values_of entries ≡ rows
values_are entries rows e = ap values_of e ∙ values-paired rows

pub IsPaired-map : (entries : List (Code × Row)) (rows : List Row) → entries ≡ map paired rows → IsPaired entries
IsPaired-map entries rows e = e ∙ ap (map paired) (sym (values_are entries rows e))

pub found : (entries : List (Code × Row)) (key : Code) → IsPaired entries → position (ghosts.eq key) (keys_of entries) ≡ place_of key (values_of entries)
found entries key p =
    let rows = values_of entries in
    ap (λ es. position (ghosts.eq key) (keys_of es)) p
    ∙ ap (position (ghosts.eq key)) (keys-paired rows)
    ∙ position-map (ghosts.eq key) (λ row. row.key) rows
    ∙ ap (λ (q : Row → Bool). position q rows) (λ i row. eq_is_same key row.key i)

-- a row that moves
pub moved-map : (rows : List Row) (from to : ℕ) → move_index (map paired rows) from to ≡ map paired (move_index rows from to)
moved-map rows from to = ap (λ o. option_map_or (λ e. insert (remove (map paired rows) from) to e) o (map paired rows)) (slice_get-map paired rows from) ∙ at (slice_get rows from)
  where
    at : (o : Option Row) → option_map_or (λ e. insert (remove (map paired rows) from) to e) (option_map paired o) (map paired rows) ≡ map paired (option_map_or (λ x. insert (remove rows from) to x) o rows)
    at None = refl
    at (Some row) = ap (λ es. insert es to (paired row)) (remove-map paired rows from) ∙ insert-map paired (remove rows from) to row

-- ---- what an edit of the map's entries is as an edit of the rows

pub removed_at : (old new : List (Code × Row)) (key : Code) (i : ℕ) → IsPaired old → Some i ≡ place_of key (values_of old) → new ≡ remove old i → (edited (values_of new) Done ≡ removed (values_of old) key) × IsPaired new
removed_at old new key i p at e =
    let rows = values_of old in
    let now : new ≡ map paired (remove rows i) = e ∙ ap (λ es. remove es i) p ∙ remove-map paired rows i in (
      ap (λ r. edited r Done) (values_are new _ now) ∙ ap (λ o. option_map_or (λ k. made (remove rows k)) o (edited rows Absent)) at,
      IsPaired-map new _ now,
    )

-- the row that stands at a place
slice_get-within : {X : Type 0} (xs : List X) (i : ℕ) → i < length xs → (x : X) × (slice_get xs i ≡ Some x)
slice_get-within [] i h = absurd (omega (arith, h))
slice_get-within (x ∷ xs) i h = (get_or (x ∷ xs) i x, slice_get-get_or (x ∷ xs) i x h)

moved_row : (rows : List Row) (key : Code) (place from : ℕ) (row : Row) → Some from ≡ place_of key rows → slice_get rows from ≡ Some row → from < length rows → made (move_index rows from (min place (length rows - 1))) ≡ moved rows key place
moved_row rows key place from row at is within =
    ap (λ o. made (option_map_or (λ x. insert (remove rows from) (min place (length rows - 1)) x) o rows)) is
    ∙ ap (λ n. made (insert (remove rows from) (min place n) row)) {x = length rows - 1} {y = length (remove rows from)} (omega (arith, length-remove rows from within))
    ∙ ap (λ o. option_map_or (λ x. made (put_at (remove rows from) place x)) o (edited rows Absent)) (sym is)
    ∙ ap (λ o. option_map_or (λ i. option_map_or (λ x. made (put_at (remove rows i) place x)) (slice_get rows i) (edited rows Absent)) o (edited rows Absent)) at

pub moved_at : (old new : List (Code × Row)) (key : Code) (place from last : ℕ) → IsPaired old → Some from ≡ place_of key (values_of old) → from < length (values_of old) → last ≡ length old - 1 → new ≡ move_index old from (min place last) → (edited (values_of new) Done ≡ moved (values_of old) key place) × IsPaired new
moved_at old new key place from last p at within is e =
    let rows = values_of old in
    let to : min place last ≡ min place (length rows - 1) = ap (λ n. min place n) (is ∙ ap (λ n. n - 1) (sym (length-map_here (λ (x : Code × Row). x.1) old))) in
    let now : new ≡ map paired (move_index rows from (min place (length rows - 1))) = e ∙ ap (λ t. move_index old from t) to ∙ ap (λ es. move_index es from (min place (length rows - 1))) p ∙ moved-map rows from _ in
    let row = slice_get-within rows from within in (
      ap (λ r. edited r Done) (values_are new _ now) ∙ moved_row rows key place from row.0 at row.1 within,
      IsPaired-map new _ now,
    )

-- ---- a new row

some_is_some : {X : Type 0} (o : Option X) → is_some o ≡ false → o ≡ None
some_is_some None h = refl
some_is_some (Some x) h = cc

-- where none passes, all of the list is passed over
pub none_first : {X : Type 0} (p : X → Bool) (xs : List X) → position p xs ≡ None → position_or_len p xs ≡ length xs
none_first p xs h = elim (cases_Bool (nat_lt (position_or_len p xs) (length xs))) [
  | inl e ↦ absurd (none≢some (sym h ∙ ap (λ b. cond b (Some (position_or_len p xs)) None) e))
  | inr e ↦ let le = prefix_len-le-length (λ x. not (p x)) xs in grind (arith, e, le)
]
  where
    none≢some : {n : ℕ} → None ≡ Some n → ⊥
    none≢some {n} e = cc

pub passed_all : {X : Type 0} (p : X → Bool) (x : X) (xs : List X) → prefix_len p (x ∷ xs) ≡ length (x ∷ xs) → (p x ≡ true) × (prefix_len p xs ≡ length xs)
passed_all p x xs h = by (p x) refl
  where
    by : (b : Bool) → p x ≡ b → (p x ≡ true) × (prefix_len p xs ≡ length xs)
    by true e = let h1 = sym (ap (λ b. cond b (1 + prefix_len p xs) 0) e) ∙ h in (e, omega (arith, h1))
    by false e = let h1 = sym (ap (λ b. cond b (1 + prefix_len p xs) 0) e) ∙ h in absurd (omega (arith, h1))

pub not_true : (b : Bool) → not b ≡ true → b ≡ false
not_true true h = cc
not_true false h = refl

entry_last : (eq : Code → Code → Bool) (old : List (Code × Row)) (k : Code) (v : Row) → position_or_len (eq k) (keys_of old) ≡ length (keys_of old) → insert_entry eq old k v ≡ old ++ (k, v) ∷ []
entry_last eq [] k v h = refl
entry_last eq (e ∷ es) k v h =
    let first = passed_all (λ x. not (eq k x)) e.0 (keys_of es) h in
    ap (λ b. if b then (e.0, v) ∷ es else e ∷ insert_entry eq es k v) (not_true (eq k e.0) first.0) ∙ ap (λ l. e ∷ l) (entry_last eq es k v first.1)

last_at : {X : Type 0} (xs : List X) (x : X) → slice_get (xs ++ x ∷ []) (length xs) ≡ Some x
last_at [] x = refl
last_at (y ∷ ys) x = last_at ys x

last_out : {X : Type 0} (xs : List X) (x : X) → remove (xs ++ x ∷ []) (length xs) ≡ xs
last_out [] x = refl
last_out (y ∷ ys) x = ap (λ l. y ∷ l) (last_out ys x)

new_at : {X : Type 0} (xs : List X) (x : X) (to : ℕ) → move_index (xs ++ x ∷ []) (length xs) to ≡ insert xs to x
new_at xs x to =
    ap (λ o. option_map_or (λ y. insert (remove (xs ++ x ∷ []) (length xs)) to y) o (xs ++ x ∷ [])) (last_at xs x)
    ∙ ap (λ l. insert l to x) (last_out xs x)

stays : (n place : ℕ) → place ≤ n → index_before n place ≡ place
stays n place h = by (cases_Bool (nat_lt n place))
  where
    by : (nat_lt n place ≡ true) ⊎ (nat_lt n place ≡ false) → index_before n place ≡ place
    by (inl e) = absurd (grind (arith, e, h))
    by (inr e) = ap (λ b. if b then place - 1 else place) e

pub inserted_at : (old new : List (Code × Row)) (max : ℕ) (row : Row) (place index : ℕ) (found_it : Option ℕ) → IsPaired old → found_it ≡ place_of row.key (values_of old) → is_some found_it ≡ false → length old < max → index ≡ index_before (position_or_len (ghosts.eq row.key) (keys_of old)) (min place (length old)) → new ≡ move_index (insert_entry ghosts.eq old row.key row) (position_or_len (ghosts.eq row.key) (keys_of old)) index → (edited (values_of new) Done ≡ inserted max (values_of old) row place) × IsPaired new
inserted_at old new max row place index found_it p at absent few index_is e =
    let rows = values_of old in
    let none : None ≡ place_of row.key rows = sym (some_is_some found_it absent) ∙ at in
    let all = none_first (ghosts.eq row.key) (keys_of old) (found old row.key p ∙ sym none) in
    let count : length (keys_of old) ≡ length old = length-map_here (λ (x : Code × Row). x.0) old in
    let count_rows : length old ≡ length rows = sym (length-map_here (λ (x : Code × Row). x.1) old) in
    let first : position_or_len (ghosts.eq row.key) (keys_of old) ≡ length old = all ∙ count in
    let to : index ≡ min place (length old) = index_is ∙ ap (λ n. index_before n (min place (length old))) first ∙ stays (length old) (min place (length old)) (omega arith) in
    let now : new ≡ map paired (insert rows (min place (length rows)) row) =
    e ∙ ap (λ es. move_index es (position_or_len (ghosts.eq row.key) (keys_of old)) index) (entry_last ghosts.eq old row.key row all)
    ∙ ap (λ n. move_index (old ++ (row.key, row) ∷ []) n index) first
    ∙ new_at old (row.key, row) index
    ∙ ap (λ n. insert old n (paired row)) to
    ∙ ap (λ n. insert old (min place n) (paired row)) count_rows
    ∙ ap (λ es. insert es (min place (length rows)) (paired row)) p
    ∙ insert-map paired rows (min place (length rows)) row
    in
    let room : nat_le max (length rows) ≡ false = grind (arith, few, count_rows) in (
      ap (λ r. edited r Done) (values_are new _ now)
          ∙ sym (ap (λ b. if b then edited rows AtMax else made (put_at rows place row)) room)
          ∙ ap (λ o. option_map_or (λ _. edited rows Present) o (if nat_le max (length rows) then edited rows AtMax else made (put_at rows place row))) none,
      IsPaired-map new _ now,
    )

-- ---- a field

set_at : (rows : List Row) (i : ℕ) (old row : Row) → slice_get rows i ≡ Some old → row.key ≡ old.key → set_value_at (map paired rows) i row ≡ map paired (slice_set rows i row)
set_at [] i old row is same = cc
set_at (r ∷ rows) zero old row is same = ap (λ k. (k, row) ∷ map paired rows) {x = r.key} {y = row.key} cc
set_at (r ∷ rows) (suc i) old row is same = ap (λ l. paired r ∷ l) (set_at rows i old row is same)

pub field_at : (old new : List (Code × Row)) (key : Code) (i field : ℕ) (value : Code) (row : Row) (fields : List Code) → IsPaired old → Some i ≡ place_of key (values_of old) → slice_get (values_of old) i ≡ Some row → fields ≡ slice_set row.fields field value → new ≡ set_value_at old i (record { key = row.key; fields = fields }) → (edited (values_of new) Done ≡ field_set (values_of old) key field value) × IsPaired new
field_at old new key i field value row fields p at is set e =
    let rows = values_of old in
    let now : new ≡ map paired (slice_set rows i (record row { fields = slice_set row.fields field value })) =
    e ∙ ap (λ fs. set_value_at old i (record { key = row.key; fields = fs })) set
    ∙ ap (λ es. set_value_at es i (record { key = row.key; fields = slice_set row.fields field value })) p
    ∙ set_at rows i row _ is refl
    in (
      ap (λ r. edited r Done) (values_are new _ now)
          ∙ ap (λ o. option_map_or (λ x. made (slice_set rows i (record x { fields = slice_set x.fields field value }))) o (edited rows Absent)) (sym is)
          ∙ ap (λ o. option_map_or (λ k. option_map_or (λ x. made (slice_set rows k (record x { fields = slice_set x.fields field value }))) (slice_get rows k) (edited rows Absent)) o (edited rows Absent)) at,
      IsPaired-map new _ now,
    )

-- ---- what holds of the rows of a store stays

All-insert : {X : Type 0} (P : X → Type 0) (xs : List X) (i : ℕ) (x : X) → All P xs → P x → All P (insert xs i x)
All-insert P xs i x all p = All-append P (take i xs) (x ∷ drop i xs) (All-take P i xs all) (All-cons P x (drop i xs) p (All-drop P i xs all))

All-remove : {X : Type 0} (P : X → Type 0) (xs : List X) (i : ℕ) → All P xs → All P (remove xs i)
All-remove P xs i all = All-append P (take i xs) (drop (suc i) xs) (All-take P i xs all) (All-drop P (suc i) xs all)

shorter : {X : Type 0} (xs : List X) (i : ℕ) → length (remove xs i) ≤ length xs
shorter [] zero = omega arith
shorter [] (suc i) = omega arith
shorter (x ∷ xs) zero = omega arith
shorter (x ∷ xs) (suc i) = let h = shorter xs i in omega (arith, h)

pub inserted_keeps : (max width : ℕ) (rows : List Row) (row : Row) (place : ℕ) → IsStore max width rows → length row.fields ≡ width → IsStore max width (inserted max rows row place).rows
inserted_keeps max width rows row place kept wide = by (place_of row.key rows) (cases_Bool (nat_le max (length rows)))
  where
    by : (o : Option ℕ) → (nat_le max (length rows) ≡ true) ⊎ (nat_le max (length rows) ≡ false) → IsStore max width (option_map_or (λ _. edited rows Present) o (if nat_le max (length rows) then edited rows AtMax else made (put_at rows place row))).rows
    by (Some i) full = kept
    by None (inl e) = subst (λ b. IsStore max width (if b then edited rows AtMax else made (put_at rows place row)).rows) (sym e) kept
    by None (inr e) = subst (λ b. IsStore max width (if b then edited rows AtMax else made (put_at rows place row)).rows) (sym e) (record {
      few = let n = length-insert rows (min place (length rows)) row (omega arith) in grind (arith, e, n);
      wide = All-insert (λ r. length r.fields ≡ width) rows (min place (length rows)) row kept.wide wide;
    })

pub removed_keeps : (max width : ℕ) (rows : List Row) (key : Code) → IsStore max width rows → IsStore max width (removed rows key).rows
removed_keeps max width rows key kept = by (place_of key rows)
  where
    by : (o : Option ℕ) → IsStore max width (option_map_or (λ i. made (remove rows i)) o (edited rows Absent)).rows
    by None = kept
    by (Some i) = record {
      few = let n = shorter rows i in omega (arith, kept.few);
      wide = All-remove (λ r. length r.fields ≡ width) rows i kept.wide;
    }

pub moved_keeps : (max width : ℕ) (rows : List Row) (key : Code) (place : ℕ) → IsStore max width rows → IsStore max width (moved rows key place).rows
moved_keeps max width rows key place kept = by (place_of key rows)
  where
    at : (i : ℕ) (o : Option Row) → slice_get rows i ≡ o → IsStore max width (option_map_or (λ row. made (put_at (remove rows i) place row)) o (edited rows Absent)).rows
    at i None is = kept
    at i (Some row) is =
        let within = slice_get_within rows i row is in
        let others = remove rows i in
        record {
          few =
              let n = length-remove rows i within in
              let m = length-insert others (min place (length others)) row (omega arith) in
              omega (arith, n, m, kept.few);
          wide =
              let P : Row → Type 0 = λ r. length r.fields ≡ width in
              All-insert P others (min place (length others)) row (All-remove P rows i kept.wide) (subst P (get_or_from_slice_get rows i row row is) (All-get_or P rows i row within kept.wide));
        }

    by : (o : Option ℕ) → IsStore max width (option_map_or (λ i. option_map_or (λ row. made (put_at (remove rows i) place row)) (slice_get rows i) (edited rows Absent)) o (edited rows Absent)).rows
    by None = kept
    by (Some i) = at i (slice_get rows i) refl

pub rows_of : (new : List (Code × Row)) (verdict : Verdict) (e : Edited) → edited (values_of new) verdict ≡ e → values_of new ≡ e.rows
rows_of new verdict e is = ap (λ x. x.rows) is

pub distinct_keys : (entries : List (Code × Row)) → IsPaired entries → IsDistinct ghosts.eq (keys_of entries) → IsDistinct is_same (keys (values_of entries))
distinct_keys entries p d =
    let same : keys_of entries ≡ keys (values_of entries) = ap keys_of p ∙ keys-paired (values_of entries) in
    subst (λ ks. IsDistinct is_same ks) same (subst (λ (q : Code → Code → Bool). IsDistinct q (keys_of entries)) (λ i a b. eq_is_same a b i) d)

-- ---- edits one after another

pub rows_after-append : (max width : ℕ) (rows : List Row) (ops : List EditOp) (op : EditOp) → rows_after max width rows (ops ++ op ∷ []) ≡ (edit max width (rows_after max width rows ops) op).rows
rows_after-append max width rows [] op = refl
rows_after-append max width rows (o ∷ ops) op = rows_after-append max width (edit max width rows o).rows ops op

pub verdicts_of-append : (max width : ℕ) (rows : List Row) (ops : List EditOp) (op : EditOp) → verdicts_of max width rows (ops ++ op ∷ []) ≡ verdicts_of max width rows ops ++ (edit max width (rows_after max width rows ops) op).verdict ∷ []
verdicts_of-append max width rows [] op = refl
verdicts_of-append max width rows (o ∷ ops) op = ap (λ l. (edit max width rows o).verdict ∷ l) (verdicts_of-append max width (edit max width rows o).rows ops op)

pub edit_keeps : (max width : ℕ) (rows : List Row) (op : EditOp) → IsStore max width rows → IsStore max width (edit max width rows op).rows
edit_keeps max width rows (ops.Insert key fields place) kept = by (length fields == width) refl
  where
    by : (b : Bool) → (length fields == width) ≡ b → IsStore max width (if b then inserted max rows (record { key = key; fields = fields }) place else edited rows Absent).rows
    by true h = inserted_keeps max width rows (record { key = key; fields = fields }) place kept (eqb-true (length fields) width h)
    by false h = kept
edit_keeps max width rows (ops.Remove key) kept = removed_keeps max width rows key kept
edit_keeps max width rows (ops.Move key place) kept = moved_keeps max width rows key place kept

pub all_keep : (max width : ℕ) (rows : List Row) (edits : List EditOp) → IsStore max width rows → IsStore max width (rows_after max width rows edits)
all_keep max width rows [] kept = kept
all_keep max width rows (op ∷ edits) kept = all_keep max width (edit max width rows op).rows edits (edit_keeps max width rows op kept)

-- the rows of a store stay such, where an edit was made or wanted memory
pub edit_or_none_keeps : (max width : ℕ) (old new : List (Code × Row)) (op : EditOp) (r : Result Verdict NoMemory) → IfOk r (λ verdict. edited (values_of new) verdict ≡ edit max width (values_of old) op) → OnErr r (new ≡ old) → IsStore max width (values_of old) → IsStore max width (values_of new)
edit_or_none_keeps max width old new op (Ok verdict) is _ kept = subst (IsStore max width) (sym (rows_of new verdict (edit max width (values_of old) op) is)) (edit_keeps max width (values_of old) op kept)
edit_or_none_keeps max width old new op (Err _) _ same kept = subst (λ es. IsStore max width (values_of es)) (sym same) kept

-- ---- a copy

pub apart_at : (key : Code) (rows : List Row) (i : ℕ) (row : Row) → AllByRecursion (λ k. is_same key k ≡ false) (keys rows) → slice_get rows i ≡ Some row → is_same key row.key ≡ false
apart_at key [] i row all is = cc
apart_at key (r ∷ rows) zero row all is = ap (λ k. is_same key k) {x = row.key} {y = r.key} (cc) ∙ all.0
apart_at key (r ∷ rows) (suc i) row all is = apart_at key rows i row all.1 is

-- one more row of those with distinct keys goes last
pub copied_more : (rows : List Row) (i : ℕ) (row : Row) → IsDistinct is_same (keys rows) → slice_get rows i ≡ Some row → insert_entry ghosts.eq (map paired (take i rows)) row.key row ≡ map paired (take (suc i) rows)
copied_more [] i row distinct is = cc
copied_more (r ∷ rows) zero row distinct is = ap (λ x. paired x ∷ []) {x = row} {y = r} cc
copied_more (r ∷ rows) (suc i) row distinct is =
    let apart : ghosts.eq row.key r.key ≡ false =
    eq_is_same row.key r.key ∙ apart_flips r.key row.key (apart_at r.key rows i row (IsDistinct-head is_same r.key (keys rows) distinct) is) in
    ap (λ b. if b then (r.key, row) ∷ map paired (take i rows) else paired r ∷ insert_entry ghosts.eq (map paired (take i rows)) row.key row) apart
    ∙ ap (λ l. paired r ∷ l) (copied_more rows i row (IsDistinct-tail is_same r.key (keys rows) distinct) is)

-- ---- an edit that is not made

refused_insert : (max : ℕ) (rows : List Row) (row : Row) (place : ℕ) → ((inserted max rows row place).verdict ≡ Done → ⊥) → (inserted max rows row place).rows ≡ rows
refused_insert max rows row place = by (place_of row.key rows) (nat_le max (length rows))
  where
    by : (o : Option ℕ) (b : Bool) → ((option_map_or (λ _. edited rows Present) o (if b then edited rows AtMax else made (put_at rows place row))).verdict ≡ Done → ⊥) → (option_map_or (λ _. edited rows Present) o (if b then edited rows AtMax else made (put_at rows place row))).rows ≡ rows
    by (Some i) b h = refl
    by None true h = refl
    by None false h = absurd (h refl)

refused_removal : (rows : List Row) (key : Code) → ((removed rows key).verdict ≡ Done → ⊥) → (removed rows key).rows ≡ rows
refused_removal rows key = by (place_of key rows)
  where
    by : (o : Option ℕ) → ((option_map_or (λ i. made (remove rows i)) o (edited rows Absent)).verdict ≡ Done → ⊥) → (option_map_or (λ i. made (remove rows i)) o (edited rows Absent)).rows ≡ rows
    by None h = refl
    by (Some i) h = absurd (h refl)

refused_move : (rows : List Row) (key : Code) (place : ℕ) → ((moved rows key place).verdict ≡ Done → ⊥) → (moved rows key place).rows ≡ rows
refused_move rows key place = by (place_of key rows)
  where
    at : (i : ℕ) (o : Option Row) → ((option_map_or (λ row. made (put_at (remove rows i) place row)) o (edited rows Absent)).verdict ≡ Done → ⊥) → (option_map_or (λ row. made (put_at (remove rows i) place row)) o (edited rows Absent)).rows ≡ rows
    at i None h = refl
    at i (Some row) h = absurd (h refl)

    by : (o : Option ℕ) → ((option_map_or (λ i. moved_from rows i place) o (edited rows Absent)).verdict ≡ Done → ⊥) → (option_map_or (λ i. moved_from rows i place) o (edited rows Absent)).rows ≡ rows
    by None h = refl
    by (Some i) h = at i (slice_get rows i) h

pub refused_stays : (max width : ℕ) (rows : List Row) (op : EditOp) → ((edit max width rows op).verdict ≡ Done → ⊥) → (edit max width rows op).rows ≡ rows
refused_stays max width rows (ops.Insert key fields place) = by (length fields == width)
  where
    by : (b : Bool) → ((if b then inserted max rows (record { key = key; fields = fields }) place else edited rows Absent).verdict ≡ Done → ⊥) → (if b then inserted max rows (record { key = key; fields = fields }) place else edited rows Absent).rows ≡ rows
    by true h = refused_insert max rows (record { key = key; fields = fields }) place h
    by false h = refl
refused_stays max width rows (ops.Remove key) = refused_removal rows key
refused_stays max width rows (ops.Move key place) = refused_move rows key place
