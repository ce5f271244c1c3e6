-- Edits keep the keys of rows distinct.
use Rattle.std.proofs.Common.{◌≡◌, ℕ, zero, suc, Bool, true, false, not, Option, Some, None, List, [], ◌∷◌, length, min, nat_le, insert, remove, slice_get, ◌==◌, if◌then◌else◌, refl, subst}
use Rattle.std.specs.List.{AllByRecursion, IsDistinct, prefix_len}
use Rattle.std.specs.Option.{option_map_or}
use Rattle.std.proofs.lemmas.List.Sorted.{IsPermutation-insert}
use Rattle.std.proofs.lemmas.Map.Keys.{IsDistinct-head, IsDistinct-tail, IsDistinct-cons, IsDistinct-IsPermutation}
use Rattle.values.specs.declared.code.Code.{Code}
use Rattle.values.specs.Evaluation.{is_same}
use Rattle.store_fields.specs.declared.row.Row.{Row}
use Rattle.store_fields.specs.declared.edit.EditOp.{EditOp}
use Rattle.store_fields.specs.declared.edit.EditOp.TheVariants as ops
use Rattle.store_fields.specs.declared.edit.Verdict.TheVariants.{Present, Absent, AtMax}
use Rattle.store_fields.specs.Edits.{keys, place_of, edited, made, put_at, inserted, removed, moved, moved_from, edit, rows_after}
use Rattle.store_fields.proofs.KeyLemmas.{apart_flips, same_flips}
use Rattle.store_fields.proofs.RowLemmas.{insert-map, none_first, passed_all, not_true, apart_at}

abbrev Distinct : List Row → Type 0
Distinct rows = IsDistinct is_same (keys rows)

-- no row has the key
abbrev Lacks : List Row → Code → Type 0
Lacks rows key = AllByRecursion (λ k. is_same key k ≡ false) (keys rows)

Lacks-remove : (rows : List Row) (key : Code) (i : ℕ) → Lacks rows key → Lacks (remove rows i) key
Lacks-remove [] key zero h = h
Lacks-remove [] key (suc i) h = h
Lacks-remove (row ∷ rows) key zero h = h.1
Lacks-remove (row ∷ rows) key (suc i) h = (h.0, Lacks-remove rows key i h.1)

Distinct-remove : (rows : List Row) (i : ℕ) → Distinct rows → Distinct (remove rows i)
Distinct-remove [] zero d = d
Distinct-remove [] (suc i) d = d
Distinct-remove (row ∷ rows) zero d = IsDistinct-tail is_same row.key (keys rows) d
Distinct-remove (row ∷ rows) (suc i) d =
    IsDistinct-cons is_same row.key (keys (remove rows i)) (Lacks-remove rows row.key i (IsDistinct-head is_same row.key (keys rows) d)) (Distinct-remove rows i (IsDistinct-tail is_same row.key (keys rows) d))

-- the others lack the key of a row that is taken out
others_lack : (rows : List Row) (i : ℕ) (row : Row) → Distinct rows → slice_get rows i ≡ Some row → Lacks (remove rows i) row.key
others_lack [] i row d is = cc
others_lack (r ∷ rows) zero row d is =
    let same : r ≡ row = cc in
    subst (λ (x : Row). Lacks rows x.key) same (IsDistinct-head is_same r.key (keys rows) d)
others_lack (r ∷ rows) (suc i) row d is = (
  apart_flips r.key row.key (apart_at r.key rows i row (IsDistinct-head is_same r.key (keys rows) d) is),
  others_lack rows i row (IsDistinct-tail is_same r.key (keys rows) d) is,
)

Distinct-put_at : (others : List Row) (place : ℕ) (row : Row) → Distinct others → Lacks others row.key → Distinct (put_at others place row)
Distinct-put_at others place row d lacks =
    let i = min place (length others) in
    subst (IsDistinct is_same) (insert-map (λ r. r.key) others i row)
    (IsDistinct-IsPermutation is_same same_flips (row.key ∷ keys others) (insert (keys others) i row.key) (IsPermutation-insert (keys others) i row.key) (IsDistinct-cons is_same row.key (keys others) lacks d))

lacks_all : (key : Code) (rows : List Row) → prefix_len (λ row. not (is_same key row.key)) rows ≡ length rows → Lacks rows key
lacks_all key [] h = tt
lacks_all key (row ∷ rows) h =
    let first = passed_all (λ row. not (is_same key row.key)) row rows h in
    (not_true (is_same key row.key) first.0, lacks_all key rows first.1)

inserted_distinct : (max : ℕ) (rows : List Row) (row : Row) (place : ℕ) → Distinct rows → Distinct (inserted max rows row place).rows
inserted_distinct max rows row place d = by (place_of row.key rows) refl (nat_le max (length rows))
  where
    by : (o : Option ℕ) → place_of row.key rows ≡ o → (b : Bool) → Distinct (option_map_or (λ _. edited rows Present) o (if b then edited rows AtMax else made (put_at rows place row))).rows
    by (Some i) e b = d
    by None e true = d
    by None e false = Distinct-put_at rows place row d (lacks_all row.key rows (none_first (λ r. is_same row.key r.key) rows e))

removed_distinct : (rows : List Row) (key : Code) → Distinct rows → Distinct (removed rows key).rows
removed_distinct rows key d = by (place_of key rows)
  where
    by : (o : Option ℕ) → Distinct (option_map_or (λ i. made (remove rows i)) o (edited rows Absent)).rows
    by None = d
    by (Some i) = Distinct-remove rows i d

moved_distinct : (rows : List Row) (key : Code) (place : ℕ) → Distinct rows → Distinct (moved rows key place).rows
moved_distinct rows key place d = by (place_of key rows)
  where
    at : (i : ℕ) (o : Option Row) → slice_get rows i ≡ o → Distinct (option_map_or (λ row. made (put_at (remove rows i) place row)) o (edited rows Absent)).rows
    at i None is = d
    at i (Some row) is = Distinct-put_at (remove rows i) place row (Distinct-remove rows i d) (others_lack rows i row d is)

    by : (o : Option ℕ) → Distinct (option_map_or (λ i. moved_from rows i place) o (edited rows Absent)).rows
    by None = d
    by (Some i) = at i (slice_get rows i) refl

pub edit_distinct : (max width : ℕ) (rows : List Row) (op : EditOp) → IsDistinct is_same (keys rows) → IsDistinct is_same (keys (edit max width rows op).rows)
edit_distinct max width rows (ops.Insert key fields place) d = by (length fields == width)
  where
    by : (b : Bool) → Distinct (if b then inserted max rows (record { key = key; fields = fields }) place else edited rows Absent).rows
    by true = inserted_distinct max rows (record { key = key; fields = fields }) place d
    by false = d
edit_distinct max width rows (ops.Remove key) d = removed_distinct rows key d
edit_distinct max width rows (ops.Move key place) d = moved_distinct rows key place d

pub all_distinct : (max width : ℕ) (rows : List Row) (edits : List EditOp) → IsDistinct is_same (keys rows) → IsDistinct is_same (keys (rows_after max width rows edits))
all_distinct max width rows [] d = d
all_distinct max width rows (op ∷ edits) d = all_distinct max width (edit max width rows op).rows edits (edit_distinct max width rows op d)
