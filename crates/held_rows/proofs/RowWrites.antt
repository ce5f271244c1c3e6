-- The rows of a store, as their fields take what is shown.
use Rattle.std.proofs.Common.{◌≡◌, ℕ, zero, suc, ◌+◌, not, cond, nat_lt, Bool, true, false, List, [], ◌∷◌, length, set, Option, Some, None, slice_get, refl, sym, ap, subst, ◌∙◌, arith}
use Rattle.std.specs.List.{All, IsDistinct, prefix_len}
use Rattle.std.specs.Option.{option_map_or}
use Rattle.std.proofs.lemmas.Bool.Decides.{nat_tests}
use Rattle.std.proofs.lemmas.List.{set-set}
use Rattle.std.proofs.lemmas.List.Elements.{All-get_or}
use Rattle.std.proofs.lemmas.Option.{slice_get_within, get_or_from_slice_get}
use Rattle.std.proofs.lemmas.Map.Keys.{IsDistinct-head, IsDistinct-tail}
use Rattle.values.specs.declared.code.Code.{Code}
use Rattle.values.specs.declared.code.Code.TheVariants.{Empty}
use Rattle.values.specs.Packing.{IsPacked}
use Rattle.values.specs.Evaluation.{is_same}
use Rattle.store_fields.specs.declared.row.Row.{Row}
use Rattle.store_fields.specs.Edits.{keys, place_of, edited, made, with_field, field_set_at, field_set}
use Rattle.store_fields.specs.declared.edit.Verdict.TheVariants.{Absent}
use Rattle.store_fields.proofs.KeyLemmas.{same_itself, apart_flips}
use Rattle.store_fields.proofs.RowLemmas.{apart_at}
use Rattle.sources.specs.declared.opening.Opened.{Opened}
use Rattle.sources.specs.Rows.{code_in}
use Rattle.plain_evaluation.specs.Place.{Place, of_row}
use Rattle.plan_meaning.specs.Layout.{row_of}
use Rattle.held_rows.specs.Shown.{shown_at, fields_shown, row_shown}
use Rattle.held_rows.specs.Writing.{with_field_shown}
use Rattle.held_rows.proofs.Upto.{upto, whole, upto_got, upto_more, upto_all, got_set, set_got}

-- ---- where the row with a key is

keys-set : (rows : List Row) (n : ℕ) (row other : Row) → slice_get rows n ≡ Some row → other.key ≡ row.key → keys (set rows n other) ≡ keys rows
keys-set [] n row other is same = cc
keys-set (r ∷ rows) zero row other is same = let e : r ≡ row = cc in ap (λ k. k ∷ keys rows) (same ∙ ap (λ (x : Row). x.key) (sym e))
keys-set (r ∷ rows) (suc n) row other is same = ap (λ more. r.key ∷ more) (keys-set rows n row other is same)

passed_over : (rows : List Row) (n : ℕ) (row : Row) → IsDistinct is_same (keys rows) → slice_get rows n ≡ Some row → prefix_len (λ r. not (is_same row.key r.key)) rows ≡ n
passed_over [] n row distinct is = cc
passed_over (r ∷ rows) zero row distinct is =
    let e : r ≡ row = cc in
    ap (λ (b : Bool). cond (not b) (1 + prefix_len (λ x. not (is_same row.key x.key)) rows) 0) (ap (λ (x : Row). is_same row.key x.key) e ∙ same_itself row.key)
passed_over (r ∷ rows) (suc n) row distinct is =
    let apart : is_same row.key r.key ≡ false = apart_flips r.key row.key (apart_at r.key rows n row (IsDistinct-head is_same r.key (keys rows) distinct) is) in
    let later = passed_over rows n row (IsDistinct-tail is_same r.key (keys rows) distinct) is in
    let more : 1 + n ≡ suc n = omega arith in
    ap (λ (b : Bool). cond (not b) (1 + prefix_len (λ x. not (is_same row.key x.key)) rows) 0) apart ∙ ap (λ (k : ℕ). 1 + k) later ∙ more

pub place_found : (rows : List Row) (n : ℕ) (row : Row) → IsDistinct is_same (keys rows) → slice_get rows n ≡ Some row → place_of row.key rows ≡ Some n
place_found rows n row distinct is =
    let lt = slice_get_within rows n row is in
    let test : nat_lt n (length rows) ≡ true = grind (arith, nat_tests) in
    ap (λ (k : ℕ). cond (nat_lt k (length rows)) (Some k) None) (passed_over rows n row distinct is) ∙ ap (λ (b : Bool). cond b (Some n) None) test

-- each row has so many fields
pub row_wide : (rows : List Row) (width place : ℕ) (row : Row) → All (λ (r : Row). length r.fields ≡ width) rows → slice_get rows place ≡ Some row → length row.fields ≡ width
row_wide rows width place row all is = subst (λ (r : Row). length r.fields ≡ width) (get_or_from_slice_get rows place row row is) (All-get_or (λ (r : Row). length r.fields ≡ width) rows place row (slice_get_within rows place row is) all)

-- ---- one field

pub set_of_row : (rows : List Row) (place : ℕ) (row : Row) (field : ℕ) (code : Code) → IsDistinct is_same (keys rows) → slice_get rows place ≡ Some row → (field_set rows row.key field code).rows ≡ set rows place (with_field row field code)
set_of_row rows place row field code distinct is =
    ap (λ (o : Option ℕ). (option_map_or (λ i. field_set_at rows i field code) o (edited rows Absent)).rows) (place_found rows place row distinct is)
    ∙ ap (λ (o : Option Row). (option_map_or (λ (r : Row). made (set rows place (with_field r field code))) o (edited rows Absent)).rows) is

module _ (places : List Place) (values : ℕ → Code) (store : ℕ) where
  -- what an id shows in the row with the key
  abbrev pub field_shown : Code → ℕ → Code → Code
  field_shown key id code = shown_at places values id (Some key) code

  -- the row with its first fields as they are shown
  abbrev pub row_upto : ℕ → Row → Row
  row_upto count row = record row { fields = upto (field_shown row.key) (2 + store) count row.fields }

  pub fields_whole : (key : Code) (id : ℕ) (codes : List Code) → whole (field_shown key) id codes ≡ fields_shown places values id key codes
  fields_whole key id [] = refl
  fields_whole key id (code ∷ codes) = ap (λ more. field_shown key id code ∷ more) (fields_whole key (suc id) codes)

  pub row_done : (row : Row) → row_upto (length row.fields) row ≡ row_shown places values store row
  row_done row = ap (λ (fs : List Code). record row { fields = fs }) (upto_all (field_shown row.key) (2 + store) row.fields ∙ fields_whole row.key (2 + store) row.fields)

  -- one more field of the row
  pub field_next : (rows : List Row) (place : ℕ) (row : Row) (field : ℕ) (code : Code) → IsDistinct is_same (keys rows) → slice_get rows place ≡ Some row → slice_get row.fields field ≡ Some code
      → with_field_shown places values (2 + store + field) row.key field (set rows place (row_upto field row)) ≡ set rows place (row_upto (suc field) row)
  field_next rows place row field code distinct is at = by (row_of places (of_row (2 + store + field) row.key)) refl
    where
      now : Row
      now = row_upto field row

      there : slice_get (set rows place now) place ≡ Some now
      there = got_set rows place now (slice_get_within rows place row is)

      apart : IsDistinct is_same (keys (set rows place now))
      apart = subst (IsDistinct is_same) (sym (keys-set rows place row now is refl)) distinct

      more : set now.fields field (shown_at places values (2 + store + field) (Some row.key) code) ≡ upto (field_shown row.key) (2 + store) (suc field) row.fields
      more = upto_more (field_shown row.key) (2 + store) field row.fields code at

      by : (o : Option ℕ) → row_of places (of_row (2 + store + field) row.key) ≡ o → with_field_shown places values (2 + store + field) row.key field (set rows place now) ≡ set rows place (row_upto (suc field) row)
      by None none =
          let kept : shown_at places values (2 + store + field) (Some row.key) code ≡ code = ap (λ (o : Option ℕ). option_map_or values o code) none in
          let fields : set now.fields field code ≡ upto (field_shown row.key) (2 + store) (suc field) row.fields = ap (λ (c : Code). set now.fields field c) (sym kept) ∙ more in
          let stays : set now.fields field code ≡ now.fields = set_got now.fields field code (upto_got (field_shown row.key) (2 + store) field row.fields ∙ at) in
          ap (λ (o : Option ℕ). option_map_or (λ n. (field_set (set rows place now) row.key field (values n)).rows) o (set rows place now)) none
          ∙ ap (λ (fs : List Code). set rows place (record row { fields = fs })) (sym stays ∙ fields)
      by (Some n) found =
          let shown : shown_at places values (2 + store + field) (Some row.key) code ≡ values n = ap (λ (o : Option ℕ). option_map_or values o code) found in
          ap (λ (o : Option ℕ). option_map_or (λ k. (field_set (set rows place now) row.key field (values k)).rows) o (set rows place now)) found
          ∙ set_of_row (set rows place now) place now field (values n) apart there
          ∙ set-set rows place now (with_field now field (values n))
          ∙ ap (λ (fs : List Code). set rows place (record row { fields = fs })) (ap (λ (c : Code). set now.fields field c) (sym shown) ∙ more)

-- ---- rows of the plan

pub code_past : (rows : List Opened) (n : ℕ) → slice_get rows n ≡ None → code_in rows n ≡ 0
unfolding code_in
code_past [] n is = refl
code_past (row ∷ rows) zero is = cc
code_past (row ∷ rows) (suc n) is = code_past rows n is

pub nothing_packed : IsPacked 0
nothing_packed = record { code = Empty; value = tt; packs = refl }
