-- The values of the sources of a layout, against its lines and its rows.
use Rattle.std.proofs.Common.{◌≡◌, ℕ, zero, suc, ◌+◌, ◌-◌, ◌<◌, ◌≤◌, ◌&&◌, ◌||◌, not, if◌then◌else◌, inl, inr, Bool, true, false, List, [], ◌∷◌, ◌++◌, map, length, slice_get, Option, Some, None, is_some, refl, sym, ap, ◌∙◌, arith, length-append}
use Rattle.std.specs.Prelude.{position, unwrap_or}
use Rattle.std.specs.List.{flat_map, list_any}
use Rattle.std.specs.Option.{option_map, option_and_then}
use Rattle.std.proofs.lemmas.List.{length-map}
use Rattle.std.proofs.lemmas.Option.{slice_get_within}
use Rattle.values.specs.declared.code.Code.{Code}
use Rattle.values.specs.declared.code.Code.TheVariants.{Empty}
use Rattle.values.specs.declared.expr.Expr.{Expr}
use Rattle.values.specs.declared.plan.Kind.TheVariants as kind
use Rattle.values.specs.Evaluation.{is_same}
use Rattle.store_fields.specs.declared.row.Row.{Row}
use Rattle.store_fields.specs.Edits.{place_of as row_place}
use Rattle.store_fields.proofs.KeyLemmas.{same_itself, same_true}
use Rattle.plain_evaluation.specs.Fits.{keys_differ}
use Rattle.plain_evaluation.specs.Held.{Held, rows_held}
use Rattle.plain_evaluation.specs.Written.{state_of, Says, given, loaded, derived, Written}
use Rattle.plain_evaluation.proofs.Every.{Every}
use Rattle.plain_evaluation.proofs.Places.{not_true}
use Rattle.plan_meaning.specs.Layout.{is_computed, rows_of}
use Rattle.plan_meaning.proofs.Rows.{sources_of, computed_of, true_or_false, at_map, append_at, passes}
use Rattle.plan_lines.specs.Lines.{Placed, placed_of}
use Rattle.next_layout.specs.Sources.{code_said, codes_said, field_held, source_held, codes_held}
use Rattle.next_layout.proofs.HeldLines.{IsFieldOf, SaysHeld, IsHeldLine}

-- ---- the row with a key

no_same : (r : Row) (rows : List Row) (p : ℕ) (row : Row) → list_any (λ (other : Row). is_same r.key other.key) rows ≡ false → slice_get rows p ≡ Some row → is_same r.key row.key ≡ false
no_same r [] p row none at = cc
no_same r (x ∷ rows) zero row none at =
    let same : x ≡ row = cc in
    first (is_same r.key x.key) (list_any (λ (other : Row). is_same r.key other.key) rows) none (ap (λ (y : Row). is_same r.key y.key) same)
  where
    first : (a b : Bool) → (a || b) ≡ false → a ≡ is_same r.key row.key → is_same r.key row.key ≡ false
    first true b e is = cc
    first false b e is = sym is
no_same r (x ∷ rows) (suc p) row none at = no_same r rows p row (rest (is_same r.key x.key) (list_any (λ (other : Row). is_same r.key other.key) rows) none) at
  where
    rest : (a b : Bool) → (a || b) ≡ false → b ≡ false
    rest true b e = cc
    rest false b e = e

both_true : (a b : Bool) → (a && b) ≡ true → (a ≡ true) × (b ≡ true)
both_true true b e = (refl, e)
both_true false b e = cc

no_other : (a b : Code) → is_same a b ≡ false → is_same b a ≡ false
no_other a b non = at (is_same b a) refl
  where
    at : (s : Bool) → is_same b a ≡ s → s ≡ false
    at false is = refl
    at true is = let e : b ≡ a = same_true b a is in let f : is_same a b ≡ true = ap (λ (c : Code). is_same c b) (sym e) ∙ same_itself b in cc

position-cons : {X : Type 0} (test : X → Bool) (x : X) (xs : List X) → position test (x ∷ xs) ≡ (if test x then Some 0 else option_map suc (position test xs))
position-cons test x xs = grind arith

found_at : (rows : List Row) (p : ℕ) (row : Row) → keys_differ rows ≡ true → slice_get rows p ≡ Some row → row_place row.key rows ≡ Some p
found_at [] p row differ at = cc
found_at (x ∷ rows) zero row differ at =
    let same : x ≡ row = cc in
    let here : is_same row.key x.key ≡ true = ap (λ (y : Row). is_same row.key y.key) same ∙ same_itself row.key in
    position-cons (λ (r : Row). is_same row.key r.key) x rows ∙ ap (λ (b : Bool). if b then Some 0 else option_map suc (row_place row.key rows)) here
found_at (x ∷ rows) (suc p) row differ at =
    let both = both_true (not (list_any (λ (other : Row). is_same x.key other.key) rows)) (keys_differ rows) differ in
    let non = no_other x.key row.key (no_same x rows p row (not_true _ both.0) at) in
    position-cons (λ (r : Row). is_same row.key r.key) x rows
    ∙ ap (λ (b : Bool). if b then Some 0 else option_map suc (row_place row.key rows)) non
    ∙ ap (option_map suc) (found_at rows p row both.1 at)

-- ---- line by line

field_is : (held : Held) → ((id : ℕ) → keys_differ (rows_held held id) ≡ true) → (w : Written) (code : Code) → IsFieldOf (state_of held) w.id w.scene code → field_held held w.id w.scene.row ≡ Some code
field_is held differ w code is =
    let place = found_at (rows_held held is.store) is.place is.row (differ is.store) is.there in
    let field : w.id - (2 + is.store) ≡ is.field = (let e = is.id_is in omega arith) in
    ap (field_held held w.id) is.around
    ∙ ap (λ (o : Option ℕ). option_and_then (λ (r : Row). slice_get r.fields (w.id - (2 + is.store))) (option_and_then (slice_get (rows_held held is.store)) o)) place
    ∙ ap (option_and_then (λ (r : Row). slice_get r.fields (w.id - (2 + is.store)))) is.there
    ∙ ap (slice_get is.row.fields) field
    ∙ is.is_code

module _ (loads : ℕ → Code) where
  -- what is said of a line, where it is a source's
  abbrev said_of : Written → List Code
  said_of w = if is_computed w.says then [] else code_said loads w.id w.says ∷ []

  line_held : (held : Held) → ((id : ℕ) → keys_differ (rows_held held id) ≡ true) → (w : Written) (says : Says) → SaysHeld (state_of held) w says → codes_held loads held (placed_of (record w { says = says })) ≡ said_of (record w { says = says })
  line_held held differ w (given kind.Signal code) is = ap (λ (c : Code). c ∷ []) (sym is)
  line_held held differ w (given kind.Field code) is = ap (λ (c : Option Code). unwrap_or c Empty ∷ []) (field_is held differ w code is)
  line_held held differ w (given kind.Load code) is = absurd is
  line_held held differ w (given kind.Memo code) is = absurd is
  line_held held differ w (given kind.Effect code) is = absurd is
  line_held held differ w (loaded pairs arrived) is = refl
  line_held held differ w (derived k expr) is = refl

  said_more : (w : Written) (ws : List Written) → codes_said loads (w ∷ ws) ≡ said_of w ++ codes_said loads ws
  said_more w ws = at (is_computed w.says)
    where
      at : (b : Bool) → map (λ (v : Written). code_said loads v.id v.says) (if not b then w ∷ sources_of ws else sources_of ws) ≡ (if b then [] else code_said loads w.id w.says ∷ []) ++ codes_said loads ws
      at true = refl
      at false = refl

  pub lines_held : (held : Held) → ((id : ℕ) → keys_differ (rows_held held id) ≡ true) → (ws : List Written) → Every (IsHeldLine (state_of held)) ws → flat_map (codes_held loads held) (map placed_of ws) ≡ codes_said loads ws
  lines_held held differ [] every = refl
  lines_held held differ (w ∷ ws) every = (λ i. line_held held differ w w.says every.0 i ++ lines_held held differ ws every.1 i) ∙ sym (said_more w ws)

  -- where a line is of a source, and where it is not
  pub of_source : (held : Held) (p : Placed) (code : Code) → p.expr ≡ None → code ≡ source_held loads held p.kind p.id p.scene.row → codes_held loads held p ≡ code ∷ []
  of_source held p code none is = ap (λ (e : Option Expr). if is_some e then [] else source_held loads held p.kind p.id p.scene.row ∷ []) none ∙ ap (λ (c : Code). c ∷ []) (sym is)

-- ---- by row

at_left : {A : Type 0} (xs ys : List A) (n : ℕ) → n < length xs → (x : A) × (slice_get xs n ≡ Some x) × (slice_get (xs ++ ys) n ≡ Some x)
at_left [] ys n lt = absurd (omega arith)
at_left (x ∷ xs) ys zero lt = (x, refl, refl)
at_left (x ∷ xs) ys (suc n) lt = at_left xs ys n (omega arith)

module _ (loads : ℕ → Code) where
  count_is : (ws : List Written) → length (codes_said loads ws) ≡ length (sources_of ws)
  count_is ws = length-map (sources_of ws) (λ (w : Written). code_said loads w.id w.says)

  -- a source's row has its value
  pub source_row : (ws : List Written) (n : ℕ) (w : Written) → slice_get (rows_of ws) n ≡ Some w → is_computed w.says ≡ false → (n < length (codes_said loads ws)) × (slice_get (codes_said loads ws) n ≡ Some (code_said loads w.id w.says))
  source_row ws n w at source = elim (append_at (sources_of ws) (computed_of ws) n w at) [
    | inl here ↦ (let lt = slice_get_within (sources_of ws) n w here in let count = count_is ws in (omega arith, at_map (λ (v : Written). code_said loads v.id v.says) (sources_of ws) n w here))
    | inr there ↦ absurd (true_or_false (is_computed w.says) (passes (λ (v : Written). is_computed v.says) ws there.0 w there.2) source)
  ]

  -- the first rows are sources'
  pub first_row : (ws : List Written) (n : ℕ) → n < length (codes_said loads ws) → (w : Written) × (slice_get (rows_of ws) n ≡ Some w) × (is_computed w.says ≡ false)
  first_row ws n lt =
      let count = count_is ws in
      let one = at_left (sources_of ws) (computed_of ws) n (omega arith) in
      (one.0, one.2, not_true (is_computed one.0.says) (passes (λ (v : Written). not (is_computed v.says)) ws n one.0 one.1))

  -- and the others what is computed
  pub later_row : (ws : List Written) (n : ℕ) (w : Written) → slice_get (rows_of ws) n ≡ Some w → is_computed w.says ≡ true → length (codes_said loads ws) ≤ n
  later_row ws n w at computed = elim (append_at (sources_of ws) (computed_of ws) n w at) [
    | inl here ↦ absurd (true_or_false (is_computed w.says) computed (not_true (is_computed w.says) (passes (λ (v : Written). not (is_computed v.says)) ws n w here)))
    | inr there ↦ (let e = there.1 in let count = count_is ws in omega arith)
  ]

  pub codes_few : (ws : List Written) → length (codes_said loads ws) ≤ length (rows_of ws)
  codes_few ws = let count = count_is ws in let all = length-append (sources_of ws) (computed_of ws) in omega arith
