-- Rows that an edit leaves are rows that their store may have.
use Rattle.std.proofs.Common.{◌≡◌, ◌≤◌, ◌==◌, ℕ, suc, true, List, [], ◌∷◌, length, Some, Result, Ok, Err, OnOk, refl, ap, arith, le-leb}
use Rattle.std.specs.List.{All, IsDistinct, list_all}
use Rattle.std.proofs.lemmas.Bool.{and_from, eq-eqb}
use Rattle.values.specs.Evaluation.{is_same}
use Rattle.store_fields.specs.declared.row.Row.{Row}
use Rattle.store_fields.specs.Edits.{KeyedRows, keys, with_rows}
use Rattle.component_items.specs.declared.component.Component.{Component}
use Rattle.plain_evaluation.specs.Changed.{store_of, with_store}
use Rattle.plain_evaluation.specs.Fits.{rows_fit}
use Rattle.held_state.specs.State.{HeldState, IsOf, with_held}
use Rattle.held_state.proofs.OfComponent.{rows_are_of}
use Rattle.run_meaning.proofs.Fits.{differ_of}

wide : (width : ℕ) (rows : List Row) → All (λ row. length row.fields ≡ width) rows → list_all (λ row. length row.fields == width) rows ≡ true
wide width [] all = refl
wide width (row ∷ rows) all = and_from _ _ (eq-eqb (length row.fields) width (all 0 row (omega arith))) (wide width rows (λ k d within. all (suc k) d (omega arith)))

fit : (max width : ℕ) (rows : List Row) → length rows ≤ max → All (λ row. length row.fields ≡ width) rows → rows_fit max width rows ≡ true
fit max width rows few all = and_from _ _ (wide width rows all) (le-leb (length rows) max few)

pub edited_is_of : {T E : Type 0} (r : Result T E) (state : HeldState) (id : ℕ) (before store : KeyedRows) → store_of state.held id ≡ Some before → store ≡ with_rows before store.rows
    → OnOk r (length store.rows ≤ before.max) → OnOk r (All (λ row. length row.fields ≡ before.width) store.rows) → OnOk r (IsDistinct is_same (keys store.rows))
    → OnOk r ((component : Component) → IsOf component state → IsOf component (with_held state (with_store state.held id store)))
edited_is_of (Ok x) state id before store was same few all distinct = λ component is.
    rows_are_of component state id before store is was (ap (λ (s : KeyedRows). s.max) same) (ap (λ (s : KeyedRows). s.width) same) (fit before.max before.width store.rows few all) (differ_of store.rows distinct)
edited_is_of (Err e) state id before store was same few all distinct = tt
