-- What a store's rows tell is what held state asks of them.
use Rattle.std.proofs.Common.{◌≡◌, ℕ, suc, ◌≤◌, ◌==◌, ◌||◌, not, true, false, List, [], ◌∷◌, length, refl, sym, ap, ◌∙◌, arith, le-leb}
use Rattle.std.specs.List.{All, AllByRecursion, IsDistinct, list_all, list_any}
use Rattle.std.proofs.lemmas.Bool.{and_from, eq-eqb}
use Rattle.values.specs.declared.code.Code.{Code}
use Rattle.values.specs.Evaluation.{is_same}
use Rattle.store_fields.specs.declared.row.Row.{Row}
use Rattle.store_fields.specs.Edits.{KeyedRows, keys}
use Rattle.plain_evaluation.specs.Fits.{keys_differ, rows_fit}

wide : (width : ℕ) (rows : List Row) → All (λ row. length row.fields ≡ width) rows → list_all (λ row. length row.fields == width) rows ≡ true
wide width [] all = refl
wide width (row ∷ rows) all = and_from _ _ (eq-eqb (length row.fields) width (all 0 row (omega arith))) (wide width rows (λ k d within. all (suc k) d (omega arith)))

-- the rows of a store fit one with the same limits
pub fit : (store before : KeyedRows) → store.max ≡ before.max → store.width ≡ before.width → length store.rows ≤ store.max → All (λ row. length row.fields ≡ store.width) store.rows → rows_fit before.max before.width store.rows ≡ true
fit store before max width few all =
    (λ i. rows_fit (sym max i) (sym width i) store.rows)
    ∙ and_from _ _ (wide store.width store.rows all) (le-leb (length store.rows) store.max few)

lacks : (key : Code) (rows : List Row) → AllByRecursion (λ other. is_same key other ≡ false) (keys rows) → list_any (λ other. is_same key other.key) rows ≡ false
lacks key [] all = refl
lacks key (row ∷ rows) all = (λ i. all.0 i || lacks key rows all.1 i)

pub differ : (rows : List Row) → IsDistinct is_same (keys rows) → keys_differ rows ≡ true
unfolding IsDistinct
differ [] distinct = refl
differ (row ∷ rows) distinct = and_from _ _ (ap not (lacks row.key rows distinct.0)) (differ rows distinct.1)
