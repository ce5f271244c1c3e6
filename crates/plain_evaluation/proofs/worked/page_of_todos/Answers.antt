use Rattle.std.proofs.Common.{◌≡◌, ℕ, Bool, true, false, List, [], ◌∷◌, ◌++◌, codes, None, refl, ◌∙◌}
use Rattle.values.specs.declared.code.Code.{Code}
use Rattle.values.specs.declared.code.Code.TheVariants.{Word}
use Rattle.values.specs.declared.code.Op.TheVariants as op
use Rattle.values.specs.declared.expr.Expr.TheVariants.{Lit, Read, Binary}
use Rattle.values.specs.declared.plan.Kind.TheVariants as kind
use Rattle.values.proofs.Evaluation.{value_of-Lit, value_of-Read, value_of-Binary}
use Rattle.plain_evaluation.specs.Keyed.{item_keyed, items_keyed, flag_of}
use Rattle.plain_evaluation.specs.Page.{View, view_of, item_bytes, items_bytes}
use Rattle.plain_evaluation.specs.Place.{Place, outside, of_row}
use Rattle.plain_evaluation.specs.Rows.{todos, todos_held, number}
use Rattle.plain_evaluation.specs.Scratch.{values_in, no_values, scratch}
use Rattle.plain_evaluation.specs.Written.{Scene, Written, put, given, derived, at_top, in_row, in_area, written, write_item}
use Rattle.plain_evaluation.proofs.Computes.{folds, one, two}
use Rattle.plain_evaluation.proofs.worked.page_of_todos.Goals as goal

abbrev first : Scene
first = in_row 2 (number 1) at_top

abbrev second : Scene
second = in_row 2 (number 2) at_top

-- the text, written out
abbrev todos_text : List Written
todos_text =
    put 0 (given kind.Signal (Word 26)) at_top ++ put 1 (given kind.Signal (number 2)) at_top
    ++ put 4 (given kind.Field (Word 24)) first ++ put 5 (given kind.Field (number 0)) first
    ++ put 4 (given kind.Field (Word 25)) second ++ put 5 (given kind.Field (number 1)) second
    ++ put 6 (derived kind.Memo (Binary op.Sub (Lit (number 3)) (Read 1))) at_top
    ++ put 7 (derived kind.Memo (Read 0)) at_top
    ++ put 8 (derived kind.Memo (Read 6)) at_top
    ++ put 9 (derived kind.Memo (Read 6)) at_top
    ++ put 11 (derived kind.Memo (Read 3)) first ++ put 12 (derived kind.Memo (Read 4)) first ++ put 13 (derived kind.Memo (Read 5)) first
    ++ put 11 (derived kind.Memo (Read 3)) second ++ put 12 (derived kind.Memo (Read 4)) second ++ put 13 (derived kind.Memo (Read 5)) second
    ++ put 15 (given kind.Signal (Word 21)) (in_area 1 at_top)
    ++ put 16 (derived kind.Memo (Read 15)) (in_area 1 at_top)

todos_written : written todos todos_held ≡ todos_text
unfolding write_item
todos_written = simp folds

abbrev todos_flags : List (ℕ × Bool)
todos_flags = (0, false) ∷ (1, false) ∷ (2, false) ∷ (3, false) ∷ (4, true) ∷ (5, true) ∷ (6, false) ∷ (7, false) ∷ (8, false) ∷ (9, false) ∷ (10, false) ∷ (11, true) ∷ (12, true) ∷ (13, true) ∷ (14, false) ∷ (15, false) ∷ (16, false) ∷ []

todos_keyed : items_keyed todos.items false ≡ todos_flags
unfolding item_keyed
todos_keyed = simp folds

abbrev value_at : Place → Code
value_at p = values_in (flag_of todos_flags) todos_text no_values p

value_0 : value_at (outside 7) ≡ Word 26
value_0 = simp (value_of-Binary, value_of-Read, value_of-Lit)

value_1 : value_at (outside 8) ≡ number 1
value_1 = simp (value_of-Binary, value_of-Read, value_of-Lit)

value_2 : value_at (outside 9) ≡ number 1
value_2 = simp (value_of-Binary, value_of-Read, value_of-Lit)

value_3 : value_at (of_row 11 (number 1)) ≡ number 1
value_3 = simp (value_of-Binary, value_of-Read, value_of-Lit)

value_4 : value_at (of_row 12 (number 1)) ≡ Word 24
value_4 = simp (value_of-Binary, value_of-Read, value_of-Lit)

value_5 : value_at (of_row 13 (number 1)) ≡ number 0
value_5 = simp (value_of-Binary, value_of-Read, value_of-Lit)

value_6 : value_at (of_row 11 (number 2)) ≡ number 2
value_6 = simp (value_of-Binary, value_of-Read, value_of-Lit)

value_7 : value_at (of_row 12 (number 2)) ≡ Word 25
value_7 = simp (value_of-Binary, value_of-Read, value_of-Lit)

value_8 : value_at (of_row 13 (number 2)) ≡ number 1
value_8 = simp (value_of-Binary, value_of-Read, value_of-Lit)

value_9 : value_at (outside 16) ≡ Word 21
value_9 = simp (value_of-Binary, value_of-Read, value_of-Lit)

todos_page : (view : View) → view.texts ≡ todos.texts → view.keys 10 2 ≡ number 1 ∷ number 2 ∷ [] → view.live 1 ≡ true → view.value (outside 7) ≡ Word 26 → view.value (outside 8) ≡ number 1 → view.value (outside 9) ≡ number 1 → view.value (of_row 11 (number 1)) ≡ number 1 → view.value (of_row 12 (number 1)) ≡ Word 24 → view.value (of_row 13 (number 1)) ≡ number 0 → view.value (of_row 11 (number 2)) ≡ number 2 → view.value (of_row 12 (number 2)) ≡ Word 25 → view.value (of_row 13 (number 2)) ≡ number 1 → view.value (outside 16) ≡ Word 21 → items_bytes view todos.items None ≡ codes "<main class=\"app\"><h1>Todos of Bob</h1><p>1 left</p><ul><li data-id=\"1\">Milk</li><li data-id=\"2\">Bread (done)</li></ul><footer>Press &amp; type</footer></main>"
unfolding item_bytes
todos_page view texts keys live v0 v1 v2 v3 v4 v5 v6 v7 v8 v9 = simp (folds, texts, keys, live, v0, v1, v2, v3, v4, v5, v6, v7, v8, v9, one, two)

at_written : (p : Place) → scratch todos todos_held p ≡ value_at p
at_written p i = values_in (flag_of (todos_keyed i)) (todos_written i) no_values p

pub returns : goal.returns
returns c = todos_page (view_of todos todos_held) refl refl refl (at_written (outside 7) ∙ value_0) (at_written (outside 8) ∙ value_1) (at_written (outside 9) ∙ value_2) (at_written (of_row 11 (number 1)) ∙ value_3) (at_written (of_row 12 (number 1)) ∙ value_4) (at_written (of_row 13 (number 1)) ∙ value_5) (at_written (of_row 11 (number 2)) ∙ value_6) (at_written (of_row 12 (number 2)) ∙ value_7) (at_written (of_row 13 (number 2)) ∙ value_8) (at_written (outside 16) ∙ value_9)
