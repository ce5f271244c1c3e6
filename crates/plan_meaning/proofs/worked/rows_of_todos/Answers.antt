use Rattle.std.proofs.Common.{◌≡◌, ℕ, Bool, true, false, List, [], ◌∷◌, ◌++◌, ap, ◌∙◌}
use Rattle.values.specs.declared.code.Code.TheVariants.{Word}
use Rattle.values.specs.declared.code.Op.TheVariants as op
use Rattle.values.specs.declared.expr.Expr.TheVariants.{Lit, Read, Binary}
use Rattle.values.specs.declared.plan.Kind.TheVariants as kind
use Rattle.plain_evaluation.specs.Keyed.{item_keyed, items_keyed, flag_of}
use Rattle.plain_evaluation.specs.Rows.{todos, todos_held, number}
use Rattle.plain_evaluation.specs.Written.{Scene, Written, put, given, derived, at_top, in_row, in_area, written, write_item}
use Rattle.plan_meaning.specs.Layout.{places_of, nodes_of_text}
use Rattle.plan_meaning.specs.Owners.{item_owning}
use Rattle.plan_meaning.specs.Worked.{source, memo}
use Rattle.plan_meaning.proofs.Computes.{lays_out}
use Rattle.plan_meaning.proofs.Renamed.{renamed-Lit, renamed-Read, renamed-Binary}
use Rattle.plan_meaning.proofs.worked.rows_of_todos.Goals as goal

abbrev first : Scene
first = in_row 2 (number 1) at_top

abbrev second : Scene
second = in_row 2 (number 2) at_top

-- the text, written out
abbrev todos_text : List Written
todos_text =
    put 0 (given kind.Signal (Word 26)) at_top ++ put 1 (given kind.Signal (number 2)) at_top
    ++ put 4 (given kind.Field (Word 24)) first ++ put 5 (given kind.Field (number 0)) first
    ++ put 4 (given kind.Field (Word 25)) second ++ put 5 (given kind.Field (number 1)) second
    ++ put 6 (derived kind.Memo (Binary op.Sub (Lit (number 3)) (Read 1))) at_top
    ++ put 7 (derived kind.Memo (Read 0)) at_top
    ++ put 8 (derived kind.Memo (Read 6)) at_top
    ++ put 9 (derived kind.Memo (Read 6)) at_top
    ++ put 11 (derived kind.Memo (Read 3)) first ++ put 12 (derived kind.Memo (Read 4)) first ++ put 13 (derived kind.Memo (Read 5)) first
    ++ put 11 (derived kind.Memo (Read 3)) second ++ put 12 (derived kind.Memo (Read 4)) second ++ put 13 (derived kind.Memo (Read 5)) second
    ++ put 15 (given kind.Signal (Word 21)) (in_area 1 at_top)
    ++ put 16 (derived kind.Memo (Read 15)) (in_area 1 at_top)

todos_written : written todos todos_held ≡ todos_text
unfolding write_item
todos_written = simp lays_out

abbrev todos_flags : List (ℕ × Bool)
todos_flags = (0, false) ∷ (1, false) ∷ (2, false) ∷ (3, false) ∷ (4, true) ∷ (5, true) ∷ (6, false) ∷ (7, false) ∷ (8, false) ∷ (9, false) ∷ (10, false) ∷ (11, true) ∷ (12, true) ∷ (13, true) ∷ (14, false) ∷ (15, false) ∷ (16, false) ∷ []

todos_keyed : items_keyed todos.items false ≡ todos_flags
unfolding item_keyed
todos_keyed = simp lays_out

todos_nodes : nodes_of_text (flag_of todos_flags) todos_text ≡ source kind.Signal 0 ∷ source kind.Signal 0 ∷ source kind.Field 0 ∷ source kind.Field 0 ∷ source kind.Field 0 ∷ source kind.Field 0 ∷ source kind.Signal 1 ∷ memo (Binary op.Sub (Lit (number 3)) (Read 1)) 0 ∷ memo (Read 0) 0 ∷ memo (Read 7) 0 ∷ memo (Read 7) 0 ∷ memo (Lit (number 1)) 0 ∷ memo (Read 2) 0 ∷ memo (Read 3) 0 ∷ memo (Lit (number 2)) 0 ∷ memo (Read 4) 0 ∷ memo (Read 5) 0 ∷ memo (Read 6) 1 ∷ []
todos_nodes = simp (renamed-Lit, renamed-Read, renamed-Binary)

pub returns-clause-places : goal.returns-clause-places
returns-clause-places c = ap places_of todos_written

pub returns-clause-nodes : goal.returns-clause-nodes
returns-clause-nodes c = (λ i. nodes_of_text (flag_of (todos_keyed i)) (todos_written i)) ∙ todos_nodes

pub returns-clause-owners : goal.returns-clause-owners
unfolding item_owning
returns-clause-owners c = simp lays_out
