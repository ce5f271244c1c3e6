use Rattle.std.proofs.Common.{◌≡◌, ℕ, ◌&&◌, Bool, List, [], ◌∷◌, Some, None, is_some, ap}
use Rattle.values.specs.declared.expr.Expr.TheVariants.{Read}
use Rattle.values.specs.declared.plan.Kind.TheVariants as kind
use Rattle.plain_evaluation.specs.Held.{Held}
use Rattle.plain_evaluation.specs.Lookup.{found_in}
use Rattle.plain_evaluation.specs.Origins.{Around, Origin, no_origin, nothing_told, source, derives, top_around, tell_item, tell_items}
use Rattle.plain_evaluation.specs.Place.{Place, outside, of_row}
use Rattle.plain_evaluation.specs.Rows.{number, inside, inner_dead, titles, titles_held}
use Rattle.plain_evaluation.specs.Written.{state_of, pairs_among}
use Rattle.plan_meaning.specs.There.{has_row}
use Rattle.plan_meaning.specs.Told.{kind_told}
use Rattle.plan_meaning.specs.Worked.{titles_fewer}
use Rattle.plan_meaning.proofs.Computes.{lays_out}
use Rattle.plan_meaning.proofs.worked.places_that_are_there.Goals as goal

abbrev in_owner : ℕ → Around
in_owner owner = record { owner = owner; store = None }

abbrev in_store : Around
in_store = record { owner = 0; store = Some 0 }

abbrev inside_table : List (ℕ × Origin)
inside_table = (0, record { around = top_around; told = nothing_told }) ∷ (1, record { around = in_owner 1; told = source kind.Signal }) ∷ (2, record { around = in_owner 1; told = nothing_told }) ∷ (3, record { around = in_owner 2; told = source kind.Signal }) ∷ (4, record { around = in_owner 2; told = derives kind.Memo (Read 3) }) ∷ (5, record { around = in_owner 1; told = derives kind.Memo (Read 1) }) ∷ []

inside_told : tell_items (pairs_among inside.items) inside.items top_around ≡ inside_table
unfolding tell_item
inside_told = simp lays_out

abbrev titles_table : List (ℕ × Origin)
titles_table = (0, record { around = top_around; told = nothing_told }) ∷ (1, record { around = top_around; told = nothing_told }) ∷ (2, record { around = in_store; told = source kind.Field }) ∷ (3, record { around = top_around; told = nothing_told }) ∷ (4, record { around = in_store; told = derives kind.Memo (Read 2) }) ∷ []

titles_told : tell_items (pairs_among titles.items) titles.items top_around ≡ titles_table
unfolding tell_item
titles_told = simp lays_out

-- whether the place is there, by the table of origins
abbrev by_table : Held → Place → List (ℕ × Origin) → Bool
by_table held p table =
    let origin = found_in no_origin table p.id in
    is_some (kind_told origin.told) && (state_of held).live origin.around.owner && has_row (state_of held) origin.around.store p.key

pub returns-clause-live : goal.returns-clause-live
returns-clause-live c = ap (by_table inner_dead (outside 1)) inside_told

pub returns-clause-dead : goal.returns-clause-dead
returns-clause-dead c = ap (by_table inner_dead (outside 3)) inside_told

pub returns-clause-area : goal.returns-clause-area
returns-clause-area c = ap (by_table inner_dead (outside 0)) inside_told

pub returns-clause-row : goal.returns-clause-row
returns-clause-row c = ap (by_table titles_held (of_row 4 (number 3))) titles_told

pub returns-clause-no_row : goal.returns-clause-no_row
returns-clause-no_row c = ap (by_table titles_fewer (of_row 4 (number 3))) titles_told

pub returns-clause-no_key : goal.returns-clause-no_key
returns-clause-no_key c = ap (by_table titles_held (outside 2)) titles_told

pub returns-clause-store : goal.returns-clause-store
returns-clause-store c = ap (by_table titles_held (outside 0)) titles_told
