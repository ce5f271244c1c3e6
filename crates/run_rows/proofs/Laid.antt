-- What the texts of worked rows say of an id, and where it has its row.
use Rattle.std.proofs.Common.{◌≡◌, ℕ, if◌then◌else◌, List, [], ◌∷◌, Option, Some, None, ap, ◌∙◌}
use Rattle.values.specs.declared.code.Code.{Code}
use Rattle.values.specs.declared.expr.Expr.TheVariants.{Read}
use Rattle.values.specs.declared.plan.Kind.TheVariants as kind
use Rattle.component_items.specs.declared.component.Component.{Component}
use Rattle.component_items.specs.Ids.{item_owners}
use Rattle.plain_evaluation.specs.Held.{Held, item_first, is_live, first_held}
use Rattle.plain_evaluation.specs.Keyed.{item_keyed}
use Rattle.plain_evaluation.specs.Lookup.{found_in}
use Rattle.plain_evaluation.specs.Origins.{Origin, nothing_told, source, derives, tell_item, tell_items, top_around, no_origin}
use Rattle.plain_evaluation.specs.Place.{Place, place_at, outside, of_row}
use Rattle.plain_evaluation.specs.Rows.{number, side, side_dead, titles, titles_held}
use Rattle.plain_evaluation.specs.Written.{write_item, written, pairs_among}
use Rattle.plain_evaluation.proofs.Computes.{computes}
use Rattle.plan_meaning.specs.Layout.{places_of, row_of}
use Rattle.plan_meaning.specs.Told.{owner_of_id}
use Rattle.plan_meaning.proofs.Computes.{lays_out}
use Rattle.run_meaning.specs.Opened.{target_at, at_dead, target_in}

-- an owner by the whole table of the text
abbrev owner_by : ℕ → List (ℕ × Origin) → ℕ
owner_by id table = (found_in no_origin table id).around.owner

abbrev side_table : List (ℕ × Origin)
side_table = (0, record { around = top_around; told = nothing_told }) ∷ (1, record { around = record { owner = 1; store = None }; told = source kind.Signal }) ∷ (2, record { around = record { owner = 1; store = None }; told = derives kind.Memo (Read 1) }) ∷ []

side_told : tell_items (pairs_among side.items) side.items top_around ≡ side_table
unfolding tell_item
side_told = simp (computes, lays_out)

pub side_owner : owner_of_id side 1 ≡ 1
side_owner = ap (owner_by 1) side_told

abbrev titles_table : List (ℕ × Origin)
titles_table = (0, record { around = top_around; told = nothing_told }) ∷ (1, record { around = top_around; told = nothing_told }) ∷ (2, record { around = record { owner = 0; store = Some 0 }; told = source kind.Field }) ∷ (3, record { around = top_around; told = nothing_told }) ∷ (4, record { around = record { owner = 0; store = Some 0 }; told = derives kind.Memo (Read 2) }) ∷ []

titles_told : tell_items (pairs_among titles.items) titles.items top_around ≡ titles_table
unfolding tell_item
titles_told = simp (computes, lays_out)

pub titles_owner : owner_of_id titles 2 ≡ 0
titles_owner = ap (owner_by 2) titles_told

-- what an id stands for, where its owner and the places are known
pub target_by : (component : Component) (held : Held) (places known : List Place) (id : ℕ) (key : Option Code) (owner : ℕ) → owner_of_id component id ≡ owner → places ≡ known
    → target_in component held places id key ≡ (if is_live held owner then target_at (row_of known (place_at id key)) else at_dead owner)
target_by component held places known id key owner e p =
    ap (λ (n : ℕ). if is_live held n then target_at (row_of places (place_at id key)) else at_dead n) e
    ∙ ap (λ (ps : List Place). if is_live held owner then target_at (row_of ps (place_at id key)) else at_dead owner) p

pub side_places : places_of (written side (first_held side)) ≡ outside 1 ∷ outside 2 ∷ []
unfolding item_first write_item item_owners item_keyed
side_places = simp (computes, lays_out)

pub dead_places : places_of (written side side_dead) ≡ []
unfolding item_first write_item item_owners item_keyed
dead_places = simp (computes, lays_out)

pub titles_places : places_of (written titles titles_held) ≡ of_row 2 (number 3) ∷ of_row 2 (number 2) ∷ of_row 4 (number 3) ∷ of_row 4 (number 2) ∷ []
unfolding item_first write_item item_owners item_keyed
titles_places = simp (computes, lays_out)
