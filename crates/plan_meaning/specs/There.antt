-- Which places there are.
use Rattle.std.specs.Prelude.{◌≡◌, ℕ, ◌&&◌, Bool, true, false, List, Option, Some, None, is_some}
use Rattle.std.specs.List.{list_all, list_any}
use Rattle.values.specs.declared.code.Code.{Code}
use Rattle.values.specs.Evaluation.{is_same}
use Rattle.store_fields.specs.declared.row.Row.{Row}
use Rattle.component_items.specs.declared.component.Component.{Component}
use Rattle.plain_evaluation.specs.Killed.{item_nests}
use Rattle.plain_evaluation.specs.Place.{Place}
use Rattle.plain_evaluation.specs.Written.{State}
use Rattle.plan_meaning.specs.Told.{kind_of_id, owner_of_id, store_of_id}

abbrev pub has_key : List Row → Code → Bool
has_key rows key = list_any (λ row. is_same row.key key) rows

-- the key is that of a row of the store, or there is neither
abbrev pub has_row : State → Option ℕ → Option Code → Bool
has_row state None None = true
has_row state None (Some key) = false
has_row state (Some store) None = false
has_row state (Some store) (Some key) = has_key (state.rows store) key

-- the text gives the id a value, its owner is live, and where it has a value for each row of a store, the row is there
abbrev pub is_there : Component → State → Place → Bool
is_there component state p = is_some (kind_of_id component p.id) && state.live (owner_of_id component p.id) && has_row state (store_of_id component p.id) p.key

-- an owner is live only where the one around it is
abbrev pub AreNested : Component → State → Type 0
AreNested component state = list_all (λ item. item_nests state.live item (state.live 0)) component.items ≡ true
