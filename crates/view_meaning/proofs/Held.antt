-- The rows of held state that fits have distinct keys.
use Rattle.std.proofs.Common.{◌≡◌, ◌&&◌, ◌||◌, not, List, [], ◌∷◌, map, refl, ap, ◌∙◌}
use Rattle.std.specs.List.{list_any}
use Rattle.values.specs.declared.code.Code.{Code}
use Rattle.values.specs.Evaluation.{is_same}
use Rattle.store_fields.specs.declared.row.Row.{Row}
use Rattle.component_items.specs.declared.component.Component.{Component}
use Rattle.component_items.specs.Kept.{are_distinct}
use Rattle.plain_evaluation.specs.Fits.{Fits, keys_differ}
use Rattle.plain_evaluation.specs.Held.{Held, rows_held}
use Rattle.plain_evaluation.specs.Page.{view_of}
use Rattle.view_meaning.specs.Parts.{KeysDiffer}

any_key : (key : Code) (rows : List Row) → list_any (is_same key) (map (λ row. row.key) rows) ≡ list_any (λ other. is_same key other.key) rows
any_key key [] = refl
any_key key (row ∷ rows) = ap (λ b. is_same key row.key || b) (any_key key rows)

distinct : (rows : List Row) → are_distinct (map (λ row. row.key) rows) ≡ keys_differ rows
distinct [] = refl
distinct (row ∷ rows) = λ i. not (any_key row.key rows i) && distinct rows i

pub held_keys_differ : (component : Component) (held : Held) → Fits component held → KeysDiffer (view_of component held)
held_keys_differ component held fits = λ id store. distinct (rows_held held store) ∙ fits.keys store
