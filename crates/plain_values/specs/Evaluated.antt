-- Plain evaluation in the order of the text, as the code goes through it: the values so far, with those of an item.
use Rattle.std.specs.Prelude.{ℕ, suc, ◌+◌, if◌then◌else◌, List, [], ◌∷◌, Bool, Option, Some, None}
use Rattle.std.specs.Option.{option_map}
use Rattle.values.specs.declared.code.Code.{Code}
use Rattle.values.specs.declared.code.Code.TheVariants.{Empty}
use Rattle.values.specs.declared.expr.Expr.{Expr}
use Rattle.values.specs.Evaluation.{is_same, value_of}
use Rattle.store_fields.specs.declared.row.Row.{Row}
use Rattle.component_items.specs.declared.component.Attr.{Attr}
use Rattle.component_items.specs.declared.component.Attr.TheVariants as attr
use Rattle.component_items.specs.declared.component.Item.{Item}
use Rattle.component_items.specs.declared.component.Item.TheOpen as level
use Rattle.component_items.specs.declared.component.Item.TheOpen.{Item-F}
use Rattle.component_items.specs.declared.component.Item.TheFolds.{fold-Item}
use Rattle.plain_evaluation.specs.Place.{Place, place_at, of_row}
use Rattle.plain_evaluation.specs.Keyed.{stands_in}
use Rattle.plain_evaluation.specs.Scratch.{Values, with_value, value_for}
use Rattle.plain_evaluation.specs.Written.{State, RowAround}

-- what an evaluation looks at: the state, which ids have a place for each row, and the value of each resource for each key
pub record Given : Type 0 where
  pub state : State
  pub keyed : ℕ → Bool
  pub by_key : ℕ → Code → Code

-- the place of an id in a row, or in none
abbrev pub place_in : Option RowAround → ℕ → Place
place_in row id = place_at id (option_map (λ r. r.key) row)

abbrev pub in_row_of : ℕ → Row → Option RowAround
in_row_of store row = Some (record { store = store; key = row.key })

-- what an expression reads
abbrev pub seen_in : (ℕ → Bool) → Values → Option RowAround → ℕ → Code
seen_in keyed values row id = value_for values (stands_in (keyed id) row id)

abbrev pub evaluated : Given → ℕ → Expr → Option RowAround → Values → Values
evaluated given id expr row values = with_value (place_in row id) (value_of expr (seen_in given.keyed values row)) values

-- the value of a load, where its key has this one
abbrev pub arrived_value : (Code → Code) → Option Code → Code → Code
arrived_value by_key None key = Empty
arrived_value by_key (Some code) key = if is_same code key then by_key code else Empty

abbrev pub loaded_by : Given → ℕ → ℕ → Option RowAround → Values → Values
loaded_by given id resource row values = with_value (place_in row id) (arrived_value (given.by_key resource) (given.state.arrived id) (seen_in given.keyed values row (suc id))) values

abbrev pub after_attr : Given → Attr → Option RowAround → Values → Values
after_attr given (attr.Bare name) row values = values
after_attr given (attr.Fixed name text) row values = values
after_attr given (attr.Shown name id expr) row values = evaluated given id expr row values

abbrev pub after_attrs : Given → List Attr → Option RowAround → Values → Values
after_attrs given [] row values = values
after_attrs given (a ∷ attrs) row values = after_attrs given attrs row (after_attr given a row values)

-- the fields of a row, the first with this id
abbrev pub after_fields : ℕ → List Code → Code → Values → Values
after_fields id [] key values = values
after_fields id (code ∷ codes) key values = after_fields (id + 1) codes key (with_value (of_row id key) code values)

abbrev pub after_rows : ℕ → List Row → Values → Values
after_rows store [] values = values
after_rows store (row ∷ rows) values = after_rows store rows (after_fields (2 + store) row.fields row.key values)

-- items one after another, and that once for each row of the store
abbrev pub in_order : List (Option RowAround → Values → Values) → Option RowAround → Values → Values
in_order [] row values = values
in_order (one ∷ others) row values = in_order others row (one row values)

abbrev pub for_each : (Option RowAround → Values → Values) → ℕ → List Row → Values → Values
for_each items store [] values = values
for_each items store (row ∷ rows) values = for_each items store rows (items (in_row_of store row) values)

abbrev pub after_step : Given → Item-F (Option RowAround → Values → Values) → Option RowAround → Values → Values
after_step given (level.Signal id name start) row values = with_value (place_in row id) (given.state.value (place_in row id)) values
after_step given (level.Memo id name expr) row values = evaluated given id expr row values
after_step given (level.Effect id name expr) row values = evaluated given id expr row values
after_step given (level.Resource id name after keys pairs) row values = values
after_step given (level.Load id name resource key) row values = loaded_by given id resource row (evaluated given (suc id) key row values)
after_step given (level.Store id name max fields starts) row values = after_rows id (given.state.rows id) values
after_step given (level.Cleanup text) row values = values
after_step given (level.Area id name owner items) row values = if given.state.live owner then in_order items row values else values
after_step given (level.If id cond items) row values = in_order items row (evaluated given id cond row values)
after_step given (level.Each id store items) row values = for_each (in_order items) store (given.state.rows store) values
after_step given (level.Element tag closed attrs items) row values = in_order items row (after_attrs given attrs row values)
after_step given (level.Text text) row values = values
after_step given (level.Shown id expr) row values = evaluated given id expr row values

unfoldable pub after_item : Given → Item → Option RowAround → Values → Values
after_item given = fold-Item (Option RowAround → Values → Values) (after_step given)

abbrev pub after_items : Given → List Item → Option RowAround → Values → Values
after_items given [] row values = values
after_items given (item ∷ items) row values = after_items given items row (after_item given item row values)
