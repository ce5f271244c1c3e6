-- The code's lines, as what is written out has them.
use Rattle.std.specs.Prelude.{ℕ, ◌+◌, ◌^◌, nat_lt, nat_le, Bool, List, length, Option, Some, None}
use Rattle.std.specs.List.{list_all}
use Rattle.std.specs.Option.{option_map}
use Rattle.values.specs.declared.expr.Expr.{Expr}
use Rattle.values.specs.declared.plan.Kind.{Kind}
use Rattle.store_fields.specs.declared.row.Row.{Row}
use Rattle.component_items.specs.declared.component.Component.{Component}
use Rattle.component_items.specs.declared.component.Item.{Item}
use Rattle.plain_evaluation.specs.Held.{Held}
use Rattle.plain_evaluation.specs.Place.{Place, place_at}
use Rattle.plain_evaluation.specs.Written.{Scene, Says, given, loaded, derived, kind_said, Written, key_in, state_of, pairs_among, write_item, write_items}
use Rattle.plan_lines.specs.Scenes.{scene_in}
use Rattle.plan_lines.specs.declared.line.Line.{Line}

-- what a plan says of a place
pub record Placed : Type 0 where
  pub id : ℕ
  pub scene : Scene
  pub kind : Kind
  -- what computes it; a source has none
  pub expr : Option Expr

abbrev pub source_placed : ℕ → Scene → Kind → Placed
source_placed id scene kind = record { id = id; scene = scene; kind = kind; expr = None }

abbrev pub computed_placed : ℕ → Scene → Kind → Expr → Placed
computed_placed id scene kind expr = record { id = id; scene = scene; kind = kind; expr = Some expr }

-- a line of the code
abbrev pub placed_in : Line → Placed
placed_in line = record { id = line.id; scene = scene_in line.scene; kind = line.kind; expr = option_map (λ e. e.now) line.expr }

-- a line of what is written out
abbrev pub expr_in : Says → Option Expr
expr_in (given kind code) = None
expr_in (loaded pairs arrived) = None
expr_in (derived kind expr) = Some expr

abbrev pub placed_of : Written → Placed
placed_of w = record { id = w.id; scene = w.scene; kind = kind_said w.says; expr = expr_in w.says }

abbrev pub place_placed : Placed → Place
place_placed p = place_at p.id (key_in p.scene)

-- ---- items of a component in held state

abbrev pub item_written : Component → Held → Item → Scene → List Written
item_written component held item scene = write_item (state_of held) (pairs_among component.items) item scene

abbrev pub items_written : Component → Held → List Item → Scene → List Written
items_written component held items scene = write_items (state_of held) (pairs_among component.items) items scene

-- ---- ids that are small

abbrev pub all_below : List ℕ → Bool
all_below ids = list_all (λ id. nat_lt id (2 ^ 31)) ids

-- the ids of the fields of each row of the store
abbrev pub rows_narrow : ℕ → List Row → Bool
rows_narrow store rows = list_all (λ row. nat_le (2 + store + length row.fields) (2 ^ 31)) rows
