-- The layout of a component in a state: its rows, and the plan over them.
use Rattle.std.specs.Prelude.{ℕ, Bool, true, false, not, List, ◌++◌, map, Option, Some, None}
use Rattle.std.specs.List.{filter}
use Rattle.values.specs.declared.code.Code.TheVariants.{Empty}
use Rattle.values.specs.declared.expr.Expr.{Expr}
use Rattle.values.specs.declared.expr.Expr.TheVariants.{Lit, Read}
use Rattle.values.specs.declared.plan.PlanNode.{PlanNode}
use Rattle.values.specs.declared.plan.Plan.{Plan}
use Rattle.component_items.specs.declared.component.Component.{Component}
use Rattle.plain_evaluation.specs.Place.{Place, position_of}
use Rattle.plain_evaluation.specs.Keyed.{Stand, literal, place, stands_for, is_keyed}
use Rattle.plain_evaluation.specs.Written.{State, Says, given, loaded, derived, kind_said, Written, place_of, written_in}
use Rattle.plan_meaning.specs.Owners.{plan_owners}
use Rattle.plan_meaning.specs.Renamed.{renamed}

-- ---- rows

abbrev pub is_computed : Says → Bool
is_computed (given kind code) = false
is_computed (loaded pairs arrived) = false
is_computed (derived kind expr) = true

-- the rows of a text that is written out: first signals, fields and loads, then all that is derived, each in text order
abbrev pub rows_of : List Written → List Written
rows_of ws = filter (λ w. not (is_computed w.says)) ws ++ filter (λ w. is_computed w.says) ws

-- the place of each row, in order of row
abbrev pub places_of : List Written → List Place
places_of ws = map place_of (rows_of ws)

-- the row of a place
abbrev pub row_of : List Place → Place → Option ℕ
row_of = position_of

-- ---- nodes

abbrev pub read_row : Option ℕ → Expr
read_row None = Lit Empty
read_row (Some row) = Read row

-- what stands in a plan for what an id stands for: the key of a store's row is a literal, and all else is read by its row
abbrev pub read_by : List Place → Stand → Expr
read_by places (literal code) = Lit code
read_by places (place p) = read_row (row_of places p)

-- the expression of what is derived, where `stand` gives what stands for each id; that of a source is not used
abbrev pub expr_said : Says → (ℕ → Expr) → Expr
expr_said (given kind code) stand = Lit Empty
expr_said (loaded pairs arrived) stand = Lit Empty
expr_said (derived kind expr) stand = renamed stand expr

abbrev pub node_of : (ℕ → Bool) → List Place → Written → PlanNode
node_of keyed places w = record {
  kind = kind_said w.says;
  expr = expr_said w.says (λ id. read_by places (stands_for keyed w.scene id));
  owner = w.scene.owner;
}

-- ---- the plan

-- the nodes of a component that is written out so, by row
abbrev pub nodes_of_text : (ℕ → Bool) → List Written → List PlanNode
nodes_of_text keyed ws = map (node_of keyed (places_of ws)) (rows_of ws)

abbrev pub plan_of : Component → State → Plan
plan_of component state = record {
  nodes = nodes_of_text (is_keyed component) (written_in component state);
  owners = plan_owners component;
}
