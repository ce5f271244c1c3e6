-- Rows and nodes, of what a plan says of each place.
use Rattle.std.specs.Prelude.{ℕ, Bool, true, false, not, List, ◌++◌, map, is_some, Option, Some, None}
use Rattle.std.specs.List.{filter}
use Rattle.values.specs.declared.code.Code.TheVariants.{Empty}
use Rattle.values.specs.declared.expr.Expr.{Expr}
use Rattle.values.specs.declared.expr.Expr.TheVariants.{Lit}
use Rattle.values.specs.declared.plan.PlanNode.{PlanNode}
use Rattle.plain_evaluation.specs.Keyed.{stands_for}
use Rattle.plain_evaluation.specs.Place.{Place}
use Rattle.plain_evaluation.specs.Written.{Scene}
use Rattle.plan_meaning.specs.Layout.{read_by}
use Rattle.plan_meaning.specs.Renamed.{renamed}
use Rattle.plan_lines.specs.Lines.{Placed, place_placed}

abbrev pub has_expr : Placed → Bool
has_expr p = is_some p.expr

abbrev pub wanted : Bool → Bool → Bool
wanted true has = has
wanted false has = not has

-- those that are computed, or those that are not
abbrev pub some_of : Bool → List Placed → List Placed
some_of computed ps = filter (λ p. wanted computed (has_expr p)) ps

abbrev pub rows_placed : List Placed → List Placed
rows_placed ps = some_of false ps ++ some_of true ps

abbrev pub places_placed : List Placed → List Place
places_placed ps = map place_placed ps

-- ---- nodes

abbrev pub node_expr : (ℕ → Bool) → List Place → Scene → Option Expr → Expr
node_expr keyed places scene None = Lit Empty
node_expr keyed places scene (Some expr) = renamed (λ id. read_by places (stands_for keyed scene id)) expr

abbrev pub node_placed : (ℕ → Bool) → List Place → Placed → PlanNode
node_placed keyed places p = record { kind = p.kind; expr = node_expr keyed places p.scene p.expr; owner = p.scene.owner }
