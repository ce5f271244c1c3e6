-- When values of the rows are settled: each is as the state and the values of the rows that it names say.
use Rattle.std.specs.Prelude.{◌≡◌, ℕ, suc, List, slice_get, Option, Some}
use Rattle.values.specs.declared.code.Code.{Code}
use Rattle.values.specs.declared.plan.Kind.{Kind}
use Rattle.values.specs.declared.plan.Kind.TheVariants as kind
use Rattle.values.specs.declared.plan.PlanNode.{PlanNode}
use Rattle.values.specs.Evaluation.{value_of}
use Rattle.component_items.specs.declared.component.Component.{Component}
use Rattle.plain_evaluation.specs.Place.{outside}
use Rattle.plain_evaluation.specs.Scratch.{load_value}
use Rattle.plain_evaluation.specs.Written.{State, given, loaded, Written, written_in}
use Rattle.plan_meaning.specs.Layout.{rows_of, places_of, row_of, plan_of}

pub record AreSettled (component : Component) (state : State) (values : ℕ → Code) : Type 0 where
  -- a signal and a field have the value that the state gives them
  pub sources : (row : ℕ) (w : Written) (k : Kind) (code : Code) → slice_get (rows_of (written_in component state)) row ≡ Some w → w.says ≡ given k code → values row ≡ code
  -- a load has that of its resource for the key that arrived, where the row of its key has this value
  pub loads : (row key : ℕ) (w : Written) (pairs : List (Code × Code)) (arrived : Option Code) → slice_get (rows_of (written_in component state)) row ≡ Some w → w.says ≡ loaded pairs arrived → row_of (places_of (written_in component state)) (outside (suc w.id)) ≡ Some key → values row ≡ load_value pairs arrived (values key)
  -- a memo has that of its expression; nothing is asked of effects
  pub memos : (row : ℕ) (node : PlanNode) → slice_get (plan_of component state).nodes row ≡ Some node → node.kind ≡ kind.Memo → values row ≡ value_of node.expr values
