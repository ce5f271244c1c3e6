-- Plan evaluation: the value of each row of a plan, where the values of its sources are given.
use Rattle.std.specs.Prelude.{◌≡◌, ℕ, ◌<◌, Bool, true, false, if◌then◌else◌, List, [], ◌∷◌, ◌++◌, length, slice_get, slice_index_or, Contains, Some}
use Rattle.values.specs.declared.code.Code.{Code}
use Rattle.values.specs.declared.code.Code.TheVariants.{Empty}
use Rattle.values.specs.declared.plan.Kind.{Kind}
use Rattle.values.specs.declared.plan.Kind.TheVariants.{Signal, Field, Load, Memo, Effect}
use Rattle.values.specs.declared.plan.PlanNode.{PlanNode}
use Rattle.values.specs.Evaluation.{value_of}
use Rattle.values.specs.Plan.{rows_in}

-- memos and effects are derived: they have the value of their expression. All other rows are sources.
abbrev pub is_derived : Kind → Bool
is_derived Signal = false
is_derived Field = false
is_derived Load = false
is_derived Memo = true
is_derived Effect = true

-- the value at a place, and nothing past the end
abbrev pub value_at : List Code → ℕ → Code
value_at values row = slice_index_or values row Empty

-- a derived node has the value of its expression over `values`, a source its own
abbrev pub node_value : PlanNode → Code → (ℕ → Code) → Code
node_value node own values = if is_derived node.kind then value_of node.expr values else own

-- the values of all rows, where those of the first rows are done and `nodes` are the nodes of the others
unfoldable pub values_from : List PlanNode → (ℕ → Code) → List Code → List Code
values_from [] sources done = done
values_from (node ∷ nodes) sources done = values_from nodes sources (done ++ node_value node (sources (length done)) (value_at done) ∷ [])

-- the values of all rows in order, where `sources` gives that of each source
abbrev pub plan_values : List PlanNode → (ℕ → Code) → List Code
plan_values nodes sources = values_from nodes sources []

-- the value of a row
abbrev pub plan_value : List PlanNode → (ℕ → Code) → ℕ → Code
plan_value nodes sources = value_at (plan_values nodes sources)

-- each expression names rows before its own node alone
pub record ReadsBack (nodes : List PlanNode) : Type 0 where
  pub back : (row : ℕ) (node : PlanNode) → slice_get nodes row ≡ Some node → (source : ℕ) → Contains (rows_in node.expr) source → source < row

-- the values are those of the sources, and at each derived row that of its expression over them
pub record SolvesPlan (nodes : List PlanNode) (sources values : ℕ → Code) : Type 0 where
  pub each : (row : ℕ) (node : PlanNode) → slice_get nodes row ≡ Some node → values row ≡ node_value node (sources row) values

-- the sources have the same values in both
pub record HaveSameSources (nodes : List PlanNode) (s t : ℕ → Code) : Type 0 where
  pub same : (row : ℕ) (node : PlanNode) → slice_get nodes row ≡ Some node → is_derived node.kind ≡ false → s row ≡ t row
