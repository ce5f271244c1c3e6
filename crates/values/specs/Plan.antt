-- When a plan is lawful.
use Rattle.std.specs.Prelude.{◌≡◌, ◌≢◌, ℕ, ◌<◌, ◌≤◌, List, [], ◌∷◌, ◌++◌, length, slice_get, Contains, Some, None, IsSomeAnd}
use Rattle.values.specs.declared.expr.Expr.{Expr}
use Rattle.values.specs.declared.expr.Expr.TheOpen as level
use Rattle.values.specs.declared.expr.Expr.TheOpen.{Expr-F}
use Rattle.values.specs.declared.expr.Expr.TheFolds.{fold-Expr}
use Rattle.values.specs.declared.plan.Kind.TheVariants.{Effect}
use Rattle.values.specs.declared.plan.PlanNode.{PlanNode}
use Rattle.values.specs.declared.plan.PlanOwner.{PlanOwner}
use Rattle.values.specs.declared.plan.Plan.{Plan}
use Rattle.values.specs.Evaluation.{distinct}

-- one form of expression, with the rows that its parts name in their places
abbrev pub rows_step : Expr-F (List ℕ) → List ℕ
rows_step (level.Lit code) = []
rows_step (level.Read row) = row ∷ []
rows_step (level.Binary op a b) = a ++ b
rows_step (level.If c a b) = c ++ a ++ b

-- the rows that an expression names, in the text's order, whether or not an evaluation reads them
unfoldable pub rows_in : Expr → List ℕ
rows_in = fold-Expr (List ℕ) rows_step

-- the distinct rows that it names
abbrev pub names_of : Expr → List ℕ
names_of e = distinct (rows_in e)

-- the row comes before the node, and is no effect
abbrev pub MayRead : List PlanNode → ℕ → ℕ → Type 0
MayRead nodes node row = (row < node) × IsSomeAnd (slice_get nodes row) (λ n. n.kind ≢ Effect)

pub record IsLawful (plan : Plan) : Type 0 where
  pub few_nodes : length plan.nodes ≤ 4096
  pub some_owner : 1 ≤ length plan.owners
  pub few_owners : length plan.owners ≤ 1024
  pub reads_back : (row : ℕ) (node : PlanNode) → slice_get plan.nodes row ≡ Some node → (source : ℕ) → Contains (rows_in node.expr) source → MayRead plan.nodes row source
  pub owned : (row : ℕ) (node : PlanNode) → slice_get plan.nodes row ≡ Some node → node.owner < length plan.owners
  pub root : (owner : PlanOwner) → slice_get plan.owners 0 ≡ Some owner → owner.parent ≡ None
  pub inside : (number : ℕ) (owner : PlanOwner) → 0 < number → slice_get plan.owners number ≡ Some owner → IsSomeAnd owner.parent (λ parent. parent < number)
