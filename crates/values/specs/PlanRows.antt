-- Small plans, for the worked rows.
use Rattle.std.specs.Prelude.{ℕ, List, [], Some, None}
use Rattle.values.specs.declared.code.Code.TheVariants.{Empty}
use Rattle.values.specs.declared.code.Op.TheVariants.{Add}
use Rattle.values.specs.declared.expr.Expr.TheVariants.{Lit, Read, Binary}
use Rattle.values.specs.declared.plan.Kind.{Kind}
use Rattle.values.specs.declared.plan.Kind.TheVariants.{Signal}
use Rattle.values.specs.declared.plan.PlanNode.{PlanNode}
use Rattle.values.specs.declared.plan.PlanOwner.{PlanOwner}
use Rattle.values.specs.declared.plan.Plan.{Plan}

abbrev pub plan_of : List PlanNode → List PlanOwner → Plan
plan_of ns os = record { nodes = ns; owners = os }

-- a signal of this owner
abbrev pub signal_in : ℕ → PlanNode
signal_in o = record { kind = Signal; expr = Lit Empty; owner = o }

-- a node of this kind and of owner 0 that reads this row
abbrev pub reader : Kind → ℕ → PlanNode
reader k row = record { kind = k; expr = Read row; owner = 0 }

-- a node of this kind and of owner 0 that adds this row to itself
abbrev pub doubler : Kind → ℕ → PlanNode
doubler k row = record { kind = k; expr = Binary Add (Read row) (Read row); owner = 0 }

abbrev pub root : PlanOwner
root = record { parent = None; cleanups = [] }

-- an owner inside this one
abbrev pub inside : ℕ → PlanOwner
inside o = record { parent = Some o; cleanups = [] }
