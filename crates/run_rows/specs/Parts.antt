-- What the phases of worked rows are made of.
use Rattle.std.specs.Prelude.{ℕ, pos, None, true, List, [], ◌∷◌, map, length}
use Rattle.std.specs.List.{range_with_len}
use Rattle.values.specs.declared.code.Code.{Code}
use Rattle.values.specs.declared.code.Code.TheVariants.{Empty, Number}
use Rattle.values.specs.declared.expr.Expr.{Expr}
use Rattle.values.specs.declared.expr.Expr.TheVariants.{Lit}
use Rattle.values.specs.declared.plan.Kind.{Kind}
use Rattle.values.specs.declared.plan.Kind.TheVariants as kind
use Rattle.values.specs.declared.plan.Fact.{Fact}
use Rattle.values.specs.declared.plan.Noted.{Noted}
use Rattle.values.specs.declared.plan.PlanNode.{PlanNode}
use Rattle.values.specs.declared.plan.PlanOwner.{PlanOwner}
use Rattle.script_items.specs.declared.operation.ScriptOp.{ScriptOp}
use Rattle.script_items.specs.declared.operation.ScriptOp.TheVariants as op
use Rattle.run_items.specs.declared.answer.Reply.{Reply}
use Rattle.run_items.specs.declared.answer.Reply.TheVariants as reply
use Rattle.run_items.specs.Journal.{PassCounts}
use Rattle.plain_evaluation.specs.Held.{Holding}
use Rattle.plain_evaluation.specs.Place.{outside}
use Rattle.run_meaning.specs.Opened.{Opened, at_row}
use Rattle.run_meaning.specs.Lane.{Done}
use Rattle.run_meaning.specs.Phase.{Phase}

abbrev pub number : ℕ → Code
number n = Number (pos n)

-- ---- plans

abbrev pub node : Kind → Expr → ℕ → PlanNode
node k e owner = record { kind = k; expr = e; owner = owner }

abbrev pub signal_in : ℕ → PlanNode
signal_in owner = node kind.Signal (Lit Empty) owner

abbrev pub top : PlanOwner
top = record { parent = None; cleanups = [] }

-- the top alone, where each id has the row of the same number
abbrev pub opened_with : List Holding → List PlanNode → List Code → Opened
opened_with holdings nodes values = record {
  held = record { holdings = holdings; live = true ∷ [] };
  plan = record { nodes = nodes; owners = top ∷ [] };
  places = map outside (range_with_len 0 (length nodes));
  values = values;
  target = λ id key. at_row id;
  owner_of = λ id. 0;
}

-- ---- operations and entries

abbrev pub did : ScriptOp → Reply → Done
did x r = record { op = x; reply = r }

abbrev pub set : ℕ → Code → ScriptOp
set id code = op.Set id None code

abbrev pub get : ℕ → ScriptOp
get id = op.Get id None

abbrev pub disposed : ℕ → ℕ → ℕ → Done
disposed owner now before = did (op.Dispose owner) (reply.Disposal (record { now = now; before = before }))

abbrev pub pumped : ℕ → ℕ → ℕ → Done
pumped ran same gone = did op.Pump (reply.Pumped (record { ran = ran; same = same; gone = gone; left = 0; first_left = None }))

abbrev pub note : ℕ → Fact → Noted
note n f = record { number = n; fact = f }

-- ---- phases

abbrev pub no_counts : PassCounts
no_counts = record { meets = 0; remarks = 0 }

-- a phase of one lane that was the first, and drew as many numbers as it noted
abbrev pub phase_of : Opened → List Done → List Noted → Phase
phase_of o lane entries = record { opened = o; lanes = lane ∷ []; drawn = length entries; base = 0; entries = entries; counts = no_counts ∷ [] }
