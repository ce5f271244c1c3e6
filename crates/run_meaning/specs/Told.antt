-- What lanes were told and what was noted of runs: each value is explained, and no effect runs after its owner's disposal.
use Rattle.std.specs.Prelude.{◌≡◌, ◌⊎◌, ℕ, ◌<◌, Some, None, List}
use Rattle.values.specs.declared.code.Code.{Code}
use Rattle.values.specs.declared.plan.Kind.TheVariants as kind
use Rattle.values.specs.declared.plan.Noted.{Noted}
use Rattle.values.specs.declared.plan.PlanNode.{PlanNode}
use Rattle.values.specs.declared.plan.Fact.TheVariants as fact
use Rattle.script_items.specs.declared.operation.ScriptOp.{ScriptOp}
use Rattle.run_items.specs.declared.answer.Reply.{Reply}
use Rattle.run_items.specs.declared.answer.Reply.TheVariants as reply
use Rattle.run_meaning.specs.Words.{In}
use Rattle.run_meaning.specs.Opened.{Opened, node_at, opening_code}
use Rattle.run_meaning.specs.Lane.{Done, Everywhere, own, next, get_row}
use Rattle.run_meaning.specs.Entries.{fact_at}
use Rattle.run_meaning.specs.Explained.{Explained}
use Rattle.run_meaning.specs.Phase.{Phase, disposed_before}

-- ---- values that lanes got

-- a value with its number: the opening value and 0, or that of a write or a change of the row
abbrev pub IsCurrent : Opened → List Noted → ℕ → Code → ℕ → Type 0
IsCurrent o es row v k = ((k ≡ 0) × (opening_code o row ≡ v)) ⊎ (fact_at k es ≡ Some (fact.Write row v)) ⊎ (fact_at k es ≡ Some (fact.Change row v))

-- no older than the lane's own writes, and no newer than its next write or edit
abbrev pub GotAs : Phase → List Done → List Done → ScriptOp → Reply → Type 0
GotAs p before later x (reply.Set n) = Unit {0}
GotAs p before later x (reply.Got v k) = (row : ℕ) × (get_row p.opened x ≡ Some row) × Explained p.opened p.entries (own p.opened before) (next later) row v × IsCurrent p.opened p.entries row v k
GotAs p before later x (reply.Pumped y) = Unit {0}
GotAs p before later x (reply.Disposal y) = Unit {0}
GotAs p before later x (reply.Edited n v) = Unit {0}
GotAs p before later x reply.NoRow = Unit {0}
GotAs p before later x (reply.Busy n) = Unit {0}
GotAs p before later x (reply.Again n) = Unit {0}
GotAs p before later x (reply.Disposed n) = Unit {0}
GotAs p before later x (reply.Full n) = Unit {0}

abbrev pub GotExplained : Phase → Type 0
GotExplained p = Everywhere (λ pass before d later. GotAs p before later d.op d.reply) p.lanes

-- ---- values of runs

-- each run and each change is explained by some opening values and writes
abbrev pub EntriesExplained : Phase → Type 0
EntriesExplained p = (k row : ℕ) (v : Code) → (fact_at k p.entries ≡ Some (fact.Ran row v)) ⊎ (fact_at k p.entries ≡ Some (fact.Change row v)) → Explained p.opened p.entries (λ n. 0) None row v

-- the owner of a run was not disposed in an earlier phase, and its disposal in this one has a greater number
pub record IsLive (past : List Phase) (p : Phase) (k owner : ℕ) : Type 0 where
  pub before : In owner (disposed_before past) → ⊥
  pub now : (n : ℕ) → fact_at n p.entries ≡ Some (fact.Disposed owner) → k < n

abbrev pub NoRunAfter : List Phase → Phase → Type 0
NoRunAfter past p = (k row : ℕ) (v : Code) → fact_at k p.entries ≡ Some (fact.Ran row v) → (node : PlanNode) × (node_at p.opened row ≡ Some node) × (node.kind ≡ kind.Effect) × IsLive past p k node.owner
