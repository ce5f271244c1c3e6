-- A phase as one caller after another makes it: the operations of its lanes in the order in which they were made.
use Rattle.std.specs.Prelude.{◌≡◌, ◌⊎◌, ℕ, ◌<◌, ◌≤◌, ◌==◌, if◌then◌else◌, true, max, Some, List, [], ◌∷◌, map, replicate}
use Rattle.std.specs.List.{FoldsTo, AllByRecursion, range_with_len}
use Rattle.values.specs.declared.code.Code.{Code}
use Rattle.values.specs.declared.plan.Noted.{Noted}
use Rattle.values.specs.declared.plan.Fact.TheVariants as fact
use Rattle.values.specs.Plan.{IsLawful}
use Rattle.script_items.specs.declared.operation.ScriptOp.{ScriptOp}
use Rattle.script_items.specs.declared.operation.ScriptOp.TheVariants as op
use Rattle.run_items.specs.declared.answer.Reply.{Reply}
use Rattle.run_items.specs.declared.answer.Reply.TheVariants as reply
use Rattle.run_meaning.specs.Words.{In, times}
use Rattle.run_meaning.specs.Opened.{Opened, at_none, dead_of}
use Rattle.run_meaning.specs.Lane.{Done, Everywhere, set_row, code_in, get_row, target_of, area_in}
use Rattle.run_meaning.specs.Edits.{held_written, verdict_in, edits_of}
use Rattle.run_meaning.specs.Phase.{Phase, disposed_before}
use Rattle.run_meaning.specs.Merge.{is_answer}
use Rattle.run_meaning.specs.Causes.{IsOwned}
use Rattle.run_history.specs.Going.{Start, start_of, Going, just_opened, IsDead, edits_by, Goes, derived_of}
use Rattle.run_history.specs.Calls.{IsNoted, IsGot, IsPumped, IsDisposed, IsQuiet, IsFull}

-- ---- one operation

-- an operation that was made: by which pass, what was asked and answered, and what it noted
pub record Made : Type 0 where
  pub pass : ℕ
  pub done : Done
  pub block : List Noted

-- how many numbers it may draw, but for those of disposals
abbrev pub may_draw : Start → ScriptOp → ℕ
may_draw s (op.Set id key code) = 1
may_draw s (op.Get id key) = derived_of s
may_draw s op.Pump = derived_of s
may_draw s (op.Dispose owner) = 0
may_draw s (op.Change edit) = 1

-- What a reply says of the phase before the operation and after it. What comes of an edit is free here.
abbrev pub Says : List Phase → Opened → Going → List Noted → Going → ℕ → ScriptOp → Reply → Type 0
Says past o g block h pass x (reply.Set n) = (row : ℕ) × (code : Code) × (set_row o x ≡ Some row) × (code_in x ≡ Some code) × IsNoted g block h n (fact.Write row code)
Says past o g block h pass x (reply.Got v n) = (row : ℕ) × (get_row o x ≡ Some row) × IsGot (start_of past o) g block h row v n
Says past o g block h pass x (reply.Pumped y) = IsPumped (start_of past o) g block h y
Says past o g block h pass x (reply.Disposal y) = (area : ℕ) × (area_in x ≡ Some area) × IsDisposed (start_of past o) g block h area y
Says past o g block h pass x (reply.Edited n v) = IsNoted g block h n (fact.Edit pass (edits_by pass g.entries))
Says past o g block h pass x reply.NoRow = IsQuiet g block h × (target_of o x ≡ Some at_none)
Says past o g block h pass x (reply.Busy n) = ⊥
Says past o g block h pass x (reply.Again n) = ⊥
Says past o g block h pass x (reply.Disposed n) = IsQuiet g block h × IsOwned o x n × IsDead (start_of past o) g.entries n
Says past o g block h pass x (reply.Full n) = IsFull g block h (may_draw (start_of past o) x) n

-- what is owed to an operation: that its row is not there, or that its owner is dead
pub record Owes (past : List Phase) (o : Opened) (g : Going) (x : ScriptOp) (r : Reply) : Type 0 where
  pub no_row : target_of o x ≡ Some at_none → r ≡ reply.NoRow
  pub disposed : (n : ℕ) → IsOwned o x n → IsDead (start_of past o) g.entries n → (r ≡ reply.Disposed n) ⊎ (r ≡ reply.NoRow)

-- the operation takes the phase from g to h
pub record Does (past : List Phase) (o : Opened) (g : Going) (m : Made) (h : Going) : Type 0 where
  pub goes : Goes (start_of past o) g m.block h
  pub says : Says past o g m.block h m.pass m.done.op m.done.reply
  pub answers : is_answer m.done.op m.done.reply ≡ true
  pub owes : Owes past o g m.done.op m.done.reply

-- ---- operations one after another

abbrev pub Follows : List Phase → Opened → Going → List Made → Going → Type 0
Follows past o g h k = FoldsTo (Does past o) g h k

-- what a pass did, in its order
abbrev pub done_by : ℕ → List Made → List Done
done_by pass [] = []
done_by pass (m ∷ ms) = if pass == m.pass then m.done ∷ done_by pass ms else done_by pass ms

-- the lanes of so many passes; passes count from 1
abbrev pub lanes_of : ℕ → List Made → List (List Done)
lanes_of count h = map (λ pass. done_by pass h) (range_with_len 1 count)

-- the phase that so many lanes made, where it opened at this count of ticks. One caller meets no other.
abbrev pub phase_of : Opened → ℕ → ℕ → List Made → Going → Phase
phase_of o base count h k =
    record { opened = o; lanes = lanes_of count h; drawn = k.drawn; base = base; entries = k.entries; counts = replicate (max 1 count) (record { meets = 0; remarks = 0 }) }

-- each operation is of one of the lanes
abbrev pub ByPasses : ℕ → List Made → Type 0
ByPasses count h = AllByRecursion (λ m. (0 < m.pass) × (m.pass ≤ count)) h

-- what a phase opens with fits the phases before it
pub record PastFits (past : List Phase) (o : Opened) : Type 0 where
  pub lawful : IsLawful o.plan
  pub dead_was : (n : ℕ) → In n (dead_of o) → In n (disposed_before past)
  pub was_dead : (n : ℕ) → In n (disposed_before past) → In n (dead_of o)
  pub once : (n : ℕ) → times n (disposed_before past) ≤ 1

-- each edit is told what comes of it when the phase is settled
abbrev pub VerdictFits : Phase → Reply → Type 0
VerdictFits p (reply.Set n) = Unit {0}
VerdictFits p (reply.Got v n) = Unit {0}
VerdictFits p (reply.Pumped y) = Unit {0}
VerdictFits p (reply.Disposal y) = Unit {0}
VerdictFits p (reply.Edited n v) = verdict_in (edits_of p.lanes p.entries) (held_written p.opened p.entries) n ≡ Some v
VerdictFits p reply.NoRow = Unit {0}
VerdictFits p (reply.Busy n) = Unit {0}
VerdictFits p (reply.Again n) = Unit {0}
VerdictFits p (reply.Disposed n) = Unit {0}
VerdictFits p (reply.Full n) = Unit {0}

abbrev pub VerdictsFit : Phase → Type 0
VerdictsFit p = Everywhere (λ pass before d later. VerdictFits p d.reply) p.lanes

-- what holds of each phase that a history makes
abbrev pub OfHistories : (List Phase → Phase → Type 0) → Type 0
OfHistories P = (past : List Phase) (o : Opened) (base count : ℕ) (h : List Made) (k : Going) → Follows past o just_opened h k → ByPasses count h → PastFits past o → P past (phase_of o base count h k)
