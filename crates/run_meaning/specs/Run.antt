-- A whole run: from the first settling, phase by phase, to the last, and how it ends.
use Rattle.std.specs.Prelude.{◌≡◌, ℕ, suc, ◌+◌, ◌-◌, ◌==◌, if◌then◌else◌, List, [], ◌∷◌, ◌++◌, map, length, Option, fold, sum}
use Rattle.values.specs.declared.code.Code.{Code}
use Rattle.component_items.specs.declared.component.Component.{Component}
use Rattle.script_items.specs.declared.operation.ScriptOp.{ScriptOp}
use Rattle.run_items.specs.declared.answer.Answer.{Answer}
use Rattle.run_items.specs.Journal.{JournalPhase}
use Rattle.plain_evaluation.specs.Held.{Holding, nothing, value, stored, arrived, Held, first_held}
use Rattle.plain_evaluation.specs.Killed.{killed}
use Rattle.plain_evaluation.specs.Scratch.{pending}
use Rattle.run_meaning.specs.Opened.{opened_of}
use Rattle.run_meaning.specs.Lane.{Done}
use Rattle.run_meaning.specs.Entries.{disposed_in}
use Rattle.run_meaning.specs.Edits.{held_written, held_edited, edits_of}
use Rattle.run_meaning.specs.Phase.{Phase, IsJournal}
use Rattle.run_meaning.specs.Merge.{IsMerge}
use Rattle.run_meaning.specs.Told.{GotExplained, EntriesExplained, NoRunAfter}
use Rattle.run_meaning.specs.Causes.{RepliesCaused, RefusalsCounted}

-- ---- the held state after a phase

-- a load holds the key that has arrived now, if one has
abbrev pub holding_arrived : Option Code → Holding → Holding
holding_arrived key nothing = nothing
holding_arrived key (value code) = value code
holding_arrived key (stored store) = stored store
holding_arrived key (arrived before) = arrived key

abbrev pub holdings_arrived : (ℕ → Option Code) → ℕ → List Holding → List Holding
holdings_arrived keys id [] = []
holdings_arrived keys id (holding ∷ holdings) = holding_arrived (keys id) holding ∷ holdings_arrived keys (suc id) holdings

abbrev pub held_arrived : (ℕ → Option Code) → Held → Held
held_arrived keys held = record held { holdings = holdings_arrived keys 0 held.holdings }

abbrev pub held_disposed : Component → List ℕ → Held → Held
held_disposed component owners held = fold (λ h owner. killed component owner h) held owners

-- first the writes, then the edits in order of number, then the disposals, and last the keys that have arrived when it was settled
abbrev pub after : Component → Phase → (ℕ → Option Code) → Held
after component p keys =
    held_arrived keys (held_disposed component (disposed_in p.entries) (held_edited (edits_of p.lanes p.entries) (held_written p.opened p.entries)))

-- ---- a phase

pub record IsPhase (past : List Phase) (p : Phase) : Type 0 where
  pub journal : IsJournal p.opened p.drawn p.entries
  pub merge : IsMerge past p
  pub got : GotExplained p
  pub entries : EntriesExplained p
  pub no_run_after : NoRunAfter past p
  pub causes : RepliesCaused past p
  pub counts : RefusalsCounted p

-- ---- phases one after another

-- a phase, and the held state that was settled behind it
pub record Settled : Type 0 where
  pub phase : Phase
  pub held : Held

abbrev pub phases_of : List Settled → List Phase
phases_of steps = map (λ s. s.phase) steps

-- the phases lead from the first held state to the last: each opens with what was settled before it
pub data Runs (component : Component) (first : Held) : List Settled → Held → Type 0 where
  none : Runs component first [] first
  more : {past : List Settled} {held : Held} (s : Settled) (keys : ℕ → Option Code) → Runs component first past held
      → s.phase.opened ≡ opened_of component held → IsPhase (phases_of past) s.phase → s.held ≡ after component s.phase keys
      → Runs component first (past ++ s ∷ []) s.held

-- ---- what the phases say of script, answers and journal

abbrev pub script_of : List Phase → List (List (List ScriptOp))
script_of phases = map (λ p. map (map (λ d. d.op)) p.lanes) phases

abbrev pub answers_of_lane : ℕ → ℕ → ℕ → List Done → List Answer
answers_of_lane phase lane n [] = []
answers_of_lane phase lane n (d ∷ ds) = record { phase = phase; lane = lane; op = n; reply = d.reply } ∷ answers_of_lane phase lane (suc n) ds

abbrev pub answers_of_lanes : ℕ → ℕ → List (List Done) → List Answer
answers_of_lanes phase lane [] = []
answers_of_lanes phase lane (l ∷ ls) = answers_of_lane phase lane 1 l ++ answers_of_lanes phase (suc lane) ls

abbrev pub answers_from : ℕ → List Phase → List Answer
answers_from n [] = []
answers_from n (p ∷ ps) = answers_of_lanes n 1 p.lanes ++ answers_from (suc n) ps

-- phase by phase, lane by lane, in order of operations; phases, lanes and operations count from 1
abbrev pub answers_of : List Phase → List Answer
answers_of phases = answers_from 1 phases

abbrev pub journal_of : List Phase → List JournalPhase
journal_of phases = map (λ p. record { base = p.base; entries = p.entries; counts = p.counts }) phases

-- ---- the run

-- a run of the component on the script, which gave this journal and these answers
pub record IsRun (component : Component) (script : List (List (List ScriptOp))) (journal : List JournalPhase) (answers : List Answer) : Type 0 where
  -- the keys that had arrived when it was settled for the first time
  pub keys : ℕ → Option Code
  pub steps : List Settled
  pub last : Held
  pub runs : Runs component (held_arrived keys (first_held component)) steps last
  pub script_is : script_of (phases_of steps) ≡ script
  pub answers_are : answers_of (phases_of steps) ≡ answers
  pub journal_is : journal_of (phases_of steps) ≡ journal

-- ---- what the settlings asked of the loader

-- the held state behind each settling, in order
abbrev pub states_of : Held → List Settled → List Held
states_of first steps = first ∷ map (λ s. s.held) steps

-- at least so many refusals: where loads are pending behind a settling of so many rounds, one for each round but the last, and one for each of these loads
abbrev pub refusals_owed : ℕ → List ℕ → ℕ
refusals_owed rounds loads = if length loads == 0 then 0 else (rounds - 1) + length loads

abbrev pub refusals_of : Component → ℕ → List Held → ℕ
refusals_of component rounds states = sum (map (λ held. refusals_owed rounds (pending component held)) states)
