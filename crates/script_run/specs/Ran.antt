-- What a run came to.
use Rattle.std.specs.Prelude.{◌≡◌, ℕ, Bool, Option, List}
use Rattle.values.specs.declared.code.Code.{Code}
use Rattle.component_items.specs.declared.component.Component.{Component}
use Rattle.script_items.specs.declared.operation.ScriptOp.{ScriptOp}
use Rattle.plain_evaluation.specs.Held.{first_held}
use Rattle.plain_evaluation.specs.Scratch.{pending}
use Rattle.run_meaning.specs.Ending.{report_if}
use Rattle.run_meaning.specs.Run.{Settled, Runs, phases_of, script_of, answers_of, journal_of, held_arrived, states_of, refusals_of}
use Rattle.outside.specs.Counts.{RoseByTogether}
use Rattle.script_run.specs.declared.run.Ran.{Ran}
use Rattle.still_graph.specs.Still.{IsSettledAfter}

-- the counts of a loader before and after a run: of the calls that failed, and of those that came too early
pub record LoaderCounts : Type 0 where
  pub faults : ℕ
  pub faults_after : ℕ
  pub not_yets : ℕ
  pub not_yets_after : ℕ

-- It is a run of the component on the script, with its answers and its journal, its report where that is asked for, and the
-- loads that are pending behind it. Each settling is one of up to so many rounds, and the loader refused as often as they owe.
pub record IsRanTo (component : Component) (script : List (List (List ScriptOp))) (asked : Bool) (rounds : ℕ) (counts : LoaderCounts) (ran : Ran) : Type 0 where
  -- the keys that had arrived when it was settled for the first time
  pub keys : ℕ → Option Code
  pub steps : List Settled
  pub runs : Runs component (held_arrived keys (first_held component)) steps ran.still.state.held
  pub script_is : script_of (phases_of steps) ≡ script
  pub answers_are : answers_of (phases_of steps) ≡ ran.answers
  pub journal_is : journal_of (phases_of steps) ≡ ran.still.journal
  pub report_is : ran.report.items ≡ report_if asked component (phases_of steps)
  pub pending_is : ran.pending ≡ pending component ran.still.state.held
  pub component_is : ran.still.component ≡ component
  pub refused : RoseByTogether (refusals_of component rounds (states_of (held_arrived keys (first_held component)) steps)) counts.faults counts.faults_after counts.not_yets counts.not_yets_after

-- the same, and the graph is settled, so that a further phase may open
pub record GoesOn (component : Component) (script : List (List (List ScriptOp))) (asked : Bool) (rounds : ℕ) (counts : LoaderCounts) (ran : Ran) : Type 0 where
  pub to : IsRanTo component script asked rounds counts ran
  pub settled : IsSettledAfter (phases_of to.steps) ran.still
