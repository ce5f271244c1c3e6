-- What settlings do to a graph.
use Rattle.std.specs.Prelude.{◌≡◌, ℕ, List, [], ◌∷◌, ◌++◌, Option}
use Rattle.values.specs.declared.code.Code.{Code}
use Rattle.plain_evaluation.specs.Held.{Held}
use Rattle.run_meaning.specs.Phase.{Phase}
use Rattle.run_meaning.specs.Run.{held_arrived, after}
use Rattle.phase_edits.specs.Told.{AreTold}
use Rattle.load_meaning.specs.Polls.{rounds_promptly}
use Rattle.still_graph.specs.Settling.{IsMiddle}
use Rattle.still_graph.specs.declared.still.Stage.TheVariants.{Made, Settled}
use Rattle.still_graph.specs.Still.{StillState, progress_of, progress_from, IsSettledAfter, HasEnded}

-- one settling, or several one after another: what was made, and a phase that ended, is settled
pub record Settles (old new : StillState) : Type 0 where
  pub component : new.component ≡ old.component
  pub stage : new.stage ≡ Settled
  pub made : old.stage ≡ Made → (keys : ℕ → Option Code) × (new.state.held ≡ held_arrived keys old.state.held) × IsSettledAfter [] new
  pub ended : (past : List Phase) (p : Phase) → HasEnded past p old → (keys : ℕ → Option Code) × (new.state.held ≡ after old.component p keys) × IsSettledAfter (past ++ p ∷ []) new × AreTold p new.verdicts
  pub settled : old.stage ≡ Settled → (keys : ℕ → Option Code) × (new.state.held ≡ held_arrived keys old.state.held) × ((past : List Phase) → IsSettledAfter past old → IsSettledAfter past new) × (new.verdicts ≡ old.verdicts)

-- so many settlings one after another, of which the loader answered each poll promptly: what the first of them folded, and
-- what the rounds made of it
pub record SettlesPromptly (rounds : ℕ) (old new : StillState) : Type 0 where
  pub middle : Held
  pub is_middle : IsMiddle old middle
  pub polled : progress_of new ≡ rounds_promptly rounds old.component (progress_from old middle)
