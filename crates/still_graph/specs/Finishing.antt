-- What each settling ends with, and what it comes to.
use Rattle.std.specs.Prelude.{◌≡◌, ◌≤◌, ℕ, ◌+◌, Bool, List, [], ◌∷◌, ◌++◌, map}
use Rattle.outside.specs.Asks.{Ask}
use Rattle.outside.specs.declared.traits.Arrival.{Arrival}
use Rattle.store_fields.specs.declared.edit.Verdict.{Verdict}
use Rattle.plain_evaluation.specs.Held.{arrived_held}
use Rattle.plain_evaluation.specs.Place.{Place}
use Rattle.plain_evaluation.specs.Scratch.{pending}
use Rattle.held_state.specs.State.{HeldState}
use Rattle.load_meaning.specs.declared.late.Late.{Late}
use Rattle.run_meaning.specs.Phase.{Phase}
use Rattle.run_meaning.specs.Run.{held_arrived}
use Rattle.phase_graph.specs.Graph.{GraphState, ticks_of}
use Rattle.phase_edits.specs.Told.{AreTold}
use Rattle.still_graph.specs.Settling.{IsMiddle, IsSettling}
use Rattle.still_graph.specs.Still.{StillState, HasRun, IsSettledAfter, HasEnded}
use Rattle.still_graph.specs.declared.still.Stage.TheVariants.{Made, Settled}

abbrev pub midway : StillState → HeldState → List Place → GraphState → List (List Verdict) → StillState
midway old state places graph verdicts = record old { state = state; places = places; graph = graph; verdicts = verdicts }

-- with these the graph stands where the loads of `old` are polled
pub record IsMidway (old : StillState) (state : HeldState) (places : List Place) (graph : GraphState) (verdicts : List (List Verdict)) : Type 0 where
  pub middle : IsMiddle old state.held
  pub base : graph.base ≡ ticks_of old.graph
  pub first : old.stage ≡ Made → (old.journal ≡ []) × HasRun [] (midway old state places graph verdicts)
  pub after_phase : (past : List Phase) (p : Phase) → HasEnded past p old → HasRun (past ++ p ∷ []) (midway old state places graph verdicts) × AreTold p verdicts
  pub again : old.stage ≡ Settled → (past : List Phase) → IsSettledAfter past old → HasRun past (midway old state places graph verdicts)
  pub stay : old.stage ≡ Settled → verdicts ≡ old.verdicts

-- the whole of a settling
pub record Settles {S : Type 0} (answers : S → Ask → Arrival → S → Type 0) (is_prompt : Bool) (old new : StillState) (late : List (ℕ × Late)) (before after : S) : Type 0 where
  pub component : new.component ≡ old.component
  pub stage : new.stage ≡ Settled
  pub settling : IsSettling answers is_prompt old new late before after
  pub arrived : new.state.held ≡ held_arrived (arrived_held new.state.held) settling.middle
  pub waits : map (λ l. l.0) late ≡ pending new.component new.state.held
  pub first : old.stage ≡ Made → IsSettledAfter [] new
  pub after_phase : (past : List Phase) (p : Phase) → HasEnded past p old → IsSettledAfter (past ++ p ∷ []) new × AreTold p new.verdicts
  pub again : old.stage ≡ Settled → (past : List Phase) → IsSettledAfter past old → IsSettledAfter past new
  pub stay : old.stage ≡ Settled → new.verdicts ≡ old.verdicts
  pub ticks_raised : ticks_of new.graph ≤ ticks_of old.graph + 16384
