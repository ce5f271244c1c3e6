-- What the operations of a phase's lanes leave of a graph whose phase is open.
use Rattle.std.specs.Prelude.{◌≡◌, ◌<◌, ℕ, ◌+◌, min, List, [], ◌∷◌, ◌++◌, length, map, unwrap_or, filter_map, count_by, IsSomeAnd}
use Rattle.std.specs.List.{AllByRecursion}
use Rattle.std.specs.Option.{option_and_then}
use Rattle.component_items.specs.Kept.{IsKept}
use Rattle.script_items.specs.declared.operation.ScriptOp.{ScriptOp}
use Rattle.script_items.specs.declared.operation.ScriptOp.TheVariants as op
use Rattle.script_items.specs.Script.{numbered}
use Rattle.run_items.specs.declared.answer.Answer.{Answer}
use Rattle.run_items.specs.declared.answer.Reply.{Reply}
use Rattle.run_items.specs.declared.limits.TheConstants.{LAST_NUMBER}
use Rattle.plain_evaluation.specs.Fits.{Fits}
use Rattle.plan_meaning.specs.Owners.{plan_owners}
use Rattle.run_meaning.specs.Lane.{Done, edit_number, edits_in}
use Rattle.run_meaning.specs.Merge.{is_edit}
use Rattle.run_meaning.specs.Phase.{Phase}
use Rattle.run_meaning.specs.Run.{answers_of_lane, answers_of_lanes}
use Rattle.run_history.specs.Going.{Going, just_opened}
use Rattle.run_history.specs.Calls.{MadeCall, CallsLead, calls_by}
use Rattle.run_weave.specs.Lanes.{LaneSpeaks, LanesSpeak, lane_of}
use Rattle.phase_graph.specs.Way.{no_edits}
use Rattle.phase_edits.specs.Told.{edit_numbers}
use Rattle.still_graph.specs.declared.still.Stage.TheVariants.{Open}
use Rattle.still_graph.specs.Still.{StillState, opened_in, start_in, IsOpenAt}

-- a phase is open, over rows that are laid out from a state of the component
pub record IsOpenOver (x : StillState) : Type 0 where
  pub stage : x.stage ≡ Open
  pub plan : x.graph.plan ≡ (opened_in x).plan
  pub kept : IsKept x.component
  pub fits : Fits x.component x.state.held
  pub owners : length x.state.held.live ≡ length (plan_owners x.component)

-- the rows alone moved on, in the same phase
pub record IsSamePhase (old new : StillState) : Type 0 where
  pub rest : new ≡ record old { graph = new.graph }
  pub plan : new.graph.plan ≡ old.graph.plan
  pub base : new.graph.base ≡ old.graph.base
  pub room : new.graph.edit_room ≡ old.graph.edit_room

-- the numbers of a lane's accepted edits, in order
abbrev pub edits_told : List Done → List ℕ
edits_told lane = filter_map (λ d. edit_number d.reply) lane

-- the phase that is open behind these stands where the lane of its first pass is when it has done so
pub record IsAtOp (past : List Phase) (x : StillState) (lane : List Done) : Type 0 where
  pub calls : List MadeCall
  pub going : Going
  pub lead : CallsLead (start_in past x) just_opened calls going
  pub open_at : IsOpenAt past going x
  pub by_one : AllByRecursion (λ m. m.pass ≡ 1) calls
  pub speaks : LaneSpeaks (opened_in x) (calls_by 1 calls) lane
  -- its accepted edits are those of the pass, under the numbers that are noted
  pub edits : x.graph.edits ≡ edits_in lane ∷ []
  pub numbers : edits_told lane ≡ edit_numbers 1 going.entries

-- the operation is answered so, whatever the lane did before
abbrev pub DoesNext : StillState → ScriptOp → Reply → StillState → Type 0
DoesNext x asked r y = (past : List Phase) (lane : List Done) → IsAtOp past x lane → IsAtOp past y (lane ++ record { op = asked; reply = r } ∷ [])

-- the phase that is open behind these stands where its lanes are when they have done all this
pub record IsThrough (past : List Phase) (x : StillState) (lanes : List (List Done)) : Type 0 where
  pub calls : List MadeCall
  pub going : Going
  pub lead : CallsLead (start_in past x) just_opened calls going
  pub open_at : IsOpenAt past going x
  pub speak : LanesSpeak (opened_in x) calls lanes
  pub edits : x.graph.edits ≡ edits_in (lane_of lanes 1) ∷ []
  pub numbers : edits_told (lane_of lanes 1) ≡ edit_numbers 1 going.entries

-- the lane of the first pass did all that was asked, and was answered so
pub record HasDone (phase : ℕ) (asked : List ScriptOp) (old new : StillState) (before behind : List Answer) : Type 0 where
  pub same : IsSamePhase old new
  pub done : (past : List Phase) → IsAtOp past old [] → (lane : List Done) × IsAtOp past new lane × (map (λ d. d.op) lane ≡ asked) × (behind ≡ before ++ answers_of_lane phase 1 1 lane)

-- all lanes did
pub record HaveDone (phase : ℕ) (asked : List (List ScriptOp)) (old new : StillState) (before behind : List Answer) : Type 0 where
  pub same : IsSamePhase old new
  pub done : (past : List Phase) → IsOpenAt past just_opened old → (lanes : List (List Done)) × IsThrough past new lanes × (map (map (λ d. d.op)) lanes ≡ asked) × (behind ≡ before ++ answers_of_lanes phase 1 lanes)

-- the operations of the first lane of a phase
abbrev pub first_ops : List (List (List ScriptOp)) → ℕ → List ScriptOp
first_ops script phase = unwrap_or (option_and_then (λ lanes. numbered lanes 1) (numbered script phase)) []

-- the lanes of a phase
abbrev pub lanes_at : List (List (List ScriptOp)) → ℕ → List (List ScriptOp)
lanes_at script phase = unwrap_or (numbered script phase) []

-- ---- room for edits

-- as many edits as the lane has, but no more than can be noted and one
abbrev pub room_for : List ScriptOp → ℕ
room_for ops = min (count_by is_edit ops) (LAST_NUMBER + 1)

-- a phase of one pass has just opened, with room for the edits of these operations
pub record IsFresh (x : StillState) (ops : List ScriptOp) : Type 0 where
  pub past : List Phase
  pub open_at : IsOpenAt past just_opened x
  pub edits : x.graph.edits ≡ no_edits 1
  pub room : x.graph.edit_room ≡ room_for ops

-- the first pass may note one more edit
abbrev pub MayNote : StillState → Type 0
MayNote x = IsSomeAnd (numbered x.graph.edits 1) (λ edits. length edits < x.graph.edit_room)

-- where the operation is an edit, its pass may note it
abbrev pub HasRoom : StillState → ScriptOp → Type 0
HasRoom x (op.Set id key code) = Unit {0}
HasRoom x (op.Get id key) = Unit {0}
HasRoom x op.Pump = Unit {0}
HasRoom x (op.Dispose owner) = Unit {0}
HasRoom x (op.Change edit) = MayNote x
