-- What a settling leaves: what the phase that ended left, then the loads, each polled once, and last the memos.
use Rattle.std.specs.Prelude.{◌≡◌, ℕ, Bool, true, false, List}
use Rattle.std.specs.List.{list_all}
use Rattle.values.specs.declared.plan.Fact.{Fact}
use Rattle.values.specs.declared.plan.Fact.TheVariants as fact
use Rattle.values.specs.declared.plan.Noted.{Noted}
use Rattle.component_items.specs.declared.component.Component.{Component}
use Rattle.outside.specs.Asks.{Ask}
use Rattle.outside.specs.declared.traits.Arrival.{Arrival}
use Rattle.plain_evaluation.specs.Held.{Held}
use Rattle.held_state.specs.State.{IsOf, with_held}
use Rattle.load_meaning.specs.declared.late.Late.{Late}
use Rattle.load_meaning.specs.Polls.{AllPolled, AreInStep, all_promptly}
use Rattle.run_meaning.specs.Edits.{held_written, held_edited, edits_of}
use Rattle.run_meaning.specs.Entries.{disposed_in}
use Rattle.run_meaning.specs.Phase.{Phase}
use Rattle.run_meaning.specs.Run.{held_disposed}
use Rattle.still_graph.specs.Still.{StillState, progress_from, progress_of, HasEnded}
use Rattle.still_graph.specs.declared.still.Stage.TheVariants.{Made, Settled}

-- ---- what the loads are polled from

-- held state behind a phase, before its loads are polled: first the writes, then the edits, and then the disposals
abbrev pub held_folded : Component → Phase → Held
held_folded component p = held_disposed component (disposed_in p.entries) (held_edited (edits_of p.lanes p.entries) (held_written p.opened p.entries))

-- That of the last settling, or, where a phase has ended since, what it left. The loads are in step with it.
pub record IsMiddle (old : StillState) (middle : Held) : Type 0 where
  pub made : old.stage ≡ Made → middle ≡ old.state.held
  pub settled : old.stage ≡ Settled → middle ≡ old.state.held
  pub ended : (past : List Phase) (p : Phase) → HasEnded past p old → middle ≡ held_folded old.component p
  pub fits : IsOf old.component (with_held old.state middle)
  pub in_step : AreInStep old.component (progress_from old middle)

-- ---- a settling

-- From there each live load was polled once. These are late, and the loader was before and is after.
pub record IsSettling {S : Type 0} (answers : S → Ask → Arrival → S → Type 0) (is_prompt : Bool) (old new : StillState) (late : List (ℕ × Late)) (before after : S) : Type 0 where
  pub middle : Held
  pub is_middle : IsMiddle old middle
  pub polled : AllPolled answers old.component (progress_from old middle) (progress_of new) late before after
  pub prompt : is_prompt ≡ true → progress_of new ≡ all_promptly old.component (progress_from old middle)

-- ---- where a phase leaves the rows that there are

-- no row comes or goes by what is noted
abbrev pub keeps_rows : Fact → Bool
keeps_rows (fact.Write row code) = true
keeps_rows (fact.Change row code) = true
keeps_rows (fact.Ran row code) = true
keeps_rows (fact.Void row) = true
keeps_rows (fact.Disposed owner) = false
keeps_rows (fact.Edit pass index) = false

abbrev pub all_keep_rows : List Noted → Bool
all_keep_rows es = list_all (λ e. keeps_rows e.fact) es
