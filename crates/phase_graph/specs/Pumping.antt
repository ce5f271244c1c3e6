-- What the run of one effect leaves of a table, and what a pump counts.
use Rattle.std.specs.Prelude.{◌≡◌, ◌≢◌, ℕ, ◌+◌, ◌≤◌, Bool, true, false, Some, Result, Ok, Err, slice_get, slice_set}
use Rattle.std.specs.Option.{option_or}
use Rattle.values.specs.declared.plan.Kind.TheVariants as kind
use Rattle.values.specs.declared.plan.Left.TheVariants as left
use Rattle.values.specs.declared.plan.PlanNode.{PlanNode}
use Rattle.values.specs.declared.plan.Pumped.{Pumped}
use Rattle.sources.specs.declared.colour.Colour.TheVariants.{Dirty}
use Rattle.sources.specs.declared.opening.Opened.{Opened}
use Rattle.sources.specs.Colours.{is_clean}
use Rattle.still_rows.specs.declared.clock.Full.{Full}
use Rattle.still_rows.specs.Works.{IsStill, IsWorkOf, unclean_count}
use Rattle.still_effects.specs.declared.effect.Effect.{Effect}
use Rattle.still_effects.specs.declared.effect.Effect.TheVariants as effect
use Rattle.still_effects.specs.Effects.{IsEffect, EndedAs, FullAs}
use Rattle.phase_graph.specs.declared.pumping.Turn.{Turn}
use Rattle.phase_graph.specs.declared.pumping.Turn.TheVariants as turn
use Rattle.phase_graph.specs.declared.table.Table.{Table}
use Rattle.phase_graph.specs.Table.{HasOwner, IsFilled}

-- ---- one effect

-- the row is an effect, and this says whether its owner is live
pub record IsEffectOf (t : Table) (row : ℕ) (is : Bool) : Type 0 where
  pub effect : IsEffect t.plan.nodes row
  pub owner : ℕ
  pub has : HasOwner t.plan.nodes t.live.items row owner is

-- the row is no effect
pub record IsOther (t : Table) (row : ℕ) : Type 0 where
  pub node : PlanNode
  pub at : slice_get t.plan.nodes row ≡ Some node
  pub other : node.kind ≢ kind.Effect

-- the call on one effect leaves this, whatever it came to
pub record IsTried (old new : Table) (row : ℕ) : Type 0 where
  pub plan : new.plan ≡ old.plan
  pub live : new.live ≡ old.live
  pub full : new.full ≡ old.full
  pub still : IsStill old.plan.nodes new.rows.items new.readers new.clock
  pub fits : IsWorkOf old.plan.nodes new.work
  pub base : new.clock.base ≡ old.clock.base
  pub in_phase : new.clock.in_phase ≡ true
  pub others : (i : ℕ) (node : PlanNode) → slice_get old.plan.nodes i ≡ Some node → node.kind ≡ kind.Effect → i ≢ row → slice_get new.rows.items i ≡ slice_get old.rows.items i

-- the effect needed no run, or ran, and is clean
pub record IsDone (old new : Table) (row : ℕ) (came : Effect) : Type 0 where
  pub tried : IsTried old new row
  pub ended : EndedAs old.plan.nodes old.rows.items new.rows.items old.readers new.readers old.clock new.clock row came
  pub clean : (opened : Opened) → slice_get new.rows.items row ≡ Some opened → is_clean opened.colour ≡ true
  pub spent : new.clock.drawn + unclean_count new.rows.items ≤ old.clock.drawn + unclean_count old.rows.items

-- a number was wanting, and the effect is not clean
pub record IsShort (old new : Table) (row : ℕ) : Type 0 where
  pub tried : IsTried old new row
  pub stopped : FullAs old.plan.nodes old.rows.items new.rows.items old.readers new.readers old.clock new.clock row
  pub unclean : (opened : Opened) → slice_get new.rows.items row ≡ Some opened → is_clean opened.colour ≡ false
  pub full : 65536 ≤ new.clock.drawn

abbrev pub CameTo : Table → Table → ℕ → Result Effect Full → Type 0
CameTo old new row (Ok came) = IsDone old new row came
CameTo old new row (Err why) = IsShort old new row

-- the row is dirty now, and all else is as it was
pub record IsDirtied (old new : Table) (row : ℕ) : Type 0 where
  pub opened : Opened
  pub at : slice_get old.rows.items row ≡ Some opened
  pub rest : new ≡ record old { rows = new.rows }
  pub rows : new.rows.items ≡ slice_set old.rows.items row (record opened { colour = Dirty })

-- a number was wanting: the effect is dirty, and this number is kept, which is above the last of a phase
pub record IsLeft (old new : Table) (row number : ℕ) : Type 0 where
  pub short : Table
  pub stopped : IsShort old short row
  pub dirty : Table
  pub dirtied : IsDirtied short dirty row
  pub filled : IsFilled dirty new number
  -- once such a number is kept, no more is drawn
  pub once : (kept : ℕ) → old.full ≡ Some kept → new ≡ dirty

-- ---- the rows, one by one

abbrev pub TurnedAs : Table → Table → ℕ → Turn → Type 0
TurnedAs old new row turn.Other = IsOther old row × (new ≡ old)
TurnedAs old new row turn.Gone = IsEffectOf old row false × (new ≡ old)
TurnedAs old new row turn.Same = IsEffectOf old row true × IsDone old new row effect.Same
TurnedAs old new row (turn.Ran code) = IsEffectOf old row true × IsDone old new row (effect.Ran code)
TurnedAs old new row (turn.Left number) = IsEffectOf old row true × IsLeft old new row number

-- the counts with what came of one more row
abbrev pub counted : Pumped → ℕ → Turn → Pumped
counted told row turn.Other = told
counted told row turn.Gone = record told { gone = told.gone + 1 }
counted told row turn.Same = record told { same = told.same + 1 }
counted told row (turn.Ran code) = record told { ran = told.ran + 1 }
counted told row (turn.Left number) = record told { left = told.left + 1; first_left = option_or told.first_left (Some (row, left.Full number)) }
