-- What the call on one effect leaves.
use Rattle.std.specs.Prelude.{◌≡◌, ℕ, ◌+◌, ◌<◌, ◌⊎◌, true, false, List, ◌∷◌, ◌++◌, slice_get, slice_set, Option, Some, None}
use Rattle.values.specs.declared.code.Code.{Code}
use Rattle.values.specs.declared.plan.Fact.TheVariants.{Ran, Void}
use Rattle.values.specs.declared.plan.Kind.TheVariants as kind
use Rattle.values.specs.declared.plan.Noted.{Noted}
use Rattle.values.specs.declared.plan.PlanNode.{PlanNode}
use Rattle.values.specs.Packing.{unpacked}
use Rattle.values.specs.PlanValues.{plan_value}
use Rattle.sources.specs.declared.body.Cause.{Cause}
use Rattle.sources.specs.declared.opening.Opened.{Opened}
use Rattle.sources.specs.Bodies.{IsCaused}
use Rattle.sources.specs.Colours.{is_clean}
use Rattle.sources.specs.Rows.{value_in}
use Rattle.work_order.specs.declared.frame.Frame.{Frame}
use Rattle.work_order.specs.Order.{is_due}
use Rattle.still_readers.specs.declared.readers.Readers.{Readers}
use Rattle.still_readers.specs.Readers.{HasRead}
use Rattle.still_rows.specs.declared.clock.Clock.{Clock}
use Rattle.still_rows.specs.Clock.{IsTicked, now_of, filled, entry_at}
use Rattle.still_rows.specs.Frames.{IsFrame}
use Rattle.still_rows.specs.Moves.{IsKept}
use Rattle.still_rows.specs.Since.{kept_row}
use Rattle.still_rows.specs.Works.{IsStill, IsStepped, HasUncleanMemo, unclean_count, work_of}
use Rattle.still_effects.specs.declared.find.Found.{Found}
use Rattle.still_effects.specs.declared.find.Found.TheVariants as found
use Rattle.still_effects.specs.declared.effect.Effect.{Effect}
use Rattle.still_effects.specs.declared.effect.Effect.TheVariants as effect

-- the node is an effect
pub record IsEffect (nodes : List PlanNode) (i : ℕ) : Type 0 where
  pub node : PlanNode
  pub at : slice_get nodes i ≡ Some node
  pub is : node.kind ≡ kind.Effect

-- ---- whether a run is needed

-- a run is due: the effect never ran, or a recorded source has another version
pub record IsDue (nodes : List PlanNode) (rows : List Opened) (i : ℕ) (f : Frame) : Type 0 where
  pub node : f.node ≡ i
  pub frame : IsFrame nodes rows f
  pub due : is_due f.due ≡ true

-- no run was needed: the recorded sources were brought up to date, and none differs. The effect is clean, and all else of its row is as it was
pub record IsSame (nodes : List PlanNode) (rows rows' : List Opened) (readers readers' : Readers) (before after : Clock) (i : ℕ) : Type 0 where
  pub sourced : List Opened
  pub stepped : IsStepped nodes rows sourced readers readers' before after
  pub row : Opened
  pub was : slice_get sourced i ≡ Some row
  pub kept : IsKept sourced row
  pub put : rows' ≡ slice_set sourced i (kept_row row)
  pub still : IsStill nodes rows' readers' after

abbrev pub FoundAs : List PlanNode → List Opened → List Opened → Readers → Readers → Clock → Clock → ℕ → Found → Type 0
FoundAs nodes rows rows' readers readers' before after i found.Same = IsSame nodes rows rows' readers readers' before after i
FoundAs nodes rows rows' readers readers' before after i (found.Due f) = IsStepped nodes rows rows' readers readers' before after × IsDue nodes rows' i f

-- what is left to do until it is found
abbrev pub search_left : List Opened → Frame → ℕ
search_left rows f = unclean_count rows + work_of (slice_get rows f.node) f

-- one step of the search
abbrev pub SearchedAs : List PlanNode → List Opened → List Opened → Readers → Readers → Clock → Clock → Frame → Option Frame → Type 0
SearchedAs nodes rows rows' readers readers' before after f None = IsSame nodes rows rows' readers readers' before after f.node
SearchedAs nodes rows rows' readers readers' before after f (Some g) = IsStepped nodes rows rows' readers readers' before after × IsFrame nodes rows' g × (g.node ≡ f.node) × (search_left rows' g < search_left rows f)

-- ---- a run

-- the row has this version
abbrev pub IsNow : List Opened → ℕ → ℕ → Type 0
IsNow rows row version = (y : Opened) → slice_get rows row ≡ Some y → version ≡ y.version

-- a row after a run of an effect: why it ran, by the rows then
pub record IsRunRow (rows : List Opened) (old new : Opened) (code : Code) (version : ℕ) : Type 0 where
  pub clean : is_clean new.colour ≡ true
  pub value : unpacked new.code ≡ code
  pub number : new.version ≡ version
  pub cause : Cause
  pub cause_is : new.body.cause ≡ Some cause
  pub caused : IsCaused old.body.reads.list old.body.cause (IsNow rows) cause

-- a run under this version: its sources were brought up to date, and the row was put
pub record IsRunUnder (nodes : List PlanNode) (rows rows' : List Opened) (readers readers' : Readers) (before after : Clock) (i : ℕ) (code : Code) (version : ℕ) : Type 0 where
  pub sourced : List Opened
  pub enrolled : Readers
  pub stepped : IsStepped nodes rows sourced readers enrolled before after
  pub old : Opened
  pub new : Opened
  pub was : slice_get sourced i ≡ Some old
  pub unclean : is_clean old.colour ≡ false
  pub put : rows' ≡ slice_set sourced i new
  pub row : IsRunRow rows' old new code version
  pub have_read : (m row : ℕ) → HasRead enrolled m row → HasRead readers' m row
  pub plan : code ≡ plan_value nodes (value_in rows) i
  pub still : IsStill nodes rows' readers' after

-- one turn of a run: a source was brought up to date, or the run is whole
abbrev pub TurnedAs : List PlanNode → List Opened → List Opened → Readers → Readers → Clock → Clock → ℕ → ℕ → Option Code → Type 0
TurnedAs nodes rows rows' readers readers' before after i version None = IsStepped nodes rows rows' readers readers' before after × (unclean_count rows' < unclean_count rows)
TurnedAs nodes rows rows' readers readers' before after i version (Some code) = IsRunUnder nodes rows rows' readers readers' before after i code version

-- ---- the call

-- The effect ran. Its recorded sources were brought up to date until it was found that a run is due. Its number was drawn, and
-- held by Void. The run brought its sources up to date, and the entry of the number says now that it ran.
pub record IsRan (nodes : List PlanNode) (rows rows' : List Opened) (readers readers' : Readers) (before after : Clock) (i : ℕ) (code : Code) : Type 0 where
  pub found_rows : List Opened
  pub found_readers : Readers
  pub found_clock : Clock
  pub found : IsStepped nodes rows found_rows readers found_readers before found_clock
  pub drawn : Clock
  pub ticked : IsTicked found_clock drawn (Void i)
  pub noted : Clock
  pub run : IsRunUnder nodes found_rows rows' found_readers readers' drawn noted i code (now_of drawn)
  pub after_is : after ≡ filled noted found_clock.drawn (Ran i code)
  -- so between what was noted before the number and after it
  pub later : List Noted
  pub held : noted.entries.list ≡ found_clock.entries.list ++ entry_at found_clock.drawn (Void i) ∷ later
  pub entries : after.entries.list ≡ found_clock.entries.list ++ entry_at found_clock.drawn (Ran i code) ∷ later
  pub still : IsStill nodes rows' readers' after

abbrev pub EndedAs : List PlanNode → List Opened → List Opened → Readers → Readers → Clock → Clock → ℕ → Effect → Type 0
EndedAs nodes rows rows' readers readers' before after i effect.Same = IsSame nodes rows rows' readers readers' before after i
EndedAs nodes rows rows' readers readers' before after i (effect.Ran code) = IsRan nodes rows rows' readers readers' before after i code

-- the run was cut off at a source that found no number: the effect's own number stays Void
pub record IsCutOff (nodes : List PlanNode) (rows rows' : List Opened) (readers readers' : Readers) (before after : Clock) (i : ℕ) : Type 0 where
  pub found_rows : List Opened
  pub found_readers : Readers
  pub found_clock : Clock
  pub found : IsStepped nodes rows found_rows readers found_readers before found_clock
  pub drawn : Clock
  pub ticked : IsTicked found_clock drawn (Void i)
  pub stepped : IsStepped nodes found_rows rows' found_readers readers' drawn after
  pub later : List Noted
  pub entries : after.entries.list ≡ found_clock.entries.list ++ entry_at found_clock.drawn (Void i) ∷ later
  pub left : HasUncleanMemo nodes rows'

-- there was no number for a source or for the effect itself, or the run was cut off
abbrev pub FullAs : List PlanNode → List Opened → List Opened → Readers → Readers → Clock → Clock → ℕ → Type 0
FullAs nodes rows rows' readers readers' before after i = IsStepped nodes rows rows' readers readers' before after ⊎ IsCutOff nodes rows rows' readers readers' before after i
