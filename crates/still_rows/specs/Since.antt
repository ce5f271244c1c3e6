-- What a call leaves of the rows and the clock.
use Rattle.std.specs.Prelude.{◌≡◌, ◌≢◌, ℕ, ◌+◌, ◌<◌, ◌≤◌, ◌⊎◌, true, false, List, slice_get, length, Some}
use Rattle.values.specs.declared.plan.Noted.{Noted}
use Rattle.values.specs.declared.plan.Fact.TheVariants.{Change}
use Rattle.values.specs.Packing.{unpacked}
use Rattle.values.specs.Reserved.{room_of}
use Rattle.sources.specs.declared.body.Body.{Body}
use Rattle.sources.specs.declared.body.Read.{Read}
use Rattle.sources.specs.declared.body.Cause.{Cause}
use Rattle.sources.specs.declared.colour.Colour.TheVariants.{Clean}
use Rattle.sources.specs.declared.opening.Opened.{Opened}
use Rattle.sources.specs.Bodies.{IsCaused}
use Rattle.sources.specs.Colours.{is_clean}
use Rattle.still_rows.specs.declared.clock.Clock.{Clock}
use Rattle.still_rows.specs.Clock.{entry_at}

-- the row had this version before the call, or has it after
abbrev pub IsSeen : List Opened → List Opened → ℕ → ℕ → Type 0
IsSeen rows rows' row version = (old new : Opened) → slice_get rows row ≡ Some old → slice_get rows' row ≡ Some new → (version ≡ old.version) ⊎ (version ≡ new.version)

-- the number under which a row came to its value
pub record IsChanged (before after : Clock) (i : ℕ) (old new : Opened) : Type 0 where
  pub place : ℕ
  pub other : unpacked new.code ≢ unpacked old.code
  pub from_on : before.drawn ≤ place
  pub below : place < after.drawn
  pub version : new.version ≡ before.base + (place + 1)
  pub noted : before.in_phase ≡ true → slice_get after.entries.list place ≡ Some (entry_at place (Change i (unpacked new.code)))

-- what became of one row
pub record IsTouched (rows rows' : List Opened) (before after : Clock) (i : ℕ) (old new : Opened) : Type 0 where
  pub clean : is_clean old.colour ≡ true → new ≡ old
  pub unclean : is_clean new.colour ≡ false → new ≡ old
  pub grows : old.version ≤ new.version
  -- a body changes only by a run that was caused
  pub body : ((new.body.reads.list ≡ old.body.reads.list) × (new.body.cause ≡ old.body.cause)) ⊎ ((cause : Cause) × (new.body.cause ≡ Some cause) × IsCaused old.body.reads.list old.body.cause (IsSeen rows rows') cause)
  -- a value changes only with its number
  pub value : ((new.code ≡ old.code) × (new.version ≡ old.version)) ⊎ IsChanged before after i old new

-- a new entry says that a row has now another value than before the call
pub record IsNews (rows rows' : List Opened) (before : Clock) (k : ℕ) (noted : Noted) : Type 0 where
  pub row : ℕ
  pub old : Opened
  pub new : Opened
  pub was : slice_get rows row ≡ Some old
  pub is : slice_get rows' row ≡ Some new
  pub clean : is_clean new.colour ≡ true
  pub other : unpacked new.code ≢ unpacked old.code
  pub entry : noted ≡ entry_at k (Change row (unpacked new.code))
  pub version : new.version ≡ before.base + (k + 1)

pub record IsSince (rows rows' : List Opened) (before after : Clock) : Type 0 where
  pub paired : length rows' ≡ length rows
  pub base : after.base ≡ before.base
  pub in_phase : after.in_phase ≡ before.in_phase
  pub drawn : before.drawn ≤ after.drawn
  pub few : before.drawn < after.drawn → after.drawn ≤ 65536
  pub each : (i : ℕ) (old new : Opened) → slice_get rows i ≡ Some old → slice_get rows' i ≡ Some new → IsTouched rows rows' before after i old new
  pub entries : (k : ℕ) (noted : Noted) → slice_get before.entries.list k ≡ Some noted → slice_get after.entries.list k ≡ Some noted
  pub news : (k : ℕ) (noted : Noted) → length before.entries.list ≤ k → slice_get after.entries.list k ≡ Some noted → IsNews rows rows' before k noted
  pub long : length before.entries.list ≤ length after.entries.list

-- a row after a run
abbrev pub finished_row : ℕ → ℕ → Body → Opened
finished_row code version body = record { code = code; version = version; colour = Clean; body = body }

abbrev pub kept_row : Opened → Opened
kept_row row = record row { colour = Clean }

-- a body after a run
pub record IsBodyAfter (old new : Body) (cause : Cause) (reads : List Read) : Type 0 where
  pub reads_are : new.reads.list ≡ reads
  pub cause_is : new.cause ≡ Some cause
  pub room : room_of new.reads ≡ room_of old.reads
