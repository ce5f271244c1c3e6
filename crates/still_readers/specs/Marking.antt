-- What holds while a write is marked out, and what it leaves.
use Rattle.std.specs.Prelude.{◌≡◌, ◌≢◌, ℕ, ◌+◌, ◌<◌, ◌≤◌, ◌⊎◌, Bool, true, false, if◌then◌else◌, List, [], ◌∷◌, slice_get, length, Some, None}
use Rattle.values.specs.declared.plan.PlanNode.{PlanNode}
use Rattle.values.specs.Packing.{IsPacked}
use Rattle.values.specs.PlanValues.{is_derived}
use Rattle.values.specs.Reserved.{room_of}
use Rattle.sources.specs.declared.body.Read.{Read}
use Rattle.sources.specs.declared.colour.Colour.{Colour}
use Rattle.sources.specs.declared.colour.Colour.TheVariants.{Clean, Check, Dirty}
use Rattle.sources.specs.declared.opening.Opened.{Opened}
use Rattle.sources.specs.Bits.{IsIn}
use Rattle.sources.specs.Bodies.{IsRight}
use Rattle.sources.specs.Colours.{is_clean}
use Rattle.sources.specs.Rows.{IsRecorded, IsPresent, IsGood}
use Rattle.still_readers.specs.declared.marking.Marking.{Marking}
use Rattle.still_readers.specs.declared.readers.Readers.{Readers}
use Rattle.still_readers.specs.Readers.{HasReadBelow, HasRead, IsReadersOf, IsEnrolled}

-- what a mark makes of a colour: that of a direct reader, and that of any other
abbrev pub darkened : Bool → Colour → Colour
darkened true colour = Dirty
darkened false Clean = Check
darkened false Check = Check
darkened false Dirty = Dirty

-- the same but for the colour, which only grows darker
pub record IsDarker (old new : Opened) : Type 0 where
  pub same : new ≡ record old { colour = new.colour }
  pub unclean : is_clean old.colour ≡ false → is_clean new.colour ≡ false
  pub dirty : old.colour ≡ Dirty → new.colour ≡ Dirty

pub record IsDarkened (rows rows' : List Opened) : Type 0 where
  pub paired : length rows' ≡ length rows
  pub each : (i : ℕ) (old new : Opened) → slice_get rows i ≡ Some old → slice_get rows' i ≡ Some new → IsDarker old new

-- a row that reads the signal, or a row that is reached
pub data Reached (readers : Readers) (signal : ℕ) : ℕ → Type 0 where
  direct : (m : ℕ) → HasRead readers m signal → Reached readers signal m
  further : (n m : ℕ) → Reached readers signal n → HasRead readers m n → Reached readers signal m

-- the signal, or a row that is reached from it
abbrev pub IsMet : Readers → ℕ → ℕ → Type 0
IsMet readers signal i = (i ≡ signal) ⊎ Reached readers signal i

-- rows that are not reached stay as they were
abbrev pub LeavesOthers : Readers → ℕ → List Opened → List Opened → Type 0
LeavesOthers readers signal rows rows' = (i : ℕ) → (Reached readers signal i → ⊥) → slice_get rows' i ≡ slice_get rows i

-- a row with a new value and version
abbrev pub written_row : Opened → ℕ → ℕ → Opened
written_row row code version = record row { code = code; version = version }

-- a row of the plan that is not derived
pub record IsSource (nodes : List PlanNode) (i : ℕ) : Type 0 where
  pub node : PlanNode
  pub at : slice_get nodes i ≡ Some node
  pub given : is_derived node.kind ≡ false

-- what a marking works with has room for so many rows
pub record IsMarkingOf (rows : ℕ) (marking : Marking) : Type 0 where
  pub seen : length marking.seen ≡ rows
  pub room : rows + 1 ≤ room_of marking.todo

abbrev pub In : ℕ → List ℕ → Type 0
In x [] = ⊥
In x (y ∷ ys) = (x ≡ y) ⊎ In x ys

-- each of these is the signal or reached from it
abbrev pub AreMet : Readers → ℕ → List ℕ → Type 0
AreMet readers signal todo = (i : ℕ) → In i todo → IsMet readers signal i

-- the source waits to be gone through, or is gone through and the reader is not reached yet
abbrev pub IsOwed : Readers → List ℕ → ℕ → ℕ → ℕ → ℕ → Type 0
IsOwed readers todo now bound reader source = In source todo ⊎ ((source ≡ now) × HasReadBelow readers bound reader source)

-- so many are not in
unfoldable pub out_count : List Bool → ℕ
out_count [] = 0
out_count (b ∷ bs) = (if b then 0 else 1) + out_count bs

pub record IsSpreadingRow (rows : List Opened) (readers : Readers) (todo : List ℕ) (now bound i : ℕ) (node : PlanNode) (row : Opened) : Type 0 where
  pub fresh : row.body.cause ≡ None → row.colour ≡ Dirty
  pub right : row.body.cause ≢ None → IsRight node.expr row.body.reads.list row.code
  pub known : (k : ℕ) (x : Read) → slice_get row.body.reads.list k ≡ Some x → IsRecorded rows i x
  pub clean : is_clean row.colour ≡ true → (k : ℕ) (x : Read) → slice_get row.body.reads.list k ≡ Some x → IsPresent rows x ⊎ IsOwed readers todo now bound i x.row

pub record IsSpreading (nodes : List PlanNode) (rows : List Opened) (readers : Readers) (marking : Marking) (signal now bound : ℕ) : Type 0 where
  pub paired : length rows ≡ length nodes
  pub whole : length marking.seen ≡ length nodes
  pub size : length nodes + 1 ≤ room_of marking.todo
  pub room : out_count marking.seen + length marking.todo.list ≤ room_of marking.todo
  pub of_plan : IsReadersOf nodes readers
  pub enrolled : IsEnrolled nodes rows readers
  pub waiting : (x : ℕ) → In x marking.todo.list → x < length nodes
  pub is_packed : (i : ℕ) (row : Opened) → slice_get rows i ≡ Some row → IsPacked row.code
  pub source : (i : ℕ) (node : PlanNode) (row : Opened) → slice_get nodes i ≡ Some node → slice_get rows i ≡ Some row → is_derived node.kind ≡ false → is_clean row.colour ≡ true
  pub each : (i : ℕ) (node : PlanNode) (row : Opened) → slice_get nodes i ≡ Some node → slice_get rows i ≡ Some row → is_derived node.kind ≡ true → IsSpreadingRow rows readers marking.todo.list now bound i node row
  pub seen : (i : ℕ) (row : Opened) → IsIn marking.seen i → slice_get rows i ≡ Some row → is_clean row.colour ≡ false
  pub closed : (n m : ℕ) → (n ≡ signal) ⊎ IsIn marking.seen n → HasRead readers m n → IsIn marking.seen m ⊎ IsOwed readers marking.todo.list now bound m n
  pub direct : (m : ℕ) (row : Opened) → HasRead readers m signal → slice_get rows m ≡ Some row → (row.colour ≡ Dirty) ⊎ IsOwed readers marking.todo.list now bound m signal

-- the row is reached, and waits to be gone through where it was not reached before
pub record IsReaching (row : ℕ) (old new : Marking) : Type 0 where
  pub long : length new.seen ≡ length old.seen
  pub size : room_of new.todo ≡ room_of old.todo
  pub room : out_count new.seen + length new.todo.list ≡ out_count old.seen + length old.todo.list
  pub seen : IsIn new.seen row
  pub stays : (i : ℕ) → IsIn old.seen i → IsIn new.seen i
  pub alone : (i : ℕ) → IsIn new.seen i → (i ≡ row) ⊎ IsIn old.seen i
  pub waits : (x : ℕ) → In x old.todo.list → In x new.todo.list
  pub first : IsIn old.seen row ⊎ In row new.todo.list
  pub from : (x : ℕ) → In x new.todo.list → (x ≡ row) ⊎ In x old.todo.list

-- what is left to mark
abbrev pub marking_left : Marking → ℕ
marking_left marking = out_count marking.seen + length marking.todo.list

-- a write is marked out
pub record IsSpread (nodes : List PlanNode) (rows : List Opened) (readers : Readers) (marking : Marking) (signal : ℕ) : Type 0 where
  pub good : IsGood nodes rows
  pub enrolled : IsEnrolled nodes rows readers
  pub fits : IsMarkingOf (length nodes) marking
  pub direct : (m : ℕ) (row : Opened) → HasRead readers m signal → slice_get rows m ≡ Some row → row.colour ≡ Dirty
  pub further : (m : ℕ) (row : Opened) → Reached readers signal m → slice_get rows m ≡ Some row → is_clean row.colour ≡ false
