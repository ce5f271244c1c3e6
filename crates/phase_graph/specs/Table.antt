-- What holds of the rows of a plan with all that the calls work with, and what contracts see of them.
use Rattle.std.specs.Prelude.{◌≡◌, ◌≢◌, ◌⊎◌, ℕ, ◌+◌, ◌-◌, ◌^◌, ◌<◌, ◌≤◌, ◌==◌, Bool, true, false, if◌then◌else◌, Option, Some, None, IsSome, Result, Ok, Err, List, [], ◌∷◌, ◌++◌, length, map, slice_get, slice_set, unwrap_or}
use Rattle.std.specs.List.{list_any}
use Rattle.values.specs.declared.code.Code.{Code}
use Rattle.values.specs.declared.plan.Disposal.{Disposal}
use Rattle.values.specs.declared.plan.Fact.TheVariants.{Disposed, Write}
use Rattle.values.specs.declared.plan.Kind.TheVariants.{Memo}
use Rattle.values.specs.declared.plan.Noted.{Noted}
use Rattle.values.specs.declared.plan.Plan.{Plan}
use Rattle.values.specs.declared.plan.PlanNode.{PlanNode}
use Rattle.values.specs.declared.plan.PlanOwner.{PlanOwner}
use Rattle.values.specs.declared.plan.Stop.{Stop}
use Rattle.values.specs.Packing.{packed, unpacked, IsPacked}
use Rattle.values.specs.Plan.{IsLawful}
use Rattle.values.specs.PlanValues.{is_derived, plan_value}
use Rattle.values.specs.Reserved.{Reserve, room_of}
use Rattle.store_fields.specs.declared.edit.Edit.{Edit}
use Rattle.carried_rows.specs.Named.{AreNamed}
use Rattle.sources.specs.declared.opening.Opened.{Opened}
use Rattle.still_rows.specs.declared.clock.Clock.{Clock}
use Rattle.sources.specs.Colours.{is_clean}
use Rattle.sources.specs.Rows.{value_in, IsGood, IsDated, IsRoomy}
use Rattle.still_readers.specs.declared.readers.Readers.{Readers}
use Rattle.still_readers.specs.Readers.{IsReadersOf, IsEnrolled}
use Rattle.still_readers.specs.Marking.{IsDarkened, Reached, written_row}
use Rattle.still_rows.specs.Clock.{IsNoted, IsTicked, now_of}
use Rattle.still_rows.specs.Works.{IsStill, IsStepped, IsWorkOf}
use Rattle.phase_graph.specs.declared.making.Parts.{Parts}
use Rattle.phase_graph.specs.declared.table.Table.{Table}
use Rattle.script_items.specs.Script.{numbered}
use Rattle.run_meaning.specs.Opened.{around_from}
use Rattle.run_history.specs.Going.{Start, Going}
use Rattle.run_history.specs.Calls.{Call, edit, Calls}
use Rattle.phase_graph.specs.Graph.{GraphState, edits_with}
use Rattle.phase_graph.specs.Way.{IsOnWay, AreHome}

-- what is seen of these parts while a phase is open
abbrev pub state_of : Plan → List Opened → List Bool → Clock → List (List Edit) → ℕ → GraphState
state_of plan rs live clock edits room = record { plan = plan; rows = rs; live = live; base = clock.base; drawn = clock.drawn; is_open = clock.in_phase; entries = clock.entries.list; edits = edits; edit_room = room }

abbrev pub open_seen : Table → List (List Edit) → ℕ → GraphState
open_seen t edits room = state_of t.plan t.rows.items t.live.items t.clock edits room

-- what was noted in the phase that is open
abbrev pub noted_in : Clock → List Noted
noted_in clock = if clock.in_phase then clock.entries.list else []

-- what is seen of a table, beside such edits
abbrev pub seen : Table → List (List Edit) → ℕ → GraphState
seen t edits room = record (open_seen t edits room) { entries = noted_in t.clock }

-- the lists of edits
abbrev pub edit_lists : List (Reserve Edit) → List (List Edit)
edit_lists lists = map (λ list. list.list) lists

-- as many are true
unfoldable pub true_count : List Bool → ℕ
true_count [] = 0
true_count (b ∷ bs) = (if b then 1 else 0) + true_count bs

-- a number above the last of a phase was drawn
abbrev pub IsFullAt : Option ℕ → ℕ → Type 0
IsFullAt None drawn = Unit {0}
IsFullAt (Some number) drawn = (65536 < number) × (number ≤ drawn)

-- the numbers of a phase, one for each owner, and one that comes to nothing
abbrev pub most_drawn : Option ℕ → ℕ
most_drawn None = 66560
most_drawn (Some number) = 66561

pub record IsTable (t : Table) : Type 0 where
  pub lawful : IsLawful t.plan
  -- where a phase ends late, the count of ticks may be past what rows take
  pub still : t.clock.base < 2 ^ 62 → IsStill t.plan.nodes t.rows.items t.readers t.clock
  pub early : t.clock.in_phase ≡ true → t.clock.base < 2 ^ 62
  pub ticks : t.clock.base < 2 ^ 63
  pub good : IsGood t.plan.nodes t.rows.items
  -- the row that a run was caused by is one that the expression names
  pub named : AreNamed t.plan.nodes t.rows.items
  pub fits : IsWorkOf t.plan.nodes t.work
  pub owners : length t.live.items ≡ length t.plan.owners
  pub is_full : IsFullAt t.full t.clock.drawn
  pub few : t.clock.drawn + true_count t.live.items ≤ most_drawn t.full
  -- each owner that is live can be noted
  pub spare : t.clock.in_phase ≡ true → length t.clock.entries.list + true_count t.live.items ≤ 66560

-- each list has as much room
pub record HaveRoom (lists : List (Reserve Edit)) (room : ℕ) : Type 0 where
  pub each : (k : ℕ) (list : Reserve Edit) → slice_get lists k ≡ Some list → room ≤ room_of list

-- what holds of a graph
pub record IsGraph (t : Table) (edits : List (Reserve Edit)) (room : ℕ) (waits : Option (Reserve Noted)) (scratch : List Bool) : Type 0 where
  pub table : IsTable t
  pub lists : HaveRoom edits room
  pub few_passes : length edits ≤ 16
  pub few_edits : room ≤ 65537
  -- where a phase is open, another list waits for its end
  pub idle : t.clock.in_phase ≡ true → IsSome waits
  pub inside : length scratch ≡ length t.plan.owners

-- the owner is that of the area, or inside it
abbrev pub is_within : List PlanOwner → ℕ → ℕ → Bool
is_within os area n = list_any (λ m. area == m) (unwrap_or (slice_get (around_from [] os) n) [])

-- the owners of a lawful plan: each parent has a smaller number
pub record AreOwners (os : List PlanOwner) : Type 0 where
  pub few : length os ≤ 1024
  pub each : (n parent : ℕ) (o : PlanOwner) → slice_get os n ≡ Some o → o.parent ≡ Some parent → parent < n

-- from a number on these say of each owner whether it is in the area
pub record AreMarked (os : List PlanOwner) (area from to : ℕ) (inside : List Bool) : Type 0 where
  pub each : (n : ℕ) → from ≤ n → n < to → slice_get inside n ≡ Some (is_within os area n)

-- the row's owner, and whether it is live
pub record HasOwner (nodes : List PlanNode) (live : List Bool) (row owner : ℕ) (is : Bool) : Type 0 where
  pub node : PlanNode
  pub at : slice_get nodes row ≡ Some node
  pub is_owner : node.owner ≡ owner
  pub is_live : slice_get live owner ≡ Some is

-- a number above the last of a phase is kept, which was drawn now or before
pub record IsFilled (old new : Table) (number : ℕ) : Type 0 where
  pub same : new ≡ record old { clock = record old.clock { drawn = new.clock.drawn }; full = Some number }
  pub past : 65536 ≤ old.clock.drawn
  pub drawn : (new.clock.drawn ≡ old.clock.drawn) ⊎ (new.clock.drawn ≡ old.clock.drawn + 1)
  pub above : 65536 < number
  pub within : number ≤ new.clock.drawn

-- the call takes a phase of the table from what it was to what it is
abbrev pub MakesCall : Table → Table → ℕ → Call → Type 0
MakesCall old new pass call = (s : Start) (g : Going) (edits : List (List Edit)) (room : ℕ) → IsOnWay s g (open_seen old edits room) → (block : List Noted) × (h : Going) × Calls s g block h pass call × IsOnWay s h (open_seen new edits room)

-- the same, where no row of the plan is of an owner that was dead when the phase opened
abbrev pub MakesHome : Table → Table → ℕ → Call → Type 0
MakesHome old new pass call = (s : Start) (g : Going) (edits : List (List Edit)) (room : ℕ) → AreHome s → IsOnWay s g (open_seen old edits room) → (block : List Noted) × (h : Going) × Calls s g block h pass call × IsOnWay s h (open_seen new edits room)

-- what a call of a phase keeps of the table
pub record IsKept (old new : Table) : Type 0 where
  pub table : IsTable new
  pub plan : new.plan ≡ old.plan
  pub base : new.clock.base ≡ old.clock.base
  pub in_phase : new.clock.in_phase ≡ old.clock.in_phase

-- one owner, which was live, is disposed, and this is noted
pub record IsTurnedNow (old new : Table) (owner : ℕ) : Type 0 where
  pub was : slice_get old.live.items owner ≡ Some true
  pub rest : new ≡ record old { live = new.live; clock = new.clock }
  pub live : new.live.items ≡ slice_set old.live.items owner false
  pub noted : IsNoted old.clock new.clock (Disposed owner)

-- one owner is disposed, now or before, and counted
pub record IsTurned (old new : Table) (owner : ℕ) (before after : Disposal) : Type 0 where
  pub kept : IsKept old new
  pub what : ((slice_get old.live.items owner ≡ Some false) × (new ≡ old) × (after ≡ record before { before = before.before + 1 })) ⊎ (IsTurnedNow old new owner × (after ≡ record before { now = before.now + 1 }))

-- the list with the edit that was accepted at its end
abbrev pub list_with : List Edit → Edit → Result ℕ Stop → List Edit
list_with list asked (Ok number) = list ++ asked ∷ []
list_with list asked (Err why) = list

-- the edit of this place takes a phase of the table from what it was to what it is
abbrev pub MakesEdit : Table → Table → ℕ → ℕ → ℕ → Edit → Result ℕ Stop → Type 0
MakesEdit old new pass owner index asked answer = (s : Start) (g : Going) (lists : List (List Edit)) (room : ℕ) → IsOnWay s g (open_seen old lists room) → (list : List Edit) → numbered lists pass ≡ Some list → length list ≡ index → (block : List Noted) × (h : Going) × Calls s g block h pass (edit owner asked answer) × IsOnWay s h (open_seen new (edits_with lists pass asked answer) room)

-- a call on the rows that writes nothing was made
pub record IsStirred (old new : Table) : Type 0 where
  pub plan : new.plan ≡ old.plan
  pub live : new.live ≡ old.live
  pub full : new.full ≡ old.full
  pub step : IsStepped old.plan.nodes old.rows.items new.rows.items old.readers new.readers old.clock new.clock
  pub fits : IsWorkOf old.plan.nodes new.work

-- what a row answers: its value by plan evaluation, and its number
pub record IsAnswered (old new : Table) (node : ℕ) (answer : Code × ℕ) : Type 0 where
  pub row : Opened
  pub at : slice_get new.rows.items node ≡ Some row
  pub value : answer.0 ≡ plan_value old.plan.nodes (value_in old.rows.items) node
  pub shown : answer.0 ≡ unpacked row.code
  pub number : answer.1 ≡ row.version - new.clock.base

-- a row was written, under this number
pub record IsWrittenIn (old new : Table) (signal : ℕ) (code : Code) (number : ℕ) : Type 0 where
  pub plan : new.plan ≡ old.plan
  pub live : new.live ≡ old.live
  pub full : new.full ≡ old.full
  pub still : IsStill old.plan.nodes new.rows.items new.readers new.clock
  pub fits : IsWorkOf old.plan.nodes new.work
  pub ticked : IsTicked old.clock new.clock (Write signal code)
  pub drawn : number ≡ new.clock.drawn
  pub undone : unpacked (packed code) ≡ code
  pub was : Opened
  pub at : slice_get old.rows.items signal ≡ Some was
  pub written : (row : Opened) → slice_get old.rows.items signal ≡ Some row → IsDarkened (slice_set old.rows.items signal (written_row row (packed code) (now_of new.clock))) new.rows.items
  pub others : (i : ℕ) → i ≢ signal → ¬ Reached old.readers signal i → slice_get new.rows.items i ≡ slice_get old.rows.items i

-- the row keeps its value as this word or not
pub record HasWord (t : Table) (row word : ℕ) (is : Bool) : Type 0 where
  pub opened : Opened
  pub at : slice_get t.rows.items row ≡ Some opened
  pub yes : is ≡ true → opened.code ≡ word
  pub no : is ≡ false → opened.code ≢ word

-- a row has this value; where it had it already, all is as it was
abbrev pub IsPutAs : Table → Table → ℕ → Code → Type 0
IsPutAs old new row code = (opened : Opened) × (slice_get old.rows.items row ≡ Some opened)
    × (((unpacked opened.code ≡ code) × (new ≡ old)) ⊎ ((unpacked opened.code ≢ code) × ((number : ℕ) × IsWrittenIn old new row code number)))

-- only what the calls work with has changed
pub record IsAsBefore (old new : Table) : Type 0 where
  pub plan : new.plan ≡ old.plan
  pub rows : new.rows.items ≡ old.rows.items
  pub readers : new.readers ≡ old.readers
  pub clock : new.clock ≡ old.clock
  pub live : new.live ≡ old.live
  pub full : new.full ≡ old.full
  pub fits : IsWorkOf old.plan.nodes new.work

-- the table where a phase opens, which notes in this list
abbrev pub begun : Table → Reserve Noted → Table
begun t list = record t { clock = record { base = t.clock.base + t.clock.drawn; drawn = 0; in_phase = true; entries = list }; full = None }

-- the table where its phase ends
abbrev pub ended : Table → Reserve Noted → Table
ended t list = record t { clock = record { base = t.clock.base + t.clock.drawn; drawn = 0; in_phase = false; entries = list }; full = None }

-- the table that counts numbers anew
abbrev pub rebased : Table → Table
rebased t = record t { clock = record t.clock { base = t.clock.base + t.clock.drawn; drawn = 0 }; full = None }

-- every memo is up to date
pub record IsSettled (old new : Table) : Type 0 where
  pub stirred : IsStirred old new
  pub memos : (i : ℕ) (node : PlanNode) (row : Opened) → slice_get old.plan.nodes i ≡ Some node → slice_get new.rows.items i ≡ Some row → node.kind ≡ Memo → (is_clean row.colour ≡ true) × (unpacked row.code ≡ plan_value old.plan.nodes (value_in old.rows.items) i)

-- every memo below `to` is up to date, and only rows from `from` up to `to` were touched
pub record IsSpanSettled (old new : Table) (from to : ℕ) : Type 0 where
  pub stirred : IsStirred old new
  pub below : (i : ℕ) → i < from → slice_get new.rows.items i ≡ slice_get old.rows.items i
  pub past : (i : ℕ) → to ≤ i → slice_get new.rows.items i ≡ slice_get old.rows.items i
  pub drawn : new.clock.drawn ≤ old.clock.drawn + (to - from)
  pub memos : (i : ℕ) (node : PlanNode) (row : Opened) → i < to → slice_get old.plan.nodes i ≡ Some node → slice_get new.rows.items i ≡ Some row → node.kind ≡ Memo → (is_clean row.colour ≡ true) × (unpacked row.code ≡ plan_value old.plan.nodes (value_in old.rows.items) i)

-- a row before anything ran, with its value where it is not derived
pub record IsGivenRow (derived : Bool) (code : Code) (old new : Opened) : Type 0 where
  pub same : new ≡ record old { code = new.code }
  pub stays : derived ≡ true → new.code ≡ old.code
  pub takes : derived ≡ false → unpacked new.code ≡ code
  pub is_packed : IsPacked old.code → IsPacked new.code

-- the rows below a place have their values, and the others are as before
pub record AreGiven (nodes : List PlanNode) (codes : List Code) (bound : ℕ) (old new : List Opened) : Type 0 where
  pub paired : length new ≡ length old
  pub each : (i : ℕ) (node : PlanNode) (code : Code) (was is : Opened) → i < bound → slice_get nodes i ≡ Some node → slice_get codes i ≡ Some code → slice_get old i ≡ Some was → slice_get new i ≡ Some is → IsGivenRow (is_derived node.kind) code was is
  pub others : (i : ℕ) → bound ≤ i → slice_get new i ≡ slice_get old i

-- rows before anything ran, with the values of the sources
pub record AreFirstRows (nodes : List PlanNode) (codes : List Code) (rs : List Opened) (readers : Readers) : Type 0 where
  pub good : IsGood nodes rs
  pub dated : IsDated rs 0
  pub roomy : IsRoomy nodes rs
  pub of_plan : IsReadersOf nodes readers
  pub enrolled : IsEnrolled nodes rs readers
  pub named : AreNamed nodes rs
  pub given : (i : ℕ) (node : PlanNode) (row : Opened) → slice_get nodes i ≡ Some node → slice_get rs i ≡ Some row → is_derived node.kind ≡ false → slice_get codes i ≡ Some (unpacked row.code)
  pub never : (i : ℕ) (node : PlanNode) (row : Opened) → slice_get nodes i ≡ Some node → slice_get rs i ≡ Some row → is_derived node.kind ≡ true → row.body.cause ≡ None

pub record ArePartsOf (nodes : List PlanNode) (codes : List Code) (p : Parts) : Type 0 where
  pub rows : AreFirstRows nodes codes p.rows.items p.readers
  pub fits : IsWorkOf nodes p.work

-- the table before anything ran
pub record IsMade (plan : Plan) (live : List Bool) (codes : List Code) (t : Table) : Type 0 where
  pub table : IsTable t
  pub plan_is : t.plan ≡ plan
  pub live_is : t.live.items ≡ live
  pub closed : t.clock.in_phase ≡ false
  pub base : t.clock.base ≡ 0
  pub drawn : t.clock.drawn ≡ 0
  pub rows : AreFirstRows plan.nodes codes t.rows.items t.readers
