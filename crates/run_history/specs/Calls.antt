-- What each call of one caller leaves of a phase on its way, and what it is told.
use Rattle.std.specs.Prelude.{◌≡◌, ◌⊎◌, ℕ, ◌+◌, ◌<◌, ◌≤◌, ◌==◌, if◌then◌else◌, Bool, true, false, Result, Ok, Err, MatchOption, Some, List, [], ◌∷◌, length, slice_get, count_by}
use Rattle.std.specs.List.{FoldsTo}
use Rattle.values.specs.declared.code.Code.{Code}
use Rattle.values.specs.declared.plan.Disposal.{Disposal}
use Rattle.values.specs.declared.plan.Kind.TheVariants as kind
use Rattle.values.specs.declared.plan.Left.{Left}
use Rattle.values.specs.declared.plan.Left.TheVariants as left
use Rattle.values.specs.declared.plan.Noted.{Noted}
use Rattle.values.specs.declared.plan.Fact.{Fact}
use Rattle.values.specs.declared.plan.Fact.TheVariants as fact
use Rattle.values.specs.declared.plan.PlanNode.{PlanNode}
use Rattle.values.specs.declared.plan.Pumped.{Pumped}
use Rattle.values.specs.declared.plan.Stop.{Stop}
use Rattle.values.specs.declared.plan.Stop.TheVariants as stop
use Rattle.store_fields.specs.declared.edit.Edit.{Edit}
use Rattle.run_items.specs.declared.limits.TheConstants.{LAST_NUMBER}
use Rattle.run_meaning.specs.Words.{In}
use Rattle.run_meaning.specs.Opened.{IsKind, area_of}
use Rattle.run_meaning.specs.Entries.{is_disposal, is_ran, is_void, disposed_in}
use Rattle.run_meaning.specs.Told.{IsCurrent}
use Rattle.run_meaning.specs.Merge.{effects_of}
use Rattle.run_meaning.specs.Causes.{is_gone}
use Rattle.run_history.specs.Going.{Start, Going, opened_at, note, all_are, plain_code, shown_number, last_value, IsDead, IsOwnedBy, IsLiveRow, edits_by, Goes, derived_of}

-- what a get may note
abbrev pub is_change : Fact → Bool
is_change (fact.Write row code) = false
is_change (fact.Change row code) = true
is_change (fact.Ran row code) = false
is_change (fact.Void row) = false
is_change (fact.Disposed owner) = false
is_change (fact.Edit pass index) = false

-- what a pump may note
abbrev pub is_of_pump : Fact → Bool
is_of_pump (fact.Write row code) = false
is_of_pump (fact.Change row code) = true
is_of_pump (fact.Ran row code) = true
is_of_pump (fact.Void row) = true
is_of_pump (fact.Disposed owner) = false
is_of_pump (fact.Edit pass index) = false

-- ---- what was done

-- one number was drawn, and the fact was noted under it
pub record IsNoted (g : Going) (block : List Noted) (h : Going) (n : ℕ) (f : Fact) : Type 0 where
  pub number : n ≡ g.drawn + 1
  pub drawn : h.drawn ≡ n
  pub block_is : block ≡ note n f ∷ []

-- the value is that by plain evaluation, and it stands under this number: that of the row's last write or change in the phase, 0 where there is none
pub record IsGot (s : Start) (g : Going) (block : List Noted) (h : Going) (row : ℕ) (v : Code) (n : ℕ) : Type 0 where
  pub live : IsLiveRow s g.entries row
  pub changes : all_are is_change block ≡ true
  pub draws : h.drawn ≤ g.drawn + derived_of s
  pub plain : v ≡ plain_code s h.entries row
  pub current : IsCurrent (opened_at s) h.entries row v n
  pub number : n ≡ shown_number h.entries row

-- with one caller an effect is left only where a number above the last that is noted was drawn
abbrev pub LeftFull : Left → ℕ → Type 0
LeftFull (left.Busy n) drawn = ⊥
LeftFull (left.Again n) drawn = ⊥
LeftFull (left.Full n) drawn = (LAST_NUMBER < n) × (n ≤ drawn)

-- the effect's value stands: its owner is disposed, or its last run gave the value by plain evaluation
abbrev pub StandsNow : Start → List Noted → ℕ → Type 0
StandsNow s es n = ((node : PlanNode) × (slice_get s.plan.nodes n ≡ Some node) × In node.owner (disposed_in es)) ⊎ (last_value s es n ≡ Some (plain_code s es n))

pub record IsPumped (s : Start) (g : Going) (block : List Noted) (h : Going) (x : Pumped) : Type 0 where
  pub of_pump : all_are is_of_pump block ≡ true
  pub draws : h.drawn ≤ g.drawn + derived_of s
  pub counts : (x.ran + x.same) + (x.gone + x.left) ≡ effects_of (opened_at s)
  pub ran : count_by is_ran block ≡ x.ran
  pub void : count_by is_void block ≤ x.gone + x.left
  pub gone : x.gone ≡ count_by (is_gone (disposed_in g.entries)) s.plan.nodes
  pub first : MatchOption x.first_left (x.left ≡ 0) (λ f. (0 < x.left) × IsKind (opened_at s) f.0 kind.Effect × LeftFull f.1 h.drawn)
  -- but for those that were left, the value of each effect stands
  pub stand : (left : List ℕ) × (length left ≤ x.left) × ((n : ℕ) → IsKind (opened_at s) n kind.Effect → In n left ⊎ StandsNow s h.entries n)

-- each number is smaller than all before it, and than the bound
abbrev pub FallsFrom : ℕ → List ℕ → Type 0
FallsFrom high [] = Unit {0}
FallsFrom high (n ∷ ns) = (n < high) × FallsFrom n ns

pub record IsDisposed (s : Start) (g : Going) (block : List Noted) (h : Going) (area : ℕ) (x : Disposal) : Type 0 where
  pub disposals : all_are is_disposal block ≡ true
  pub draws : h.drawn ≡ g.drawn + x.now
  pub now : length block ≡ x.now
  pub all : x.now + x.before ≡ length (area_of (opened_at s) area)
  -- inner owners first, and the area's own last
  pub falls : FallsFrom (length s.plan.owners) (disposed_in block)
  -- those of the area that were not dead, so all of the area is dead then
  pub of_area : (n : ℕ) → In n (disposed_in block) → In n (area_of (opened_at s) area) × (¬ IsDead s g.entries n)
  pub dead : (n : ℕ) → In n (area_of (opened_at s) area) → IsDead s h.entries n

-- ---- what was refused

-- nothing was noted, and no number drawn
abbrev pub IsQuiet : Going → List Noted → Going → Type 0
IsQuiet g block h = (block ≡ []) × (h.drawn ≡ g.drawn)

-- this number was drawn, above the last that is noted, and at most so many were; changes may have been noted before
pub record IsFull (g : Going) (block : List Noted) (h : Going) (most n : ℕ) : Type 0 where
  pub changes : all_are is_change block ≡ true
  pub draws : h.drawn ≤ g.drawn + most
  pub above : LAST_NUMBER < n
  pub drawn : n ≤ h.drawn

-- a call on what this owner owns was stopped
abbrev pub Stops : Start → Going → List Noted → Going → ℕ → ℕ → Stop → Type 0
Stops s g block h most owner (stop.Disposed n) = (n ≡ owner) × IsDead s g.entries owner × IsQuiet g block h
Stops s g block h most owner (stop.Full n) = (¬ IsDead s g.entries owner) × IsFull g block h most n

abbrev pub RowStops : Start → Going → List Noted → Going → ℕ → ℕ → Stop → Type 0
RowStops s g block h most row why = (owner : ℕ) × IsOwnedBy s row owner × Stops s g block h most owner why

-- ---- the calls

-- a call of the graph, with its answer
pub data Call : Type 0 where
  set : (row : ℕ) (code : Code) (answer : Result ℕ Stop) → Call
  get : (row : ℕ) (answer : Result (Code × ℕ) Stop) → Call
  pump : (answer : Pumped) → Call
  dispose : (owner : ℕ) (answer : Disposal) → Call
  -- an edit of what this owner owns
  edit : (owner : ℕ) (asked : Edit) (answer : Result ℕ Stop) → Call

-- what the answer of a call says, by a pass of this number
abbrev pub SaysAt : Start → Going → List Noted → Going → ℕ → Call → Type 0
SaysAt s g block h pass (set row code (Ok n)) = IsLiveRow s g.entries row × IsNoted g block h n (fact.Write row code)
SaysAt s g block h pass (set row code (Err why)) = RowStops s g block h 1 row why × (block ≡ [])
SaysAt s g block h pass (get row (Ok a)) = IsGot s g block h row a.0 a.1
SaysAt s g block h pass (get row (Err why)) = RowStops s g block h (derived_of s) row why
SaysAt s g block h pass (pump x) = IsPumped s g block h x
SaysAt s g block h pass (dispose owner x) = IsDisposed s g block h owner x
SaysAt s g block h pass (edit owner asked (Ok n)) = (¬ IsDead s g.entries owner) × IsNoted g block h n (fact.Edit pass (edits_by pass g.entries))
SaysAt s g block h pass (edit owner asked (Err why)) = Stops s g block h 1 owner why × (block ≡ [])

-- the call takes the phase from g to h, and notes the block
abbrev pub Calls : Start → Going → List Noted → Going → ℕ → Call → Type 0
Calls s g block h pass call = Goes s g block h × SaysAt s g block h pass call

-- ---- calls one after another

-- a call that was made, and by which pass
pub record MadeCall : Type 0 where
  pub pass : ℕ
  pub call : Call

abbrev pub Makes : Start → Going → MadeCall → Going → Type 0
Makes s g m h = (block : List Noted) × Calls s g block h m.pass m.call

-- the calls take the phase from g to k
abbrev pub CallsLead : Start → Going → List MadeCall → Going → Type 0
CallsLead s g calls k = FoldsTo (Makes s) g calls k

-- the calls of a pass, in its order
abbrev pub calls_by : ℕ → List MadeCall → List Call
calls_by pass [] = []
calls_by pass (m ∷ ms) = if pass == m.pass then m.call ∷ calls_by pass ms else calls_by pass ms
