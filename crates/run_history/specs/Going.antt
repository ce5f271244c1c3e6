-- What a graph has when a phase opens, and a phase on its way.
use Rattle.std.specs.Prelude.{◌≡◌, ◌⊎◌, ℕ, ◌+◌, ◌<◌, ◌≤◌, ◌==◌, if◌then◌else◌, Bool, true, false, Option, Some, None, unwrap_or, List, [], ◌∷◌, ◌++◌, slice_get, filter_map, count_by}
use Rattle.std.specs.List.{list_all, last_or}
use Rattle.std.specs.Option.{option_and_then, option_or}
use Rattle.values.specs.declared.code.Code.{Code}
use Rattle.values.specs.declared.plan.Plan.{Plan}
use Rattle.values.specs.declared.plan.PlanNode.{PlanNode}
use Rattle.values.specs.declared.plan.Noted.{Noted}
use Rattle.values.specs.declared.plan.Fact.{Fact}
use Rattle.values.specs.declared.plan.Fact.TheVariants as fact
use Rattle.values.specs.PlanValues.{is_derived, plan_value}
use Rattle.run_items.specs.declared.limits.TheConstants.{LAST_NUMBER}
use Rattle.run_meaning.specs.Words.{In, greatest}
use Rattle.run_meaning.specs.Opened.{Opened, at_none, opening_code, dead_of}
use Rattle.run_meaning.specs.Entries.{is_disposal, disposed_in, last_write, last_ran}
use Rattle.run_meaning.specs.Phase.{Phase, IsOfPlan}
use Rattle.run_meaning.specs.Merge.{last_run, AllDiffer}

-- ---- what a graph has when a phase opens

pub record Start : Type 0 where
  pub plan : Plan
  -- the value of each row
  pub values : List Code
  -- whether each owner is live
  pub live : List Bool
  -- the value that the last run of each row gave, in the phases before
  pub ran : ℕ → Option Code

-- a phase that opens so; what ids stand for is no matter of the graph
abbrev pub opened_at : Start → Opened
opened_at s = record { held = record { holdings = []; live = s.live }; plan = s.plan; places = []; values = s.values; target = λ id key. at_none; owner_of = λ id. id }

-- what the graph has where this phase opens, after these
abbrev pub start_of : List Phase → Opened → Start
start_of past o = record { plan = o.plan; values = o.values; live = o.held.live; ran = λ row. option_and_then (last_run past) (slice_get o.places row) }

-- ---- a phase on its way

-- how many numbers were drawn, and what was noted, in order of number
pub record Going : Type 0 where
  pub drawn : ℕ
  pub entries : List Noted

abbrev pub just_opened : Going
just_opened = record { drawn = 0; entries = [] }

abbrev pub note : ℕ → Fact → Noted
note n f = record { number = n; fact = f }

-- the numbers drawn from low to high: each up to the last that is noted has its entry, and above that disposals alone
abbrev pub Numbered : ℕ → List Noted → ℕ → Type 0
Numbered low [] high = (low ≤ high) × (low < high → LAST_NUMBER ≤ low)
Numbered low (e ∷ es) high = (low < e.number) × ((e.number ≡ low + 1) ⊎ (LAST_NUMBER ≤ low)) × (LAST_NUMBER < e.number → is_disposal e.fact ≡ true) × Numbered e.number es high

abbrev pub all_are : (Fact → Bool) → List Noted → Bool
all_are test es = list_all (λ e. test e.fact) es

-- ---- what rows have after these entries

-- the number, where the fact is a write of this row
abbrev pub write_of : ℕ → Fact → ℕ → Option ℕ
write_of n (fact.Write row code) k = if n == row then Some k else None
write_of n (fact.Change row code) k = None
write_of n (fact.Ran row code) k = None
write_of n (fact.Void row) k = None
write_of n (fact.Disposed owner) k = None
write_of n (fact.Edit pass index) k = None

abbrev pub writes_of : ℕ → List Noted → List ℕ
writes_of n es = filter_map (λ e. write_of n e.fact e.number) es

-- the greatest number of a write of the row, 0 if there is none
abbrev pub latest : List Noted → ℕ → ℕ
latest es n = greatest (writes_of n es)

-- the value of its last write, or its opening value
abbrev pub latest_code : Start → List Noted → ℕ → Code
latest_code s es n = unwrap_or (last_write es n) (opening_code (opened_at s) n)

-- the value of each row by plain evaluation over these, with loads as they were when the phase opened
abbrev pub plain_code : Start → List Noted → ℕ → Code
plain_code s es n = plan_value s.plan.nodes (latest_code s es) n

-- the number, where the fact is a new value of this row
abbrev pub new_value_of : ℕ → Fact → ℕ → Option ℕ
new_value_of n (fact.Write row code) k = if n == row then Some k else None
new_value_of n (fact.Change row code) k = if n == row then Some k else None
new_value_of n (fact.Ran row code) k = None
new_value_of n (fact.Void row) k = None
new_value_of n (fact.Disposed owner) k = None
new_value_of n (fact.Edit pass index) k = None

-- the number of the last write or change of the row, 0 if there is none
abbrev pub shown_number : List Noted → ℕ → ℕ
shown_number es n = unwrap_or (last_or None (filter_map (λ e. new_value_of n e.fact e.number) es)) 0

-- the value of the last run of the row, among these entries or before the phase
abbrev pub last_value : Start → List Noted → ℕ → Option Code
last_value s es n = option_or (last_ran es n) (s.ran n)

-- ---- owners

-- the owner was dead when the phase opened, or was disposed since
abbrev pub IsDead : Start → List Noted → ℕ → Type 0
IsDead s es n = In n (dead_of (opened_at s)) ⊎ In n (disposed_in es)

-- the row is there, and this is its owner
abbrev pub IsOwnedBy : Start → ℕ → ℕ → Type 0
IsOwnedBy s row n = (node : PlanNode) × (slice_get s.plan.nodes row ≡ Some node) × (node.owner ≡ n)

-- the row is there, and its owner is not dead
abbrev pub IsLiveRow : Start → List Noted → ℕ → Type 0
IsLiveRow s es row = (owner : ℕ) × IsOwnedBy s row owner × (¬ IsDead s es owner)

-- ---- edits

abbrev pub is_edit_by : ℕ → Fact → Bool
is_edit_by pass (fact.Write row code) = false
is_edit_by pass (fact.Change row code) = false
is_edit_by pass (fact.Ran row code) = false
is_edit_by pass (fact.Void row) = false
is_edit_by pass (fact.Disposed owner) = false
is_edit_by pass (fact.Edit by index) = pass == by

-- how many edits the pass has noted
abbrev pub edits_by : ℕ → List Noted → ℕ
edits_by pass es = count_by (λ e. is_edit_by pass e.fact) es

-- ---- what each call keeps

-- A change and a run give the value by plain evaluation, and a run is of an effect whose owner is not dead. The first
-- entries stood when the call began, the others when it ended.
abbrev pub EntryFits : Start → List Noted → List Noted → Fact → Type 0
EntryFits s es now (fact.Write row code) = Unit {0}
EntryFits s es now (fact.Change row code) = code ≡ plain_code s now row
EntryFits s es now (fact.Ran row code) = (code ≡ plain_code s now row) × IsLiveRow s es row
EntryFits s es now (fact.Void row) = Unit {0}
EntryFits s es now (fact.Disposed owner) = Unit {0}
EntryFits s es now (fact.Edit pass index) = Unit {0}

-- the block was noted behind what stood, under the numbers that were drawn
pub record Goes (s : Start) (g : Going) (block : List Noted) (h : Going) : Type 0 where
  pub entries : h.entries ≡ g.entries ++ block
  pub numbered : Numbered g.drawn block h.drawn
  pub of_plan : (e : Noted) → In e block → IsOfPlan (opened_at s) e.fact
  pub differ : AllDiffer (opened_at s) g.entries block
  pub fit : (e : Noted) → In e block → EntryFits s g.entries h.entries e.fact

-- it is no write
abbrev pub writes_nothing : Fact → Bool
writes_nothing (fact.Write row code) = false
writes_nothing (fact.Change row code) = true
writes_nothing (fact.Ran row code) = true
writes_nothing (fact.Void row) = true
writes_nothing (fact.Disposed owner) = true
writes_nothing (fact.Edit pass index) = true

-- how many memos and effects the plan has
abbrev pub derived_of : Start → ℕ
derived_of s = count_by (λ node. is_derived node.kind) s.plan.nodes
