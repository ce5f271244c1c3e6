-- The journal of a phase is a merge of what its lanes did. What is said of lanes speaks of their replies and of entries alone.
use Rattle.std.specs.Prelude.{◌≡◌, ◌≢◌, ◌⊎◌, ℕ, ◌+◌, ◌≤◌, Bool, true, false, ◌&&◌, ◌||◌, nat_lt, Option, Some, None, is_some, IfSome, IsSomeAnd, unwrap_or, List, [], ◌∷◌, ◌++◌, length, slice_get, sum_by, count_by}
use Rattle.std.specs.List.{list_all, list_any, AllByRecursion}
use Rattle.std.specs.Option.{option_map_or, option_and_then, option_or}
use Rattle.values.specs.declared.code.Code.{Code}
use Rattle.values.specs.declared.plan.Disposal.{Disposal}
use Rattle.values.specs.declared.plan.Kind.TheVariants as kind
use Rattle.values.specs.declared.plan.PlanNode.{PlanNode}
use Rattle.values.specs.declared.plan.Noted.{Noted}
use Rattle.values.specs.declared.plan.Fact.{Fact}
use Rattle.values.specs.declared.plan.Fact.TheVariants as fact
use Rattle.values.specs.declared.plan.Pumped.{Pumped}
use Rattle.script_items.specs.declared.operation.ScriptOp.{ScriptOp}
use Rattle.script_items.specs.declared.operation.ScriptOp.TheVariants as op
use Rattle.run_items.specs.declared.answer.Reply.{Reply}
use Rattle.run_items.specs.declared.answer.Reply.TheVariants as reply
use Rattle.plain_evaluation.specs.Place.{Place}
use Rattle.plain_evaluation.specs.Sound.{is_effect}
use Rattle.plan_meaning.specs.Layout.{row_of}
use Rattle.run_meaning.specs.Words.{In, GrowsFrom, times}
use Rattle.run_meaning.specs.Opened.{Opened, node_at, IsKind, opening_code, area_of, is_inside}
use Rattle.run_meaning.specs.Lane.{Done, Everywhere, numbers, edits_in, own, set_row, code_in, area_in, edit_in, disposal_in, pumped_in}
use Rattle.run_meaning.specs.Entries.{fact_at, own_numbers, last_change, is_ran, is_void, last_ran, disposed_by, disposed_in}
use Rattle.run_meaning.specs.Edits.{held_written, verdict_in, edits_of}
use Rattle.run_meaning.specs.Explained.{Explained}
use Rattle.run_meaning.specs.Phase.{Phase, disposed_before}

-- ---- each operation has one answer, of its kind

abbrev pub is_set : ScriptOp → Bool
is_set x = is_some (code_in x)

abbrev pub is_get : ScriptOp → Bool
is_get (op.Set id key code) = false
is_get (op.Get id key) = true
is_get op.Pump = false
is_get (op.Dispose owner) = false
is_get (op.Change edit) = false

abbrev pub is_pump : ScriptOp → Bool
is_pump (op.Set id key code) = false
is_pump (op.Get id key) = false
is_pump op.Pump = true
is_pump (op.Dispose owner) = false
is_pump (op.Change edit) = false

abbrev pub is_dispose : ScriptOp → Bool
is_dispose x = is_some (area_in x)

abbrev pub is_edit : ScriptOp → Bool
is_edit x = is_some (edit_in x)

abbrev pub is_answer : ScriptOp → Reply → Bool
is_answer x (reply.Set n) = is_set x
is_answer x (reply.Got v n) = is_get x
is_answer x (reply.Pumped y) = is_pump x
is_answer x (reply.Disposal y) = is_dispose x
is_answer x (reply.Edited n v) = is_edit x
is_answer x reply.NoRow = is_set x || is_get x
is_answer x (reply.Busy n) = is_get x
is_answer x (reply.Again n) = is_get x
is_answer x (reply.Disposed n) = is_set x || is_get x || is_edit x
is_answer x (reply.Full n) = is_set x || is_get x || is_edit x

abbrev pub Answered : Phase → Type 0
Answered p = list_all (list_all (λ d. is_answer d.op d.reply)) p.lanes ≡ true

-- ---- the numbers of accepted sets and edits grow along the lane, and under them stands what was asked

-- a set: the write of its row and value. An edit: that of the place behind the lane's earlier ones, with the verdict that it meets when the phase is settled.
abbrev pub NotedAs : Phase → ℕ → List Done → ScriptOp → Reply → Type 0
NotedAs p pass before x (reply.Set n) = (row : ℕ) × (code : Code) × (set_row p.opened x ≡ Some row) × (code_in x ≡ Some code) × (fact_at n p.entries ≡ Some (fact.Write row code))
NotedAs p pass before x (reply.Got v n) = Unit {0}
NotedAs p pass before x (reply.Pumped y) = Unit {0}
NotedAs p pass before x (reply.Disposal y) = Unit {0}
NotedAs p pass before x (reply.Edited n v) = (fact_at n p.entries ≡ Some (fact.Edit pass (length (edits_in before)))) × (verdict_in (edits_of p.lanes p.entries) (held_written p.opened p.entries) n ≡ Some v)
NotedAs p pass before x reply.NoRow = Unit {0}
NotedAs p pass before x (reply.Busy n) = Unit {0}
NotedAs p pass before x (reply.Again n) = Unit {0}
NotedAs p pass before x (reply.Disposed n) = Unit {0}
NotedAs p pass before x (reply.Full n) = Unit {0}

pub record NotedInOrder (p : Phase) : Type 0 where
  pub grow : AllByRecursion (λ lane. GrowsFrom 0 (numbers lane)) p.lanes
  pub noted : Everywhere (λ pass before d later. NotedAs p pass before d.op d.reply) p.lanes

-- ---- each write and each edit of the journal belongs to exactly one reply

-- each number stands in the replies of all lanes together as often as among the writes and edits
abbrev pub NotedOnce : Phase → Type 0
NotedOnce p = (n : ℕ) → sum_by (λ lane. times n (numbers lane)) p.lanes ≡ times n (own_numbers p.entries)

-- ---- disposals

-- the number lies above those of the lane's earlier sets and edits and below those of its later ones
abbrev pub is_between : List Done → List Done → ℕ → Bool
is_between before later n = list_all (λ k. nat_lt k n) (numbers before) && list_all (λ k. nat_lt n k) (numbers later)

-- the entry disposes an owner of the area, between the lane's sets and edits
abbrev pub disposes_in : Opened → ℕ → List Done → List Done → Noted → Bool
disposes_in o area before later e = option_map_or (is_inside o area) (disposed_by e) false && is_between before later e.number

-- Each owner of the area has an entry of its own, in this phase or before it. That is more than has to hold: for one inside an area that was disposed before, the entry of that area would do.
abbrev pub DisposesAs : List Phase → Phase → List Done → List Done → ℕ → Disposal → Type 0
DisposesAs past p before later area x =
    (x.now + x.before ≡ length (area_of p.opened area))
    × ((n : ℕ) → In n (area_of p.opened area) → In n (disposed_in p.entries) ⊎ In n (disposed_before past))
    × (x.now ≤ count_by (disposes_in p.opened area before later) p.entries)

abbrev pub IsDisposal : List Phase → Phase → List Done → List Done → ScriptOp → Reply → Type 0
IsDisposal past p before later x r = IfSome (disposal_in r) (λ d. IsSomeAnd (area_in x) (λ area. DisposesAs past p before later area d))

-- how many owners a reply says were disposed now
abbrev pub turned_in : Reply → ℕ
turned_in r = option_map_or (λ d. d.now) (disposal_in r) 0

-- the operation disposes an area with the owner in it
abbrev pub names_area : Opened → ℕ → Done → Bool
names_area o n d = option_map_or (λ area. is_inside o area n) (area_in d.op) false

pub record DisposedOnce (past : List Phase) (p : Phase) : Type 0 where
  pub once : (n : ℕ) → times n (disposed_in p.entries ++ disposed_before past) ≤ 1
  pub each : Everywhere (λ pass before d later. IsDisposal past p before later d.op d.reply) p.lanes
  pub sum : sum_by (sum_by (λ d. turned_in d.reply)) p.lanes ≡ length (disposed_in p.entries)
  pub asked : (n : ℕ) → In n (disposed_in p.entries) → list_any (list_any (names_area p.opened n)) p.lanes ≡ true

-- ---- pumps

abbrev pub is_effect_node : PlanNode → Bool
is_effect_node node = is_effect node.kind

-- how many effects the plan has
abbrev pub effects_of : Opened → ℕ
effects_of o = count_by is_effect_node o.plan.nodes

abbrev pub ran_in : Reply → ℕ
ran_in r = option_map_or (λ x. x.ran) (pumped_in r) 0

-- how many effects a reply says were gone or left
abbrev pub missed_in : Reply → ℕ
missed_in r = option_map_or (λ x. x.gone + x.left) (pumped_in r) 0

-- the value of the last run of a place in a phase
abbrev pub last_run_in : Phase → Place → Option Code
last_run_in p place = option_and_then (last_ran p.entries) (row_of p.opened.places place)

-- the same in these phases, the earliest of which stands first
abbrev pub last_run : List Phase → Place → Option Code
last_run [] place = None
last_run (p ∷ ps) place = option_or (last_run ps place) (last_run_in p place)

-- a run of the row in the phase, or the last one of its place before, gave the value
abbrev pub RanTo : List Phase → Phase → ℕ → Code → Type 0
RanTo past p n code =
    ((k : ℕ) × (fact_at k p.entries ≡ Some (fact.Ran n code)))
    ⊎ ((place : Place) × (slice_get p.opened.places n ≡ Some place) × (last_run past place ≡ Some code))

-- the effect's value stands: its owner was disposed in the phase, or what it ran to is explained by nothing older than the lane's own writes
abbrev pub Stands : List Phase → Phase → List Done → ℕ → Type 0
Stands past p before n =
    ((node : PlanNode) × (node_at p.opened n ≡ Some node) × In node.owner (disposed_in p.entries))
    ⊎ ((code : Code) × RanTo past p n code × Explained p.opened p.entries (own p.opened before) None n code)

abbrev pub PumpsAs : List Phase → Phase → List Done → List Done → Pumped → Type 0
PumpsAs past p before later x =
    ((x.ran + x.same) + (x.gone + x.left) ≡ effects_of p.opened)
    × (x.ran ≤ count_by (λ e. is_ran e && is_between before later e.number) p.entries)
    × ((left : List ℕ) × (length left ≤ x.left) × ((n : ℕ) → IsKind p.opened n kind.Effect → In n left ⊎ Stands past p before n))

abbrev pub IsPump : List Phase → Phase → List Done → List Done → Reply → Type 0
IsPump past p before later r = IfSome (pumped_in r) (PumpsAs past p before later)

pub record PumpsFit (past : List Phase) (p : Phase) : Type 0 where
  pub each : Everywhere (λ pass before d later. IsPump past p before later d.reply) p.lanes
  pub sum : sum_by (sum_by (λ d. ran_in d.reply)) p.lanes ≡ count_by is_ran p.entries
  pub void : count_by is_void p.entries ≤ sum_by (sum_by (λ d. missed_in d.reply)) p.lanes

-- ---- changes

-- a row's value after these entries, by its changes
abbrev pub changed_to : Opened → ℕ → List Noted → Code
changed_to o n es = unwrap_or (last_change es n) (opening_code o n)

-- a change is of a memo, and differs from what the row had after these entries
abbrev pub DiffersFrom : Opened → List Noted → Fact → Type 0
DiffersFrom o before (fact.Write row code) = Unit {0}
DiffersFrom o before (fact.Change row code) = IsKind o row kind.Memo × (changed_to o row before ≢ code)
DiffersFrom o before (fact.Ran row code) = Unit {0}
DiffersFrom o before (fact.Void row) = Unit {0}
DiffersFrom o before (fact.Disposed owner) = Unit {0}
DiffersFrom o before (fact.Edit pass index) = Unit {0}

abbrev pub AllDiffer : Opened → List Noted → List Noted → Type 0
AllDiffer o before [] = Unit {0}
AllDiffer o before (e ∷ es) = DiffersFrom o before e.fact × AllDiffer o (before ++ e ∷ []) es

abbrev pub ChangesDiffer : Phase → Type 0
ChangesDiffer p = AllDiffer p.opened [] p.entries

-- ---- all of it

pub record IsMerge (past : List Phase) (p : Phase) : Type 0 where
  pub answered : Answered p
  pub in_order : NotedInOrder p
  pub once : NotedOnce p
  pub disposals : DisposedOnce past p
  pub pumps : PumpsFit past p
  pub changes : ChangesDiffer p
