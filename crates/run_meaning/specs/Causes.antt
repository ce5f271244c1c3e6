-- Why operations are answered as they are: each reply comes only where its cause is there, and two come wherever it is.
use Rattle.std.specs.Prelude.{◌≡◌, ◌≢◌, ◌⊎◌, ℕ, suc, ◌+◌, ◌*◌, ◌<◌, ◌≤◌, Bool, ◌&&◌, max, Some, None, IsSomeAnd, MatchOption, IfSome, List, [], ◌∷◌, length, slice_get, sum_by, count_by}
use Rattle.std.specs.List.{list_any}
use Rattle.std.specs.Option.{option_map_or}
use Rattle.values.specs.declared.plan.Kind.TheVariants as kind
use Rattle.values.specs.declared.plan.PlanNode.{PlanNode}
use Rattle.values.specs.declared.plan.Left.{Left}
use Rattle.values.specs.declared.plan.Left.TheVariants as left
use Rattle.values.specs.declared.plan.Pumped.{Pumped}
use Rattle.values.specs.Plan.{rows_in}
use Rattle.values.specs.PlanValues.{is_derived}
use Rattle.outside.specs.Counts.{last_count}
use Rattle.script_items.specs.declared.operation.ScriptOp.{ScriptOp}
use Rattle.script_items.specs.declared.operation.ScriptOp.TheVariants as op
use Rattle.run_items.specs.declared.answer.Reply.{Reply}
use Rattle.run_items.specs.declared.answer.Reply.TheVariants as reply
use Rattle.run_items.specs.declared.limits.TheConstants.{LAST_NUMBER}
use Rattle.run_items.specs.Journal.{PassCounts}
use Rattle.run_meaning.specs.Words.{In, times, is_among}
use Rattle.run_meaning.specs.Opened.{Opened, at_none, node_at, IsKind, row_in, area_of}
use Rattle.run_meaning.specs.Lane.{Done, Everywhere, set_row, set_number, target_of, named_owner, area_in, pumped_in}
use Rattle.run_meaning.specs.Entries.{fact_at, disposed_in}
use Rattle.run_meaning.specs.Phase.{Phase, entry_numbers, disposed_before}
use Rattle.run_meaning.specs.Merge.{is_set, is_get, is_pump, is_edit, names_area, is_effect_node}

-- ---- what a row can reach

-- the row itself, and what is named by the expression of a row that it can reach
pub data Reaches (o : Opened) : ℕ → ℕ → Type 0 where
  itself : {n : ℕ} → Reaches o n n
  named : {n m : ℕ} (node : PlanNode) (row : ℕ) → node_at o n ≡ Some node → In row (rows_in node.expr) → Reaches o row m → Reaches o n m

-- the operation is a get or a pump that can reach the row
abbrev pub CanReach : Opened → ScriptOp → ℕ → Type 0
CanReach o (op.Set id key code) n = ⊥
CanReach o (op.Get id key) n = IsSomeAnd (row_in (o.target id key)) (λ row. Reaches o row n)
CanReach o op.Pump n = (effect : ℕ) × IsKind o effect kind.Effect × Reaches o effect n
CanReach o (op.Dispose owner) n = ⊥
CanReach o (op.Change edit) n = ⊥

-- the operation is an accepted set of a row that the row n can reach
abbrev pub SetsBelow : Opened → ℕ → ScriptOp → Reply → Type 0
SetsBelow o n x r = IsSomeAnd (set_number r) (λ k. IsSomeAnd (set_row o x) (λ row. Reaches o n row))

-- ---- other lanes

-- another lane than that of the pass has an operation, with its reply, of which K holds
abbrev pub ElseWhere : ℕ → (ScriptOp → Reply → Type 0) → List (List Done) → Type 0
ElseWhere pass K lanes = (other : ℕ) × (lane : List Done) × (d : Done) × (suc other ≢ pass) × (slice_get lanes other ≡ Some lane) × In d lane × K d.op d.reply

-- a get or a pump of another lane can reach the row
abbrev pub IsMet : Phase → ℕ → ℕ → Type 0
IsMet p pass n = ElseWhere pass (λ x r. CanReach p.opened x n) p.lanes

-- another lane wrote what the row can reach
abbrev pub IsMarked : Phase → ℕ → ℕ → Type 0
IsMarked p pass n = ElseWhere pass (λ x r. SetsBelow p.opened n x r) p.lanes

-- ---- disposals, and numbers

abbrev pub IsOwned : Opened → ScriptOp → ℕ → Type 0
IsOwned o x n = named_owner o x ≡ Some n

-- the lane disposed the owner before
abbrev pub DisposedHere : Opened → List Done → ℕ → Type 0
DisposedHere o before n = (d : Done) × In d before × IsSomeAnd (area_in d.op) (λ area. In n (area_of o area))

-- the number is past the last one that is noted, and the journal has all of these
abbrev pub IsSpent : Phase → ℕ → Type 0
IsSpent p k = (LAST_NUMBER < k) × ((n : ℕ) → 0 < n → n ≤ LAST_NUMBER → In n (entry_numbers p.entries))

-- ---- pumps: why effects were gone or left

-- an effect whose owner is among these
abbrev pub is_gone : List ℕ → PlanNode → Bool
is_gone owners node = is_effect_node node && is_among owners node.owner

-- and was disposed by one of these operations
abbrev pub is_gone_by : Opened → List ℕ → List Done → PlanNode → Bool
is_gone_by o owners before node = is_gone owners node && list_any (names_area o node.owner) before

-- why an effect of the pass was left
abbrev pub LeftBy : Phase → ℕ → ℕ → Left → Type 0
LeftBy p pass effect (left.Busy n) = Reaches p.opened effect n × IsMet p pass n
LeftBy p pass effect (left.Again n) = Reaches p.opened effect n × IsMarked p pass n
LeftBy p pass effect (left.Full k) = IsSpent p k

-- an effect that can reach a row that another lane met or marked
abbrev pub IsDisturbed : Phase → ℕ → ℕ → Type 0
IsDisturbed p pass effect = IsKind p.opened effect kind.Effect × ((n : ℕ) × Reaches p.opened effect n × (IsMet p pass n ⊎ IsMarked p pass n))

-- so many different effects are disturbed
abbrev pub AreDisturbed : Phase → ℕ → ℕ → Type 0
AreDisturbed p pass count = (effects : List ℕ) × (count ≤ length effects) × ((n : ℕ) → times n effects ≤ 1) × ((n : ℕ) → In n effects → IsDisturbed p pass n)

pub record PumpedBy (p : Phase) (pass : ℕ) (before : List Done) (x : Pumped) : Type 0 where
  pub gone : x.gone ≤ count_by (is_gone (disposed_in p.entries)) p.opened.plan.nodes
  -- in a phase of one lane each was disposed by an earlier operation
  pub gone_alone : length p.lanes ≡ 1 → x.gone ≤ count_by (is_gone_by p.opened (disposed_in p.entries) before) p.opened.plan.nodes
  -- where all numbers are spent, any effect may be left
  pub left : ((k : ℕ) × IsSpent p k) ⊎ AreDisturbed p pass x.left
  pub first : MatchOption x.first_left (x.left ≡ 0) (λ f. (0 < x.left) × IsKind p.opened f.0 kind.Effect × LeftBy p pass f.0 f.1)

-- ---- replies: only where

pub record DisposedBy (past : List Phase) (p : Phase) (before : List Done) (x : ScriptOp) (n : ℕ) : Type 0 where
  pub owned : IsOwned p.opened x n
  pub disposed : In n (disposed_in p.entries) ⊎ In n (disposed_before past)
  -- in a phase of one lane it was disposed before the phase, or by an earlier operation
  pub alone : length p.lanes ≡ 1 → In n (disposed_before past) ⊎ DisposedHere p.opened before n

-- a reply to an operation of the pass comes only where this is so
abbrev pub Caused : List Phase → Phase → ℕ → List Done → ScriptOp → Reply → Type 0
Caused past p pass before x (reply.Set n) = Unit {0}
Caused past p pass before x (reply.Got v n) = Unit {0}
Caused past p pass before x (reply.Pumped y) = PumpedBy p pass before y
Caused past p pass before x (reply.Disposal y) = Unit {0}
Caused past p pass before x (reply.Edited n v) = Unit {0}
Caused past p pass before x reply.NoRow = target_of p.opened x ≡ Some at_none
Caused past p pass before x (reply.Busy n) = CanReach p.opened x n × IsMet p pass n
Caused past p pass before x (reply.Again n) = CanReach p.opened x n × IsMarked p pass n
Caused past p pass before x (reply.Disposed n) = DisposedBy past p before x n
Caused past p pass before x (reply.Full k) = IsSpent p k

-- ---- replies: wherever

pub record Owed (past : List Phase) (p : Phase) (before : List Done) (x : ScriptOp) (r : Reply) : Type 0 where
  -- what names a store row that is not there is told so
  pub no_row : target_of p.opened x ≡ Some at_none → r ≡ reply.NoRow
  -- what names something of an owner that was dead before, or that the lane disposed, is told so, unless its row is not there
  pub disposed : (n : ℕ) → IsOwned p.opened x n → In n (disposed_before past) ⊎ DisposedHere p.opened before n → (r ≡ reply.Disposed n) ⊎ (r ≡ reply.NoRow)

pub record IsCaused (past : List Phase) (p : Phase) (pass : ℕ) (before : List Done) (x : ScriptOp) (r : Reply) : Type 0 where
  pub only : Caused past p pass before x r
  pub owed : Owed past p before x r

abbrev pub RepliesCaused : List Phase → Phase → Type 0
RepliesCaused past p = Everywhere (λ pass before d later. IsCaused past p pass before d.op d.reply) p.lanes

-- ---- how often a lane may be refused: by the counts of its pass

abbrev pub busy_in : Reply → ℕ
busy_in (reply.Set n) = 0
busy_in (reply.Got v n) = 0
busy_in (reply.Pumped x) = 0
busy_in (reply.Disposal x) = 0
busy_in (reply.Edited n v) = 0
busy_in reply.NoRow = 0
busy_in (reply.Busy n) = 1
busy_in (reply.Again n) = 0
busy_in (reply.Disposed n) = 0
busy_in (reply.Full n) = 0

abbrev pub again_in : Reply → ℕ
again_in (reply.Set n) = 0
again_in (reply.Got v n) = 0
again_in (reply.Pumped x) = 0
again_in (reply.Disposal x) = 0
again_in (reply.Edited n v) = 0
again_in reply.NoRow = 0
again_in (reply.Busy n) = 0
again_in (reply.Again n) = 1
again_in (reply.Disposed n) = 0
again_in (reply.Full n) = 0

-- how many effects a reply says were left
abbrev pub left_in : Reply → ℕ
left_in r = option_map_or (λ x. x.left) (pumped_in r) 0

abbrev pub refused_in : Reply → ℕ
refused_in r = busy_in r + again_in r + left_in r

-- a count at its last value binds nothing
abbrev pub IsCountedBy : ℕ → ℕ → Type 0
IsCountedBy count n = (n ≤ count) ⊎ (count ≡ last_count)

abbrev pub AreCountedBy : PassCounts → ℕ → Type 0
AreCountedBy c n = (n ≤ c.meets + c.remarks) ⊎ (c.meets ≡ last_count) ⊎ (c.remarks ≡ last_count)

pub record LaneCounted (p : Phase) (c : PassCounts) (lane : List Done) : Type 0 where
  pub busy : IsCountedBy c.meets (sum_by (λ d. busy_in d.reply) lane)
  pub again : IsCountedBy c.remarks (sum_by (λ d. again_in d.reply) lane)
  -- unless the last number was noted
  pub together : fact_at LAST_NUMBER p.entries ≡ None → AreCountedBy c (sum_by (λ d. refused_in d.reply) lane)

-- the counts of each lane's pass
abbrev pub EachCounted : Phase → List PassCounts → List (List Done) → Type 0
EachCounted p counts [] = Unit {0}
EachCounted p [] (lane ∷ lanes) = ⊥
EachCounted p (c ∷ counts) (lane ∷ lanes) = LaneCounted p c lane × EachCounted p counts lanes

-- a phase opens with one pass for each lane, and with one where there is no lane
pub record RefusalsCounted (p : Phase) : Type 0 where
  pub passes : length p.counts ≡ max 1 (length p.lanes)
  pub each : EachCounted p p.counts p.lanes

-- ---- where nothing is full

abbrev pub times_asked : (ScriptOp → Bool) → Phase → ℕ
times_asked test p = sum_by (count_by (λ d. test d.op)) p.lanes

-- how many numbers the operations of a phase of one lane may draw: one for each set, edit and owner, and for each get and pump one for each memo and effect
abbrev pub cost_of : Phase → ℕ
cost_of p =
    times_asked is_set p + times_asked is_edit p + length p.opened.plan.owners
    + (times_asked is_get p + times_asked is_pump p) * count_by (λ node. is_derived node.kind) p.opened.plan.nodes

abbrev pub LeftUnspent : Left → Type 0
LeftUnspent (left.Busy n) = Unit {0}
LeftUnspent (left.Again n) = Unit {0}
LeftUnspent (left.Full k) = ⊥

abbrev pub IsUnspent : Reply → Type 0
IsUnspent (reply.Set n) = Unit {0}
IsUnspent (reply.Got v n) = Unit {0}
IsUnspent (reply.Pumped x) = IfSome x.first_left (λ f. LeftUnspent f.1)
IsUnspent (reply.Disposal x) = Unit {0}
IsUnspent (reply.Edited n v) = Unit {0}
IsUnspent reply.NoRow = Unit {0}
IsUnspent (reply.Busy n) = Unit {0}
IsUnspent (reply.Again n) = Unit {0}
IsUnspent (reply.Disposed n) = Unit {0}
IsUnspent (reply.Full n) = ⊥

-- in a phase of one lane that may draw no more numbers than are noted, nothing is full
abbrev pub HasRoom : Phase → Type 0
HasRoom p = length p.lanes ≤ 1 → cost_of p ≤ LAST_NUMBER → Everywhere (λ pass before d later. IsUnspent d.reply) p.lanes
