-- Who reads each row, and who has read it.
use Rattle.std.specs.Prelude.{◌≡◌, ◌≢◌, ℕ, ◌+◌, ◌<◌, ◌≤◌, Bool, true, false, if◌then◌else◌, ◌==◌, Option, Some, None, List, [], ◌∷◌, length, slice_get, Contains}
use Rattle.values.specs.declared.plan.PlanNode.{PlanNode}
use Rattle.values.specs.Plan.{rows_in}
use Rattle.values.specs.PlanValues.{is_derived}
use Rattle.sources.specs.declared.body.Read.{Read}
use Rattle.sources.specs.declared.opening.Opened.{Opened}
use Rattle.sources.specs.Bodies.{rows_read}
use Rattle.still_readers.specs.declared.readers.Reader.{Reader}
use Rattle.still_readers.specs.declared.readers.Span.{Span}
use Rattle.still_readers.specs.declared.readers.Readers.{Readers}

-- the row is one of these
unfoldable pub stands_in : ℕ → List ℕ → Bool
stands_in r [] = false
stands_in r (x ∷ xs) = if x == r then true else stands_in r xs

abbrev pub recorded_by : Option Opened → ℕ → Bool
recorded_by None row = false
recorded_by (Some y) row = stands_in row (rows_read y.body.reads.list)

-- the body of this node records the row
abbrev pub has_recorded : List Opened → ℕ → ℕ → Bool
has_recorded rows node row = recorded_by (slice_get rows node) row

-- at a place below `bound` the node stands as a reader that has read the row
pub record HasReadBelow (readers : Readers) (bound node row : ℕ) : Type 0 where
  pub place : ℕ
  pub reader : Reader
  pub at : slice_get readers.list place ≡ Some reader
  pub below : place < bound
  pub of_node : reader.node ≡ node
  pub of_row : reader.row ≡ row
  pub enrolled : reader.enrolled ≡ true

-- the node has read the row in this phase, or had recorded it when the phase began
abbrev pub HasRead : Readers → ℕ → ℕ → Type 0
HasRead readers node row = HasReadBelow readers (length readers.list) node row

-- the last place below `bound` of a reader of this row
abbrev pub IsLast : List Reader → ℕ → ℕ → Option ℕ → Type 0
IsLast list row bound None = (k : ℕ) (u : Reader) → k < bound → slice_get list k ≡ Some u → u.row ≢ row
IsLast list row bound (Some p) = (p < bound) × ((u : Reader) → slice_get list p ≡ Some u → u.row ≡ row)
    × ((k : ℕ) (u : Reader) → p < k → k < bound → slice_get list k ≡ Some u → u.row ≢ row)

-- how far the places up to this one reach
abbrev pub bound_of : Option ℕ → ℕ
bound_of None = 0
bound_of (Some p) = p + 1

-- the readers of each row are linked, the last one first
pub record IsChained (list : List Reader) (last : List (Option ℕ)) : Type 0 where
  pub last_of : (row : ℕ) (o : Option ℕ) → slice_get last row ≡ Some o → IsLast list row (length list) o
  pub before : (k : ℕ) (u : Reader) → slice_get list k ≡ Some u → IsLast list u.row k u.before

-- a reader at this place stands for the row
pub record StandsFor (list : List Reader) (from to row : ℕ) : Type 0 where
  pub place : ℕ
  pub reader : Reader
  pub at : slice_get list place ≡ Some reader
  pub from_on : from ≤ place
  pub below : place < to
  pub of_row : reader.row ≡ row

-- what holds of the readers of one node
pub record IsOwn (list : List Reader) (nodes : List PlanNode) (node : ℕ) (s : Span) : Type 0 where
  pub within : s.to ≤ length list
  pub own : (k : ℕ) (u : Reader) → s.from ≤ k → k < s.to → slice_get list k ≡ Some u → u.node ≡ node
  pub named : (n : PlanNode) → slice_get nodes node ≡ Some n → is_derived n.kind ≡ true → (row : ℕ) → Contains (rows_in n.expr) row → row < length nodes → StandsFor list s.from s.to row

-- a reader is a derived node whose expression names the row
pub record IsReader (nodes : List PlanNode) (u : Reader) : Type 0 where
  pub within : u.node < length nodes
  pub row_within : u.row < length nodes
  pub derived : (n : PlanNode) → slice_get nodes u.node ≡ Some n → is_derived n.kind ≡ true
  pub names : (n : PlanNode) → slice_get nodes u.node ≡ Some n → Contains (rows_in n.expr) u.row

-- the readers of a plan: each derived node stands for each row that its expression names, and nothing else does
pub record IsReadersOf (nodes : List PlanNode) (readers : Readers) : Type 0 where
  pub rows : length readers.last ≡ length nodes
  pub spans : length readers.spans ≡ length nodes
  pub chained : IsChained readers.list readers.last
  pub spanned : (node : ℕ) (s : Span) → slice_get readers.spans node ≡ Some s → IsOwn readers.list nodes node s
  pub each : (k : ℕ) (u : Reader) → slice_get readers.list k ≡ Some u → IsReader nodes u

-- each derived node that ran has read what its body records
pub record IsEnrolled (nodes : List PlanNode) (rows : List Opened) (readers : Readers) : Type 0 where
  pub each : (i : ℕ) (node : PlanNode) (row : Opened) → slice_get nodes i ≡ Some node → slice_get rows i ≡ Some row → is_derived node.kind ≡ true → row.body.cause ≢ None → (k : ℕ) (x : Read) → slice_get row.body.reads.list k ≡ Some x → HasRead readers i x.row

-- the same readers, but for who has read what
pub record IsReflagged (old new : Readers) : Type 0 where
  pub last : new.last ≡ old.last
  pub spans : new.spans ≡ old.spans
  pub long : length new.list ≡ length old.list
  pub each : (k : ℕ) (u v : Reader) → slice_get old.list k ≡ Some u → slice_get new.list k ≡ Some v → v ≡ record u { enrolled = v.enrolled }

-- the node was enrolled at the row: who had read stays, and what came new is this
pub record IsEnrolledAt (node row : ℕ) (old new : Readers) : Type 0 where
  pub same : IsReflagged old new
  pub stays : (n r : ℕ) → HasRead old n r → HasRead new n r
  pub alone : (k : ℕ) (u v : Reader) → slice_get old.list k ≡ Some u → slice_get new.list k ≡ Some v → u.row ≢ row → v ≡ u
  pub enrolled : (nodes : List PlanNode) → IsReadersOf nodes old → (n : PlanNode) → slice_get nodes node ≡ Some n → is_derived n.kind ≡ true → Contains (rows_in n.expr) row → row < length nodes → HasRead new node row

-- the place is one of the node's, and of a reader of the row
pub record IsPlaceIn (readers : Readers) (node row place : ℕ) : Type 0 where
  pub span : Span
  pub is_span : slice_get readers.spans node ≡ Some span
  pub from_on : span.from ≤ place
  pub below : place < span.to
  pub within : place < length readers.list
  pub of_row : (u : Reader) → slice_get readers.list place ≡ Some u → u.row ≡ row

-- one of the node's readers
pub record IsOwnReader (readers : Readers) (node : ℕ) (reader : Reader) : Type 0 where
  pub span : Span
  pub is_span : slice_get readers.spans node ≡ Some span
  pub place : ℕ
  pub from_on : span.from ≤ place
  pub below : place < span.to
  pub at : slice_get readers.list place ≡ Some reader

-- one of the node's readers is of the row, and has read it
pub record IsReadIn (readers : Readers) (node row : ℕ) : Type 0 where
  pub reader : Reader
  pub own : IsOwnReader readers node reader
  pub of_row : reader.row ≡ row
  pub enrolled : reader.enrolled ≡ true

pub record IsNoneIn (readers : Readers) (node row : ℕ) : Type 0 where
  pub none : (s : Span) → slice_get readers.spans node ≡ Some s → (k : ℕ) (u : Reader) → s.from ≤ k → k < s.to → slice_get readers.list k ≡ Some u → u.row ≢ row

-- below a place the flags say which rows the bodies record
pub record IsExact (rows : List Opened) (bound : ℕ) (readers : Readers) : Type 0 where
  pub each : (k : ℕ) (u : Reader) → k < bound → slice_get readers.list k ≡ Some u → u.enrolled ≡ has_recorded rows u.node u.row
