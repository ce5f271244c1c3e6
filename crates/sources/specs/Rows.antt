-- What holds of the rows of a plan between any two steps of the work of one caller, and between phases.
use Rattle.std.specs.Prelude.{◌≡◌, ◌≢◌, ℕ, zero, suc, ◌<◌, ◌≤◌, true, false, List, [], ◌∷◌, Contains, slice_get, length, Some, None}
use Rattle.values.specs.declared.code.Code.{Code}
use Rattle.values.specs.declared.plan.Plan.{Plan}
use Rattle.values.specs.declared.plan.PlanNode.{PlanNode}
use Rattle.values.specs.Packing.{unpacked, IsPacked}
use Rattle.values.specs.Plan.{names_of}
use Rattle.values.specs.PlanValues.{is_derived}
use Rattle.values.specs.Reserved.{room_of}
use Rattle.sources.specs.declared.body.Read.{Read}
use Rattle.sources.specs.declared.colour.Colour.TheVariants.{Dirty}
use Rattle.sources.specs.declared.opening.Opened.{Opened}
use Rattle.sources.specs.declared.opening.Opening.{Opening}
use Rattle.sources.specs.Bodies.{IsRight}
use Rattle.sources.specs.Colours.{is_clean}

-- the packed value of a row, and that of nothing past the end
unfoldable pub code_in : List Opened → ℕ → ℕ
code_in [] i = 0
code_in (row ∷ rows) zero = row.code
code_in (row ∷ rows) (suc i) = code_in rows i

-- the value of a row
abbrev pub value_in : List Opened → ℕ → Code
value_in rows i = unpacked (code_in rows i)

-- a recorded read is of a row before the node, at a version that it had; at its present version the row has the recorded value
pub record IsRecorded (rows : List Opened) (node : ℕ) (x : Read) : Type 0 where
  pub below : x.row < node
  pub is_packed : IsPacked x.code
  pub older : (y : Opened) → slice_get rows x.row ≡ Some y → x.version ≤ y.version
  pub same : (y : Opened) → slice_get rows x.row ≡ Some y → x.version ≡ y.version → x.code ≡ y.code

-- the read shows the row as it is, and the row is clean
pub record IsPresent (rows : List Opened) (x : Read) : Type 0 where
  pub version : (y : Opened) → slice_get rows x.row ≡ Some y → x.version ≡ y.version
  pub clean : (y : Opened) → slice_get rows x.row ≡ Some y → is_clean y.colour ≡ true

-- a derived row that never ran is dirty; one that ran has a right body; a clean one reads its sources as they are, and they are clean
pub record IsDerivedGood (rows : List Opened) (i : ℕ) (node : PlanNode) (row : Opened) : Type 0 where
  pub fresh : row.body.cause ≡ None → row.colour ≡ Dirty
  pub right : row.body.cause ≢ None → IsRight node.expr row.body.reads.list row.code
  pub known : (k : ℕ) (x : Read) → slice_get row.body.reads.list k ≡ Some x → IsRecorded rows i x
  pub clean : is_clean row.colour ≡ true → (k : ℕ) (x : Read) → slice_get row.body.reads.list k ≡ Some x → IsPresent rows x

-- a row that is not derived is clean
pub record IsRowGood (rows : List Opened) (i : ℕ) (node : PlanNode) (row : Opened) : Type 0 where
  pub is_packed : IsPacked row.code
  pub source : is_derived node.kind ≡ false → is_clean row.colour ≡ true
  pub derived : is_derived node.kind ≡ true → IsDerivedGood rows i node row

-- the rows' invariant: one row for each node, each good
pub record IsGood (nodes : List PlanNode) (rows : List Opened) : Type 0 where
  pub paired : length rows ≡ length nodes
  pub each : (i : ℕ) (node : PlanNode) (row : Opened) → slice_get nodes i ≡ Some node → slice_get rows i ≡ Some row → IsRowGood rows i node row

-- no version, of a row or recorded, is above the count of ticks
pub record IsDated (rows : List Opened) (now : ℕ) : Type 0 where
  pub held : (i : ℕ) (row : Opened) → slice_get rows i ≡ Some row → row.version ≤ now
  pub recorded : (i : ℕ) (row : Opened) → slice_get rows i ≡ Some row → (k : ℕ) (x : Read) → slice_get row.body.reads.list k ≡ Some x → x.version ≤ now

-- each derived row's body has room for all rows that its expression names
pub record IsRoomy (nodes : List PlanNode) (rows : List Opened) : Type 0 where
  pub each : (i : ℕ) (node : PlanNode) (row : Opened) → slice_get nodes i ≡ Some node → slice_get rows i ≡ Some row → is_derived node.kind ≡ true → length (names_of node.expr) ≤ room_of row.body.reads

-- lawful: the rows are good and dated, and each disposed owner is one of the plan
pub record IsLawfulOpening (plan : Plan) (opening : Opening) : Type 0 where
  pub good : IsGood plan.nodes opening.rows
  pub dated : IsDated opening.rows opening.base
  pub dead : (owner : ℕ) → Contains opening.dead owner → owner < length plan.owners
