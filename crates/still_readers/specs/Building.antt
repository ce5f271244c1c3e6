-- Readers of the first nodes of a plan.
use Rattle.std.specs.Prelude.{◌≡◌, ℕ, ◌+◌, ◌<◌, ◌≤◌, true, false, Option, List, [], ◌∷◌, ◌++◌, length, slice_get, slice_set, Some, Contains}
use Rattle.values.specs.declared.expr.Expr.{Expr}
use Rattle.values.specs.declared.expr.Expr.TheOpen as level
use Rattle.values.specs.declared.expr.Expr.TheOpen.{Expr-F}
use Rattle.values.specs.declared.expr.Expr.TheFolds.{fold-Expr}
use Rattle.values.specs.declared.plan.PlanNode.{PlanNode}
use Rattle.values.specs.Plan.{rows_in}
use Rattle.values.specs.PlanValues.{is_derived}
use Rattle.still_readers.specs.declared.readers.Reader.{Reader}
use Rattle.still_readers.specs.declared.readers.Span.{Span}
use Rattle.still_readers.specs.declared.readers.Readers.{Readers}
use Rattle.still_readers.specs.Readers.{IsChained, IsOwn, IsReader, StandsFor}

-- nobody has read anything
pub record IsUnread (list : List Reader) : Type 0 where
  pub each : (k : ℕ) (u : Reader) → slice_get list k ≡ Some u → u.enrolled ≡ false

-- how large an expression is
abbrev pub weight_step : Expr-F ℕ → ℕ
weight_step (level.Lit code) = 1
weight_step (level.Read row) = 1
weight_step (level.Binary op a b) = 1 + a + b
weight_step (level.If c a b) = 1 + c + a + b

unfoldable pub weight : Expr → ℕ
weight = fold-Expr ℕ weight_step

-- the readers grew at their end by readers of this node, of rows that are named
pub record IsGrown (node : ℕ) (Named : ℕ → Type 0) (old new : Readers) : Type 0 where
  pub spans : new.spans ≡ old.spans
  pub rows : length new.last ≡ length old.last
  pub chained : IsChained old.list old.last → IsChained new.list new.last
  pub longer : length old.list ≤ length new.list
  pub front : (k : ℕ) (u : Reader) → slice_get old.list k ≡ Some u → slice_get new.list k ≡ Some u
  pub more : (k : ℕ) (u : Reader) → length old.list ≤ k → slice_get new.list k ≡ Some u → (u.node ≡ node) × Named u.row × (u.row < length old.last) × (u.enrolled ≡ false)

-- from a place on the readers stand for all that is named
pub record HasAll (Named : ℕ → Type 0) (from : ℕ) (readers : Readers) : Type 0 where
  pub each : (row : ℕ) → Named row → row < length readers.last → StandsFor readers.list from (length readers.list) row

-- the expression names the row
abbrev pub NamedIn : Expr → ℕ → Type 0
NamedIn e row = Contains (rows_in e) row

-- the node is derived, and its expression names the row
abbrev pub NamedBy : PlanNode → ℕ → Type 0
NamedBy node row = (is_derived node.kind ≡ true) × NamedIn node.expr row

abbrev pub IsOne : ℕ → ℕ → Type 0
IsOne row r = r ≡ row

-- one reader more, linked
abbrev pub IsLinked : ℕ → ℕ → Option ℕ → Readers → Readers → Type 0
IsLinked node row before old new = new ≡ record old {
  list = old.list ++ record { node = node; row = row; before = before; enrolled = false } ∷ [];
  last = slice_set old.last row (Some (length old.list));
}

-- the readers of the first `count` nodes
pub record IsBegun (nodes : List PlanNode) (count : ℕ) (readers : Readers) : Type 0 where
  pub rows : length readers.last ≡ length nodes
  pub counted : length readers.spans ≡ count
  pub chained : IsChained readers.list readers.last
  pub spanned : (node : ℕ) (s : Span) → slice_get readers.spans node ≡ Some s → IsOwn readers.list nodes node s
  pub each : (k : ℕ) (u : Reader) → slice_get readers.list k ≡ Some u → IsReader nodes u
  pub unread : IsUnread readers.list
