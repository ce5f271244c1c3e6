-- What a value rests on.
use Rattle.std.specs.Prelude.{◌≡◌, ◌⊎◌, ℕ, ◌≤◌, true, Option, Some, unwrap_or, map, List}
use Rattle.values.specs.declared.code.Code.{Code}
use Rattle.values.specs.declared.code.Code.TheVariants.{Empty}
use Rattle.values.specs.declared.expr.Expr.{Expr}
use Rattle.values.specs.declared.plan.Kind.TheVariants as kind
use Rattle.values.specs.declared.plan.PlanNode.{PlanNode}
use Rattle.values.specs.declared.plan.Noted.{Noted}
use Rattle.values.specs.declared.plan.Fact.TheVariants as fact
use Rattle.values.specs.Attempt.{known_value}
use Rattle.values.specs.Evaluation.{value_of, reads_of}
use Rattle.values.specs.PlanValues.{is_derived}
use Rattle.run_meaning.specs.Words.{In, Below}
use Rattle.run_meaning.specs.Opened.{Opened, node_at, IsKind, opening_code}
use Rattle.run_meaning.specs.Entries.{fact_at}

-- a row that is written: a signal or a field
abbrev pub IsWritten : Opened → ℕ → Type 0
IsWritten o n = IsKind o n kind.Signal ⊎ IsKind o n kind.Field

-- a row that is computed: a memo or an effect
abbrev pub IsComputed : Opened → ℕ → PlanNode → Type 0
IsComputed o n node = (node_at o n ≡ Some node) × (is_derived node.kind ≡ true)

abbrev pub value_among : List (ℕ × Code) → ℕ → Code
value_among reads n = unwrap_or (known_value reads n) Empty

-- evaluation of the expression reads exactly these rows, in this order, each with this value, and gives the code
abbrev pub Evaluates : Expr → List (ℕ × Code) → Code → Type 0
Evaluates e reads v = (reads_of e (value_among reads) ≡ map (λ r. r.0) reads) × (value_of e (value_among reads) ≡ v)

-- The value of a row is explained by opening values and by writes of the journal. A write that it rests on has no lower
-- number than `low` says of its row, and one below `high`; an opening value of a row counts as number 0.
pub data Explained (o : Opened) (es : List Noted) (low : ℕ → ℕ) (high : Option ℕ) : ℕ → Code → Type 0 where
  opening : {n : ℕ} {v : Code} → IsWritten o n → low n ≡ 0 → opening_code o n ≡ v → Explained o es low high n v
  written : {n : ℕ} {v : Code} (k : ℕ) → IsWritten o n → fact_at k es ≡ Some (fact.Write n v) → low n ≤ k → Below high k → Explained o es low high n v
  -- loads change between phases alone
  loaded : {n : ℕ} {v : Code} → IsKind o n kind.Load → opening_code o n ≡ v → Explained o es low high n v
  -- each value that it read is explained within the same bounds; those of different rows may be of different moments
  run : {n : ℕ} {v : Code} (node : PlanNode) (reads : List (ℕ × Code)) → IsComputed o n node → Evaluates node.expr reads v
      → ((source : ℕ) (code : Code) → In (source, code) reads → Explained o es low high source code) → Explained o es low high n v
