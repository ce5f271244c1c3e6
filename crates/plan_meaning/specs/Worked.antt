-- Components, states and nodes for worked rows. Above each component is its text.
use Rattle.std.specs.Prelude.{ℕ, List, [], ◌∷◌, Some, codes, true}
use Rattle.values.specs.declared.code.Code.TheVariants.{Empty, Word}
use Rattle.values.specs.declared.expr.Expr.{Expr}
use Rattle.values.specs.declared.expr.Expr.TheVariants.{Lit, Read}
use Rattle.values.specs.declared.plan.Kind.{Kind}
use Rattle.values.specs.declared.plan.Kind.TheVariants as kind
use Rattle.values.specs.declared.plan.PlanNode.{PlanNode}
use Rattle.values.specs.declared.plan.PlanOwner.{PlanOwner}
use Rattle.component_items.specs.declared.component.Attr.TheVariants as attr
use Rattle.component_items.specs.declared.component.Component.{Component}
use Rattle.component_items.specs.declared.component.Item.TheVariants as item
use Rattle.plain_evaluation.specs.Held.{Held, nothing, stored}
use Rattle.plain_evaluation.specs.Rows.{number, store_row, rows_of}

abbrev pub source : Kind → ℕ → PlanNode
source kind owner = record { kind = kind; expr = Lit Empty; owner = owner }

abbrev pub memo : Expr → ℕ → PlanNode
memo expr owner = record { kind = kind.Memo; expr = expr; owner = owner }

abbrev pub effect : Expr → ℕ → PlanNode
effect expr owner = record { kind = kind.Effect; expr = expr; owner = owner }

abbrev pub owner_in : ℕ → List ℕ → PlanOwner
owner_in parent cleanups = record { parent = Some parent; cleanups = cleanups }

-- component 1
-- signal x = 1
-- effect e = x
-- signal y = 2
-- <p lang={x} title={y}><i dir={x}></i>{y}</p>
abbrev pub attributes : Component
attributes = record {
  texts = [] ∷ codes "x" ∷ codes "y" ∷ codes "e" ∷ codes "p" ∷ codes "lang" ∷ codes "title" ∷ codes "i" ∷ codes "dir" ∷ [];
  items = item.Signal 0 1 (number 1) ∷ item.Effect 1 3 (Read 0) ∷ item.Signal 2 2 (number 2) ∷ item.Element 4 true (attr.Shown 5 3 (Read 0) ∷ attr.Shown 6 4 (Read 2) ∷ []) (item.Element 7 true (attr.Shown 8 5 (Read 0) ∷ []) [] ∷ item.Shown 6 (Read 2) ∷ []) ∷ [];
}

-- component 1
-- area a { cleanup "x" area b { cleanup "y" } cleanup "z" }
-- <p>area c { }</p>
abbrev pub areas : Component
areas = record {
  texts = [] ∷ codes "a" ∷ codes "x" ∷ codes "b" ∷ codes "y" ∷ codes "z" ∷ codes "p" ∷ codes "c" ∷ [];
  items = item.Area 0 1 1 (item.Cleanup 2 ∷ item.Area 1 3 2 (item.Cleanup 4 ∷ []) ∷ item.Cleanup 5 ∷ []) ∷ item.Element 6 true [] (item.Area 2 7 3 [] ∷ []) ∷ [];
}

-- the titles when the row 3 was removed
abbrev pub titles_fewer : Held
titles_fewer = record { holdings = stored (rows_of 4 1 (store_row (number 2) (Word 6 ∷ []) ∷ [])) ∷ nothing ∷ nothing ∷ nothing ∷ nothing ∷ []; live = true ∷ [] }
