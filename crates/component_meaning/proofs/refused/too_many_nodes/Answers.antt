use Rattle.std.proofs.Common.{◌≡◌, ◌<◌, List, [], ◌∷◌, Some, codes, pos, refl, arith}
use Rattle.values.specs.declared.code.Code.TheVariants.{Number}
use Rattle.values.specs.declared.expr.Expr.TheVariants.{Lit, Read}
use Rattle.component_items.specs.declared.component.Component.{Component}
use Rattle.component_items.specs.declared.component.Item.{Item}
use Rattle.component_items.specs.declared.component.Item.TheVariants as item
use Rattle.component_items.specs.Counts.{item_maximum, item_nodes, maximum_in, nodes_of}
use Rattle.component_items.proofs.FoldLemmas.{fold-Signal, fold-Store, fold-Each, fold-Shown, at-Store, at-Each, at-Shown}
use Rattle.component_meaning.specs.Computed.{read_of}
use Rattle.component_meaning.proofs.Decided.{large_row}
use Rattle.component_meaning.proofs.refused.too_many_nodes.Goals as goal

abbrev values_items : List Item
values_items = item.Store 0 1 4096 (2 ∷ []) (Number (pos 0) ∷ []) ∷ item.Signal 3 3 (Number (pos 1)) ∷ []

abbrev values_component : Component
values_component = record { texts = [] ∷ codes "s" ∷ codes "t" ∷ codes "a" ∷ []; items = values_items }

values_read : read_of (codes "component 1\nstore s max 4096 { t = 0 }\nsignal a = 1") ≡ Some values_component
values_read = refl

values_count : nodes_of values_items ≡ 4097
unfolding item_maximum item_nodes
values_count = simp (fold-Signal, fold-Store)

values_many : 4096 < nodes_of values_items
values_many = let count = values_count in omega arith

pub returns-clause-values : goal.returns-clause-values
returns-clause-values c = large_row values_read values_many

abbrev rows_items : List Item
rows_items = item.Store 0 1 2049 [] [] ∷ item.Each 2 0 (item.Shown 3 (Read 1) ∷ item.Shown 4 (Lit (Number (pos 1))) ∷ []) ∷ []

abbrev rows_component : Component
rows_component = record { texts = [] ∷ codes "s" ∷ []; items = rows_items }

rows_read : read_of (codes "component 1\nstore s max 2049 {} each s { {row.key} {1} }") ≡ Some rows_component
rows_read = refl

rows_most : maximum_in rows_items 0 ≡ 2049
unfolding item_maximum
rows_most = simp (at-Store, at-Each, at-Shown)

rows_count : nodes_of rows_items ≡ 4098
unfolding item_maximum item_nodes
rows_count = simp (fold-Store, fold-Each, fold-Shown, rows_most)

rows_many : 4096 < nodes_of rows_items
rows_many = let count = rows_count in omega arith

pub returns-clause-rows : goal.returns-clause-rows
returns-clause-rows c = large_row rows_read rows_many
