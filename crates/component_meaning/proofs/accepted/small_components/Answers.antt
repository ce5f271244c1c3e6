use Rattle.std.proofs.Common.{◌≡◌, ◌≤◌, List, [], ◌∷◌, true, false, codes, pos, negsuc, Some, refl, arith}
use Rattle.values.specs.declared.code.Code.TheVariants.{Empty, Number, Word}
use Rattle.values.specs.declared.code.Op.TheVariants as op
use Rattle.values.specs.declared.expr.Expr.TheVariants.{Lit, Read, Binary, If}
use Rattle.component_items.specs.declared.component.Attr.TheVariants as attr
use Rattle.component_items.specs.declared.component.Component.{Component}
use Rattle.component_items.specs.declared.component.Item.{Item}
use Rattle.component_items.specs.declared.component.Item.TheVariants as item
use Rattle.component_items.specs.Counts.{item_maximum, item_nodes, maximum_in, nodes_of}
use Rattle.component_items.proofs.FoldLemmas.{at-Each, at-If, at-Memo, at-Shown, at-Store, fold-Area, fold-Cleanup, fold-Each, fold-Effect, fold-Element, fold-If, fold-Load, fold-Memo, fold-Resource, fold-Shown, fold-Signal, fold-Store}
use Rattle.component_meaning.specs.Computed.{read_of}
use Rattle.component_meaning.proofs.Decided.{component_row}
use Rattle.component_meaning.proofs.accepted.small_components.Goals as goal

abbrev head_items : List Item
head_items = []

abbrev head_component : Component
head_component = record { texts = [] ∷ []; items = head_items }

head_read : read_of (codes "component 1") ≡ Some head_component
head_read = refl

head_count : nodes_of head_items ≡ 0
unfolding item_maximum item_nodes
head_count = refl

head_nodes : nodes_of head_items ≤ 4096
head_nodes = let count = head_count in omega arith

pub returns-clause-head : goal.returns-clause-head
returns-clause-head c = component_row head_read head_nodes

abbrev memo_items : List Item
memo_items = item.Signal 0 1 (Number (pos 2)) ∷ item.Memo 1 2 (Binary op.Mul (Read 0) (Lit (Number (pos 3)))) ∷ item.Element 3 true [] (item.Shown 2 (Read 1) ∷ []) ∷ []

abbrev memo_component : Component
memo_component = record { texts = [] ∷ codes "a" ∷ codes "b" ∷ codes "p" ∷ []; items = memo_items }

memo_read : read_of (codes "component 1\nsignal a = 2\nmemo b = a * 3\n<p>{b}</p>") ≡ Some memo_component
memo_read = refl

memo_count : nodes_of memo_items ≡ 3
unfolding item_maximum item_nodes
memo_count = simp (fold-Signal, fold-Memo, fold-Element, fold-Shown)

memo_nodes : nodes_of memo_items ≤ 4096
memo_nodes = let count = memo_count in omega arith

pub returns-clause-memo : goal.returns-clause-memo
returns-clause-memo c = component_row memo_read memo_nodes

abbrev groups_items : List Item
groups_items = item.Shown 0 (If (Binary op.Less (Lit (Number (pos 1))) (Binary op.Sub (Binary op.Sub (Lit (Number (pos 2))) (Lit (Number (pos 3)))) (Lit (Number (pos 4))))) (Lit Empty) (Binary op.Equal (Lit (Number (pos 5))) (Lit (Word 0)))) ∷ []

abbrev groups_component : Component
groups_component = record { texts = [] ∷ []; items = groups_items }

groups_read : read_of (codes "component 1 {if 1 lt 2 - 3 - 4 then empty else (5 == \"\")}") ≡ Some groups_component
groups_read = refl

groups_count : nodes_of groups_items ≡ 1
unfolding item_maximum item_nodes
groups_count = simp fold-Shown

groups_nodes : nodes_of groups_items ≤ 4096
groups_nodes = let count = groups_count in omega arith

pub returns-clause-groups : goal.returns-clause-groups
returns-clause-groups c = component_row groups_read groups_nodes

abbrev products_items : List Item
products_items = item.Shown 0 (Binary op.Add (Lit (Number (pos 1))) (Binary op.Rem (Binary op.Div (Binary op.Mul (Lit (Number (pos 2))) (Lit (Number (pos 3)))) (Lit (Number (pos 4)))) (Lit (Number (negsuc 4))))) ∷ []

abbrev products_component : Component
products_component = record { texts = [] ∷ []; items = products_items }

products_read : read_of (codes "component 1 {1 + 2 * 3 / 4 % -5}") ≡ Some products_component
products_read = refl

products_count : nodes_of products_items ≡ 1
unfolding item_maximum item_nodes
products_count = simp fold-Shown

products_nodes : nodes_of products_items ≤ 4096
products_nodes = let count = products_count in omega arith

pub returns-clause-products : goal.returns-clause-products
returns-clause-products c = component_row products_read products_nodes

abbrev attributes_items : List Item
attributes_items = item.Element 1 true (attr.Bare 2 ∷ attr.Fixed 3 0 ∷ attr.Shown 4 0 (Lit (Word 5)) ∷ []) [] ∷ item.Element 6 false [] [] ∷ item.Element 7 false [] [] ∷ []

abbrev attributes_component : Component
attributes_component = record { texts = [] ∷ codes "a-1" ∷ codes "max" ∷ codes "disabled" ∷ codes "title" ∷ codes "x" ∷ codes "br" ∷ codes "area" ∷ []; items = attributes_items }

attributes_read : read_of (codes "component 1 <a-1 max disabled=\"\" title={\"x\"}></a-1><br/><area>") ≡ Some attributes_component
attributes_read = refl

attributes_count : nodes_of attributes_items ≡ 1
unfolding item_maximum item_nodes
attributes_count = simp fold-Element

attributes_nodes : nodes_of attributes_items ≤ 4096
attributes_nodes = let count = attributes_count in omega arith

pub returns-clause-attributes : goal.returns-clause-attributes
returns-clause-attributes c = component_row attributes_read attributes_nodes

abbrev load_items : List Item
load_items = item.Resource 0 1 2 (Number (pos 1) ∷ Word 3 ∷ []) (Word 2 ∷ Number (negsuc 6) ∷ []) ∷ item.Load 1 4 0 (Lit (Number (pos 0))) ∷ item.Effect 3 5 (Read 1) ∷ []

abbrev load_component : Component
load_component = record { texts = [] ∷ codes "r" ∷ codes "A" ∷ codes "1" ∷ codes "l" ∷ codes "e" ∷ []; items = load_items }

load_read : read_of (codes "component 1 resource r after 2 { 1 => \"A\" \"1\" => -7 } load l = r(0) effect e = l") ≡ Some load_component
load_read = refl

load_count : nodes_of load_items ≡ 3
unfolding item_maximum item_nodes
load_count = simp (fold-Resource, fold-Load, fold-Effect)

load_nodes : nodes_of load_items ≤ 4096
load_nodes = let count = load_count in omega arith

pub returns-clause-load : goal.returns-clause-load
returns-clause-load c = component_row load_read load_nodes

abbrev rows_items : List Item
rows_items = item.Store 0 1 2 (2 ∷ 3 ∷ []) (Number (pos 0) ∷ Empty ∷ []) ∷ item.Each 4 0 (item.If 5 (Read 3) (item.Shown 6 (Read 1) ∷ []) ∷ item.Memo 7 4 (Read 2) ∷ []) ∷ []

abbrev rows_component : Component
rows_component = record { texts = [] ∷ codes "s" ∷ codes "t" ∷ codes "u" ∷ codes "m" ∷ []; items = rows_items }

rows_read : read_of (codes "component 1 store s max 2 { t = 0 u = empty } each s { if row.u { {row.key} } memo m = row.t }") ≡ Some rows_component
rows_read = refl

rows_most : maximum_in rows_items 0 ≡ 2
unfolding item_maximum
rows_most = simp (at-Store, at-Each, at-If, at-Shown, at-Memo)

rows_count : nodes_of rows_items ≡ 10
unfolding item_maximum item_nodes
rows_count = simp (fold-Store, fold-Each, fold-If, fold-Shown, fold-Memo, rows_most)

rows_nodes : nodes_of rows_items ≤ 4096
rows_nodes = let count = rows_count in omega arith

pub returns-clause-rows : goal.returns-clause-rows
returns-clause-rows c = component_row rows_read rows_nodes

abbrev areas_items : List Item
areas_items = item.Area 0 1 1 (item.Cleanup 2 ∷ item.Area 1 3 2 (item.Signal 2 4 (Number (pos 1)) ∷ []) ∷ []) ∷ item.Element 5 true [] (item.Area 3 6 3 [] ∷ []) ∷ item.Area 4 7 4 (item.Signal 5 4 (Number (pos 2)) ∷ item.Shown 6 (Read 5) ∷ []) ∷ []

abbrev areas_component : Component
areas_component = record { texts = [] ∷ codes "a" ∷ codes "bye" ∷ codes "b" ∷ codes "x" ∷ codes "p" ∷ codes "c" ∷ codes "d" ∷ []; items = areas_items }

areas_read : read_of (codes "component 1 area a { cleanup \"bye\" area b { signal x = 1 } } <p>area c {}</p> area d { signal x = 2 {x} }") ≡ Some areas_component
areas_read = refl

areas_count : nodes_of areas_items ≡ 3
unfolding item_maximum item_nodes
areas_count = simp (fold-Area, fold-Cleanup, fold-Signal, fold-Element, fold-Shown)

areas_nodes : nodes_of areas_items ≤ 4096
areas_nodes = let count = areas_count in omega arith

pub returns-clause-areas : goal.returns-clause-areas
returns-clause-areas c = component_row areas_read areas_nodes
