use Rattle.std.proofs.Common.{◌≡◌, ◌≤◌, List, [], ◌∷◌, true, codes, pos, negsuc, Some, refl, arith}
use Rattle.values.specs.declared.code.Code.TheVariants.{Number}
use Rattle.values.specs.declared.code.Op.TheVariants as op
use Rattle.values.specs.declared.expr.Expr.TheVariants.{Lit, Binary}
use Rattle.component_items.specs.declared.component.Component.{Component}
use Rattle.component_items.specs.declared.component.Item.{Item}
use Rattle.component_items.specs.declared.component.Item.TheVariants as item
use Rattle.component_items.specs.Counts.{item_maximum, item_nodes, nodes_of}
use Rattle.component_items.proofs.FoldLemmas.{fold-Element, fold-Memo, fold-Signal, fold-Store}
use Rattle.component_meaning.specs.Computed.{read_of}
use Rattle.component_meaning.proofs.Decided.{component_row}
use Rattle.component_meaning.proofs.accepted.limits_reached.Goals as goal

abbrev least_number_items : List Item
least_number_items = item.Signal 0 1 (Number (negsuc 2147483647)) ∷ []

abbrev least_number_component : Component
least_number_component = record { texts = [] ∷ codes "a" ∷ []; items = least_number_items }

least_number_read : read_of (codes "component 1\nsignal a = -2147483648") ≡ Some least_number_component
least_number_read = refl

least_number_count : nodes_of least_number_items ≡ 1
unfolding item_maximum item_nodes
least_number_count = simp fold-Signal

least_number_nodes : nodes_of least_number_items ≤ 4096
least_number_nodes = let count = least_number_count in omega arith

pub returns-clause-least_number : goal.returns-clause-least_number
returns-clause-least_number c = component_row least_number_read least_number_nodes

abbrev greatest_number_items : List Item
greatest_number_items = item.Signal 0 1 (Number (pos 2147483647)) ∷ []

abbrev greatest_number_component : Component
greatest_number_component = record { texts = [] ∷ codes "a" ∷ []; items = greatest_number_items }

greatest_number_read : read_of (codes "component 1\nsignal a = 2147483647") ≡ Some greatest_number_component
greatest_number_read = refl

greatest_number_count : nodes_of greatest_number_items ≡ 1
unfolding item_maximum item_nodes
greatest_number_count = simp fold-Signal

greatest_number_nodes : nodes_of greatest_number_items ≤ 4096
greatest_number_nodes = let count = greatest_number_count in omega arith

pub returns-clause-greatest_number : goal.returns-clause-greatest_number
returns-clause-greatest_number c = component_row greatest_number_read greatest_number_nodes

abbrev nodes_items : List Item
nodes_items = item.Store 0 1 4096 (2 ∷ []) (Number (pos 0) ∷ []) ∷ []

abbrev nodes_component : Component
nodes_component = record { texts = [] ∷ codes "s" ∷ codes "t" ∷ []; items = nodes_items }

nodes_read : read_of (codes "component 1\nstore s max 4096 { t = 0 }") ≡ Some nodes_component
nodes_read = refl

nodes_count : nodes_of nodes_items ≡ 4096
unfolding item_maximum item_nodes
nodes_count = simp fold-Store

nodes_nodes : nodes_of nodes_items ≤ 4096
nodes_nodes = let count = nodes_count in omega arith

pub returns-clause-nodes : goal.returns-clause-nodes
returns-clause-nodes c = component_row nodes_read nodes_nodes

abbrev open_elements_items : List Item
open_elements_items = item.Element 1 true [] (item.Element 1 true [] (item.Element 1 true [] (item.Element 1 true [] (item.Element 1 true [] (item.Element 1 true [] (item.Element 1 true [] (item.Element 1 true [] (item.Element 1 true [] (item.Element 1 true [] (item.Element 1 true [] (item.Element 1 true [] (item.Element 1 true [] (item.Element 1 true [] (item.Element 1 true [] (item.Element 1 true [] (item.Element 1 true [] (item.Element 1 true [] (item.Element 1 true [] (item.Element 1 true [] (item.Element 1 true [] (item.Element 1 true [] (item.Element 1 true [] (item.Element 1 true [] (item.Element 1 true [] (item.Element 1 true [] (item.Element 1 true [] (item.Element 1 true [] (item.Element 1 true [] (item.Element 1 true [] (item.Element 1 true [] (item.Element 1 true [] ([]) ∷ []) ∷ []) ∷ []) ∷ []) ∷ []) ∷ []) ∷ []) ∷ []) ∷ []) ∷ []) ∷ []) ∷ []) ∷ []) ∷ []) ∷ []) ∷ []) ∷ []) ∷ []) ∷ []) ∷ []) ∷ []) ∷ []) ∷ []) ∷ []) ∷ []) ∷ []) ∷ []) ∷ []) ∷ []) ∷ []) ∷ []) ∷ []

abbrev open_elements_component : Component
open_elements_component = record { texts = [] ∷ codes "p" ∷ []; items = open_elements_items }

open_elements_read : read_of (codes "component 1\n<p><p><p><p><p><p><p><p><p><p><p><p><p><p><p><p><p><p><p><p><p><p><p><p><p><p><p><p><p><p><p><p></p></p></p></p></p></p></p></p></p></p></p></p></p></p></p></p></p></p></p></p></p></p></p></p></p></p></p></p></p></p></p></p>") ≡ Some open_elements_component
open_elements_read = refl

open_elements_count : nodes_of open_elements_items ≡ 0
unfolding item_maximum item_nodes
open_elements_count = simp fold-Element

open_elements_nodes : nodes_of open_elements_items ≤ 4096
open_elements_nodes = let count = open_elements_count in omega arith

pub returns-clause-open_elements : goal.returns-clause-open_elements
returns-clause-open_elements c = component_row open_elements_read open_elements_nodes

abbrev tokens_of_an_expression_items : List Item
tokens_of_an_expression_items = item.Memo 0 1 (Binary op.Add (Binary op.Add (Binary op.Add (Binary op.Add (Binary op.Add (Binary op.Add (Binary op.Add (Binary op.Add (Binary op.Add (Binary op.Add (Binary op.Add (Binary op.Add (Binary op.Add (Binary op.Add (Binary op.Add (Binary op.Add (Binary op.Add (Binary op.Add (Binary op.Add (Binary op.Add (Binary op.Add (Binary op.Add (Binary op.Add (Binary op.Add (Binary op.Add (Binary op.Add (Binary op.Add (Binary op.Add (Binary op.Add (Binary op.Add (Binary op.Add (Binary op.Add (Binary op.Add (Binary op.Add (Binary op.Add (Binary op.Add (Binary op.Add (Binary op.Add (Binary op.Add (Binary op.Add (Binary op.Add (Binary op.Add (Binary op.Add (Binary op.Add (Binary op.Add (Binary op.Add (Binary op.Add (Binary op.Add (Binary op.Add (Binary op.Add (Binary op.Add (Binary op.Add (Binary op.Add (Binary op.Add (Binary op.Add (Binary op.Add (Binary op.Add (Binary op.Add (Binary op.Add (Binary op.Add (Binary op.Add (Binary op.Add (Binary op.Add (Binary op.Add (Binary op.Add (Binary op.Add (Binary op.Add (Binary op.Add (Binary op.Add (Binary op.Add (Binary op.Add (Binary op.Add (Binary op.Add (Binary op.Add (Binary op.Add (Binary op.Add (Binary op.Add (Binary op.Add (Binary op.Add (Binary op.Add (Binary op.Add (Binary op.Add (Binary op.Add (Binary op.Add (Binary op.Add (Binary op.Add (Binary op.Add (Binary op.Add (Binary op.Add (Binary op.Add (Binary op.Add (Binary op.Add (Binary op.Add (Binary op.Add (Binary op.Add (Binary op.Add (Binary op.Add (Binary op.Add (Binary op.Add (Binary op.Add (Binary op.Add (Binary op.Add (Binary op.Add (Binary op.Add (Binary op.Add (Binary op.Add (Binary op.Add (Binary op.Add (Binary op.Add (Binary op.Add (Binary op.Add (Binary op.Add (Binary op.Add (Binary op.Add (Binary op.Add (Binary op.Add (Binary op.Add (Binary op.Add (Binary op.Add (Binary op.Add (Binary op.Add (Binary op.Add (Binary op.Add (Binary op.Add (Binary op.Add (Binary op.Add (Binary op.Add (Lit (Number (negsuc 0))) (Lit (Number (pos 1)))) (Lit (Number (pos 1)))) (Lit (Number (pos 1)))) (Lit (Number (pos 1)))) (Lit (Number (pos 1)))) (Lit (Number (pos 1)))) (Lit (Number (pos 1)))) (Lit (Number (pos 1)))) (Lit (Number (pos 1)))) (Lit (Number (pos 1)))) (Lit (Number (pos 1)))) (Lit (Number (pos 1)))) (Lit (Number (pos 1)))) (Lit (Number (pos 1)))) (Lit (Number (pos 1)))) (Lit (Number (pos 1)))) (Lit (Number (pos 1)))) (Lit (Number (pos 1)))) (Lit (Number (pos 1)))) (Lit (Number (pos 1)))) (Lit (Number (pos 1)))) (Lit (Number (pos 1)))) (Lit (Number (pos 1)))) (Lit (Number (pos 1)))) (Lit (Number (pos 1)))) (Lit (Number (pos 1)))) (Lit (Number (pos 1)))) (Lit (Number (pos 1)))) (Lit (Number (pos 1)))) (Lit (Number (pos 1)))) (Lit (Number (pos 1)))) (Lit (Number (pos 1)))) (Lit (Number (pos 1)))) (Lit (Number (pos 1)))) (Lit (Number (pos 1)))) (Lit (Number (pos 1)))) (Lit (Number (pos 1)))) (Lit (Number (pos 1)))) (Lit (Number (pos 1)))) (Lit (Number (pos 1)))) (Lit (Number (pos 1)))) (Lit (Number (pos 1)))) (Lit (Number (pos 1)))) (Lit (Number (pos 1)))) (Lit (Number (pos 1)))) (Lit (Number (pos 1)))) (Lit (Number (pos 1)))) (Lit (Number (pos 1)))) (Lit (Number (pos 1)))) (Lit (Number (pos 1)))) (Lit (Number (pos 1)))) (Lit (Number (pos 1)))) (Lit (Number (pos 1)))) (Lit (Number (pos 1)))) (Lit (Number (pos 1)))) (Lit (Number (pos 1)))) (Lit (Number (pos 1)))) (Lit (Number (pos 1)))) (Lit (Number (pos 1)))) (Lit (Number (pos 1)))) (Lit (Number (pos 1)))) (Lit (Number (pos 1)))) (Lit (Number (pos 1)))) (Lit (Number (pos 1)))) (Lit (Number (pos 1)))) (Lit (Number (pos 1)))) (Lit (Number (pos 1)))) (Lit (Number (pos 1)))) (Lit (Number (pos 1)))) (Lit (Number (pos 1)))) (Lit (Number (pos 1)))) (Lit (Number (pos 1)))) (Lit (Number (pos 1)))) (Lit (Number (pos 1)))) (Lit (Number (pos 1)))) (Lit (Number (pos 1)))) (Lit (Number (pos 1)))) (Lit (Number (pos 1)))) (Lit (Number (pos 1)))) (Lit (Number (pos 1)))) (Lit (Number (pos 1)))) (Lit (Number (pos 1)))) (Lit (Number (pos 1)))) (Lit (Number (pos 1)))) (Lit (Number (pos 1)))) (Lit (Number (pos 1)))) (Lit (Number (pos 1)))) (Lit (Number (pos 1)))) (Lit (Number (pos 1)))) (Lit (Number (pos 1)))) (Lit (Number (pos 1)))) (Lit (Number (pos 1)))) (Lit (Number (pos 1)))) (Lit (Number (pos 1)))) (Lit (Number (pos 1)))) (Lit (Number (pos 1)))) (Lit (Number (pos 1)))) (Lit (Number (pos 1)))) (Lit (Number (pos 1)))) (Lit (Number (pos 1)))) (Lit (Number (pos 1)))) (Lit (Number (pos 1)))) (Lit (Number (pos 1)))) (Lit (Number (pos 1)))) (Lit (Number (pos 1)))) (Lit (Number (pos 1)))) (Lit (Number (pos 1)))) (Lit (Number (pos 1)))) (Lit (Number (pos 1)))) (Lit (Number (pos 1)))) (Lit (Number (pos 1)))) (Lit (Number (pos 1)))) (Lit (Number (pos 1)))) (Lit (Number (pos 1)))) (Lit (Number (pos 1)))) (Lit (Number (pos 1)))) (Lit (Number (pos 1)))) (Lit (Number (pos 1)))) (Lit (Number (pos 1)))) (Lit (Number (pos 1)))) (Lit (Number (pos 1)))) (Lit (Number (pos 1)))) (Lit (Number (pos 1)))) (Lit (Number (pos 1)))) (Lit (Number (pos 1)))) (Lit (Number (pos 1)))) (Lit (Number (pos 1)))) ∷ []

abbrev tokens_of_an_expression_component : Component
tokens_of_an_expression_component = record { texts = [] ∷ codes "m" ∷ []; items = tokens_of_an_expression_items }

tokens_of_an_expression_read : read_of (codes "component 1\nmemo m = -1+1+1+1+1+1+1+1+1+1+1+1+1+1+1+1+1+1+1+1+1+1+1+1+1+1+1+1+1+1+1+1+1+1+1+1+1+1+1+1+1+1+1+1+1+1+1+1+1+1+1+1+1+1+1+1+1+1+1+1+1+1+1+1+1+1+1+1+1+1+1+1+1+1+1+1+1+1+1+1+1+1+1+1+1+1+1+1+1+1+1+1+1+1+1+1+1+1+1+1+1+1+1+1+1+1+1+1+1+1+1+1+1+1+1+1+1+1+1+1+1+1+1+1+1+1+1+1") ≡ Some tokens_of_an_expression_component
tokens_of_an_expression_read = refl

tokens_of_an_expression_count : nodes_of tokens_of_an_expression_items ≡ 1
unfolding item_maximum item_nodes
tokens_of_an_expression_count = simp fold-Memo

tokens_of_an_expression_nodes : nodes_of tokens_of_an_expression_items ≤ 4096
tokens_of_an_expression_nodes = let count = tokens_of_an_expression_count in omega arith

pub returns-clause-tokens_of_an_expression : goal.returns-clause-tokens_of_an_expression
returns-clause-tokens_of_an_expression c = component_row tokens_of_an_expression_read tokens_of_an_expression_nodes
