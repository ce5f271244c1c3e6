use Rattle.std.proofs.Common.{◌≡◌, ◌≤◌, List, [], ◌∷◌, true, codes, pos, Some, refl, arith}
use Rattle.values.specs.declared.code.Code.TheVariants.{Number, Word}
use Rattle.values.specs.declared.code.Op.TheVariants as op
use Rattle.values.specs.declared.expr.Expr.TheVariants.{Lit, Read, Binary}
use Rattle.component_items.specs.declared.component.Attr.TheVariants as attr
use Rattle.component_items.specs.declared.component.Component.{Component}
use Rattle.component_items.specs.declared.component.Item.{Item}
use Rattle.component_items.specs.declared.component.Item.TheVariants as item
use Rattle.component_items.specs.Counts.{item_maximum, item_nodes, maximum_in, nodes_of}
use Rattle.component_items.proofs.FoldLemmas.{at-Area, at-Cleanup, at-Each, at-Element, at-If, at-Memo, at-Shown, at-Signal, at-Store, at-Text, fold-Area, fold-Cleanup, fold-Each, fold-Element, fold-If, fold-Memo, fold-Shown, fold-Signal, fold-Store, fold-Text}
use Rattle.component_meaning.specs.Computed.{read_of}
use Rattle.component_meaning.proofs.Decided.{component_row}
use Rattle.component_meaning.proofs.accepted.page_of_todos.Goals as goal

abbrev page_items : List Item
page_items = item.Signal 0 1 (Word 2) ∷ item.Signal 1 3 (Number (pos 1)) ∷ item.Store 2 4 50 (5 ∷ 6 ∷ []) (Word 0 ∷ Number (pos 0) ∷ []) ∷ item.Memo 6 7 (Binary op.Sub (Lit (Number (pos 3))) (Read 1)) ∷ item.Element 8 true (attr.Fixed 9 10 ∷ []) (item.Element 11 true [] (item.Text 12 ∷ item.Shown 7 (Read 0) ∷ []) ∷ item.If 8 (Read 6) (item.Element 13 true [] (item.Shown 9 (Read 6) ∷ item.Text 14 ∷ []) ∷ []) ∷ item.Element 15 true [] (item.Each 10 2 (item.Element 16 true (attr.Shown 17 11 (Read 3) ∷ []) (item.Shown 12 (Read 4) ∷ item.If 13 (Read 5) (item.Text 18 ∷ []) ∷ []) ∷ []) ∷ []) ∷ item.Area 14 19 1 (item.Signal 15 20 (Word 21) ∷ item.Element 22 true [] (item.Shown 16 (Read 15) ∷ []) ∷ item.Cleanup 23 ∷ []) ∷ []) ∷ []

abbrev page_component : Component
page_component = record { texts = [] ∷ codes "user" ∷ codes "Ann" ∷ codes "done" ∷ codes "todos" ∷ codes "title" ∷ codes "ok" ∷ codes "left" ∷ codes "main" ∷ codes "class" ∷ codes "app" ∷ codes "h1" ∷ codes "Todos of " ∷ codes "p" ∷ codes " left" ∷ codes "ul" ∷ codes "li" ∷ codes "data-id" ∷ codes " (done)" ∷ codes "help" ∷ codes "text" ∷ codes "Press & type" ∷ codes "footer" ∷ codes "help closed" ∷ []; items = page_items }

page_read : read_of (codes "component 1\nsignal user = \"Ann\"\nsignal done = 1\nstore todos max 50 { title = \"\" ok = 0 }\nmemo left = 3 - done\n<main class=\"app\">\n <h1>\"Todos of \" {user}</h1>\n if left { <p>{left} \" left\"</p> }\n <ul>each todos { <li data-id={row.key}>{row.title} if row.ok { \" (done)\" }</li> }</ul>\n area help { signal text = \"Press & type\" <footer>{text}</footer> cleanup \"help closed\" }\n</main>\n") ≡ Some page_component
page_read = refl

page_most : maximum_in page_items 2 ≡ 50
unfolding item_maximum
page_most = simp (at-Signal, at-Store, at-Memo, at-Element, at-Text, at-Shown, at-If, at-Each, at-Area, at-Cleanup)

page_count : nodes_of page_items ≡ 258
unfolding item_maximum item_nodes
page_count = simp (fold-Signal, fold-Store, fold-Memo, fold-Element, fold-Text, fold-Shown, fold-If, fold-Each, fold-Area, fold-Cleanup, page_most)

page_nodes : nodes_of page_items ≤ 4096
page_nodes = let count = page_count in omega arith

pub returns : goal.returns
returns c = component_row page_read page_nodes
