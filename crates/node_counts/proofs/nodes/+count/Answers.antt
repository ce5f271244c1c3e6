use Rattle.std.proofs.Common.{◌≡◌, sym, ap, ◌∙◌, arith}
use Rattle.std.specs.List.{sum_by}
use Rattle.component_items.specs.Counts.{item_nodes}
use Rattle.component_items.proofs.AroundLemmas.{held_none}
use Rattle.node_counts.specs.Nodes.{capped}
use Rattle.node_counts.proofs.Caps.{capped-capped, capped-le}
use Rattle.node_counts.proofs.Split.{each_nodes, holder_nodes, leaf_nodes, more_nodes}
use Rattle.node_counts.proofs.nodes.+count.Goals as goal

pub count_item-returns-in-Each-clause-nodes : goal.count_item-returns-in-Each-clause-nodes
count_item-returns-in-Each-clause-nodes t c = λ rows agree.
    let counted : c.cap-inner.result ≡ capped (sum_by (item_nodes rows) c.in-Each.items) =
    c.cap-inner.ensures ∙ (ap capped (c.count_all.ensures rows agree) ∙ (capped-capped _ ∙ ap (λ xs. capped (sum_by (item_nodes rows) xs)) c.as_slice.ensures)) in
    each_nodes rows c.args.item.now c.in-Each.id c.in-Each.store c.in-Each.items c.count_own-own.result c.most_of.result c.cap-inner.result c.multiply.result c.add.result c.in-Each.is c.count_own-own.ensures (c.most_of.ensures ∙ agree c.in-Each.store) counted c.multiply.ensures c.add.ensures

pub count_item-returns-in_default : goal.count_item-returns-in_default
count_item-returns-in_default t c = record {
  nodes = λ rows agree. c.count_own-own.ensures ∙ ap capped (sym (leaf_nodes rows c.args.item.now (held_none c.args.item.now c.in_default.not-Area c.in_default.not-If c.in_default.not-Each c.in_default.not-Element)));
  within = omega (arith, c.count_own-own.ensures, capped-le);
}

pub count_item-returns-in-Area-clause-nodes : goal.count_item-returns-in-Area-clause-nodes
count_item-returns-in-Area-clause-nodes t c = λ rows agree.
    let counted : c.cap.result ≡ capped (sum_by (item_nodes rows) c.in-Area.items) =
    c.cap.ensures ∙ (ap capped (c.count_all-in-Area.ensures rows agree) ∙ (capped-capped _ ∙ ap (λ xs. capped (sum_by (item_nodes rows) xs)) c.as_slice-in-Area.ensures)) in
    holder_nodes rows c.args.item.now c.in-Area.items c.count_own-own.result c.cap.result c.add-in-Area.result c.in-Area.is c.count_own-own.ensures counted c.add-in-Area.ensures

pub count_all-loop-item-preserved : goal.count_all-loop-item-preserved
count_all-loop-item-preserved t c = (
  omega (arith, c.add-count.ensures),
  λ rows agree.
      more_nodes (item_nodes rows) c.args.items.now c.loop-item.item-index c.item-item.result c.loop-item.count c.count_item.result c.add-count.result c.loop-item-test.true c.item-item.is (c.loop-item.invariant.1 rows agree) (c.count_item.ensures.nodes rows agree) c.add-count.ensures,
)
