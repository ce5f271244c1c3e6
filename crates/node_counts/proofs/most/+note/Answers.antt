use Rattle.std.proofs.Common.{◌≡◌, ℕ, ◌+◌, sym, ap, ◌∙◌, arith}
use Rattle.std.proofs.lemmas.Result.{on_ok_weaker}
use Rattle.component_items.specs.Counts.{maximum_in}
use Rattle.node_counts.specs.Nodes.{most_in, capped}
use Rattle.node_counts.proofs.Split.{store_rows, leaf_rows, holder_rows, more_rows}
use Rattle.node_counts.proofs.most.+note.Goals as goal

pub note-returns-in-Store : goal.note-returns-in-Store
note-returns-in-Store t c =
    on_ok_weaker c.note_store.result
    (λ noted store. noted store ∙ ap (λ n. capped (most_in c.args.most.now store + n)) (sym (store_rows c.args.item.now c.in-Store.id c.in-Store.name c.in-Store.max c.in-Store.fields c.in-Store.starts store c.in-Store.is)))
    c.note_store.ensures

nothing_more : (n m : ℕ) → m ≡ 0 → capped n ≡ capped (n + m)
nothing_more n m none = omega arith

pub note-returns-in_default : goal.note-returns-in_default
note-returns-in_default t c =
    λ store. nothing_more (most_in c.args.most.now store) _ (leaf_rows c.args.item.now store c.in_default.not-Store c.in_default.not-Area c.in_default.not-If c.in_default.not-Each c.in_default.not-Element)

pub note-returns-in-Area : goal.note-returns-in-Area
note-returns-in-Area t c =
    on_ok_weaker c.note_all.result
    (λ noted store. noted store ∙ ap (λ n. capped (most_in c.args.most.now store + n)) (ap (λ xs. maximum_in xs store) c.as_slice.ensures ∙ sym (holder_rows c.args.item.now c.in-Area.items store c.in-Area.is)))
    c.note_all.ensures

pub note_all-loop-item-preserved : goal.note_all-loop-item-preserved
note_all-loop-item-preserved t c =
    λ store. more_rows c.args.items.now c.loop-item.item-index c.item-item.result store (most_in c.args.most.now store) (most_in c.loop-item.most store) (most_in c.note.new.most store) c.loop-item-test.true c.item-item.is (c.loop-item.invariant store) (c.in_ok-note.ensures store)
