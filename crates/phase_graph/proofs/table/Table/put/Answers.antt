use Rattle.std.proofs.Common.{List, length, ◌∙◌, sym, ap, refl, subst, arith}
use Rattle.std.proofs.lemmas.List.{with_items_is}
use Rattle.values.specs.declared.plan.PlanNode.{PlanNode}
use Rattle.values.specs.Packing.{unpacked}
use Rattle.still_readers.specs.Marking.{IsSource}
use Rattle.still_readers.proofs.Lists.{at_within, within_at}
use Rattle.phase_graph.proofs.Steps.{written_of}
use Rattle.phase_graph.proofs.Tables.{still_at}
use Rattle.phase_graph.proofs.table.Table.put.Goals as goal

pub set-requires-clause-still : goal.set-requires-clause-still
set-requires-clause-still c = still_at c.args.self.now c.requires.table c.requires.ticks c.as_slice.result.now c.as_slice.ensures c.as_mut_slice.result.now c.as_mut_slice.ensures.value

pub set-requires-clause-signal : goal.set-requires-clause-signal
set-requires-clause-signal c = subst (λ (q : List PlanNode). IsSource q c.args.signal) (sym c.as_slice.ensures) c.requires.source

pub returns-clause-written : goal.returns-clause-written
returns-clause-written c =
    let e = c.set.ensures in
    let p = e.still.good.paired in
    let q = (still_at c.args.self.now c.requires.table c.requires.ticks c.as_slice.result.now c.as_slice.ensures c.as_mut_slice.result.now c.as_mut_slice.ensures.value).good.paired in
    let source = c.requires.source in
    let within = at_within c.args.self.now.plan.nodes c.args.signal source.node source.at in
    let nodes = ap length c.as_slice.ensures in
    let was = within_at c.as_mut_slice.result.now c.args.signal (omega arith) in
    written_of c.args.self.now _ c.args.signal c.args.code c.set.result c.as_slice.result.now c.as_mut_slice.result.now c.set.new.rows c.as_slice.ensures c.as_mut_slice.ensures.value
    (sym (with_items_is c.args.self.now.rows c.set.new.rows (p ∙ sym q ∙ c.as_mut_slice.ensures.len))) refl refl refl e.still e.work e.ticked e.number (ap unpacked (sym c.pack-word.ensures.word) ∙ c.pack-word.ensures.value) was.0 was.1 e.written e.others
