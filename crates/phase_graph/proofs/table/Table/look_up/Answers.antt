use Rattle.std.proofs.Common.{◌∙◌, sym, arith}
use Rattle.std.proofs.lemmas.List.{with_items_is}
use Rattle.phase_graph.proofs.Steps.{row_within, answered_of}
use Rattle.phase_graph.proofs.Tables.{still_parts}
use Rattle.phase_graph.proofs.table.Table.look_up.Goals as goal

pub get-requires-clause-still : goal.get-requires-clause-still
get-requires-clause-still c = still_parts c.args.self.now c.requires.table c.requires.open c.as_slice.result.now c.as_slice.ensures c.as_mut_slice.result.now c.as_mut_slice.ensures.value

pub get-requires-clause-within : goal.get-requires-clause-within
get-requires-clause-within c = row_within c.args.self.now.plan.nodes c.as_slice.result.now c.args.node _ c.as_slice.ensures c.requires.row

pub returns-clause-answered : goal.returns-clause-answered
returns-clause-answered c =
    let p = c.get.ensures.stepped.since.paired in
    let q = c.get.ensures.stepped.still.good.paired in
    let l = row_within c.args.self.now.plan.nodes c.as_slice.result.now c.args.node _ c.as_slice.ensures c.requires.row in
    answered_of c.args.self.now _ c.args.node c.get.result c.as_slice.result.now c.as_mut_slice.result.now c.get.new.rows c.as_slice.ensures c.as_mut_slice.ensures.value
    (sym (with_items_is c.args.self.now.rows c.get.new.rows (p ∙ c.as_mut_slice.ensures.len))) (omega arith) c.get.ensures.value c.get.ensures.number
