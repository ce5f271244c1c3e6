use Rattle.std.proofs.Common.{◌∙◌, sym, refl}
use Rattle.std.proofs.lemmas.List.{with_items_is}
use Rattle.phase_graph.proofs.Steps.{settled_of}
use Rattle.phase_graph.proofs.Tables.{still_at, step_parts, fits_parts}
use Rattle.phase_graph.proofs.table.Table.stir_all.Goals as goal

pub settle_memos-requires-clause-still : goal.settle_memos-requires-clause-still
settle_memos-requires-clause-still c = still_at c.args.self.now c.requires.table c.requires.ticks c.as_slice.result.now c.as_slice.ensures c.as_mut_slice.result.now c.as_mut_slice.ensures.value

pub returns-clause-settled : goal.returns-clause-settled
returns-clause-settled c =
    let e = c.settle_memos.ensures in
    let items = sym (with_items_is c.args.self.now.rows c.settle_memos.new.rows (e.stepped.since.paired ∙ c.as_mut_slice.ensures.len)) in
    settled_of c.args.self.now _ c.settle_memos.result c.as_slice.result.now c.as_mut_slice.result.now c.settle_memos.new.rows c.as_slice.ensures c.as_mut_slice.ensures.value items
    (record { plan = refl; live = refl; full = refl; step = step_parts c.as_slice.result.now _ c.as_mut_slice.result.now c.settle_memos.new.rows _ _ _ _ _ _ c.as_slice.ensures c.as_mut_slice.ensures.value items e.stepped; fits = fits_parts c.as_slice.result.now _ _ c.as_slice.ensures e.work })
    e.settled
