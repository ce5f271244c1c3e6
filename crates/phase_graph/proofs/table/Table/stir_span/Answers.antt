use Rattle.std.proofs.Common.{List, slice_get, ◌∙◌, sym, ap, refl}
use Rattle.std.proofs.lemmas.List.{with_items_is}
use Rattle.values.specs.declared.plan.PlanNode.{PlanNode}
use Rattle.sources.specs.declared.opening.Opened.{Opened}
use Rattle.phase_graph.proofs.Steps.{span_of}
use Rattle.phase_graph.proofs.Tables.{still_at, step_parts, fits_parts}
use Rattle.phase_graph.proofs.table.Table.stir_span.Goals as goal

pub settle_span-requires-clause-still : goal.settle_span-requires-clause-still
settle_span-requires-clause-still c = still_at c.args.self.now c.requires.table c.requires.ticks c.as_slice.result.now c.as_slice.ensures c.as_mut_slice.result.now c.as_mut_slice.ensures.value

pub returns-clause-settled : goal.returns-clause-settled
returns-clause-settled c =
    let e = c.settle_span.ensures in
    let items = sym (with_items_is c.args.self.now.rows c.settle_span.new.rows (e.stepped.since.paired ∙ c.as_mut_slice.ensures.len)) in
    span_of c.args.self.now _ c.args.from c.args.to c.settle_span.result c.as_slice.result.now c.as_mut_slice.result.now c.settle_span.new.rows c.as_slice.ensures c.as_mut_slice.ensures.value items
    (record { plan = refl; live = refl; full = refl; step = step_parts c.as_slice.result.now _ c.as_mut_slice.result.now c.settle_span.new.rows _ _ _ _ _ _ c.as_slice.ensures c.as_mut_slice.ensures.value items e.stepped; fits = fits_parts c.as_slice.result.now _ _ c.as_slice.ensures e.work })
    e.below e.past e.drawn e.settled

pub settle_span-requires-clause-behind : goal.settle_span-requires-clause-behind
settle_span-requires-clause-behind c = λ i node row l n r k. c.requires.behind i node row l (ap (λ (q : List PlanNode). slice_get q i) (sym c.as_slice.ensures) ∙ n) (ap (λ (q : List Opened). slice_get q i) (sym c.as_mut_slice.ensures.value) ∙ r) k
