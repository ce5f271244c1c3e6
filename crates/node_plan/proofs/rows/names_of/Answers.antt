use Rattle.std.proofs.Common.{◌∙◌, map}
use Rattle.plain_evaluation.specs.Place.{position_of}
use Rattle.plan_lines.specs.Lines.{placed_in, place_placed}
use Rattle.node_plan.specs.Rows.{places_placed}
use Rattle.node_plan.proofs.RowsLemmas.{not_before, place_at_row, take_places}
use Rattle.node_plan.proofs.rows.names_of.Goals as goal

pub push-requires-clause-absent : goal.push-requires-clause-absent
push-requires-clause-absent c =
    let rows = c.args.rows.now in
    let i = c.loop-row.row-index in
    let row = c.row-item.result in
    (λ k. position_of ((c.loop-row.invariant ∙ take_places rows i) k) (c.place.ensures k))
    ∙ not_before (places_placed (map placed_in rows)) i (place_placed (placed_in row)) c.requires.apart (place_at_row rows i row c.loop-row-test.true c.row-item.is)
