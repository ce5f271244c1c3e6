use Rattle.std.proofs.Common.{Bool, length, get_or, refl, subst, arith}
use Rattle.std.proofs.lemmas.Option.{slice_get_read, slice_get-get_or}
use Rattle.values.specs.declared.code.Code.TheVariants.{Empty}
use Rattle.phase_graph.specs.Table.{IsGivenRow}
use Rattle.phase_graph.proofs.First.{given_more}
use Rattle.phase_graph.proofs.making.give_all.Goals as goal

pub loop-at-preserved : goal.loop-at-preserved
loop-at-preserved c =
    let l = c.loop-at-test.true in
    let a = c.loop-at.invariant.paired in let b = c.requires.rows in let d = c.requires.codes in
    let row = get_or c.loop-at.rows c.loop-at.at c.index-rows-at.result in
    let code = get_or c.args.codes.now c.loop-at.at Empty in
    given_more c.args.nodes.now c.args.codes.now c.args.rows.now c.loop-at.rows c.loop-at.at c.index-nodes-at.result code row c.give.new.row c.loop-at.invariant
    (slice_get_read c.args.nodes.now (length c.args.nodes.now) c.loop-at.at c.index-nodes-at.result refl (omega arith) c.index-nodes-at.is)
    (slice_get-get_or c.args.codes.now c.loop-at.at Empty (omega arith))
    (slice_get-get_or c.loop-at.rows c.loop-at.at c.index-rows-at.result (omega arith))
    (subst (λ (q : Bool). IsGivenRow q code row c.give.new.row) c.is_derived.ensures c.give.ensures)
