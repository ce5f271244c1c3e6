use Rattle.std.proofs.Common.{◌∙◌, List, length, slice_get, sym, ap, arith}
use Rattle.values.specs.Evaluation.{readings_of}
use Rattle.values.specs.PlanValues.{plan_value}
use Rattle.sources.specs.declared.body.Read.{Read}
use Rattle.sources.specs.Bodies.{rows_read}
use Rattle.sources.specs.Rows.{value_in}
use Rattle.still_rows.specs.Shown.{noted}
use Rattle.still_rows.proofs.EvaluatingLemmas.{noted_distinct}
use Rattle.still_rows.proofs.FramesLemmas.{reads_back, are_packed, shown_agrees}
use Rattle.still_rows.proofs.moves.try_run.Goals as goal

pub evaluate-requires : goal.evaluate-requires
evaluate-requires c = record {
  room = (let a = c.requires.room.each c.args.frame.node c.args.node.now c.requires.node in let b = c.clear.ensures.room in let d = ap length c.clear.ensures.list in omega arith);
  are_packed = are_packed c.args.nodes.now c.args.rows.now c.requires.good;
  fresh = record { each = (λ k x e. let h = ap (λ (l : List Read). slice_get l k) (sym c.clear.ensures.list) ∙ e in cc) };
}

pub returns-in-Ok-clause-tried : goal.returns-in-Ok-clause-tried
returns-in-Ok-clause-tried c = λ run.
    let agrees = shown_agrees c.args.nodes.now c.args.rows.now (reads_back c.args.nodes.now c.requires.lawful) c.requires.good in
    sym (c.in-Ok.ensures.value (plan_value c.args.nodes.now (value_in c.args.rows.now)) agrees).0

pub returns-in-Ok-clause-reads : goal.returns-in-Ok-clause-reads
returns-in-Ok-clause-reads c = λ run code e.
    let agrees = shown_agrees c.args.nodes.now c.args.rows.now (reads_back c.args.nodes.now c.requires.lawful) c.requires.good in
    let values = plan_value c.args.nodes.now (value_in c.args.rows.now) in
    (c.in-Ok.ensures.value values agrees).1
    ∙ ap (λ (l : List Read). noted (rows_read l) (readings_of c.args.node.now.expr values)) c.clear.ensures.list
    ∙ noted_distinct (readings_of c.args.node.now.expr values)

pub returns-in-Err-clause-tried : goal.returns-in-Err-clause-tried
returns-in-Err-clause-tried c = λ run.
    let agrees = shown_agrees c.args.nodes.now c.args.rows.now (reads_back c.args.nodes.now c.requires.lawful) c.requires.good in
    sym (c.in-Err.ensures.value (plan_value c.args.nodes.now (value_in c.args.rows.now)) agrees)
