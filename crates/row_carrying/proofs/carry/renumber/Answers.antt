use Rattle.std.proofs.Common.{◌+◌, suc, List, map, take, drop, ◌++◌, slice_set, get_or, ap, ◌∙◌, arith}
use Rattle.sources.specs.declared.body.Read.{Read as ReadValue}
use Rattle.carried_rows.specs.Moved.{read_moved}
use Rattle.row_carrying.specs.Target.{number_by}
use Rattle.row_carrying.proofs.Over.{next_mapped}
use Rattle.row_carrying.proofs.carry.renumber.Goals as goal

pub loop-index-preserved : goal.loop-index-preserved
loop-index-preserved c =
    let init = c.args.reads.now.list in
    let i = c.loop-index.index in
    let f : ReadValue → ReadValue = read_moved (number_by c.args.to.now) in
    let d : ReadValue = record { row = 0; version = 0; code = 0 } in
    record {
      list = c.set.ensures.list
          ∙ ap (λ (x : ReadValue). slice_set c.loop-index.reads.list i x) (c.renumbered_read.ensures ∙ ap (λ (xs : List ReadValue). f (get_or xs i d)) c.as_slice.ensures)
          ∙ ap (λ (xs : List ReadValue). slice_set xs i (f (get_or xs i d))) c.loop-index.invariant.list
          ∙ next_mapped f d init i (let lt = c.loop-index-test.true in omega arith)
          ∙ ap (λ k. map f (take k init) ++ drop k init) {x = suc i} {y = i + 1} (omega arith);
      spare = c.set.ensures.spare ∙ c.loop-index.invariant.spare;
    }
