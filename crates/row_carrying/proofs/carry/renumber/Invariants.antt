use Rattle.std.proofs.Common.{◌≡◌, ◌++◌, map, take, drop}
use Rattle.carried_rows.specs.Moved.{read_moved}
use Rattle.row_carrying.specs.Target.{number_by}
use Rattle.row_carrying.proofs.carry.renumber.Given as goal

abbrev pub invariant-loop-index : goal.invariant-loop-index
invariant-loop-index l = record {
  list : l.reads.list ≡ map (read_moved (number_by l.to)) (take l.index l.initial.reads.list) ++ drop l.index l.initial.reads.list;
  spare : l.reads.spare ≡ l.initial.reads.spare;
}
