use Rattle.std.proofs.Common.{◌≡◌, ◌≤◌, length, take, vec_len}
use Rattle.row_carrying.proofs.Over.{IsOver}
use Rattle.row_carrying.proofs.carry.carry_over.Given as goal

abbrev pub invariant-loop-row : goal.invariant-loop-row
invariant-loop-row l = record {
  left : l.left.items ≡ take (vec_len l.left) l.initial.left.items;
  few : vec_len l.left ≤ length l.initial.left.items;
  over : IsOver l.to l.initial.left.items l.initial.rows (vec_len l.left) l.rows;
}

abbrev pub decreases-loop-row : goal.decreases-loop-row
decreases-loop-row l = vec_len l.left
