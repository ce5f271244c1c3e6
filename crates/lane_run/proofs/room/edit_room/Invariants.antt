use Rattle.std.proofs.Common.{◌≡◌, take}
use Rattle.lane_run.specs.Lanes.{first_ops, room_for}
use Rattle.lane_run.proofs.room.edit_room.Given as goal

abbrev pub invariant-loop-before : goal.invariant-loop-before
invariant-loop-before l = l.room ≡ room_for (take l.before (first_ops l.script l.phase))
