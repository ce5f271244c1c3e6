use Rattle.std.proofs.Common.{◌≡◌, None, []}
use Rattle.values.specs.Reserved.{room_of}
use Rattle.still_rows.specs.Works.{IsStack, IsStepped, StayPast, total, with_top}
use Rattle.still_rows.proofs.bring.bring_up.Given as goal

abbrev pub invariant-loop-top : goal.invariant-loop-top
invariant-loop-top l = record {
  room : room_of l.reads ≡ room_of l.initial.reads;
  stepped : IsStepped l.nodes l.initial.rows l.rows l.initial.readers l.readers l.initial.clock l.clock;
  past : StayPast l.root l.initial.rows l.rows;
  stack : IsStack l.nodes l.rows l.root (with_top l.top l.frames);
  ended : l.top ≡ None → l.frames ≡ [];
}

abbrev pub decreases-loop-top : goal.decreases-loop-top
decreases-loop-top l = total l.nodes l.rows (with_top l.top l.frames)
