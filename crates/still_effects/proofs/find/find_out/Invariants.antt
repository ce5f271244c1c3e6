use Rattle.std.proofs.Common.{◌≡◌}
use Rattle.still_rows.specs.Frames.{IsFrame}
use Rattle.still_rows.specs.Works.{IsStepped, IsWorkOf}
use Rattle.still_effects.specs.Effects.{search_left}
use Rattle.still_effects.proofs.find.find_out.Given as goal

abbrev pub invariant-loop-rows : goal.invariant-loop-rows
invariant-loop-rows l = record {
  fits : IsWorkOf l.nodes l.work;
  stepped : IsStepped l.nodes l.initial.rows l.rows l.initial.readers l.readers l.initial.clock l.clock;
  frame : IsFrame l.nodes l.rows l.frame;
  node : l.frame.node ≡ l.node;
}

abbrev pub decreases-loop-rows : goal.decreases-loop-rows
decreases-loop-rows l = search_left l.rows l.frame
