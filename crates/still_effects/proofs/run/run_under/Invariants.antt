use Rattle.still_rows.specs.Works.{IsStepped, IsWorkOf, unclean_count}
use Rattle.still_effects.proofs.run.run_under.Given as goal

abbrev pub invariant-loop-code : goal.invariant-loop-code
invariant-loop-code l = record {
  fits : IsWorkOf l.nodes l.work;
  stepped : IsStepped l.nodes l.initial.rows l.rows l.initial.readers l.readers l.initial.clock l.clock;
}

abbrev pub decreases-loop-code : goal.decreases-loop-code
decreases-loop-code l = unclean_count l.rows
