use Rattle.std.proofs.Common.{length, refl}
use Rattle.std.proofs.lemmas.Option.{slice_get_read}
use Rattle.still_effects.proofs.tests.update.Goals as goal

pub run_effect-requires-clause-effect : goal.run_effect-requires-clause-effect
run_effect-requires-clause-effect c = record {
  node = c.in-Some.node.now;
  at = slice_get_read c.args.nodes.now (length c.args.nodes.now) c.args.row c.in-Some.node.now refl c.in-Some.ensures.lookup.3.0 c.in-Some.ensures.lookup.1;
  is = c.in-Effect.is;
}
