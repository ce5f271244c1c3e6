use Rattle.std.proofs.Common.{length, refl, sym, ◌∙◌}
use Rattle.std.proofs.lemmas.Option.{slice_get_read}
use Rattle.still_effects.proofs.tests.write.Goals as goal

pub set-requires-clause-signal : goal.set-requires-clause-signal
set-requires-clause-signal c = record {
  node = c.in-Some.node.now;
  at = slice_get_read c.args.nodes.now (length c.args.nodes.now) c.args.signal c.in-Some.node.now refl c.in-Some.ensures.lookup.3.0 c.in-Some.ensures.lookup.1;
  given = sym c.is_derived.ensures ∙ c.if-is_derived.false;
}
