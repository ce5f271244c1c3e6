use Rattle.std.proofs.Common.{arith}
use Rattle.node_names.proofs.PlaceLemmas.{place_added}
use Rattle.node_names.proofs.names.Names.push.Goals as goal

pub returns-clause-added : goal.returns-clause-added
returns-clause-added c = let e = place_added c.args.place c.self.inside.places.keys in grind (arith, e)
