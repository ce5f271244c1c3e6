use Rattle.std.proofs.Common.{arith}
use Rattle.node_names.proofs.PlaceLemmas.{position_is}
use Rattle.node_names.proofs.names.Names.row.Goals as goal

pub returns-in_err-row : goal.returns-in_err-row
returns-in_err-row c = let e = position_is c.args.place c.self.inside.places.keys in grind (arith, e)

pub returns : goal.returns
returns c = let e = position_is c.args.place c.self.inside.places.keys in grind (arith, e)
