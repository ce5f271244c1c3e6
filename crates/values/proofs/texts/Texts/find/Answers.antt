use Rattle.std.proofs.Common.{arith}
use Rattle.values.proofs.TextsLemmas.{position-index_of}
use Rattle.values.proofs.texts.Texts.find.Goals as goal

pub returns-in_err-index : goal.returns-in_err-index
returns-in_err-index c = let e = position-index_of c.args.text.now c.self.inside.texts.keys in grind (arith, e)

pub returns : goal.returns
returns c = let e = position-index_of c.args.text.now c.self.inside.texts.keys in grind (arith, e)
