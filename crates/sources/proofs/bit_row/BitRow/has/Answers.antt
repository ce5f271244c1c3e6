use Rattle.sources.proofs.BitLemmas.{has_bit}
use Rattle.sources.proofs.bit_row.BitRow.has.Goals as goal

pub returns : goal.returns
returns c = has_bit c.args.self.now c.word-word.result c.args.bit c.word-word.ensures
