use Rattle.std.proofs.Common.{◌<◌, ◌^◌, get_or, arith}
use Rattle.sources.proofs.BitLemmas.{IsLeastBit-word, AreZeroFrom-end, zeroes_more}
use Rattle.sources.proofs.bit_row.least_bit_of_words.Goals as goal

pub returns-then-word-ne0-clause-some : goal.returns-then-word-ne0-clause-some
returns-then-word-ne0-clause-some c =
    let small : get_or c.args.words.now c.loop-index.index 0 < 2 ^ 64 = omega (arith, c.type_inv.words c.loop-index.index) in
    IsLeastBit-word c.args.words.now c.args.first c.loop-index.index (omega arith) c.loop-index.invariant (omega arith) small

pub loop-index-preserved : goal.loop-index-preserved
loop-index-preserved c = zeroes_more c.args.words.now c.args.first c.loop-index.index c.loop-index.invariant (omega arith)

pub returns-clause-none : goal.returns-clause-none
returns-clause-none c = AreZeroFrom-end c.args.words.now c.args.first c.loop-index.index (omega arith) c.loop-index.invariant
