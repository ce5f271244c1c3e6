use Rattle.std.proofs.Common.{◌+◌, ◌-◌, ◌*◌, ◌/◌, ◌%◌, ◌^◌, get_or, bit_and, sym, ap, ◌∙◌, arith}
use Rattle.std.proofs.lemmas.Nat.{and_le_l}
use Rattle.std.proofs.lemmas.Nat.Bits.{ones_shl}
use Rattle.sources.proofs.BitLemmas.{IsLeastBit-masked, AreZeroFrom-past, zeroes-masked, some-later, none-later}
use Rattle.sources.proofs.bit_row.least_bit.Goals as goal

pub returns-then-index-words-clause-none : goal.returns-then-index-words-clause-none
returns-then-index-words-clause-none c = AreZeroFrom-past c.args.words.now c.args.from (omega arith)

pub returns-then-rest-ne0-clause-some : goal.returns-then-rest-ne0-clause-some
returns-then-rest-ne0-clause-some c =
    let word = get_or c.args.words.now (c.args.from / 64) 0 in
    let is = ap (bit_and word) (ones_shl 64 (c.args.from % 64) (omega arith)) in
    IsLeastBit-masked c.args.words.now c.args.from _ is (omega arith) (omega (arith, and_le_l word ((2 ^ 64 - 1) * 2 ^ (c.args.from % 64) % 2 ^ 64), c.type_inv.words (c.args.from / 64)))

pub returns-clause-some : goal.returns-clause-some
returns-clause-some c =
    let word = get_or c.args.words.now (c.args.from / 64) 0 in
    let is = ap (bit_and word) (ones_shl 64 (c.args.from % 64) (omega arith)) in
    some-later c.args.words.now c.args.from (64 * (c.args.from / 64 + 1)) c.least_bit_of_words.result (omega arith) (zeroes-masked c.args.words.now c.args.from (sym is ∙ omega arith)) c.least_bit_of_words.ensures.some

pub returns-clause-none : goal.returns-clause-none
returns-clause-none c =
    let word = get_or c.args.words.now (c.args.from / 64) 0 in
    let is = ap (bit_and word) (ones_shl 64 (c.args.from % 64) (omega arith)) in
    none-later c.args.words.now c.args.from (64 * (c.args.from / 64 + 1)) c.least_bit_of_words.result (zeroes-masked c.args.words.now c.args.from (sym is ∙ omega arith)) c.least_bit_of_words.ensures.none
