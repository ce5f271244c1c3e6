use Rattle.std.proofs.Common.{◌∙◌, ap, refl, arith}
use Rattle.sources.specs.Bits.{set_of}
use Rattle.sources.proofs.BitLemmas.{HoldsSet-zeroes, set_of-zeroes}
use Rattle.sources.proofs.bit_row.BitRow.new.Goals as goal

pub invariant_of-result : goal.invariant_of-result
invariant_of-result c = rw c.in_ok-words.ensures (HoldsSet-zeroes _ c.args.bits (omega arith) refl)

pub returns : goal.returns
returns c = ap (λ words. set_of words c.args.bits) c.in_ok-words.ensures ∙ set_of-zeroes _ c.args.bits
