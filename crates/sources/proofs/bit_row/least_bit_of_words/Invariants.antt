use Rattle.std.proofs.Common.{◌≡◌, ℕ, ◌*◌, ◌<◌, ◌≤◌, false}
use Rattle.sources.specs.Bits.{bit_in}
use Rattle.sources.proofs.bit_row.least_bit_of_words.Given as goal

abbrev pub invariant-loop-index : goal.invariant-loop-index
invariant-loop-index l = (other : ℕ) → 64 * l.first ≤ other → other < 64 * l.index → bit_in l.words other ≡ false
