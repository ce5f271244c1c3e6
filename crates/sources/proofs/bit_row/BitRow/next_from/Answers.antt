use Rattle.std.proofs.Common.{arith}
use Rattle.sources.proofs.BitLemmas.{bit_below, IsLeastFrom-bit, IsEmptyFrom-bits, where_none}
use Rattle.sources.proofs.bit_row.BitRow.next_from.Goals as goal

pub least_bit-requires : goal.least_bit-requires
least_bit-requires c =
    let row = c.self.inside in
    omega (arith, row.words.ok.0, c.self.invariant.long, c.self.invariant.few)

pub returns-in_err-number-clause-none : goal.returns-in_err-number-clause-none
returns-in_err-number-clause-none c =
    let row = c.self.inside in
    where_none c.from_residual.result _ (rw (← c.self.view_is) (IsEmptyFrom-bits row.words.items row.bits c.args.from (rw c.deref.ensures.value at c.in_err-number.ensures.none)))

pub overflow_cast-result : goal.overflow_cast-result
overflow_cast-result c =
    let row = c.self.inside in
    let least = rw c.deref.ensures.value at c.in_ok-number.ensures.some in
    let below = bit_below row.words.items row.bits c.in_ok-number.number c.self.invariant least.one in
    omega (arith, c.self.invariant.few)

pub returns-clause-some : goal.returns-clause-some
returns-clause-some c =
    let row = c.self.inside in
    rw (← c.self.view_is) (IsLeastFrom-bit row.words.items row.bits c.args.from c.in_ok-number.number c.self.invariant (rw c.deref.ensures.value at c.in_ok-number.ensures.some))
