use Rattle.std.proofs.Common.{◌≡◌, length, replicate, false, sym, ◌∙◌, ap, arith}
use Rattle.std.specs.Vec.{vec_len}
use Rattle.sources.specs.Bits.{set_of}
use Rattle.sources.proofs.BitLemmas.{HoldsSet-zeroes, set_of-zeroes, length-set_of}
use Rattle.sources.proofs.bit_row.BitRow.clear.Goals as goal

pub invariant_of-self : goal.invariant_of-self
invariant_of-self c =
    rw (c.fill.ensures.items (λ y e. e)) (HoldsSet-zeroes (vec_len c.self.inside.words) c.self.inside.bits c.self.invariant.few (let all : vec_len c.self.inside.words ≡ length c.self.inside.words.items = omega (arith, c.self.inside.words.ok.0) in all ∙ c.self.invariant.long))

pub returns : goal.returns
returns c =
    let bits = sym (length-set_of c.self.inside.words.items c.self.inside.bits) ∙ ap length c.self.view_is in
    ap (λ words. set_of words c.self.inside.bits) (c.fill.ensures.items (λ y e. e)) ∙ set_of-zeroes (vec_len c.self.inside.words) c.self.inside.bits ∙ ap (λ n. replicate n false) bits
