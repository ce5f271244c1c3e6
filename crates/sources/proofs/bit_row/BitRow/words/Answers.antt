use Rattle.std.proofs.Common.{◌≡◌, length, sym, ap, ◌∙◌, arith}
use Rattle.sources.specs.Bits.{word_count}
use Rattle.sources.proofs.BitLemmas.{length-set_of}
use Rattle.sources.proofs.bit_row.BitRow.words.Goals as goal

pub returns : goal.returns
returns c =
    let bits : c.self.inside.bits ≡ length c.args.self.now = sym (length-set_of c.self.inside.words.items c.self.inside.bits) ∙ ap length c.self.view_is in
    let all : c.len.result ≡ length c.self.inside.words.items = omega (arith, c.self.inside.words.ok.0) in
    all ∙ c.self.invariant.long ∙ ap word_count bits
