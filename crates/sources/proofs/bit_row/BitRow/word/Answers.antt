use Rattle.sources.proofs.BitLemmas.{word_bits}
use Rattle.sources.proofs.bit_row.BitRow.word.Goals as goal

pub returns : goal.returns
returns c =
    rw (c.word_at.ensures, c.deref.ensures.value, ← c.self.view_is) (word_bits c.self.inside.words.items c.self.inside.bits c.args.index c.self.invariant)
