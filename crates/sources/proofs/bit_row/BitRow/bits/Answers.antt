use Rattle.std.proofs.Common.{length, sym, ap, ◌∙◌}
use Rattle.sources.proofs.BitLemmas.{length-set_of}
use Rattle.sources.proofs.bit_row.BitRow.bits.Goals as goal

pub returns : goal.returns
returns c = sym (length-set_of c.self.inside.words.items c.self.inside.bits) ∙ ap length c.self.view_is
