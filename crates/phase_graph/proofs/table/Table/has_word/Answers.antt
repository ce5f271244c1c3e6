use Rattle.std.proofs.Common.{refl}
use Rattle.phase_graph.proofs.Puttings.{word_at}
use Rattle.phase_graph.proofs.table.Table.has_word.Goals as goal

pub returns : goal.returns
returns c = word_at c.args.self.now c.args.row c.args.word c.index.result.now _ c.requires.table c.requires.row c.index.ensures refl
