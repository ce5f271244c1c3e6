use Rattle.phase_graph.proofs.Puttings.{put_same, put_other, put_kept}
use Rattle.phase_graph.proofs.table.Table.renew.Goals as goal

pub returns-then-has_word-clause-put : goal.returns-then-has_word-clause-put
returns-then-has_word-clause-put c = put_same c.args.self.now c.args.row c.pack.result c.args.code c.has_word.result c.has_word.ensures c.if-has_word.true c.pack.ensures.value

pub returns-clause-put : goal.returns-clause-put
returns-clause-put c = put_other c.args.self.now c.put.new.self c.args.row c.pack.result c.in-Ok.field-0 c.args.code c.has_word.result c.requires.table c.has_word.ensures c.if-has_word.false c.pack.ensures.word c.in-Ok.ensures.written

pub returns-clause-kept : goal.returns-clause-kept
returns-clause-kept c = put_kept c.args.self.now c.put.new.self c.args.row c.args.code c.requires.table c.requires.ticks (returns-clause-put c)
