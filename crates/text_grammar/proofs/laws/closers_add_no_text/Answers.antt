use Rattle.text_grammar.proofs.Closed.{derives_in_table, reads_in_table, reads_closed}
use Rattle.text_grammar.proofs.laws.closers_add_no_text.Goals as goal

pub returns-clause-meaning : goal.returns-clause-meaning
returns-clause-meaning g c m refuses xs a b = (λ reads. reads_closed m refuses reads, λ reads. reads_in_table m reads)

pub returns-clause-contained : goal.returns-clause-contained
returns-clause-contained g c ks d = derives_in_table d
