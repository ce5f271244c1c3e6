use Rattle.still_readers.proofs.ReadersLemmas.{enrolled_there}
use Rattle.still_readers.proofs.readers.Readers.enrol_read.Goals as goal

pub returns-then-has_read_at-clause-at : goal.returns-then-has_read_at-clause-at
returns-then-has_read_at-clause-at c = enrolled_there c.args.node c.args.row c.args.self.now (c.has_read_at.ensures c.if-has_read_at.true)
