use Rattle.std.proofs.Common.{◌≡◌, drop}
use Rattle.sources.specs.Bodies.{rows_read}
use Rattle.still_readers.specs.Readers.{stands_in}
use Rattle.still_readers.proofs.readers.is_recorded.Given as goal

abbrev pub invariant-loop-read : goal.invariant-loop-read
invariant-loop-read l = stands_in l.row (rows_read (drop l.read-index l.reads)) ≡ stands_in l.row (rows_read l.reads)
