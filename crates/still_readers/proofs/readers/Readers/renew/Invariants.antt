use Rattle.still_readers.specs.Readers.{IsReflagged, IsExact}
use Rattle.still_readers.proofs.readers.Readers.renew.Given as goal

abbrev pub invariant-loop-place : goal.invariant-loop-place
invariant-loop-place l = record {
  same : IsReflagged l.initial.self l.self;
  exact : IsExact l.rows l.place l.self;
}
