use Rattle.next_layout.specs.Sources.{ArePut}
use Rattle.next_layout.proofs.putting.put_sources.Given as goal

abbrev pub invariant-loop-row : goal.invariant-loop-row
invariant-loop-row l = ArePut l.codes l.row l.initial.graph l.graph
