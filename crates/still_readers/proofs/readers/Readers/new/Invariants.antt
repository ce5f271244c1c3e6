use Rattle.still_readers.specs.Building.{IsBegun}
use Rattle.still_readers.proofs.readers.Readers.new.Given as goal

abbrev pub invariant-loop-node : goal.invariant-loop-node
invariant-loop-node l = IsBegun l.nodes l.node-index l.readers
