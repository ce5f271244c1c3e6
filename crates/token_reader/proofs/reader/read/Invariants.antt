use Rattle.token_reader.specs.Reading.{IsReading, left}
use Rattle.token_reader.proofs.reader.read.Given as goal

abbrev pub invariant-loop-state : goal.invariant-loop-state
invariant-loop-state g l = IsReading g.S.TextState.rules l.fn.text l.fn.first_line l.fn.first l.lexer l.token l.next l.stack l.state

abbrev pub decreases-loop-state : goal.decreases-loop-state
decreases-loop-state g l = left l.lexer l.token l.next
