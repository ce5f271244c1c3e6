use Rattle.std.proofs.Common.{length, ◌-◌, ◌<◌}
use Rattle.text_lexer.proofs.Lexemes.{IsTextFrom}
use Rattle.text_lexer.proofs.lexeme.text.Given as goal

abbrev pub invariant-loop-i : goal.invariant-loop-i
invariant-loop-i l = (0 < l.i) × IsTextFrom l.rest l.i

abbrev pub decreases-loop-i : goal.decreases-loop-i
decreases-loop-i l = length l.rest - l.i
