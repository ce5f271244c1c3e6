use Rattle.std.proofs.Common.{◌-◌, length}
use Rattle.text_lexer.specs.Place.{IsPlace}
use Rattle.text_lexer.proofs.Skipping.{SkipsSoFar}
use Rattle.text_lexer.proofs.lexer.Lexer.skip.Given as goal

abbrev pub invariant-loop-place : goal.invariant-loop-place
invariant-loop-place l =
    SkipsSoFar l.bytes l.self.at l.place.offset l.in_comment × IsPlace l.self.first_line l.bytes l.place.offset l.place.line l.place.column

abbrev pub decreases-loop-place : goal.decreases-loop-place
decreases-loop-place l = length l.bytes - l.place.offset
