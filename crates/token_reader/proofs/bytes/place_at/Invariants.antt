use Rattle.text_lexer.specs.Place.{IsPlace}
use Rattle.token_reader.proofs.bytes.place_at.Given as goal

abbrev pub invariant-loop-i : goal.invariant-loop-i
invariant-loop-i l = IsPlace l.first_line l.bytes l.i l.place.line l.place.column
