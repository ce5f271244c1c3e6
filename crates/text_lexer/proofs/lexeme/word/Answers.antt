use Rattle.std.proofs.Common.{arith}
use Rattle.text_lexer.proofs.Lexemes.{name_token, reserved_token, no_long_word}
use Rattle.text_lexer.proofs.lexeme.word.Goals as goal

pub returns-then-n-gt-LONGEST_NAME-clause-none : goal.returns-then-n-gt-LONGEST_NAME-clause-none
returns-then-n-gt-LONGEST_NAME-clause-none c =
    no_long_word c.args.rest.now c.name_bytes-n.result c.requires.some c.requires.letter c.name_bytes-n.ensures (omega arith)

pub returns-in-Some-clause-found : goal.returns-in-Some-clause-found
returns-in-Some-clause-found c =
    reserved_token c.args.rest.now c.name_bytes-n.result c.in-Some.reserved c.requires.some c.requires.letter c.name_bytes-n.ensures c.in-Some.ensures.found

pub returns-in-None-clause-found : goal.returns-in-None-clause-found
returns-in-None-clause-found c =
    name_token c.args.rest.now c.name_bytes-n.result c.requires.some c.requires.letter c.name_bytes-n.ensures (omega arith) c.in-None.ensures.none
