use Rattle.std.proofs.lemmas.Str.Parse.{parse_digits}
use Rattle.text_lexer.proofs.Contents.{numerals, decimal_some}
use Rattle.text_lexer.proofs.Lexemes.{digits_all}
use Rattle.text_lexer.proofs.Tokens.{digits_some}
use Rattle.text_lexer.proofs.meaning.decimal.Goals as goal

pub returns : goal.returns
returns c =
    let bs = c.args.digits.now in
    let parsed = parse_digits numerals 32 bs c.parse.result c.parse.ensures.value.0 (digits_all bs c.requires) in
    rw c.ok.ensures.value (decimal_some bs c.parse.result (digits_some bs c.requires) parsed)
