use Rattle.std.proofs.Common.{arith}
use Rattle.text_lexer.proofs.Contents.{unescaped_free}
use Rattle.text_lexer.proofs.meaning.has_escape.Goals as goal

pub returns-clause-plain : goal.returns-clause-plain
returns-clause-plain c = grind (arith, unescaped_free c.args.written.now)
