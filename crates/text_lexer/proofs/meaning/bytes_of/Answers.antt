use Rattle.text_lexer.proofs.Tokens.{start_boundary, end_boundary}
use Rattle.text_lexer.proofs.meaning.bytes_of.Goals as goal

pub range-requires-clause-start_boundary : goal.range-requires-clause-start_boundary
range-requires-clause-start_boundary c = λ _. start_boundary c.args.text.now c.args.token.now c.requires

pub range-requires-clause-end_boundary : goal.range-requires-clause-end_boundary
range-requires-clause-end_boundary c = end_boundary c.args.text.now c.args.token.now c.utf8.text c.requires
