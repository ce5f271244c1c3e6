use Rattle.text_lexer.proofs.Contents.{text_opened, text_closed, written_closed}
use Rattle.text_lexer.proofs.meaning.without_quotes.Goals as goal

pub range-requires-clause-start_boundary : goal.range-requires-clause-start_boundary
range-requires-clause-start_boundary c = λ _. text_opened c.args.text.now c.utf8.text c.requires

pub range-requires-clause-end_boundary : goal.range-requires-clause-end_boundary
range-requires-clause-end_boundary c = text_closed c.args.text.now c.requires

pub returns-clause-closed : goal.returns-clause-closed
returns-clause-closed c = rw c.range.ensures.value (written_closed c.args.text.now c.requires)
