use Rattle.token_parts.proofs.TokenKinds.{is_text-kind}
use Rattle.token_parts.proofs.texts.content.Goals as goal

pub content-requires-clause-text : goal.content-requires-clause-text
content-requires-clause-text c = is_text-kind _ _ c.requires.text
