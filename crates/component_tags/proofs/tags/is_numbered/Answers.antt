use Rattle.std.proofs.Common.{sym, ◌∙◌}
use Rattle.component_tags.proofs.Numbered.{text_at, no_text}
use Rattle.component_tags.proofs.tags.is_numbered.Goals as goal

pub returns-in-Some : goal.returns-in-Some
returns-in-Some c = c.eq.ensures ∙ sym (text_at c.args.name.now c.in-Some.text.now c.args.texts.now c.args.number c.len.ensures.table (sym c.in-Some.ensures.text))

pub returns-in-None : goal.returns-in-None
returns-in-None c = sym (no_text c.args.name.now c.args.texts.now c.args.number (sym c.in-None.ensures.text))
