use Rattle.std.proofs.Common.{sym}
use Rattle.component_meaning.specs.State.{open_attrs}
use Rattle.component_tags.proofs.Whole.{no_attribute}
use Rattle.component_tags.proofs.tags.has_attribute.Goals as goal

pub returns-in-None : goal.returns-in-None
returns-in-None c = rw (← c.draft.view_is) (sym (no_attribute c.draft.inside.spelling.bytes c.draft.inside.texts (open_attrs c.draft.inside.blocks.opened) (sym (rw c.as_str.ensures at c.in-None.ensures))))
