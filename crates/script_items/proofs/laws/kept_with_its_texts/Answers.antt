use Rattle.std.proofs.Common.{[], sym, append-nil}
use Rattle.script_items.proofs.laws.kept_with_its_texts.Goals as goal

pub returns : goal.returns
returns c component script texts kept = record { names = kept.names; words = kept.words; few = kept.few; grown = ([], sym (append-nil texts)) }
