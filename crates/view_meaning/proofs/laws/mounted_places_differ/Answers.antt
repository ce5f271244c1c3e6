use Rattle.plain_evaluation.specs.Page.{view_of}
use Rattle.view_meaning.proofs.Apart.{places_differ}
use Rattle.view_meaning.proofs.Held.{held_keys_differ}
use Rattle.view_meaning.proofs.laws.mounted_places_differ.Goals as goal

pub returns-clause-seen : goal.returns-clause-seen
returns-clause-seen c = λ component view kept keys. places_differ view component kept keys

pub returns-clause-held : goal.returns-clause-held
returns-clause-held c = λ component held kept fits. places_differ (view_of component held) component kept (held_keys_differ component held fits)
