use Rattle.script_items.proofs.MembersLemmas.{ids_within, owners_within}
use Rattle.script_items.proofs.laws.members_are_within.Goals as goal

pub returns-clause-ids : goal.returns-clause-ids
returns-clause-ids c = ids_within

pub returns-clause-owners : goal.returns-clause-owners
returns-clause-owners c = owners_within
