use Rattle.part_meaning.proofs.Computed as computed
use Rattle.part_meaning.proofs.laws.outcome_is_meaning.Goals as goal

pub returns-clause-read : goal.returns-clause-read
returns-clause-read g c l d bytes last is = computed.computed_read l d bytes last is

pub returns-clause-refused : goal.returns-clause-refused
returns-clause-refused g c l d bytes why is = computed.computed_refusal l d bytes why is
