use Rattle.values.proofs.PackingLemmas.{unpacked-packed, packed-unpacked}
use Rattle.values.proofs.laws.packing_is_undone.Goals as goal

pub returns-clause-value : goal.returns-clause-value
returns-clause-value c = unpacked-packed

pub returns-clause-word : goal.returns-clause-word
returns-clause-word c = packed-unpacked
