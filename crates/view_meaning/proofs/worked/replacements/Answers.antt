use Rattle.plain_evaluation.specs.Place.{outside}
use Rattle.view_meaning.specs.Mounted.{with_parts, nothing_mounted, written_of}
use Rattle.view_meaning.specs.Worked.{seen_of, unmoved, moved, parity, parity_held}
use Rattle.view_meaning.proofs.Computed.{parity_parts}
use Rattle.view_meaning.proofs.worked.replacements.Goals as goal

pub returns-clause-moved : goal.returns-clause-moved
returns-clause-moved c = λ i. written_of (with_parts (parity_parts 3 i) (seen_of parity (parity_held 3) (moved 2)) (with_parts (parity_parts 1 i) (seen_of parity (parity_held 1) unmoved) nothing_mounted)) (outside 2)

pub returns-clause-stayed : goal.returns-clause-stayed
returns-clause-stayed c = λ i. written_of (with_parts (parity_parts 3 i) (seen_of parity (parity_held 3) (moved 2)) (with_parts (parity_parts 1 i) (seen_of parity (parity_held 1) unmoved) nothing_mounted)) (outside 3)
