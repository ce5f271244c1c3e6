use Rattle.plain_evaluation.specs.Place.{of_row}
use Rattle.plain_evaluation.specs.Rows.{number, chosen, chosen_held}
use Rattle.view_meaning.specs.Mounted.{with_parts, nothing_mounted, written_of}
use Rattle.view_meaning.specs.Worked.{seen_of, unmoved, moved}
use Rattle.view_meaning.proofs.Computed.{chosen_on_parts, chosen_off_parts}
use Rattle.view_meaning.proofs.worked.branches.Goals as goal

pub returns-clause-on : goal.returns-clause-on
returns-clause-on c = chosen_on_parts

pub returns-clause-off : goal.returns-clause-off
returns-clause-off c = chosen_off_parts

pub returns-clause-replaced : goal.returns-clause-replaced
returns-clause-replaced c = λ i. written_of (with_parts (chosen_on_parts i) (seen_of chosen (chosen_held 1) (moved 8)) (with_parts (chosen_on_parts i) (seen_of chosen (chosen_held 1) unmoved) nothing_mounted)) (of_row 8 (number 2))

pub returns-clause-gone : goal.returns-clause-gone
returns-clause-gone c = λ i. written_of (with_parts (chosen_off_parts i) (seen_of chosen (chosen_held 0) (moved 8)) (with_parts (chosen_on_parts i) (seen_of chosen (chosen_held 1) (moved 8)) (with_parts (chosen_on_parts i) (seen_of chosen (chosen_held 1) unmoved) nothing_mounted))) (of_row 8 (number 2))

pub returns-clause-afresh : goal.returns-clause-afresh
returns-clause-afresh c = λ i. written_of (with_parts (chosen_on_parts i) (seen_of chosen (chosen_held 1) (moved 8)) (with_parts (chosen_off_parts i) (seen_of chosen (chosen_held 0) (moved 8)) (with_parts (chosen_on_parts i) (seen_of chosen (chosen_held 1) (moved 8)) (with_parts (chosen_on_parts i) (seen_of chosen (chosen_held 1) unmoved) nothing_mounted)))) (of_row 8 (number 2))

pub returns-clause-rows : goal.returns-clause-rows
returns-clause-rows c = λ i. (with_parts (chosen_on_parts i) (seen_of chosen (chosen_held 1) unmoved) (with_parts (chosen_off_parts i) (seen_of chosen (chosen_held 0) unmoved) (with_parts (chosen_on_parts i) (seen_of chosen (chosen_held 1) unmoved) nothing_mounted))).rows 6
