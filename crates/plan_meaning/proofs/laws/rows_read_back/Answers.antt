use Rattle.plain_evaluation.specs.Written.{place_of, written_in}
use Rattle.plain_evaluation.proofs.Differ.{places_are_apart}
use Rattle.plan_meaning.proofs.Rows.{are_apart, row_got, row_there, among_has, none_found, not_there}
use Rattle.plan_meaning.proofs.laws.rows_read_back.Goals as goal

pub returns-clause-row : goal.returns-clause-row
returns-clause-row c component state kept fits = are_apart (written_in component state) (places_are_apart component state kept fits)

pub returns-clause-place : goal.returns-clause-place
returns-clause-place c = row_got

pub returns-clause-there : goal.returns-clause-there
returns-clause-there c ws w among = let one = row_there ws (place_of w) (among_has ws w among) in (one.0, one.1)

pub returns-clause-none : goal.returns-clause-none
returns-clause-none c ws p = (none_found ws p, not_there ws p)
