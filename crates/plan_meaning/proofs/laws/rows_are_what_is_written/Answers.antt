use Rattle.plan_meaning.proofs.Rows.{length_rows, among_row, row_among, sources_first}
use Rattle.plan_meaning.proofs.laws.rows_are_what_is_written.Goals as goal

pub returns-clause-as_many : goal.returns-clause-as_many
returns-clause-as_many c = length_rows

pub returns-clause-there : goal.returns-clause-there
returns-clause-there c = among_row

pub returns-clause-no_others : goal.returns-clause-no_others
returns-clause-no_others c = row_among

pub returns-clause-sources_first : goal.returns-clause-sources_first
returns-clause-sources_first c = sources_first
