use Rattle.load_table.proofs.Pending.{load_has_row, row_has_load}
use Rattle.load_table.proofs.laws.loads_have_rows.Goals as goal

pub returns-clause-row : goal.returns-clause-row
returns-clause-row c = load_has_row

pub returns-clause-load : goal.returns-clause-load
returns-clause-load c = row_has_load
