use Rattle.view_meaning.proofs.Cells.{mounted_writes, held_written, shown_written}
use Rattle.view_meaning.proofs.laws.views_write_the_page.Goals as goal

pub returns-clause-seen : goal.returns-clause-seen
returns-clause-seen c = mounted_writes

pub returns-clause-held : goal.returns-clause-held
returns-clause-held c = held_written

pub returns-clause-shown : goal.returns-clause-shown
returns-clause-shown c = shown_written
