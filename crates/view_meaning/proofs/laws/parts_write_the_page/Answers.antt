use Rattle.view_meaning.proofs.Writes.{page_written}
use Rattle.view_meaning.proofs.laws.parts_write_the_page.Goals as goal

pub returns : goal.returns
returns c = page_written
