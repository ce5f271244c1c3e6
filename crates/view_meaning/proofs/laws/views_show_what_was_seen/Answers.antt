use Rattle.view_meaning.proofs.Cells.{cell_shows}
use Rattle.view_meaning.proofs.laws.views_show_what_was_seen.Goals as goal

pub returns : goal.returns
returns c = cell_shows
