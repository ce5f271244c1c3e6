use Rattle.held_rows.proofs.Shows.{shows_written}
use Rattle.held_rows.proofs.laws.rows_show_what_was_written.Goals as goal

pub returns : goal.returns
returns c component state es values kept is latest = shows_written component state kept is values es latest
