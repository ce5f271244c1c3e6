use Rattle.held_rows.proofs.Shows.{shows_held}
use Rattle.held_rows.proofs.laws.rows_show_what_is_held.Goals as goal

pub returns : goal.returns
returns c component state values kept is shown row w k code at says = shows_held component state kept is values shown row w k code at says
