use Rattle.std.proofs.Common.{ap, ◌∙◌}
use Rattle.still_graph.specs.Settling.{all_keep_rows}
use Rattle.still_graph.specs.Still.{StillState}
use Rattle.still_graph.proofs.still.Still.rows_stay.Goals as goal

pub returns : goal.returns
returns c = λ earlier phase journal. c.all_keep.ensures ∙ ap all_keep_rows (c.last_entries.ensures earlier phase (ap (λ (x : StillState). x.journal) c.self.view_is ∙ journal))
