use Rattle.std.proofs.Common.{◌∙◌, ap}
use Rattle.std.specs.Prelude.{replicate}
use Rattle.run_journal.specs.Journal.{no_counts}
use Rattle.still_graph.specs.Still.{StillState}
use Rattle.still_graph.proofs.Stays.{ends}
use Rattle.still_graph.proofs.still.Still.end.Goals as goal

pub invariant_of-self : goal.invariant_of-self
invariant_of-self c = (ends _ c.self.inside.journal.spare c.push.new.self.spare c.end-entries.new.self c.push.new.self.phases c.base-base.result c.end-entries.result (replicate c.passes-counted.result no_counts) c.self.invariant.0 (ap (λ (x : StillState). x.stage) c.self.view_is ∙ c.requires.«open») c.end-entries.ensures.closed c.push.ensures c.end-entries.ensures.entries, c.self.invariant.1, c.self.invariant.2)
