use Rattle.std.proofs.Common.{◌∙◌, ap}
use Rattle.phase_graph.specs.declared.table.Table.{Table}
use Rattle.phase_graph.proofs.table.Table.run_live.Goals as goal

pub returns-in-Err-clause-turned : goal.returns-in-Err-clause-turned
returns-in-Err-clause-turned c = (c.requires.live, record { short = c.try_effect.new.self; stopped = c.in-Err.ensures.came; dirty = c.soil.new.self; dirtied = c.soil.ensures.dirtied; filled = c.fill.ensures.filled; once = (λ kept is. c.fill.ensures.once kept (ap (λ (t : Table). t.full) c.soil.ensures.dirtied.rest ∙ c.in-Err.ensures.came.tried.full ∙ is)) })
