use Rattle.std.proofs.Common.{◌∙◌}
use Rattle.phase_graph.proofs.Steps.{get_ok, get_full}
use Rattle.phase_graph.proofs.Tables.{stirred_table, stirred_kept}
use Rattle.phase_graph.proofs.table.Table.value.Goals as goal

pub fill-requires-clause-table : goal.fill-requires-clause-table
fill-requires-clause-table c = stirred_table c.args.self.now c.look_up.new.self c.requires.table c.look_up.ensures.stirred

pub fill-requires-clause-open : goal.fill-requires-clause-open
fill-requires-clause-open c = c.look_up.ensures.stirred.step.since.in_phase ∙ c.requires.open

pub returns-in-Ok-clause-kept : goal.returns-in-Ok-clause-kept
returns-in-Ok-clause-kept c = stirred_kept c.args.self.now c.look_up.new.self c.requires.table c.look_up.ensures.stirred

pub returns-in-Ok-clause-call : goal.returns-in-Ok-clause-call
returns-in-Ok-clause-call c = λ pass. get_ok c.args.self.now c.look_up.new.self pass c.args.node c.requires.live.0 c.requires.table c.requires.open c.requires.live.1 c.look_up.ensures.stirred c.in-Ok.answer c.requires.row c.in-Ok.ensures.answered

pub returns-in-Err-clause-call : goal.returns-in-Err-clause-call
returns-in-Err-clause-call c = λ pass. get_full c.args.self.now c.look_up.new.self pass c.args.node c.requires.live.0 c.requires.table c.requires.open c.requires.live.1 c.look_up.ensures.stirred c.fill.new.self c.fill.result c.in-Err.ensures.left c.fill.ensures.filled
