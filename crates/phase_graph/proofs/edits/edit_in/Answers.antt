use Rattle.std.proofs.Common.{ℕ, Ok, Err, subst}
use Rattle.phase_graph.specs.Table.{MakesEdit}
use Rattle.phase_graph.proofs.edits.edit_in.Goals as goal

pub returns-in-Ok-clause-call : goal.returns-in-Ok-clause-call
returns-in-Ok-clause-call c = subst (λ (n : ℕ). MakesEdit c.args.table.now c.edit.new.self c.args.pass c.args.owner n c.args.asked (Ok c.in-Ok.number)) c.len-index.ensures (c.in-Ok.ensures.call c.args.asked)

pub returns-in-Err-clause-call : goal.returns-in-Err-clause-call
returns-in-Err-clause-call c = subst (λ (n : ℕ). MakesEdit c.args.table.now c.edit.new.self c.args.pass c.args.owner n c.args.asked (Err c.in-Err.why)) c.len-index.ensures (c.in-Err.ensures.call c.args.asked)
