use Rattle.phase_graph.proofs.Steps.{set_dead, set_still_full, full_kept, if_none}
use Rattle.phase_graph.proofs.table.Table.set.Goals as goal

pub returns-in-Some-clause-call : goal.returns-in-Some-clause-call
returns-in-Some-clause-call c = λ pass. set_dead c.args.self.now pass c.args.signal c.in-Some.owner c.in-Some.ensures.dead c.args.code

pub returns-in-Some-full-clause-call : goal.returns-in-Some-full-clause-call
returns-in-Some-full-clause-call c = λ pass.
    let live = if_none c.dead_owner.result c.in_default.is c.dead_owner.ensures.live in
    let f = full_kept c.args.self.now.full c.args.self.now.clock.drawn c.in-Some-full.number c.in-Some-full.is c.requires.table.is_full in
    set_still_full c.args.self.now pass c.args.signal live.0 c.in-Some-full.number c.args.code live.1 f.0 f.1
