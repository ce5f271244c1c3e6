use Rattle.phase_graph.proofs.EditLemmas.{edit_still_full}
use Rattle.phase_graph.proofs.Steps.{full_kept}
use Rattle.phase_graph.proofs.table.Table.edit_live.Goals as goal

pub returns-in-Some-clause-call : goal.returns-in-Some-clause-call
returns-in-Some-clause-call c = λ asked.
    let f = full_kept c.args.self.now.full c.args.self.now.clock.drawn c.in-Some.number c.in-Some.is c.requires.table.is_full in
    edit_still_full c.args.self.now c.args.self.now c.args.pass c.args.owner c.args.index asked c.in-Some.number c.requires.live f.0 f.1
