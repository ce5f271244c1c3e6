use Rattle.std.proofs.Common.{Err, refl, subst}
use Rattle.values.specs.declared.plan.Stop.TheVariants as stop
use Rattle.still_rows.specs.declared.clock.Clock.{Clock}
use Rattle.phase_graph.specs.Table.{MakesEdit}
use Rattle.phase_graph.proofs.EditLemmas.{ticked_table, edit_ok, edit_full}
use Rattle.phase_graph.proofs.table.Table.note_edit.Goals as goal

pub returns-in-Ok-clause-kept : goal.returns-in-Ok-clause-kept
returns-in-Ok-clause-kept c =
    let t = c.in-Ok.ensures.ticked in
    record { table = ticked_table c.args.self.now _ c.args.pass c.args.index c.requires.table c.requires.open refl t c.tick.ensures.clock; plan = refl; base = t.base; in_phase = t.in_phase }

pub returns-in-Ok-clause-call : goal.returns-in-Ok-clause-call
returns-in-Ok-clause-call c = λ asked. edit_ok c.args.self.now _ c.args.pass c.args._owner c.args.index asked c.tick.new.self.drawn c.requires.live refl c.in-Ok.ensures.ticked refl

pub returns-in-Err-clause-call : goal.returns-in-Err-clause-call
returns-in-Err-clause-call c = λ asked.
    subst (λ (q : Clock). MakesEdit (record c.args.self.now { clock = q }) c.fill.new.self c.args.pass c.args._owner c.args.index asked (Err (stop.Full c.fill.result))) c.in-Err.ensures.unchanged
    (edit_full (record c.args.self.now { clock = c.tick.new.self }) c.fill.new.self c.args.pass c.args._owner c.args.index asked c.fill.result c.requires.live c.fill.ensures.filled)
