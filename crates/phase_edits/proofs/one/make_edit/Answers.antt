use Rattle.std.proofs.Common.{sym}
use Rattle.phase_edits.proofs.Fits.{edited_is_of}
use Rattle.phase_edits.proofs.one.make_edit.Goals as goal

pub returns-in-Some-clause-fits : goal.returns-in-Some-clause-fits
returns-in-Some-clause-fits c =
    let e = c.edit_rows.ensures in
    edited_is_of c.edit_rows.result c.args.held.now c.args.edit.now.store c.in-Some.rows.now c.edit_rows.new.rows (sym c.in-Some.ensures.value) e.same e.few e.wide e.distinct
