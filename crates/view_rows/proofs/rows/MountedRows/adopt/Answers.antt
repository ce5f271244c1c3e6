use Rattle.std.proofs.Common.{sym, ap, ◌∙◌}
use Rattle.store_fields.specs.Edits.{keys}
use Rattle.view_rows.specs.Listed.{Listed, rows_planned, rows_arranged, serials_of}
use Rattle.view_rows.proofs.SerialLemmas.{serials-arranged}
use Rattle.view_rows.proofs.rows.MountedRows.adopt.Goals as goal

pub returns-clause-serials : goal.returns-clause-serials
returns-clause-serials c = λ base width is.
    let ks = keys c.args.rows.now.rows in
    let plan = c.plan.view_is ∙ is ∙ ap (λ l. rows_planned base width l ks) (sym c.self.view_is) in
    let rows = c.adopt.ensures base width c.self.inside.next (ap (λ (l : Listed). l.rows) plan) in
    let next = ap (λ (l : Listed). l.next) plan in
    ap serials_of ((λ i. record { rows = rows i; next = next i }) ∙ ap (λ l. rows_arranged base width l ks) c.self.view_is)
    ∙ sym (serials-arranged base width c.args.self.now ks)
