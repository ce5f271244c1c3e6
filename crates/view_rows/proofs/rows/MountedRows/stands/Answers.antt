use Rattle.std.proofs.Common.{◌≡◌, ap, subst, ◌∙◌}
use Rattle.store_fields.specs.Edits.{keys}
use Rattle.view_meaning.specs.Serials.{rows_again}
use Rattle.view_rows.specs.Listed.{Listed, serials_of}
use Rattle.view_rows.specs.Parts.{rows_in}
use Rattle.view_rows.proofs.SerialLemmas.{serials-arranged}
use Rattle.view_rows.proofs.rows.MountedRows.stands.Goals as goal

pub returns-clause-serials : goal.returns-clause-serials
returns-clause-serials c = λ holds.
    let ks = keys c.args.rows.now.rows in
    let whole : Listed = record { rows = rows_in c.self.inside.rows; next = c.self.inside.next } in
    let stay = c.stands.ensures holds 0 0 c.self.inside.next in
    subst (λ (l : Listed). rows_again (serials_of l) ks ≡ serials_of l) c.self.view_is (serials-arranged 0 0 whole ks ∙ ap serials_of (λ i. record { rows = stay.0 i; next = stay.1 i }))
