use Rattle.std.proofs.Common.{sym, ap, ◌∙◌}
use Rattle.std.specs.Option.{option_map}
use Rattle.view_rows.specs.Listed.{Row, Listed, row_with}
use Rattle.view_rows.specs.Parts.{row_of}
use Rattle.view_rows.proofs.RowLemmas.{at_key, lookup-rows}
use Rattle.view_rows.proofs.rows.MountedRows.serial.Goals as goal

pub returns-in-Some : goal.returns-in-Some
returns-in-Some c =
    let es = c.self.inside.rows.entries in
    sym (ap (option_map (λ (row : Row). row.0)) (lookup-rows c.args.key es ∙ ap (option_map row_of) (sym (at_key c.args.key es) ∙ sym c.in-Some.ensures.value)))
    ∙ ap (λ (l : Listed). option_map (λ (row : Row). row.0) (row_with l c.args.key)) c.self.view_is

pub returns-in-None : goal.returns-in-None
returns-in-None c =
    let es = c.self.inside.rows.entries in
    sym (ap (option_map (λ (row : Row). row.0)) (lookup-rows c.args.key es ∙ ap (option_map row_of) (sym (at_key c.args.key es) ∙ sym c.in-None.ensures.value)))
    ∙ ap (λ (l : Listed). option_map (λ (row : Row). row.0) (row_with l c.args.key)) c.self.view_is
