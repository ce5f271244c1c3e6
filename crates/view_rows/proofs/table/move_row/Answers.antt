use Rattle.std.proofs.Common.{None, map, slice_set, unwrap_or, cond, sym, ap, ◌∙◌}
use Rattle.std.specs.Map.{lookup}
use Rattle.std.specs.Option.{option_map}
use Rattle.values.specs.contracts.code.CodePartialEq.TheImpl.{ghosts as codes}
use Rattle.store_fields.proofs.KeyLemmas.{eq_is_same}
use Rattle.view_rows.specs.Parts.{row_of, with_row}
use Rattle.view_rows.proofs.RowLemmas.{at_key, lookup-rows, value-set, set-same}
use Rattle.view_rows.proofs.table.move_row.Goals as goal

pub returns-in-Some-clause-moved : goal.returns-in-Some-clause-moved
returns-in-Some-clause-moved c = λ row is.
    let es = c.args.table.now.entries in
    let found = lookup-rows c.args.key es ∙ ap (option_map row_of) (sym (at_key c.args.key es) ∙ sym c.swap_remove.ensures.value ∙ c.in-Some.is) in
    value-set c.args.arranged.now.entries c.args.place c.args.key row c.in-Some.part is
    ∙ ap (λ o. slice_set (map with_row c.args.arranged.now.entries) c.args.place (c.args.key, unwrap_or o row)) (sym found)

pub returns-in-Some-clause-others : goal.returns-in-Some-clause-others
returns-in-Some-clause-others c = λ q h.
    let old = c.args.table.now.entries in
    let new = c.swap_remove.new.self.entries in
    lookup-rows q new
    ∙ ap (option_map row_of) (sym (at_key q new) ∙ c.swap_remove.ensures.updates.0 q ∙ ap (λ b. cond b None (lookup (codes.eq q) old)) (eq_is_same c.args.key q ∙ h) ∙ at_key q old)
    ∙ sym (lookup-rows q old)

pub returns-in_default-clause-moved : goal.returns-in_default-clause-moved
returns-in_default-clause-moved c = λ row is.
    let es = c.args.table.now.entries in
    let none = lookup-rows c.args.key es ∙ ap (option_map row_of) (sym (at_key c.args.key es) ∙ sym c.swap_remove.ensures.value ∙ c.in_default.is) in
    sym (set-same (map with_row c.args.arranged.now.entries) c.args.place (c.args.key, row) is)
    ∙ ap (λ o. slice_set (map with_row c.args.arranged.now.entries) c.args.place (c.args.key, unwrap_or o row)) (sym none)
