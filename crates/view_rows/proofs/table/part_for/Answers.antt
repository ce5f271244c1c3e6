use Rattle.std.proofs.Common.{sym, ap, ◌∙◌}
use Rattle.std.specs.Option.{option_map_or}
use Rattle.view_slots.specs.Home.{blank_home}
use Rattle.view_rows.specs.Listed.{count_after}
use Rattle.view_rows.proofs.RowLemmas.{known, unknown}
use Rattle.view_rows.proofs.table.part_for.Goals as goal

pub returns-then-contains_key-clause-row : goal.returns-then-contains_key-clause-row
returns-then-contains_key-clause-row c =
    let there = known c.args.key c.args.table.now.entries (sym c.contains_key.ensures ∙ c.if-contains_key.true) in
    (λ j. (0, c.none.ensures j)) ∙ ap (λ o. option_map_or (λ known. (0, blank_home 0 0)) o (c.args.next.now, blank_home c.args.base c.args.width)) (sym there.1)

pub returns-then-contains_key-clause-next : goal.returns-then-contains_key-clause-next
returns-then-contains_key-clause-next c =
    let there = known c.args.key c.args.table.now.entries (sym c.contains_key.ensures ∙ c.if-contains_key.true) in
    ap (λ o. count_after o c.args.next.now) (sym there.1)

pub returns-clause-row : goal.returns-clause-row
returns-clause-row c =
    let none = unknown c.args.key c.args.table.now.entries (sym c.contains_key.ensures ∙ c.if-contains_key.false) in
    (λ j. (c.args.next.now, c.in_ok-slots.ensures j)) ∙ ap (λ o. option_map_or (λ known. (0, blank_home 0 0)) o (c.args.next.now, blank_home c.args.base c.args.width)) (sym none)

pub returns-clause-next : goal.returns-clause-next
returns-clause-next c =
    let none = unknown c.args.key c.args.table.now.entries (sym c.contains_key.ensures ∙ c.if-contains_key.false) in
    c.saturating_add.ensures ∙ ap (λ o. count_after o c.args.next.now) (sym none)
