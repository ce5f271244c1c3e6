use Rattle.std.proofs.Common.{◌≡◌, ◌≤◌, ◌∷◌, ◌++◌, [], true, length, take, unwrap_or, sym, ap, ◌∙◌, arith}
use Rattle.std.proofs.lemmas.List.{length-map}
use Rattle.store_fields.specs.Edits.{keys}
use Rattle.store_fields.specs.declared.row.Row.{Row as StoreRow}
use Rattle.view_slots.specs.Home.{blank_home}
use Rattle.view_rows.specs.Listed.{counted, count_after, arranged}
use Rattle.view_rows.specs.Parts.{rows_in, with_row}
use Rattle.view_rows.proofs.RowLemmas.{take_one, arranged-snoc, counted-snoc, all_of_it}
use Rattle.view_rows.proofs.table.stands.Goals as goal

pub loop-i-preserved : goal.loop-i-preserved
loop-i-preserved c = λ base width next.
    let rows = rows_in c.args.table.now in
    let ks = keys c.args.rows.now.rows in
    let i = c.loop-i.i in
    let k = c.key_at.result in
    let is = c.key_at.ensures in
    let holds : c.is_at.result ≡ true = c.if-not-is_at.false in
    let at = c.is_at.ensures holds in
    let before = c.loop-i.invariant base width next in (
      ap (λ l. arranged base width rows l next) (take_one ks i k is) ∙ arranged-snoc base width rows (take i ks) k next
          ∙ (λ j. before.0 j ++ (k, unwrap_or (at.1.1 j) (counted rows (take i ks) next, blank_home base width)) ∷ [])
          ∙ sym (take_one rows i (k, at.0) at.1.0),
      ap (λ l. counted rows l next) (take_one ks i k is) ∙ counted-snoc base width rows (take i ks) k next ∙ ap (λ o. count_after o (counted rows (take i ks) next)) at.1.1 ∙ before.1,
    )

pub returns : goal.returns
returns c = λ t base width next.
    let rows = rows_in c.args.table.now in
    let ks = keys c.args.rows.now.rows in
    let i = c.loop-i.i in
    let before = c.loop-i.invariant base width next in
    let long = length-map c.args.rows.now.rows (λ (row : StoreRow). row.key) in
    let over : length ks ≤ i = grind (arith, c.loop-i-test.false, c.count-i-end.ensures.count, long) in
    let more : length rows ≤ i = grind (arith, over, c.if-len-count.false, c.len.ensures.len, c.count.ensures.count, c.count-i-end.ensures.count, long, length-map c.args.table.now.entries with_row) in (
      ap (λ l. arranged base width rows l next) (sym (all_of_it ks i over)) ∙ before.0 ∙ all_of_it rows i more,
      ap (λ l. counted rows l next) (sym (all_of_it ks i over)) ∙ before.1,
    )
