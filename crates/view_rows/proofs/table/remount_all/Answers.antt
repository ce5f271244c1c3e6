use Rattle.std.proofs.Common.{◌<◌, ◌+◌, ◌++◌, length, map, take, drop, ap, ◌∙◌, arith}
use Rattle.std.proofs.lemmas.List.{length-map}
use Rattle.view_slots.specs.Seen.{seen_by}
use Rattle.view_rows.specs.Listed.{row_again}
use Rattle.view_rows.specs.Parts.{rows_in, with_row}
use Rattle.view_rows.proofs.RowLemmas.{within, set-length, change-more}
use Rattle.view_rows.proofs.table.remount_all.Goals as goal

pub loop-i-preserved : goal.loop-i-preserved
loop-i-preserved c =
    let f = row_again (seen_by c.args.sight.now) c.args.items.now in
    let xs = rows_in c.loop-i.table in
    let i = c.loop-i.i in
    let lies : i < length xs = grind (arith, c.loop-i.invariant.len, c.loop-i-test.true, c.len-i-end.ensures.len, length-map c.args.table.now.entries with_row) in
    let x = within xs i lies in
    let new = c.remount_at.ensures x.0 x.1 in
    record {
      rows = ap (λ l. take (i + 1) l ++ map f (drop (i + 1) l)) new ∙ change-more f xs i x.0 x.1 ∙ c.loop-i.invariant.rows;
      len = ap length new ∙ set-length xs i (f x.0) ∙ c.loop-i.invariant.len;
    }
