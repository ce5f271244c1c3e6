use Rattle.std.proofs.Common.{◌≡◌, ◌≤◌, ◌+◌, ◌++◌, suc, Some, length, map, take, drop, slice_get, slice_set, unwrap_or, ap, ◌∙◌, arith}
use Rattle.std.specs.Map.{lookup}
use Rattle.std.specs.Option.{option_map_or}
use Rattle.std.proofs.lemmas.List.{length-map}
use Rattle.values.specs.Evaluation.{is_same}
use Rattle.store_fields.specs.Edits.{keys}
use Rattle.store_fields.specs.declared.row.Row.{Row as StoreRow}
use Rattle.view_slots.specs.Home.{blank_home}
use Rattle.view_rows.specs.Listed.{Row, arranged, planned}
use Rattle.view_rows.specs.Parts.{rows_in, with_row}
use Rattle.view_rows.proofs.RowLemmas.{rows_at, mixed-at, mixed-step, mixed-end, new_key, not_yet, room_or, apart_by_code}
use Rattle.view_rows.proofs.table.adopt.Goals as goal

pub loop-i-preserved : goal.loop-i-preserved
loop-i-preserved c =
    let old = rows_in c.args.table.now in
    let ks = keys c.args.rows.now.rows in
    let i = c.loop-i.i in
    let k = c.key_at.result in
    let is = c.key_at.ensures in
    record {
      rows = λ base width next plan.
          let at = rows_at base width old ks next i k is in
          let a = arranged base width old ks next in
          let p = planned base width old ks next in
          let room : Row = option_map_or (λ known. (0, blank_home 0 0)) (lookup (is_same k) old) (at.serial, blank_home base width) in
          let row : Row = unwrap_or (lookup (is_same k) old) (at.serial, blank_home base width) in
          let before = c.loop-i.invariant.rows base width next plan in
          let found : slice_get (map with_row c.loop-i.arranged.entries) i ≡ Some (k, room) = ap (λ l. slice_get l i) before ∙ mixed-at a p i (k, row) (k, room) at.row at.room in
          let now = c.loop-i.invariant.left k (new_key ks i k (apart_by_code ks c.count-i-end.ensures.distinct) is) in
          c.move_row.ensures.moved room found
          ∙ (λ j. slice_set (before j) i (k, unwrap_or (now j) room))
          ∙ ap (λ r. slice_set (take i a ++ drop i p) i (k, r)) (room_or (lookup (is_same k) old) (0, blank_home 0 0) (at.serial, blank_home base width))
          ∙ mixed-step a p i (k, row) (k, room) at.row at.room
          ∙ ap (λ n. take n a ++ drop n p) {x = suc i} {y = i + 1} (omega arith);
      left = λ q h. let both = not_yet ks i k q is h in c.move_row.ensures.others q both.1 ∙ c.loop-i.invariant.left q both.0;
    }

pub returns : goal.returns
returns c = λ base width next plan.
    let ks = keys c.args.rows.now.rows in
    let over : length ks ≤ c.loop-i.i = grind (arith, c.loop-i-test.false, c.count-i-end.ensures.count, length-map c.args.rows.now.rows (λ (row : StoreRow). row.key)) in
    c.loop-i.invariant.rows base width next plan ∙ mixed-end base width (rows_in c.args.table.now) ks next c.loop-i.i over
