use Rattle.std.proofs.Common.{◌∷◌, ◌++◌, [], map, take, sym, ap, ◌∙◌}
use Rattle.std.proofs.lemmas.List.{map-append}
use Rattle.std.specs.Map.{lookup, keys_of}
use Rattle.std.specs.Option.{option_map_or}
use Rattle.values.specs.Evaluation.{is_same}
use Rattle.store_fields.specs.Edits.{keys}
use Rattle.view_slots.specs.Home.{blank_home}
use Rattle.view_rows.specs.Listed.{counted, count_after, planned}
use Rattle.view_rows.specs.Parts.{rows_in, with_row}
use Rattle.view_rows.proofs.RowLemmas.{take_one, planned-snoc, counted-snoc, inserted_last, keys_more, apart_by_code}
use Rattle.view_rows.proofs.table.plan_for.Goals as goal

pub loop-i-preserved : goal.loop-i-preserved
loop-i-preserved c =
    let old = rows_in c.args.table.now in
    let ks = keys c.args.rows.now.rows in
    let next = c.args.next in
    let i = c.loop-i.i in
    let k = c.key_at-key.result in
    let is = c.key_at-key.ensures in
    let part = c.in_ok-part.part in
    let last = c.in_ok-insert.ensures.entries ∙ inserted_last c.loop-i.planned.entries ks i k part (apart_by_code ks c.count-i-end.ensures.distinct) c.loop-i.invariant.same is in
    let one = take_one ks i k is in
    record {
      rows =
          ap (map with_row) last
          ∙ map-append with_row c.loop-i.planned.entries ((k, part) ∷ [])
          ∙ (λ j. c.loop-i.invariant.rows j ++ (k, (c.in_ok-part.ensures.row ∙ ap (λ n. option_map_or (λ known. (0, blank_home 0 0)) (lookup (is_same k) old) (n, blank_home c.args.base c.args.width)) c.loop-i.invariant.next) j) ∷ [])
          ∙ sym (planned-snoc c.args.base c.args.width old (take i ks) k next)
          ∙ ap (λ l. planned c.args.base c.args.width old l next) (sym one);
      next = c.in_ok-part.ensures.next ∙ ap (count_after (lookup (is_same k) old)) c.loop-i.invariant.next ∙ sym (counted-snoc c.args.base c.args.width old (take i ks) k next) ∙ ap (λ l. counted old l next) (sym one);
      same = ap keys_of last ∙ keys_more c.loop-i.planned.entries ks i k part c.loop-i.invariant.same is;
    }
