use Rattle.std.proofs.Common.{◌≡◌, ℕ, ◌+◌, drop, List, ap, sym, ◌∙◌, arith}
use Rattle.store_fields.specs.declared.row.Row.{Row}
use Rattle.plain_values.specs.Evaluated.{after_fields, after_rows}
use Rattle.plain_values.specs.Seen.{values_seen}
use Rattle.plain_values.proofs.PlaceLemmas.{drop_at}
use Rattle.plain_values.proofs.rows.put_rows.Goals as goal

pub loop-place-preserved : goal.loop-place-preserved
loop-place-preserved c =
    let cut = drop_at c.args.rows.now.rows c.loop-place.place c.row_at.result.now c.row_at.ensures in
    let first : c.args.store + 2 ≡ 2 + c.args.store = omega arith in
    ap (after_rows c.args.store (drop (c.loop-place.place + 1) c.args.rows.now.rows)) (c.in_ok-put_fields.ensures ∙ ap (λ (id : ℕ). after_fields id c.row_at.result.now.fields c.row_at.result.now.key (values_seen c.loop-place.values)) first)
    ∙ sym (ap (λ (rows : List Row). after_rows c.args.store rows (values_seen c.loop-place.values)) cut)
    ∙ c.loop-place.invariant
