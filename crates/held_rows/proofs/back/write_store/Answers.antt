use Rattle.std.proofs.lemmas.Option.{slice_get-get_or}
use Rattle.std.proofs.Common.{◌≡◌, ◌+◌, ◌<◌, ℕ, suc, List, [], Some, length, get_or, slice_get, set, ap, ◌∙◌, arith}
use Rattle.values.specs.declared.code.Code.TheVariants.{Empty}
use Rattle.store_fields.specs.declared.row.Row.{Row}
use Rattle.store_fields.specs.Edits.{KeyedRows, with_rows}
use Rattle.sources.specs.Rows.{value_in}
use Rattle.held_rows.specs.Shown.{row_shown}
use Rattle.held_rows.proofs.Upto.{upto, whole-map, upto_got, upto_more, upto_all}
use Rattle.held_rows.proofs.back.write_store.Goals as goal

pub loop-place-preserved : goal.loop-place-preserved
loop-place-preserved c =
    let rows : List Row = c.args.store.now.rows in
    let change : ℕ → Row → Row = λ n row. row_shown c.args.names.now (value_in c.args.rows.now) c.args.id row in
    let count = c.count-place-end.ensures.count in
    let lt = c.loop-place-test.true in
    let below : c.loop-place.place < length c.args.store.now.rows = omega arith in
    let none : Row = record { key = Empty; fields = [] } in
    let got : slice_get rows c.loop-place.place ≡ Some (get_or rows c.loop-place.place none) = slice_get-get_or rows c.loop-place.place none below in
    let here : slice_get c.loop-place.store.rows c.loop-place.place ≡ Some (get_or rows c.loop-place.place none) = ap (λ (s : KeyedRows). slice_get s.rows c.loop-place.place) c.loop-place.invariant ∙ upto_got change 0 c.loop-place.place rows ∙ got in
    let next : suc c.loop-place.place ≡ c.loop-place.place + 1 = omega arith in
    c.write_row.ensures (get_or rows c.loop-place.place none) here
    ∙ ap (λ (s : KeyedRows). with_rows s (set s.rows c.loop-place.place (change 0 (get_or rows c.loop-place.place none)))) c.loop-place.invariant
    ∙ ap (with_rows c.args.store.now) (upto_more change 0 c.loop-place.place rows (get_or rows c.loop-place.place none) got)
    ∙ ap (λ (n : ℕ). with_rows c.args.store.now (upto change 0 n rows)) next

pub returns : goal.returns
returns c =
    let rows : List Row = c.args.store.now.rows in
    let change : ℕ → Row → Row = λ n row. row_shown c.args.names.now (value_in c.args.rows.now) c.args.id row in
    let count = c.count-place-end.ensures.count in
    let le = c.loop-place-test.false in
    let end = c.loop-place.auto.place-end in
    let all : c.loop-place.place ≡ length c.args.store.now.rows = omega arith in
    c.loop-place.invariant
    ∙ ap (λ (n : ℕ). with_rows c.args.store.now (upto change 0 n rows)) all
    ∙ ap (with_rows c.args.store.now) (upto_all change 0 rows ∙ whole-map (row_shown c.args.names.now (value_in c.args.rows.now) c.args.id) 0 rows)
