use Rattle.std.proofs.lemmas.Option.{slice_get-get_or}
use Rattle.std.proofs.Common.{◌≡◌, ◌+◌, ◌<◌, ℕ, suc, length, set, refl, sym, ap, ◌∙◌, arith}
use Rattle.values.specs.declared.code.Code.{Code}
use Rattle.values.specs.declared.code.Code.TheVariants.{Empty}
use Rattle.store_fields.specs.declared.row.Row.{Row}
use Rattle.store_fields.specs.Edits.{KeyedRows, with_rows}
use Rattle.sources.specs.Rows.{value_in}
use Rattle.held_rows.specs.Writing.{with_field_shown}
use Rattle.held_rows.proofs.RowWrites.{row_upto, row_done, row_wide, field_next}
use Rattle.held_rows.proofs.Upto.{set_got}
use Rattle.held_rows.proofs.back.write_fields.Goals as goal

pub loop-field-init : goal.loop-field-init
loop-field-init c = record { width = refl; shown = λ place row is same. ap (with_rows c.args.store.now) (sym (set_got c.args.store.now.rows place row is)) }

pub loop-field-preserved : goal.loop-field-preserved
loop-field-preserved c = record {
  width = ap (λ (s : KeyedRows). s.width) c.write_field.ensures ∙ c.loop-field.invariant.width;
  shown = λ place row is same.
      (let wide : length row.fields ≡ c.args.store.now.width = row_wide c.args.store.now.rows c.args.store.now.width place row c.count-count.ensures.wide is in
      let count = c.requires.count in
      let lt = c.loop-field-test.true in
      let below : c.loop-field.field < length row.fields = omega arith in
      let next : suc c.loop-field.field ≡ c.loop-field.field + 1 = omega arith in
      c.write_field.ensures
      ∙ ap (λ (s : KeyedRows). with_rows s (with_field_shown c.args.names.now (value_in c.args.rows.now) (2 + c.args.id + c.loop-field.field) c.args.key c.loop-field.field s.rows)) (c.loop-field.invariant.shown place row is same)
      ∙ ap (λ (k : Code). with_rows c.args.store.now (with_field_shown c.args.names.now (value_in c.args.rows.now) (2 + c.args.id + c.loop-field.field) k c.loop-field.field (set c.args.store.now.rows place (row_upto c.args.names.now (value_in c.args.rows.now) c.args.id c.loop-field.field row)))) (sym same)
      ∙ ap (with_rows c.args.store.now) (field_next c.args.names.now (value_in c.args.rows.now) c.args.id c.args.store.now.rows place row c.loop-field.field _ c.count-count.ensures.distinct is (slice_get-get_or row.fields c.loop-field.field Empty below))
      ∙ ap (λ (n : ℕ). with_rows c.args.store.now (set c.args.store.now.rows place (row_upto c.args.names.now (value_in c.args.rows.now) c.args.id n row))) next);
}

pub returns : goal.returns
returns c = λ place row is same.
    let wide : length row.fields ≡ c.args.store.now.width = row_wide c.args.store.now.rows c.args.store.now.width place row c.count-count.ensures.wide is in
    let count = c.requires.count in
    let le = c.loop-field-test.false in
    let end = c.loop-field.auto.field-end in
    let all : c.loop-field.field ≡ length row.fields = omega arith in
    c.loop-field.invariant.shown place row is same
    ∙ ap (λ (n : ℕ). with_rows c.args.store.now (set c.args.store.now.rows place (row_upto c.args.names.now (value_in c.args.rows.now) c.args.id n row))) all
    ∙ ap (λ (r : Row). with_rows c.args.store.now (set c.args.store.now.rows place r)) (row_done c.args.names.now (value_in c.args.rows.now) c.args.id row)
