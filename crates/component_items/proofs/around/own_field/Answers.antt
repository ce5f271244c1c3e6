use Rattle.std.proofs.Common.{◌≡◌, ◌+◌, Some, None, sym, ap, ◌∙◌, arith, slice_get, length, refl}
use Rattle.std.specs.Option.{option_map}
use Rattle.std.proofs.lemmas.Option.{slice_get_past, slice_get_read}
use Rattle.component_items.specs.Around.{named}
use Rattle.component_items.specs.Own.{listed_as}
use Rattle.component_items.proofs.AroundLemmas.{fields_before, fields_at}
use Rattle.component_items.proofs.around.own_field.Goals as goal

pub returns-in_err-behind : goal.returns-in_err-behind
returns-in_err-behind c = λ around. fields_before (2 + c.args.own) c.args.id c.args.fields.now around (omega (arith, c.in_err-behind.ensures)) ∙ ap (option_map (listed_as c.args.id around)) (sym c.from_residual.ensures)

pub returns-in_err-field : goal.returns-in_err-field
returns-in_err-field c = λ around. fields_before (2 + c.args.own) c.args.id c.args.fields.now around (omega (arith, c.in_err-field.ensures, c.in_ok-behind.ensures)) ∙ ap (option_map (listed_as c.args.id around)) (sym c.from_residual-in_err-field.ensures)

pub returns-in_err-name : goal.returns-in_err-name
returns-in_err-name c = λ around.
    let none : slice_get c.args.fields.now c.in_ok-field.field ≡ None = slice_get_past c.args.fields.now c.in_ok-field.field c.in_err-name.ensures.lookup.3 in
    fields_at (2 + c.args.own) c.args.id c.in_ok-field.field c.args.fields.now around (omega (arith, c.in_ok-field.ensures, c.in_ok-behind.ensures)) ∙ ap (option_map (λ name. named c.args.id name around)) none ∙ ap (option_map (listed_as c.args.id around)) (sym c.from_residual-in_err-name.ensures)

pub returns : goal.returns
returns c = λ around.
    let some : slice_get c.args.fields.now c.in_ok-field.field ≡ Some c.in_ok-name.name.now = slice_get_read c.args.fields.now (length c.args.fields.now) c.in_ok-field.field c.in_ok-name.name.now refl c.in_ok-name.ensures.lookup.3.0 c.in_ok-name.ensures.lookup.1 in
    fields_at (2 + c.args.own) c.args.id c.in_ok-field.field c.args.fields.now around (omega (arith, c.in_ok-field.ensures, c.in_ok-behind.ensures)) ∙ ap (option_map (λ name. named c.args.id name around)) some
