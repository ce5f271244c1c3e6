use Rattle.std.proofs.Common.{◌≡◌, sym, ap}
use Rattle.store_fields.specs.Edits.{KeyedRows}
use Rattle.held_state.proofs.OfComponent.{rows_are_of}
use Rattle.node_plan.proofs.StoreFits.{fit, differ}
use Rattle.node_plan.proofs.tests.insert.Goals as goal

pub returns : goal.returns
returns c =
    let before = c.in-Some.rows.now in
    let store = c.edit.new.self in
    let max : store.max ≡ before.max = ap (λ (s : KeyedRows). s.max) c.edit.ensures.same in
    let width : store.width ≡ before.width = ap (λ (s : KeyedRows). s.width) c.edit.ensures.same in
    rows_are_of c.args._component.now c.args.held.now 0 before store c.requires (sym c.in-Some.ensures.value) max width (fit store before max width c.count.ensures.few c.count.ensures.wide) (differ store.rows c.count.ensures.distinct)
