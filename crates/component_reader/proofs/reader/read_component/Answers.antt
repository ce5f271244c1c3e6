use Rattle.std.proofs.Common.{◌≡◌, nat_lt, true, false, sym, ap, ◌∙◌}
use Rattle.std.proofs.lemmas.Result.{err_from_is_err_and}
use Rattle.values.specs.declared.limits.TheConstants.{MOST_NODES}
use Rattle.component_items.specs.Counts.{nodes_of}
use Rattle.component_reader.proofs.Outcome.{refused, over, component}
use Rattle.component_reader.proofs.reader.read_component.Goals as goal

pub returns-in_err-state-clause-bad : goal.returns-in_err-state-clause-bad
returns-in_err-state-clause-bad c =
    let p = err_from_is_err_and c.from_residual.result c.from_residual.ensures.1 in
    rw (p.1, p.2) (refused c.args.bytes.now _ c.in_err-state.ensures.bad)

pub returns-then-branch-clause-bad : goal.returns-then-branch-clause-bad
returns-then-branch-clause-bad c =
    let more : nat_lt MOST_NODES (nodes_of c.as_slice.result.now) ≡ true = sym c.in_ok-has_too_many_nodes.ensures ∙ c.if-branch.true in
    rw c.too_many_nodes.ensures (over c.args.bytes.now c.in_ok-state.state c.as_slice.result.now c.in_ok-state.ensures.ok (c.as_slice.ensures ∙ c.finish-texts.ensures.items) more)

pub new-requires : goal.new-requires
new-requires c =
    let few : nat_lt MOST_NODES (nodes_of c.finish-texts.result.1) ≡ false = ap (λ xs. nat_lt MOST_NODES (nodes_of xs)) (sym c.as_slice.ensures) ∙ (sym c.in_ok-has_too_many_nodes.ensures ∙ c.if-branch.false) in
    c.components_are_kept.ensures c.args.bytes.now _ c.requires
    (component c.args.bytes.now c.in_ok-state.state (record { texts = c.finish-texts.result.0; items = c.finish-texts.result.1 }) c.in_ok-state.ensures.ok c.finish-texts.ensures.texts c.finish-texts.ensures.items few)
