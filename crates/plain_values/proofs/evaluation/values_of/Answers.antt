use Rattle.std.proofs.Common.{◌≡◌, if◌then◌else◌, Bool, None, ap, ◌∙◌}
use Rattle.plain_evaluation.specs.Keyed.{is_keyed}
use Rattle.plain_evaluation.specs.Place.{of_row}
use Rattle.plain_evaluation.specs.Scratch.{Values, no_values}
use Rattle.plain_evaluation.specs.Written.{state_of}
use Rattle.plan_lines.specs.Flags.{flag_at}
use Rattle.plain_values.specs.Evaluated.{after_items}
use Rattle.plain_values.specs.Pairs.{pairs_of}
use Rattle.plain_values.specs.Seen.{values_seen}
use Rattle.plain_values.proofs.SameValues.{same_values}
use Rattle.plain_values.proofs.evaluation.values_of.Goals as goal
use Rattle.plain_values.proofs.evaluation.values_of.Goals.{then-is_live+in_ok-items, else-is_live}

pub returns : goal.returns
returns c =
    let whole : Values = after_items (record { state = state_of c.args.held.now.held; keyed = is_keyed c.args.component.now; by_key = λ id key. pairs_of c.args.component.now.items (of_row id key) }) c.args.component.now.items None no_values in
    let keyed : flag_at c.as_slice.result.now ≡ is_keyed c.args.component.now = ap flag_at c.as_slice.ensures.value ∙ c.in_ok-keyed.ensures in
    let pairs : values_seen c.in_ok-pairs.pairs ≡ pairs_of c.args.component.now.items = c.in_ok-pairs.ensures ∙ ap pairs_of c.items-items.ensures.items in
    let done : after_items (record { state = state_of c.args.held.now.held; keyed = flag_at c.as_slice.result.now; by_key = λ id key. values_seen c.in_ok-pairs.pairs (of_row id key) }) c.items-items.result.now None (values_seen c.in_ok-values.values) ≡ whole = λ i. after_items (record { state = state_of c.args.held.now.held; keyed = keyed i; by_key = λ id key. pairs i (of_row id key) }) (c.items-items.ensures.items i) None (c.in_ok-values.ensures i) in
    elim c.if-is_live.branch [
      | then-is_live+in_ok-items w ↦ ap values_seen w.values-is ∙ w.in_ok-items.ensures ∙ done ∙ ap (λ (live : Bool). if live then whole else no_values) w.if-is_live.ensures ∙ same_values c.args.component.now c.args.held.now.held
      | else-is_live w ↦ ap values_seen w.values-is ∙ c.in_ok-values.ensures ∙ ap (λ (live : Bool). if live then whole else no_values) w.if-is_live.ensures ∙ same_values c.args.component.now c.args.held.now.held
    ]
