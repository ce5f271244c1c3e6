use Rattle.std.proofs.Common.{◌≡◌, drop}
use Rattle.std.specs.List.{flat_map}
use Rattle.plain_evaluation.specs.Held.{first_attr}
use Rattle.held_state.specs.Built.{with_more}
use Rattle.held_state.specs.Start.{built}
use Rattle.held_state.proofs.first.Start.put_attrs.Given as goal

abbrev pub invariant-loop-attr : goal.invariant-loop-attr
invariant-loop-attr l = with_more (flat_map first_attr (drop l.attr-index l.attrs)) (built l.self) ≡ with_more (flat_map first_attr l.attrs) (built l.initial.self)
