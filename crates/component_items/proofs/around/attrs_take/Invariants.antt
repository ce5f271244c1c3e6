use Rattle.std.proofs.Common.{◌≡◌, ◌==◌, drop}
use Rattle.std.specs.List.{find}
use Rattle.component_items.specs.Around.{Around, listed_attrs}
use Rattle.component_items.proofs.around.attrs_take.Given as goal

abbrev pub invariant-loop-attr : goal.invariant-loop-attr
invariant-loop-attr l = (around : Around) → find (λ x. x.id == l.id) (listed_attrs around l.attrs) ≡ find (λ x. x.id == l.id) (listed_attrs around (drop l.attr-index l.attrs))
