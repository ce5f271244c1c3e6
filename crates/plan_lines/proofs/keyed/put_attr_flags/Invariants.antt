use Rattle.std.proofs.Common.{◌≡◌, ◌++◌, map, drop}
use Rattle.std.specs.List.{flat_map}
use Rattle.plain_evaluation.specs.Keyed.{keyed_attr}
use Rattle.plan_lines.proofs.keyed.put_attr_flags.Given as goal

abbrev pub invariant-loop-attr : goal.invariant-loop-attr
invariant-loop-attr l = l.flags.items ++ map (λ p. p.1) (flat_map (keyed_attr l.inside) (drop l.attr-index l.attrs)) ≡ l.initial.flags.items ++ map (λ p. p.1) (flat_map (keyed_attr l.inside) l.attrs)
