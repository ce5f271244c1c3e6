use Rattle.std.proofs.Common.{◌≡◌, ◌++◌, map, drop, true}
use Rattle.plan_lines.proofs.keyed.put_field_flags.Given as goal

abbrev pub invariant-loop : goal.invariant-loop
invariant-loop l = l.flags.items ++ map (λ field. true) (drop l.index l.fields) ≡ l.initial.flags.items ++ map (λ f. true) l.fields
