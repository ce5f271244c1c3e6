use Rattle.std.proofs.Common.{◌≡◌, ◌++◌, drop}
use Rattle.plain_evaluation.specs.Keyed.{items_keyed}
use Rattle.plan_lines.specs.Flags.{flags_of}
use Rattle.plan_lines.proofs.keyed.+flags.Given as goal

abbrev pub invariant-put_flags-loop-item : goal.invariant-put_flags-loop-item
invariant-put_flags-loop-item l = l.flags.items ++ flags_of (items_keyed (drop l.item-index l.items) l.inside) ≡ l.initial.flags.items ++ flags_of (items_keyed l.items l.inside)
