use Rattle.std.proofs.Common.{◌≤◌, length, arith}
use Rattle.std.proofs.lemmas.List.{length-map}
use Rattle.values.specs.declared.plan.Noted.{Noted}
use Rattle.run_items.specs.declared.limits.TheConstants.{LAST_NUMBER}
use Rattle.run_meaning.specs.Phase.{entry_numbers}
use Rattle.run_meaning.proofs.Bounds.{as_many}
use Rattle.run_meaning.proofs.laws.spent_phases_are_full.Goals as goal

pub returns : goal.returns
returns c p k journal spent =
    let many : LAST_NUMBER ≤ length (entry_numbers p.entries) = as_many LAST_NUMBER 0 (entry_numbers p.entries) journal.in_order (λ n a b. spent.1 n a (omega arith)) in
    let same = length-map p.entries (λ (e : Noted). e.number) in
    omega arith
