use Rattle.std.proofs.Common.{◌-◌, ◌++◌, ◌∷◌, [], ◌≡◌, ◌+◌, length, arith}
use Rattle.std.proofs.lemmas.Grind.{common_steps}
use Rattle.script_items.proofs.ScriptLemmas.{at_last-set}
use Rattle.script_items.proofs.script.Script.begin_lane.Goals as goal

pub returns-clause-begun : goal.returns-clause-begun
returns-clause-begun c =
    let phases = c.self.inside.phases.items in
    let at = c.len-last.result - 1 in
    let some : length phases ≡ at + 1 = grind arith in
    let last = at_last-set (λ lanes. lanes ++ [] ∷ []) phases at c.index_mut-phase.result.now some (grind arith) in
    grind (arith, common_steps)
