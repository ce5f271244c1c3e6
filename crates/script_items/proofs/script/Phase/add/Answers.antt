use Rattle.std.proofs.Common.{◌-◌, ◌++◌, ◌∷◌, [], ◌≡◌, ◌+◌, length, arith}
use Rattle.std.proofs.lemmas.Grind.{common_steps}
use Rattle.script_items.proofs.ScriptLemmas.{at_last-set}
use Rattle.script_items.proofs.script.Phase.add.Goals as goal

pub returns-clause-added : goal.returns-clause-added
returns-clause-added c =
    let lanes = c.self.inside.lanes.items in
    let at = c.len-last.result - 1 in
    let some : length lanes ≡ at + 1 = grind arith in
    let last = at_last-set (λ ops. ops ++ c.args.op ∷ []) lanes at c.index_mut-lane.result.now some (grind arith) in
    grind (arith, common_steps)
