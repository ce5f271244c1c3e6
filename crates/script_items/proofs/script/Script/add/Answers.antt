use Rattle.std.proofs.Common.{◌-◌, ◌++◌, ◌∷◌, [], ◌≡◌, ◌+◌, length, arith}
use Rattle.std.proofs.lemmas.Grind.{common_steps, elements}
use Rattle.script_items.specs.Script.{at_last}
use Rattle.script_items.proofs.ScriptLemmas.{at_last-set, length-at_last}
use Rattle.script_items.proofs.script.Script.add.Goals as goal

pub invariant_of-self : goal.invariant_of-self
invariant_of-self c =
    let same = length-at_last (λ ops. ops ++ c.args.op ∷ []) c.index_mut-phase.result.now in
    let kept : length c.add.new.self ≡ length c.index_mut-phase.result.now = grind arith in
    grind (arith, elements)

pub returns-clause-added : goal.returns-clause-added
returns-clause-added c =
    let phases = c.self.inside.phases.items in
    let at = c.len-last.result - 1 in
    let some : length phases ≡ at + 1 = grind arith in
    let last = at_last-set (λ lanes. at_last (λ ops. ops ++ c.args.op ∷ []) lanes) phases at c.index_mut-phase.result.now some (grind arith) in
    grind (arith, common_steps)
