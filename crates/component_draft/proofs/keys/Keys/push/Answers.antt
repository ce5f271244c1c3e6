use Rattle.std.proofs.Common.{◌≡◌, ◌∙◌, rules}
use Rattle.values.specs.declared.code.Code.{Code}
use Rattle.values.specs.contracts.code.CodePartialEq.TheImpl as code
use Rattle.values.specs.Evaluation.{is_same}
use Rattle.component_draft.proofs.KeyLemmas.{among_more}
use Rattle.component_draft.proofs.keys.Keys.push.Goals as goal

eq_is : (a b : Code) → (code.ghosts).eq a b ≡ is_same a b
eq_is a b = search rules

pub invariant_of-self-in_default : goal.invariant_of-self-in_default
invariant_of-self-in_default c =
    λ key. let more = among_more key c.args.key c.self.inside.keys.items _ (c.self.invariant key) in
    rw c.in_ok-push.ensures.items (c.in_default.ensures.updates.0 key ∙ rw eq_is more)
