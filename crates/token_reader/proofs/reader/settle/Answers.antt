use Rattle.std.proofs.Common.{◌<◌, ◌∷◌, ◌++◌, sym, ◌∙◌, ap, subst}
use Rattle.token_reader.specs.Reading.{Settles, here, action}
use Rattle.token_reader.specs.Effort.{effort}
use Rattle.token_reader.proofs.Effort.{less_action}
use Rattle.token_reader.proofs.Leading.{settles_rule, less_expansion}
use Rattle.token_reader.proofs.reader.settle.Goals as goal

pub loop-symbol-init : goal.loop-symbol-init
loop-symbol-init g c = λ bytes. here

pub loop-symbol-preserved-in-Continue-1 : goal.loop-symbol-preserved-in-Continue-1
loop-symbol-preserved-in-Continue-1 g c =
    let rules = g.S.TextState.rules in
    let popped = c.in-Some.ensures ∙ ap (λ top. top ∷ c.pop.new.self) c.in-Rule.is in
    λ bytes.
    subst (λ l. Settles rules bytes c.args.token c.args.stack.now c.args.state.now l c.loop-symbol.state) (sym c.in_ok-push_all-in-Rule.ensures)
    (settles_rule rules c.args.token bytes c.args.stack.now c.args.state.now c.in-Rule.rule c.expansion.result.now c.pop.new.self c.loop-symbol.state c.expansion.ensures
    (subst (λ l. Settles rules bytes c.args.token c.args.stack.now c.args.state.now l c.loop-symbol.state) popped (c.loop-symbol.invariant bytes)))

pub loop-symbol-preserved : goal.loop-symbol-preserved
loop-symbol-preserved g c =
    let rules = g.S.TextState.rules in
    let popped = c.in-Some.ensures ∙ ap (λ top. top ∷ c.pop.new.self) c.in-Action.is in
    λ bytes.
    subst (λ a. Settles rules bytes c.args.token c.args.stack.now c.args.state.now c.pop.new.self a) (sym (c.in_ok-perform-in-Action.ensures bytes))
    (action (subst (λ l. Settles rules bytes c.args.token c.args.stack.now c.args.state.now l c.loop-symbol.state) popped (c.loop-symbol.invariant bytes)))

pub loop-symbol-smaller-in-Continue-1 : goal.loop-symbol-smaller-in-Continue-1
loop-symbol-smaller-in-Continue-1 g c =
    let rules = g.S.TextState.rules in
    let popped = c.in-Some.ensures ∙ ap (λ top. top ∷ c.pop.new.self) c.in-Rule.is in
    let less = less_expansion rules c.args.token g.met.S.TextState.readable c.in-Rule.rule c.expansion.result.now c.pop.new.self c.expansion.ensures in
    subst (λ l. effort rules l < effort rules c.loop-symbol.stack) (sym c.in_ok-push_all-in-Rule.ensures)
    (subst (λ l. effort rules (c.expansion.result.now ++ c.pop.new.self) < effort rules l) (sym popped) less)

pub loop-symbol-smaller : goal.loop-symbol-smaller
loop-symbol-smaller g c =
    let rules = g.S.TextState.rules in
    let popped = c.in-Some.ensures ∙ ap (λ top. top ∷ c.pop.new.self) c.in-Action.is in
    let less = less_action rules g.met.S.TextState.readable c.in-Action.action c.pop.new.self in
    subst (λ l. effort rules c.pop.new.self < effort rules l) (sym popped) less

pub perform-requires : goal.perform-requires
perform-requires g c = c.requires.room c.loop-symbol.stack c.loop-symbol.state (c.loop-symbol.invariant c.args.lexer.now.text)
