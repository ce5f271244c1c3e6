use Rattle.std.proofs.Common.{◌≡◌, None, Some, arith}
use Rattle.values.specs.Texts.{index_of}
use Rattle.std.proofs.lemmas.Grind.{common_steps}
use Rattle.script_draft.proofs.Added.{in_base, in_added, in_neither, within_both}
use Rattle.script_draft.proofs.texts.ScriptTexts.find.Goals as goal

pub returns-in-Some : goal.returns-in-Some
returns-in-Some c = grind (arith, common_steps, in_base c.args.text.now c.self.inside.base.now c.self.inside.added c.in-Some.number)

pub returns-in_err-number : goal.returns-in_err-number
returns-in_err-number c = grind (arith, common_steps, in_neither c.args.text.now c.self.inside.base.now c.self.inside.added c.self.invariant)

pub overflow_cast-result : goal.overflow_cast-result
overflow_cast-result c =
    let none : index_of c.args.text.now c.self.inside.base.now ≡ None = grind (arith, common_steps) in
    let there : index_of c.args.text.now c.self.inside.added ≡ Some c.in_ok-number.number = grind (arith, common_steps) in
    omega (arith, within_both c.args.text.now c.self.inside.base.now c.self.inside.added _ c.self.invariant (in_added c.args.text.now c.self.inside.base.now c.self.inside.added c.in_ok-number.number c.self.invariant none there), c.len.ensures.count)

pub returns : goal.returns
returns c =
    let none : index_of c.args.text.now c.self.inside.base.now ≡ None = grind (arith, common_steps) in
    let there : index_of c.args.text.now c.self.inside.added ≡ Some c.in_ok-number.number = grind (arith, common_steps) in
    let found = in_added c.args.text.now c.self.inside.base.now c.self.inside.added c.in_ok-number.number c.self.invariant none there in
    grind (arith, common_steps, found)
