use Rattle.std.proofs.Common.{◌≡◌, ◌<◌, None, length, arith}
use Rattle.std.proofs.lemmas.Grind.{common_steps}
use Rattle.values.specs.Texts.{index_of, with_text}
use Rattle.script_draft.specs.Named.{both}
use Rattle.script_draft.proofs.Added.{IsAdded-with, both-with, number_with-added, few_both}
use Rattle.script_draft.proofs.texts.ScriptTexts.add.Goals as goal

pub invariant_of-self-2 : goal.invariant_of-self-2
invariant_of-self-2 c =
    let base = c.self.inside.base.now in
    let added = c.self.inside.added in
    let none : index_of c.args.text.now (both base added) ≡ None = grind (arith, common_steps) in
    let few : length (both base added) < 65536 = few_both base added c.self.invariant (grind (arith, common_steps)) in
    IsAdded-with c.args.text.now base added c.add.new.self c.self.invariant none (grind (arith, common_steps)) few c.utf8.text

pub returns-clause-table : goal.returns-clause-table
returns-clause-table c =
    let base = c.self.inside.base.now in
    let added = c.self.inside.added in
    let none : index_of c.args.text.now (both base added) ≡ None = grind (arith, common_steps) in
    let adds : c.add.new.self ≡ with_text c.args.text.now added = grind (arith, common_steps) in
    let now = both-with c.args.text.now base added c.add.new.self c.self.invariant none adds in
    grind (arith, common_steps, now)

pub returns-clause-number : goal.returns-clause-number
returns-clause-number c =
    let base = c.self.inside.base.now in
    let added = c.self.inside.added in
    let none : index_of c.args.text.now (both base added) ≡ None = grind (arith, common_steps) in
    let number = number_with-added c.args.text.now base added c.add.new.self c.self.invariant none (grind (arith, common_steps)) in
    grind (arith, common_steps, number)
