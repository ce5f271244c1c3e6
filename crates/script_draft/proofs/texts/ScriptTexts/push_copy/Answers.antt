use Rattle.std.proofs.Common.{◌≡◌, ◌++◌, ◌∷◌, [], None, Some, map, slice_get, arith}
use Rattle.std.specs.String.{string_bytes}
use Rattle.std.proofs.lemmas.Grind.{common_steps}
use Rattle.script_draft.proofs.Added.{copied_next, some_within}
use Rattle.script_draft.proofs.texts.ScriptTexts.push_copy.Goals as goal

pub returns-in_ok-push : goal.returns-in_ok-push
returns-in_ok-push c =
    let there : slice_get c.args.self.now c.args.number ≡ Some c.in-Some.text.now = grind (arith, common_steps) in
    let adds : map string_bytes c.push.new.self.items ≡ map string_bytes c.args.texts.now.items ++ c.in-Some.text.now ∷ [] = grind (arith, common_steps) in
    copied_next (map string_bytes c.args.texts.now.items) (map string_bytes c.push.new.self.items) c.args.self.now c.args.number c.in-Some.text.now there adds

pub returns-in_default : goal.returns-in_default
returns-in_default c =
    let none : slice_get c.args.self.now c.args.number ≡ None = grind (arith, common_steps) in
    absurd (some_within c.args.self.now c.args.number c.requires none)
