use Rattle.std.proofs.Common.{◌≡◌, ◌==◌, Some, position, ap, ◌∙◌, sym, arith}
use Rattle.std.specs.Option.{option_and_then}
use Rattle.std.proofs.lemmas.Grind.{common_steps}
use Rattle.values.specs.Texts.{index_of}
use Rattle.component_meaning.specs.Names.{bytes_of}
use Rattle.script_meaning.specs.Checks.{fields_of}
use Rattle.script_meaning.specs.Names.{Named}
use Rattle.script_meaning.specs.State.{State}
use Rattle.script_tokens.proofs.paths.field_place.Goals as goal

pub returns-clause-place : goal.returns-clause-place
returns-clause-place c =
    let texts = ap (λ (s : State). s.texts) c.draft.view_is in
    let named = ap (λ (s : State). s.named) c.draft.view_is in
    let there : index_of (bytes_of c.args.lexer.now.text c.args.token) c.args.draft.now.texts ≡ Some c.in_ok-name.name = grind (arith, common_steps, texts) in
    c.place.ensures.place
    ∙ ap (λ (w : Named). position (λ f. f == c.in_ok-name.name) (fields_of w)) named
    ∙ sym (ap (option_and_then (λ n. position (λ f. f == n) (fields_of c.args.draft.now.named))) there)
