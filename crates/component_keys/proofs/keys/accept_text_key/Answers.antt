use Rattle.std.proofs.Common.{◌≡◌, ℕ, List, Result, sym, subst}
use Rattle.token_reader.specs.Rules.{Accepts}
use Rattle.component_items.specs.declared.refusal.Refusal.{Refusal}
use Rattle.component_meaning.specs.Names.{content_in, place_of}
use Rattle.component_meaning.specs.State.{State}
use Rattle.component_keys.specs.Keys.{text_key_or_refusal}
use Rattle.component_keys.proofs.TextKeys.{text_key}
use Rattle.component_keys.proofs.keys.accept_text_key.Goals as goal

pub returns-in-Ok : goal.returns-in-Ok
returns-in-Ok c =
    let bytes : c.as_str.result.now ≡ content_in c.args.lexer.now.text c.args.token = cc (c.in-Ok.ensures.content) in
    let pushed = subst (λ (b : List ℕ). Accepts (text_key_or_refusal b (place_of c.args.token) c.args.draft.now) c.push_text_key.result c.push_text_key.new.draft) bytes c.push_text_key.ensures in
    subst (λ (t : Result State Refusal). Accepts t c.push_text_key.result c.push_text_key.new.draft) (sym (text_key c.args.lexer.now.text c.args.draft.now c.args.token c.args.next)) pushed
