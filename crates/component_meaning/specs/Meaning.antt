-- What the tokens of a component text mean.
use Rattle.std.specs.Prelude.{ℕ, List, Option, Some, None, Result, Ok, Err}
use Rattle.grammar.specs.Ahead.{WithNext}
use Rattle.grammar.specs.Semantics.{Semantics}
use Rattle.text_lexer.specs.declared.token.Token.{Token}
use Rattle.text_lexer.specs.Tokens.{Lexed}
use Rattle.text_grammar.specs.declared.kind.Seen.{Seen}
use Rattle.text_grammar.specs.declared.component.Action.{Action}
use Rattle.text_grammar.specs.declared.component.Terminal.{Terminal}
use Rattle.text_grammar.specs.Kind.{kind_of}
use Rattle.component_items.specs.declared.refusal.Refusal.{Refusal}
use Rattle.component_items.specs.declared.refusal.Refusal.TheVariants.{Bad}
use Rattle.part_meaning.specs.Part.{unexpected}
use Rattle.component_meaning.specs.State.{State}
use Rattle.component_meaning.specs.Checks.{Check, why_of, place_at, failed}
use Rattle.component_meaning.specs.Effects.{effect}
use Rattle.component_meaning.specs.Actions.{perform}

abbrev pub judged : List ℕ → Terminal → State → Token → Lexed → Option Check → Result State Refusal
judged text t a x next None = Ok (effect text t a x)
judged text t a x next (Some check) = Err (Bad (why_of check) (place_at check text t a x next))

-- the state after the token, or the first check that it fails
abbrev pub accept_token : List ℕ → Terminal → State → Lexed → Lexed → Result State Refusal
accept_token text t a (Ok x) next = judged text t a x next (failed text t a x next)
accept_token text t a (Err bad) next = Err (unexpected (Err bad))

abbrev pub semantics : List ℕ → Semantics Terminal Action Seen (WithNext Lexed) State Refusal
semantics text = record {
  kind = λ x. kind_of text x.token;
  accept = λ t a x. accept_token text t a x.token x.next;
  perform = perform;
  unexpected = λ x. unexpected x.token;
}
