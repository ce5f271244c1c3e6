-- What an accepted token does: it passes every check, and has its effect. No effect changes the items.
use Rattle.std.proofs.Common.{◌≡◌, ℕ, List, Ok, Err, Some, None, Option, refl}
use Rattle.text_lexer.specs.declared.token.Token.{Token}
use Rattle.text_lexer.specs.Tokens.{Lexed}
use Rattle.text_grammar.specs.declared.component.Terminal.{Terminal}
use Rattle.text_grammar.specs.declared.component.Terminal.TheVariants as terminal
use Rattle.component_items.specs.declared.component.Item.{Item}
use Rattle.component_meaning.specs.State.{State, Open}
use Rattle.component_meaning.specs.Checks.{Check, failed}
use Rattle.component_meaning.specs.Effects.{effect}
use Rattle.component_meaning.specs.Meaning.{judged, accept_token}

-- an accepted token, and the state after it
pub record IsAccepted (text : List ℕ) (t : Terminal) (a : State) (lexed next : Lexed) (b : State) : Type 0 where
  pub token : Token
  pub is : lexed ≡ Ok token
  pub passes : failed text t a token next ≡ None
  pub after : b ≡ effect text t a token

pub accepted : (text : List ℕ) (t : Terminal) (a : State) (lexed next : Lexed) (b : State) → accept_token text t a lexed next ≡ Ok b → IsAccepted text t a lexed next b
accepted text t a (Err bad) next b takes = absurd cc
accepted text t a (Ok x) next b takes = at (failed text t a x next) refl takes
  where
    at : (o : Option Check) → failed text t a x next ≡ o → judged text t a x next o ≡ Ok b → IsAccepted text t a (Ok x) next b
    at None passes is = record { token = x; is = refl; passes = passes; after = cc }
    at (Some check) passes is = absurd cc

-- whatever holds of the items and of what comes next holds after the token
pub effect_keeps : (P : List Item → List Open → ℕ → ℕ → Type 0) (text : List ℕ) (t : Terminal) (a : State) (x : Token)
    → P a.items a.opened a.next_id a.next_owner → P (effect text t a x).items (effect text t a x).opened (effect text t a x).next_id (effect text t a x).next_owner
effect_keeps P text terminal.Component a x h = h
effect_keeps P text _ a x h = h
