-- A text as a key.
use Rattle.std.proofs.Common.{◌≡◌, ℕ, Bool, true, false, List, Ok, refl}
use Rattle.values.specs.Texts.{index_of}
use Rattle.text_lexer.specs.declared.token.Token.{Token}
use Rattle.text_lexer.specs.Tokens.{Lexed}
use Rattle.text_grammar.specs.declared.component.Terminal.TheVariants as terminal
use Rattle.component_meaning.specs.State.{State}
use Rattle.component_meaning.specs.Names.{content_in, place_of, is_full}
use Rattle.component_meaning.specs.Checks.{has_text_key}
use Rattle.component_meaning.specs.Meaning.{accept_token}
use Rattle.component_keys.specs.Keys.{text_key_or_refusal}

module _ (text : List ℕ) (a : State) (x : Token) (next : Lexed) where
  pub text_key : accept_token text terminal.TextKey a (Ok x) next ≡ text_key_or_refusal (content_in text x) (place_of x) a
  text_key = by_taken (has_text_key (index_of (content_in text x) a.texts) a) refl
    where
      by_room : (v : Bool) → is_full (content_in text x) a.texts ≡ v → has_text_key (index_of (content_in text x) a.texts) a ≡ false → accept_token text terminal.TextKey a (Ok x) next ≡ text_key_or_refusal (content_in text x) (place_of x) a
      by_room true full e = rw (e, full) refl
      by_room false room e = rw (e, room) refl

      by_taken : (v : Bool) → has_text_key (index_of (content_in text x) a.texts) a ≡ v → accept_token text terminal.TextKey a (Ok x) next ≡ text_key_or_refusal (content_in text x) (place_of x) a
      by_taken true e = rw e refl
      by_taken false e = by_room (is_full (content_in text x) a.texts) refl e
