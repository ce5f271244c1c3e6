-- The key that begins with a `-`.
use Rattle.std.proofs.Common.{◌≡◌, ℕ, Bool, true, false, ◌&&◌, nat_le, if◌then◌else◌, Option, Some, None, Ok, Err, List, refl}
use Rattle.text_lexer.specs.Tokens.{Lexed}
use Rattle.text_grammar.specs.Class.{is_number}
use Rattle.text_grammar.specs.Kind.{kind_of}
use Rattle.component_meaning.specs.State.{State}
use Rattle.component_meaning.specs.Names.{value_in, negated_in, greatest_negated}
use Rattle.component_meaning.specs.Checks.{has_key, has_negated_key}
use Rattle.token_parts.specs.Parts.{negated_next}

-- the test of what is there, which nothing passes
abbrev pub option_any : {A : Type 0} → (A → Bool) → Option A → Bool
option_any test None = false
option_any test (Some x) = test x

-- the key behind a `-`, where there is one
pub negated_key : (text : List ℕ) (next : Lexed) (a : State) → has_negated_key text next a ≡ option_any (λ key. has_key key a) (negated_next text next)
negated_key text (Ok y) a = by_test (is_number (kind_of text (Ok y)).kind && nat_le (value_in text y) greatest_negated)
  where
    by_test : (b : Bool) → (b && has_key (negated_in text y) a) ≡ option_any (λ key. has_key key a) (if b then Some (negated_in text y) else None)
    by_test true = refl
    by_test false = refl
negated_key text (Err bad) a = refl
