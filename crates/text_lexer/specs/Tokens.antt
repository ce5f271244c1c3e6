-- The tokens of a whole text: what the lexer gives for it, up to its end or to the first bad token.
use Rattle.std.specs.Prelude.{◌≡◌, Bool, true, false, List, [], ◌∷◌, ◌++◌, Result, Ok, Err}
use Rattle.text_lexer.specs.declared.token.BadToken.{BadToken}
use Rattle.text_lexer.specs.declared.token.Token.{Token}
use Rattle.text_lexer.specs.Cursor.{Cursor}
use Rattle.text_lexer.specs.Lexing.{IsNext, IsBad, is_end, after}

-- a token, or that there is none at a place
abbrev pub Lexed : Type 0
Lexed = Result Token BadToken

-- what comes next
abbrev pub IsGiven : Cursor → Lexed → Type 0
IsGiven cursor (Ok token) = IsNext cursor token
IsGiven cursor (Err bad) = IsBad cursor bad

-- the cursor behind it
abbrev pub past : Cursor → Lexed → Cursor
past cursor (Ok token) = after cursor token
past cursor (Err bad) = cursor

-- nothing comes behind the end of the text, nor behind a bad token
abbrev pub is_last : Lexed → Bool
is_last (Ok token) = is_end token.kind
is_last (Err bad) = true

-- These tokens come one after another, and none of them is the last.
pub data Leads : Cursor → List Lexed → Cursor → Type 0 where
  here : {cursor : Cursor} → Leads cursor [] cursor
  on : {cursor last : Cursor} {x : Lexed} {xs : List Lexed} → IsGiven cursor x → is_last x ≡ false → Leads (past cursor x) xs last → Leads cursor (x ∷ xs) last

-- These are all tokens from the cursor on: up to the end of the text, or to the first bad token.
pub record AreTokens (cursor : Cursor) (before : List Lexed) (x : Lexed) : Type 0 where
  pub at : Cursor
  pub leads : Leads cursor before at
  pub given : IsGiven at x
  pub last : is_last x ≡ true

-- the same as one list: all tokens from the cursor on, the last with them
pub record IsTokenList (cursor : Cursor) (tokens : List Lexed) : Type 0 where
  pub before : List Lexed
  pub last : Lexed
  pub parts : tokens ≡ before ++ last ∷ []
  pub are : AreTokens cursor before last
