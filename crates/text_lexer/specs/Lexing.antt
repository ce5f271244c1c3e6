-- The tokens of a text, one after another, with their places.
use Rattle.std.specs.Prelude.{◌≡◌, ℕ, ◌<◌, ◌≤◌, ◌↔◌, ◌⊎◌, Bool, true, false, List, [], ◌∷◌, length, drop, slice_index, IsTrue, if◌then◌else◌}
use Rattle.text_lexer.specs.declared.token.BadToken.{BadToken}
use Rattle.text_lexer.specs.declared.token.Token.{Token}
use Rattle.text_lexer.specs.declared.token.TokenKind.{TokenKind}
use Rattle.text_lexer.specs.declared.token.TokenKind.TheVariants.{Name, Reserved as ReservedWord, Number, Text, Mark as MarkSign, End}
use Rattle.text_lexer.specs.Bytes.{is_blank, is_hash}
use Rattle.text_lexer.specs.Cursor.{Cursor}
use Rattle.text_lexer.specs.Place.{line_at, column_at}
use Rattle.text_lexer.specs.Token.{HasNoToken, IsTokenOf}

-- The byte at k stands in a comment that begins at `from` or later: from a `#` on, the byte's own place
-- included, no line feed has come.
pub record IsInComment (text : List ℕ) (from k : ℕ) : Type 0 where
  pub hash : ℕ
  pub after_from : from ≤ hash
  pub before_k : hash ≤ k
  pub is_hash : IsTrue (is_hash (slice_index text hash))
  pub same_line : (j : ℕ) → hash ≤ j → j ≤ k → slice_index text j ≡ 10 → ⊥

-- the byte at k, which no token takes, is a blank or a part of a comment
abbrev pub IsBetweenTokens : List ℕ → ℕ → ℕ → Type 0
IsBetweenTokens text from k = IsTrue (is_blank (slice_index text k)) ⊎ IsInComment text from k

-- from `from` on, blanks and comments stand up to `start`, and no further
pub record Skips (text : List ℕ) (from start : ℕ) : Type 0 where
  pub ordered : from ≤ start
  pub within : start ≤ length text
  pub all : (k : ℕ) → from ≤ k → k < start → IsBetweenTokens text from k
  pub stops : start < length text → IsBetweenTokens text from start → ⊥

-- the token that comes next
pub record IsNext (cursor : Cursor) (token : Token) : Type 0 where
  pub skips : Skips cursor.text cursor.at token.start
  pub stands : IsTokenOf cursor.text token
  pub line : token.line ≡ line_at cursor.first_line cursor.text token.start
  pub column : token.column ≡ column_at cursor.text token.start
  pub touches : IsTrue token.touches ↔ ((0 < cursor.at) × (token.start ≡ cursor.at))

abbrev pub is_end : TokenKind → Bool
is_end Name = false
is_end (ReservedWord r) = false
is_end Number = false
is_end Text = false
is_end (MarkSign m) = false
is_end End = true

-- Where the token leaves the cursor: just past it, but the end of the text stays next for ever.
abbrev pub after : Cursor → Token → Cursor
after cursor token = if is_end token.kind then cursor else record cursor { at = token.end }

-- something comes next that is no token, and this is its place
pub record IsBad (cursor : Cursor) (bad : BadToken) : Type 0 where
  pub start : ℕ
  pub skips : Skips cursor.text cursor.at start
  pub remains : start < length cursor.text
  pub no_token : HasNoToken (drop start cursor.text)
  pub line : bad.line ≡ line_at cursor.first_line cursor.text start
  pub column : bad.column ≡ column_at cursor.text start

-- from the first cursor on, these tokens come one after another and lead to the second
pub data Lexes : Cursor → List Token → Cursor → Type 0 where
  done : {cursor : Cursor} → Lexes cursor [] cursor
  more : {cursor last : Cursor} {tokens : List Token} (t : Token) → IsNext cursor t → Lexes (after cursor t) tokens last → Lexes cursor (t ∷ tokens) last

-- a cursor has at most one next token
abbrev pub HasOneNext : Cursor → Type 0
HasOneNext cursor = (a b : Token) → IsNext cursor a → IsNext cursor b → a ≡ b

-- a cursor has at most one bad token
abbrev pub HasOneBad : Cursor → Type 0
HasOneBad cursor = (a b : BadToken) → IsBad cursor a → IsBad cursor b → a ≡ b

-- where a bad token comes, no token does
abbrev pub HasNeverBoth : Cursor → Type 0
HasNeverBoth cursor = (token : Token) (bad : BadToken) → IsNext cursor token → IsBad cursor bad → ⊥

-- at a cursor within its text, a token or a bad one comes next
abbrev pub HasSomeNext : Cursor → Type 0
HasSomeNext cursor = cursor.at ≤ length cursor.text → ((token : Token) × IsNext cursor token) ⊎ ((bad : BadToken) × IsBad cursor bad)

-- from a cursor on, there is one list of so many tokens, and it leads to one cursor
abbrev pub HasOneTokenList : Cursor → Type 0
HasOneTokenList cursor = (a b : List Token) (c d : Cursor) → Lexes cursor a c → Lexes cursor b d → length a ≡ length b → (a ≡ b) × (c ≡ d)
