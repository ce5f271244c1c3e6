-- Parts of the input: the bytes that mean something in a language, and why the others are refused.
use Rattle.std.specs.Prelude.{◌≡◌, ℕ, Bool, true, List, Ok, Err}
use Rattle.std.specs.Str.{IsUtf8, IsValidUpTo}
use Rattle.grammar.specs.declared.symbol.Symbol.{Symbol}
use Rattle.grammar.specs.Ahead.{WithNext, with_next}
use Rattle.grammar.specs.Descent.{LeadsDown}
use Rattle.grammar.specs.Ends.{IsLast, Blocks}
use Rattle.grammar.specs.Lookahead.{Lookahead}
use Rattle.grammar.specs.Machine.{IsRight, Fits}
use Rattle.grammar.specs.Meaning.{Means, IsFirstBad, ClosesWith}
use Rattle.grammar.specs.Semantics.{Semantics}
use Rattle.grammar.specs.Table.{Table}
use Rattle.text_lexer.specs.Cursor.{start_of}
use Rattle.text_lexer.specs.Place.{line_at, column_at}
use Rattle.text_lexer.specs.Tokens.{Lexed, is_last, IsTokenList}
use Rattle.text_grammar.specs.declared.kind.Seen.{Seen}
use Rattle.text_grammar.specs.Kind.{kind_of}
use Rattle.component_items.specs.declared.refusal.Refusal.{Refusal}
use Rattle.component_items.specs.declared.refusal.Refusal.TheVariants.{Bad}
use Rattle.component_items.specs.declared.refusal.Why.TheVariants.{BadUtf8, BadToken, Unexpected}

-- A language: its grammar, what one token ahead tells about it, a whole text, what the tokens of these bytes mean,
-- the state before the first token, and the number of the first line.
pub record Language (W R D S : Type 0) : Type 0 where
  pub table : Table W R D Seen
  pub lookahead : Lookahead W R Seen
  pub text : List (Symbol W R D)
  pub semantics : List ℕ → Semantics W D Seen (WithNext Lexed) S Refusal
  pub start : S
  pub first_line : ℕ

-- a token that the grammar does not allow where it stands, and what is no token
abbrev pub unexpected : Lexed → Refusal
unexpected (Ok x) = Bad Unexpected (record { line = x.line; column = x.column })
unexpected (Err bad) = Bad BadToken (record { line = bad.line; column = bad.column })

-- one token of lookahead decides, and each text has an end
pub record IsDecided {W R D S : Type 0} (l : Language W R D S) : Type 0 where
  pub right : IsRight l.table l.lookahead
  pub fits : Fits l.table l.lookahead l.text
  pub end : W
  pub closes : ClosesWith end l.text

-- Each reading ends with the last token of the bytes, which is their end or a bad token: before a token is taken, each
-- rule leads to lower ones alone; and no terminal takes that last token but the one that closes a text. A terminal that
-- is blocked takes no token at all.
pub record EndsEach {W R D S : Type 0} (l : Language W R D S) : Type 0 where
  pub level : R → ℕ
  pub down : LeadsDown l.table l.lookahead level
  pub end : W
  pub blocked : W → Bool
  pub blocks : (bytes : List ℕ) → Blocks (l.semantics bytes) blocked
  pub kinds : (bytes : List ℕ) (x : WithNext Lexed) → (l.semantics bytes).kind x ≡ kind_of bytes x.token
  pub last : (bytes : List ℕ) (x : Lexed) → is_last x ≡ true → IsLast l.table blocked end (kind_of bytes x) l.text

module _ {W R D S : Type 0} (l : Language W R D S) where
  -- The bytes are a text of the language, and their tokens lead to this state. Each token is seen with the next one.
  pub record IsReadTo (bytes : List ℕ) (last : S) : Type 0 where
    pub utf8 : IsUtf8 bytes
    pub tokens : List Lexed
    pub listed : IsTokenList (start_of bytes l.first_line) tokens
    pub means : Means l.table (l.semantics bytes) l.text l.start (with_next tokens) last

  -- why bytes are refused that are no UTF-8 behind their first n
  abbrev pub bad_utf8_at : List ℕ → ℕ → Refusal
  bad_utf8_at bytes n = Bad BadUtf8 (record { line = line_at l.first_line bytes n; column = column_at bytes n })

  -- The bytes are no text of the language, for this reason: they are no UTF-8, and this is the place of the first
  -- byte that begins no valid sequence; or this is their first bad token.
  pub data IsRefused (bytes : List ℕ) : Refusal → Type 0 where
    no_utf8 : (n : ℕ) → IsValidUpTo bytes n → IsRefused bytes (bad_utf8_at bytes n)
    bad_token : {why : Refusal} → IsUtf8 bytes → (tokens : List Lexed) → IsTokenList (start_of bytes l.first_line) tokens
        → IsFirstBad l.table (l.semantics bytes) l.text l.start (with_next tokens) why → IsRefused bytes why
