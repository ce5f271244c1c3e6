-- What a token is, and which one stands at the front of a text.
use Rattle.std.specs.Prelude.{◌≡◌, ◌≢◌, ℕ, ◌+◌, ◌-◌, ◌*◌, ◌≤◌, Bool, false, ◌==◌, ◌&&◌, ◌||◌, not, nat_le, List, [], ◌∷◌, length, take, drop, slice_index, slice_range, IsTrue, if◌then◌else◌, codes}
use Rattle.std.specs.List.{list_all, list_any}
use Rattle.text_lexer.specs.declared.token.Mark.{Mark}
use Rattle.text_lexer.specs.declared.token.Mark.TheVariants.{ClosingTag, EqualTo, Arrow, Assign, Less, Greater, Slash, OpenBrace, CloseBrace, OpenParen, CloseParen, OpenBracket, CloseBracket, Dot, Plus, Minus, Star, Percent}
use Rattle.text_lexer.specs.declared.token.Reserved.{Reserved}
use Rattle.text_lexer.specs.declared.token.Reserved.TheVariants.{Component, Signal, Memo, Effect, Resource, After, Load, Store, Max, Cleanup, Area, If, Then, Else, Each, Row, Empty, Lt, Phase, Lane, Set, Get, Pump, Dispose, Insert, At, Remove, Move, To}
use Rattle.text_lexer.specs.declared.token.Token.{Token}
use Rattle.text_lexer.specs.declared.token.TokenKind.{TokenKind}
use Rattle.text_lexer.specs.declared.token.TokenKind.TheVariants.{Name, Reserved as ReservedWord, Number, Text, Mark as MarkSign, End}
use Rattle.text_lexer.specs.Bytes.{is_letter, is_digit, is_name_byte}

abbrev pub reserved_bytes : Reserved → List ℕ
reserved_bytes Component = codes "component"
reserved_bytes Signal = codes "signal"
reserved_bytes Memo = codes "memo"
reserved_bytes Effect = codes "effect"
reserved_bytes Resource = codes "resource"
reserved_bytes After = codes "after"
reserved_bytes Load = codes "load"
reserved_bytes Store = codes "store"
reserved_bytes Max = codes "max"
reserved_bytes Cleanup = codes "cleanup"
reserved_bytes Area = codes "area"
reserved_bytes If = codes "if"
reserved_bytes Then = codes "then"
reserved_bytes Else = codes "else"
reserved_bytes Each = codes "each"
reserved_bytes Row = codes "row"
reserved_bytes Empty = codes "empty"
reserved_bytes Lt = codes "lt"
reserved_bytes Phase = codes "phase"
reserved_bytes Lane = codes "lane"
reserved_bytes Set = codes "set"
reserved_bytes Get = codes "get"
reserved_bytes Pump = codes "pump"
reserved_bytes Dispose = codes "dispose"
reserved_bytes Insert = codes "insert"
reserved_bytes At = codes "at"
reserved_bytes Remove = codes "remove"
reserved_bytes Move = codes "move"
reserved_bytes To = codes "to"

abbrev pub mark_bytes : Mark → List ℕ
mark_bytes ClosingTag = codes "</"
mark_bytes EqualTo = codes "=="
mark_bytes Arrow = codes "=>"
mark_bytes Assign = codes "="
mark_bytes Less = codes "<"
mark_bytes Greater = codes ">"
mark_bytes Slash = codes "/"
mark_bytes OpenBrace = codes "{"
mark_bytes CloseBrace = codes "}"
mark_bytes OpenParen = codes "("
mark_bytes CloseParen = codes ")"
mark_bytes OpenBracket = codes "["
mark_bytes CloseBracket = codes "]"
mark_bytes Dot = codes "."
mark_bytes Plus = codes "+"
mark_bytes Minus = codes "-"
mark_bytes Star = codes "*"
mark_bytes Percent = codes "%"

-- a letter, and then letters, digits and `_`
abbrev pub is_word : List ℕ → Bool
is_word bs = is_letter (slice_index bs 0) && list_all is_name_byte bs

-- one digit or more
abbrev pub is_digits : List ℕ → Bool
is_digits bs = is_digit (slice_index bs 0) && list_all is_digit bs

-- `"`, `\`, `n` and `t`, which may stand behind a backslash in a text
abbrev pub is_escape : ℕ → Bool
is_escape b = b == 34 || b == 92 || b == 110 || b == 116

-- a byte that stands for itself in a text: none below 32, no quotation mark and no backslash
abbrev pub is_plain : ℕ → Bool
is_plain b = nat_le 32 b && not (b == 34) && not (b == 92)

-- the rest of a text behind its opening quotation mark: plain bytes and escapes, and last the closing one
abbrev pub is_text_rest : List ℕ → Bool
is_text_rest [] = false
is_text_rest (b ∷ []) = b == 34
is_text_rest (b ∷ c ∷ bs) = if b == 92 then is_escape c && is_text_rest bs else is_plain b && is_text_rest (c ∷ bs)

-- a text in its quotation marks
abbrev pub is_text : List ℕ → Bool
is_text bs = slice_index bs 0 == 34 && is_text_rest (drop 1 bs)

-- what a backslash and this byte mean: `n` a line feed, `t` a tab, and else the byte itself
abbrev pub escape_value : ℕ → ℕ
escape_value b = if b == 110 then 10 else (if b == 116 then 9 else b)

-- what stands between the quotation marks, with its escapes taken out
abbrev pub unescaped : List ℕ → List ℕ
unescaped [] = []
unescaped (b ∷ []) = b ∷ []
unescaped (b ∷ c ∷ bs) = if b == 92 then escape_value c ∷ unescaped bs else b ∷ unescaped (c ∷ bs)

-- the content of a text in its quotation marks
abbrev pub content_of : List ℕ → List ℕ
content_of bs = unescaped (slice_range bs 1 (length bs - 1))

-- a backslash stands between the quotation marks
abbrev pub has_escape : List ℕ → Bool
has_escape bs = list_any (λ b. b == 92) (slice_range bs 1 (length bs - 1))

-- Bytes that have the outer form of a token. The longest at a place is taken whole, and is then a token
-- or a bad one: a word may be too long for a name, and digits may begin with a 0.
pub data IsLexeme : List ℕ → Type 0 where
  word : {bs : List ℕ} → IsTrue (is_word bs) → IsLexeme bs
  digits : {bs : List ℕ} → IsTrue (is_digits bs) → IsLexeme bs
  text : {bs : List ℕ} → IsTrue (is_text bs) → IsLexeme bs
  mark : {bs : List ℕ} (m : Mark) → bs ≡ mark_bytes m → IsLexeme bs

-- The bytes are a token of this kind. The end of the text has no bytes and is no such token.
abbrev pub IsToken : TokenKind → List ℕ → Type 0
IsToken Name bs = IsTrue (is_word bs) × (length bs ≤ 64) × ((r : Reserved) → bs ≢ reserved_bytes r)
IsToken (ReservedWord r) bs = bs ≡ reserved_bytes r
IsToken Number bs = IsTrue (is_digits bs) × (2 ≤ length bs → slice_index bs 0 ≢ 48)
IsToken Text bs = IsTrue (is_text bs)
IsToken (MarkSign m) bs = bs ≡ mark_bytes m
IsToken End bs = ⊥

-- the first n bytes of `rest` are a token of this kind, and no more of them have the form of a token
pub record IsLongest (rest : List ℕ) (kind : TokenKind) (n : ℕ) : Type 0 where
  pub within : n ≤ length rest
  pub token : IsToken kind (take n rest)
  pub longest : (m : ℕ) → m ≤ length rest → IsLexeme (take m rest) → m ≤ n

-- no token stands at the front of `rest`
pub record HasNoToken (rest : List ℕ) : Type 0 where
  pub none : (kind : TokenKind) (n : ℕ) → IsLongest rest kind n → ⊥

-- at the token's start stands, in the text, this token: `End` at the end of the text alone
pub record IsTokenOf (text : List ℕ) (token : Token) : Type 0 where
  pub ordered : token.start ≤ token.end
  pub within : token.end ≤ length text
  pub last : token.kind ≡ End → token.start ≡ length text
  pub longest : token.kind ≢ End → IsLongest (drop token.start text) token.kind (token.end - token.start)

-- the number that decimal digits write
abbrev pub decimal_value_after : ℕ → List ℕ → ℕ
decimal_value_after n [] = n
decimal_value_after n (b ∷ bs) = decimal_value_after (10 * n + (b - 48)) bs

abbrev pub decimal_value : List ℕ → ℕ
decimal_value bs = decimal_value_after 0 bs
