-- The tokens of a text, computed: what `Lexing` and `Tokens` say of them, as functions. Each goes over the
-- bytes once. A branch that goes on reading is named by a `let`, so that it is computed only where it is
-- taken.
use Rattle.std.specs.Prelude.{ℕ, suc, zero, ◌+◌, Bool, true, false, ◌==◌, ◌&&◌, ◌||◌, not, nat_le, nat_lt, List, [], ◌∷◌, length, take, drop, slice_index, Option, Some, None, Ok, Err, if◌then◌else◌}
use Rattle.text_lexer.specs.declared.token.BadToken.{BadToken}
use Rattle.text_lexer.specs.declared.token.Mark.{Mark}
use Rattle.text_lexer.specs.declared.token.Mark.TheVariants.{ClosingTag, EqualTo, Arrow, Assign, Less, Greater, Slash, OpenBrace, CloseBrace, OpenParen, CloseParen, OpenBracket, CloseBracket, Dot, Plus, Minus, Star, Percent}
use Rattle.text_lexer.specs.declared.token.Reserved.{Reserved}
use Rattle.text_lexer.specs.declared.token.Reserved.TheVariants.{Component, Signal, Memo, Effect, Resource, After, Load, Store, Max, Cleanup, Area, If, Then, Else, Each, Row, Empty, Lt, Phase, Lane, Set, Get, Pump, Dispose, Insert, At, Remove, Move, To}
use Rattle.text_lexer.specs.declared.token.Token.{Token}
use Rattle.text_lexer.specs.declared.token.TokenKind.{TokenKind}
use Rattle.text_lexer.specs.declared.token.TokenKind.TheVariants.{Name, Reserved as ReservedWord, Number, Text, Mark as MarkSign, End}
use Rattle.text_lexer.specs.Bytes.{is_line_feed, is_blank, is_hash, is_letter, is_digit, is_name_byte}
use Rattle.text_lexer.specs.Cursor.{Cursor, start_of}
use Rattle.text_lexer.specs.Place.{line_at, column_at}
use Rattle.text_lexer.specs.Token.{reserved_bytes, mark_bytes, is_escape, is_plain}
use Rattle.text_lexer.specs.Tokens.{Lexed, past, is_last}

-- whether two runs of bytes are the same
abbrev pub same_bytes : List ℕ → List ℕ → Bool
same_bytes [] [] = true
same_bytes [] (c ∷ cs) = false
same_bytes (b ∷ bs) [] = false
same_bytes (b ∷ bs) (c ∷ cs) = let others = same_bytes bs cs in if b == c then others else false

-- the first of these that is spelled by these bytes
abbrev pub spelled : {Word : Type 0} → (Word → List ℕ) → List Word → List ℕ → Option Word
spelled spelling [] bytes = None
spelled spelling (word ∷ words) bytes = let others = spelled spelling words bytes in if same_bytes bytes (spelling word) then Some word else others

abbrev pub all_reserved : List Reserved
all_reserved = Component ∷ Signal ∷ Memo ∷ Effect ∷ Resource ∷ After ∷ Load ∷ Store ∷ Max ∷ Cleanup ∷ Area ∷ If ∷ Then ∷ Else ∷ Each ∷ Row ∷ Empty ∷ Lt ∷ Phase ∷ Lane ∷ Set ∷ Get ∷ Pump ∷ Dispose ∷ Insert ∷ At ∷ Remove ∷ Move ∷ To ∷ []

abbrev pub all_marks : List Mark
all_marks = ClosingTag ∷ EqualTo ∷ Arrow ∷ Assign ∷ Less ∷ Greater ∷ Slash ∷ OpenBrace ∷ CloseBrace ∷ OpenParen ∷ CloseParen ∷ OpenBracket ∷ CloseBracket ∷ Dot ∷ Plus ∷ Minus ∷ Star ∷ Percent ∷ []

-- how many bytes from the front on pass the test
abbrev pub run_length : (ℕ → Bool) → List ℕ → ℕ
run_length test [] = 0
run_length test (b ∷ bs) = let more = 1 + run_length test bs in if test b then more else 0

-- Where blanks and comments end: `at` is the offset of the bytes that are left, and the first argument
-- tells whether they go on with a comment.
abbrev pub skip_from : Bool → ℕ → List ℕ → ℕ
skip_from in_comment at [] = at
skip_from true at (b ∷ bs) = skip_from (not (is_line_feed b)) (at + 1) bs
skip_from false at (b ∷ bs) = let behind = skip_from (is_hash b) (at + 1) bs in if is_blank b || is_hash b then behind else at

-- How many bytes a text has: n of them are read, its opening quotation mark with them, and the first
-- argument tells whether the last one is a backslash that begins an escape. There is none where the text
-- is not closed, or a byte may not stand in it.
abbrev pub text_length : Bool → ℕ → List ℕ → Option ℕ
text_length in_escape n [] = None
text_length true n (b ∷ bs) = let more = text_length false (n + 1) bs in if is_escape b then more else None
text_length false n (b ∷ bs) = let more = text_length (b == 92) (n + 1) bs in if b == 34 then Some (n + 1) else (if is_plain b || b == 92 then more else None)

-- a kind of token, and how many bytes it has
abbrev pub Found : Type 0
Found = TokenKind × ℕ

-- a word, which is a name where it is not reserved
abbrev pub word_kind : Option Reserved → TokenKind
word_kind None = Name
word_kind (Some reserved) = ReservedWord reserved

abbrev pub word_of : List ℕ → Option Found
word_of rest = let n = run_length is_name_byte rest in if nat_le n 64 then Some (word_kind (spelled reserved_bytes all_reserved (take n rest)), n) else None

abbrev pub number_of : List ℕ → Option Found
number_of rest = let n = run_length is_digit rest in if nat_le 2 n && slice_index rest 0 == 48 then None else Some (Number, n)

abbrev pub as_text : Option ℕ → Option Found
as_text None = None
as_text (Some n) = Some (Text, n)

abbrev pub text_of : List ℕ → Option Found
text_of rest = as_text (text_length false 1 (drop 1 rest))

abbrev pub as_mark : Option Mark → Option Found
as_mark None = None
as_mark (Some mark) = Some (MarkSign mark, length (mark_bytes mark))

-- a mark of two bytes goes before one of one byte
abbrev pub either_mark : Option Mark → Option Mark → Option Mark
either_mark (Some mark) single = Some mark
either_mark None single = single

abbrev pub mark_of : List ℕ → Option Found
mark_of rest = as_mark (either_mark (spelled mark_bytes all_marks (take 2 rest)) (spelled mark_bytes all_marks (take 1 rest)))

-- the token at the front of some bytes, or none where a bad one stands there
abbrev pub front_of : List ℕ → Option Found
front_of rest = let first = slice_index rest 0 in
    if is_letter first then word_of rest else (if is_digit first then number_of rest else (if first == 34 then text_of rest else mark_of rest))

-- a token of n bytes at an offset, with its place
abbrev pub token_at : Cursor → ℕ → TokenKind → ℕ → Token
token_at cursor start kind n = record {
  kind = kind;
  start = start;
  end = start + n;
  line = line_at cursor.first_line cursor.text start;
  column = column_at cursor.text start;
  touches = nat_lt 0 cursor.at && start == cursor.at;
}

abbrev pub bad_at : Cursor → ℕ → BadToken
bad_at cursor start = record { line = line_at cursor.first_line cursor.text start; column = column_at cursor.text start }

abbrev pub given_at : Cursor → ℕ → Option Found → Lexed
given_at cursor start (Some found) = Ok (token_at cursor start found.0 found.1)
given_at cursor start None = Err (bad_at cursor start)

-- what comes at an offset at which these bytes are left
abbrev pub rest_given : Cursor → ℕ → List ℕ → Lexed
rest_given cursor start [] = Ok (token_at cursor start End 0)
rest_given cursor start (b ∷ bs) = given_at cursor start (front_of (b ∷ bs))

-- what comes next
abbrev pub next_of : Cursor → Lexed
next_of cursor = let start = skip_from false cursor.at (drop cursor.at cursor.text) in rest_given cursor start (drop start cursor.text)

-- All tokens from the cursor on, the last with them. The number bounds how many there are.
abbrev pub tokens_from : ℕ → Cursor → List Lexed
tokens_from zero cursor = []
tokens_from (suc fuel) cursor = let next = next_of cursor in let more = tokens_from fuel (past cursor next) in next ∷ (if is_last next then [] else more)

-- all tokens of a text whose first line has this number
abbrev pub tokens_of : List ℕ → ℕ → List Lexed
tokens_of text first_line = tokens_from (suc (length text)) (start_of text first_line)

-- what stands at a place, or none where it is bad, with the place
abbrev pub kind_and_place : Lexed → Option TokenKind × ℕ × ℕ
kind_and_place (Ok token) = (Some token.kind, token.line, token.column)
kind_and_place (Err bad) = (None, bad.line, bad.column)

-- whether it stands right behind the token before it
abbrev pub touches_before : Lexed → Bool
touches_before (Ok token) = token.touches
touches_before (Err bad) = false
