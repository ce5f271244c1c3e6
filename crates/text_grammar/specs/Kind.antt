-- What a token is to the grammars.
use Rattle.std.specs.Prelude.{ℕ, Bool, false, List, [], ◌∷◌, slice_range, codes, Ok, Err, if◌then◌else◌}
use Rattle.std.specs.List.{list_any}
use Rattle.std.specs.Str.{bytes_eq}
use Rattle.text_lexer.specs.declared.token.TokenKind.{TokenKind}
use Rattle.text_lexer.specs.declared.token.TokenKind.TheVariants as token
use Rattle.text_lexer.specs.Tokens.{Lexed}
use Rattle.text_grammar.specs.declared.kind.Kind.{Kind}
use Rattle.text_grammar.specs.declared.kind.Kind.TheVariants as kind
use Rattle.text_grammar.specs.declared.kind.Seen.{Seen}

-- the elements that have no end tag
abbrev pub void_tags : List (List ℕ)
void_tags = codes "area" ∷ codes "base" ∷ codes "br" ∷ codes "col" ∷ codes "embed" ∷ codes "hr" ∷ codes "img" ∷ codes "input" ∷ codes "link" ∷ codes "meta" ∷ codes "source" ∷ codes "track" ∷ codes "wbr" ∷ []

abbrev pub is_void_tag : List ℕ → Bool
is_void_tag bytes = list_any (λ tag. bytes_eq tag bytes) void_tags

abbrev pub is_one : List ℕ → Bool
is_one bytes = bytes_eq (codes "1") bytes

-- the kind of a token with these bytes
abbrev pub kind_of_token : TokenKind → List ℕ → Kind
kind_of_token token.Name bytes = if is_void_tag bytes then kind.VoidName else kind.Name
kind_of_token (token.Reserved w) bytes = kind.Reserved w
kind_of_token token.Number bytes = if is_one bytes then kind.One else kind.Number
kind_of_token token.Text bytes = kind.Text
kind_of_token (token.Mark m) bytes = kind.Mark m
kind_of_token token.End bytes = kind.End

-- how the grammars see what the lexer gives for the bytes of a text
abbrev pub kind_of : List ℕ → Lexed → Seen
kind_of text (Ok x) = record { kind = kind_of_token x.kind (slice_range text x.start x.end); touches = x.touches }
kind_of text (Err bad) = record { kind = kind.Bad; touches = false }

-- the end of a text, and what is no token, as the grammars see them
abbrev pub end_seen : Bool → Seen
end_seen touches = record { kind = kind.End; touches = touches }

abbrev pub bad_seen : Seen
bad_seen = record { kind = kind.Bad; touches = false }
