use Rattle.std.proofs.Common.{◌≡◌, true, [], ◌∷◌, ◌++◌, length}
use denote.Text.{Utf8}
use denote.Shadow.{shadow}
use Rattle.std.specs.String.{string_bytes}
use Rattle.text_lexer.specs.Token.{is_text_rest, unescaped}
use Rattle.text_lexer.proofs.meaning.unescape.Given as goal

abbrev pub invariant-loop-plain : goal.invariant-loop-plain
invariant-loop-plain l =
    shadow (Utf8 l.rest) × (is_text_rest (l.rest ++ 34 ∷ []) ≡ true) × (string_bytes l.content ++ unescaped l.rest ≡ unescaped l.written)

abbrev pub decreases-loop-plain : goal.decreases-loop-plain
decreases-loop-plain l = length l.rest
