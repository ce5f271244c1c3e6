use Rattle.std.proofs.Common.{◌≡◌, ◌+◌, drop}
use Rattle.std.specs.List.{prefix_len}
use Rattle.text_lexer.specs.Bytes.{is_digit}
use Rattle.text_lexer.proofs.lexeme.digits.Given as goal

abbrev pub invariant-loop-b : goal.invariant-loop-b
invariant-loop-b l =
    (l.n ≡ l.b-index) × (prefix_len is_digit l.rest ≡ l.n + prefix_len is_digit (drop l.b-index l.rest))
