use Rattle.std.proofs.Common.{◌≡◌, ◌+◌, drop}
use Rattle.std.specs.List.{prefix_len}
use Rattle.text_lexer.specs.Bytes.{is_name_byte}
use Rattle.text_lexer.proofs.lexeme.name_bytes.Given as goal

abbrev pub invariant-loop-b : goal.invariant-loop-b
invariant-loop-b l =
    (l.n ≡ l.b-index) × (prefix_len is_name_byte l.rest ≡ l.n + prefix_len is_name_byte (drop l.b-index l.rest))
