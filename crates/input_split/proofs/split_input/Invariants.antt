use Rattle.std.proofs.Common.{◌≡◌, ℕ, ◌+◌, ◌-◌, ◌<◌, ◌≤◌, length, get_or}
use Rattle.text_lexer.specs.Place.{line_at}
use Rattle.input_split.specs.Separator.{IsSeparator}
use Rattle.input_split.proofs.split_input.Given as goal

abbrev pub invariant-lines : goal.invariant-lines
invariant-lines l = record {
  within : l.start ≤ length l.bytes;
  begins : 0 < l.start → get_or l.bytes (l.start - 1) 0 ≡ 10;
  earlier : (start end : ℕ) → start < l.start → IsSeparator l.bytes start end → ⊥;
  line : l.line ≡ line_at 1 l.bytes l.start;
  few : l.line ≤ l.start + 1;
}

abbrev pub decreases-lines : goal.decreases-lines
decreases-lines l = length l.bytes + 1 - l.start
