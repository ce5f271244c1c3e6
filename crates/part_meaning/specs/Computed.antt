-- What a part of the input means, or why it is refused, in a form that computes.
use Rattle.std.specs.Prelude.{ℕ, ◌+◌, ◌*◌, nat_lt, Bool, if◌then◌else◌, List, length}
use Rattle.std.specs.List.{list_all}
use Rattle.std.specs.Str.{is_utf8}
use Rattle.std.specs.Str.Lossy.{utf8_valid_len}
use Rattle.grammar.specs.Ahead.{with_next}
use Rattle.grammar.specs.Running.{Outcome, refused, run}
use Rattle.text_lexer.specs.Computed.{tokens_of}
use Rattle.component_items.specs.declared.refusal.Refusal.{Refusal}
use Rattle.part_meaning.specs.Part.{Language, bad_utf8_at}

-- more steps than any text takes
abbrev pub steps_for : List ℕ → ℕ
steps_for bytes = 64 * (length bytes + 2)

abbrev pub is_ascii : ℕ → Bool
is_ascii b = nat_lt b 128

module _ {W R D S : Type 0} (l : Language W R D S) where
  abbrev pub outcome_of_tokens : List ℕ → Outcome S Refusal
  outcome_of_tokens bytes = run l.table l.lookahead (l.semantics bytes) (steps_for bytes) l.text l.start (with_next (tokens_of bytes l.first_line))

  abbrev pub if_utf8 : List ℕ → Outcome S Refusal
  if_utf8 bytes =
      let read = outcome_of_tokens bytes in
      let bad = refused (bad_utf8_at l bytes (utf8_valid_len bytes)) in
      if is_utf8 bytes then read else bad

  -- bytes below 128 are UTF-8
  abbrev pub outcome : List ℕ → Outcome S Refusal
  outcome bytes =
      let read = outcome_of_tokens bytes in
      let tried = if_utf8 bytes in
      if list_all is_ascii bytes then read else tried
