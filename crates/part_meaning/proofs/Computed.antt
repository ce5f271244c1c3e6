-- What is computed of a part of the input is what the relations say.
use Rattle.std.proofs.Common.{◌≡◌, ℕ, zero, suc, arith, Bool, true, false, if◌then◌else◌, List, [], ◌∷◌, refl, sym, ◌∙◌, ap, subst}
use Rattle.std.specs.Str.{is_utf8}
use Rattle.std.specs.Str.Lossy.{utf8_valid_len}
use Rattle.std.specs.List.{list_all}
use Rattle.std.specs.Str.{IsAscii, IsUtf8, is_utf8}
use Rattle.std.proofs.lemmas.Bool.{ltb-true}
use Rattle.std.proofs.lemmas.Str.{IsUtf8-from_is_utf8, IsUtf8-from_ascii}
use Rattle.grammar.proofs.Theory.{and_cases}
use Rattle.grammar.specs.Ahead.{with_next}
use Rattle.grammar.specs.Running.{Outcome, read, refused}
use Rattle.grammar.proofs.Running.{read_means, refused_is_first_bad}
use Rattle.text_lexer.specs.Tokens.{Lexed}
use Rattle.text_lexer.specs.Computed.{tokens_of}
use Rattle.text_lexer.proofs.AllTokens.{all_computed}
use Rattle.component_items.specs.declared.refusal.Refusal.{Refusal}
use Rattle.part_meaning.specs.Part.{Language, IsDecided, IsReadTo, IsRefused, no_utf8, bad_token, bad_utf8_at}
use Rattle.part_meaning.specs.Computed.{steps_for, is_ascii, outcome_of_tokens, outcome}
use Rattle.part_meaning.proofs.Utf8.{bad_utf8}

ascii_at : (bs : List ℕ) → list_all is_ascii bs ≡ true → IsAscii bs
ascii_at [] all i = omega arith
ascii_at (b ∷ bs) all zero = ltb-true b 128 (and_cases (is_ascii b) (list_all is_ascii bs) all).0
ascii_at (b ∷ bs) all (suc i) = ascii_at bs (and_cases (is_ascii b) (list_all is_ascii bs) all).1 i

module _ {W R D S : Type 0} (l : Language W R D S) (d : IsDecided l) (bytes : List ℕ) where
  abbrev xs : List Lexed
  xs = tokens_of bytes l.first_line

  abbrev bad : Outcome S Refusal
  bad = refused (bad_utf8_at l bytes (utf8_valid_len bytes))

  -- what is computed, where it is known whether the bytes are below 128, and whether they are UTF-8
  abbrev at : Bool → Bool → Outcome S Refusal
  at ascii utf8 = if ascii then outcome_of_tokens l bytes else (if utf8 then outcome_of_tokens l bytes else bad)

  abbrev Is : Bool → Bool → Type 0
  Is ascii utf8 = outcome l bytes ≡ at ascii utf8

  data Case : Type 0 where
    by_tokens : IsUtf8 bytes → outcome l bytes ≡ outcome_of_tokens l bytes → Case
    by_bytes : is_utf8 bytes ≡ false → outcome l bytes ≡ bad → Case

  which : Case
  which = by_ascii (list_all is_ascii bytes) refl (is_utf8 bytes) refl
    where
      by_ascii : (b : Bool) → list_all is_ascii bytes ≡ b → (u : Bool) → is_utf8 bytes ≡ u → Case
      by_ascii true is u utf8 = by_tokens (IsUtf8-from_ascii bytes (ascii_at bytes is)) (ap (λ v. at v (is_utf8 bytes)) is)
      by_ascii false is true utf8 = by_tokens (IsUtf8-from_is_utf8 bytes utf8) (ap (λ v. at v (is_utf8 bytes)) is ∙ ap (at false) utf8)
      by_ascii false is false utf8 = by_bytes utf8 (ap (λ v. at v (is_utf8 bytes)) is ∙ ap (at false) utf8)

  never_read : (e : Refusal) (last : S) (o : Outcome S Refusal) → o ≡ refused e → o ≡ read last → ⊥
  never_read e last o p q = cc

  pub computed_read : (last : S) → outcome l bytes ≡ read last → IsReadTo l bytes last
  computed_read last found = by_case which
    where
      by_case : Case → IsReadTo l bytes last
      by_case (by_tokens utf8 is) = record {
        utf8 = utf8;
        tokens = xs;
        listed = all_computed bytes l.first_line;
        means = read_means l.table l.lookahead (l.semantics bytes) d.right l.text l.start (steps_for bytes) (with_next xs) last d.fits (sym is ∙ found);
      }
      by_case (by_bytes utf8 is) = absurd (never_read (bad_utf8_at l bytes (utf8_valid_len bytes)) last (outcome l bytes) is found)

  same_refusal : (e f : Refusal) (o : Outcome S Refusal) → o ≡ refused e → o ≡ refused f → e ≡ f
  same_refusal e f o p q = cc

  pub computed_refusal : (why : Refusal) → outcome l bytes ≡ refused why → IsRefused l bytes why
  computed_refusal why found = by_case which
    where
      by_case : Case → IsRefused l bytes why
      by_case (by_tokens utf8 is) = bad_token utf8 xs (all_computed bytes l.first_line)
          (refused_is_first_bad l.table l.lookahead (l.semantics bytes) d.right l.text l.start (steps_for bytes) (with_next xs) why d.fits (sym is ∙ found))
      by_case (by_bytes utf8 is) = subst (IsRefused l bytes) (same_refusal (bad_utf8_at l bytes (utf8_valid_len bytes)) why (outcome l bytes) is found) (no_utf8 (utf8_valid_len bytes) (bad_utf8 bytes utf8))
