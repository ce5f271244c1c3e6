-- A part of the input has a meaning or a refusal.
use Rattle.std.proofs.Common.{◌≡◌, ℕ, true, List, [], ◌∷◌, ◌++◌, get_or, ◌⊎◌, inl, inr, refl, sym, ◌∙◌, ap, subst}
use Rattle.std.specs.Str.{is_utf8}
use Rattle.std.specs.Str.Lossy.{utf8_valid_len}
use Rattle.std.proofs.lemmas.Bool.{cases_Bool}
use Rattle.std.proofs.lemmas.Str.{IsUtf8-from_is_utf8}
use Rattle.grammar.specs.Ahead.{WithNext, with_next}
use Rattle.grammar.specs.Ends.{IsLast}
use Rattle.grammar.specs.Meaning.{Means, IsFirstBad}
use Rattle.grammar.proofs.Either as either
use Rattle.text_lexer.specs.Computed.{tokens_of}
use Rattle.text_lexer.specs.Cursor.{start_of}
use Rattle.text_lexer.specs.Tokens.{Lexed, IsTokenList}
use Rattle.text_lexer.proofs.AllTokens.{all_computed}
use Rattle.component_items.specs.declared.refusal.Refusal.{Refusal}
use Rattle.part_meaning.specs.Part.{Language, IsDecided, EndsEach, IsReadTo, IsRefused, no_utf8, bad_token, bad_utf8_at}
use Rattle.part_meaning.proofs.Utf8.{bad_utf8}

abbrev alone : {A : Type 0} → A → WithNext A
alone x = record { token = x; next = x }

-- the last one stands last with itself
record LastAlone {A : Type 0} (before : List A) (x : A) : Type 0 where
  front : List (WithNext A)
  whole : with_next (before ++ x ∷ []) ≡ front ++ alone x ∷ []

last_alone : {A : Type 0} (before : List A) (x : A) → LastAlone before x
last_alone [] x = record { front = []; whole = refl }
last_alone {A = A} (y ∷ before) x =
    let more = last_alone before x in
    let first : WithNext A = record { token = y; next = get_or (before ++ x ∷ []) 0 y } in
    record { front = first ∷ more.front; whole = ap (λ l. first ∷ l) more.whole }

module _ {W R D S : Type 0} (l : Language W R D S) (d : IsDecided l) (e : EndsEach l) (bytes : List ℕ) where
  abbrev Read : List (WithNext Lexed) → Type 0
  Read xs = ((last : S) × Means l.table (l.semantics bytes) l.text l.start xs last) ⊎ ((why : Refusal) × IsFirstBad l.table (l.semantics bytes) l.text l.start xs why)

  by_last : (xs : List Lexed) → IsTokenList (start_of bytes l.first_line) xs → Read (with_next xs)
  by_last xs listed =
      let ends = last_alone listed.before listed.last in
      let x = alone listed.last in
      let is_last = subst (λ k. IsLast l.table e.blocked e.end k l.text) (sym (e.kinds bytes x)) (e.last bytes listed.last listed.are.last) in
      subst Read (sym (ap with_next listed.parts ∙ ends.whole))
      (either.one_of_both_by_the_last l.table l.lookahead (l.semantics bytes) d.right e.level e.down l.text e.end l.start d.fits e.blocked (e.blocks bytes) ends.front x is_last)

  abbrev Either : Type 0
  Either = ((last : S) × IsReadTo l bytes last) ⊎ ((why : Refusal) × IsRefused l bytes why)

  of_tokens : is_utf8 bytes ≡ true → (xs : List Lexed) → IsTokenList (start_of bytes l.first_line) xs → Read (with_next xs) → Either
  of_tokens utf8 xs listed (inl found) = inl (found.0, record { utf8 = IsUtf8-from_is_utf8 bytes utf8; tokens = xs; listed = listed; means = found.1 })
  of_tokens utf8 xs listed (inr found) = inr (found.0, bad_token (IsUtf8-from_is_utf8 bytes utf8) xs listed found.1)

  pub one_of_both : Either
  one_of_both =
      let xs = tokens_of bytes l.first_line in
      let listed = all_computed bytes l.first_line in
      elim (cases_Bool (is_utf8 bytes)) [
        | inl is ↦ of_tokens is xs listed (by_last xs listed)
        | inr is_none ↦ let n = utf8_valid_len bytes in inr (bad_utf8_at l bytes n, no_utf8 n (bad_utf8 bytes is_none))
      ]
