-- A part of the input has one meaning or one refusal at the most.
use Rattle.std.proofs.Common.{◌≡◌, ℕ, List, [], inl, ap, subst}
use Rattle.grammar.specs.Ahead.{with_next}
use Rattle.grammar.specs.Meaning.{Means, IsFirstBad}
use Rattle.grammar.specs.Semantics.{Reads}
use Rattle.grammar.proofs.Once as once
use Rattle.text_lexer.specs.Cursor.{start_of}
use Rattle.text_lexer.specs.Tokens.{Lexed, IsTokenList}
use Rattle.text_lexer.proofs.AllTokens.{one_token_list}
use Rattle.component_items.specs.declared.refusal.Refusal.{Refusal}
use Rattle.part_meaning.specs.Part.{Language, IsDecided, IsReadTo, IsRefused, no_utf8, bad_token, bad_utf8_at}
use Rattle.part_meaning.proofs.Utf8.{one_front, not_both}

module _ {W R D S : Type 0} (l : Language W R D S) (d : IsDecided l) (bytes : List ℕ) where
  same : (xs ys : List Lexed) → IsTokenList (start_of bytes l.first_line) xs → IsTokenList (start_of bytes l.first_line) ys → xs ≡ ys
  same xs ys a b = one_token_list (start_of bytes l.first_line) xs ys a b

  pub one_meaning : (a b : S) → IsReadTo l bytes a → IsReadTo l bytes b → a ≡ b
  one_meaning a b p q =
      let means = subst (λ xs. Means l.table (l.semantics bytes) l.text l.start (with_next xs) a) (same p.tokens q.tokens p.listed q.listed) p.means in
      once.one_meaning l.table l.lookahead (l.semantics bytes) d.right d.end (with_next q.tokens) d.fits (inl d.closes) means q.means

  pub never_both : (last : S) (why : Refusal) → IsReadTo l bytes last → IsRefused l bytes why → ⊥
  never_both last why p (no_utf8 n bad) = not_both bytes n p.utf8 bad
  never_both last why p (bad_token {why = e} is tokens listed bad) =
      let means = subst (λ xs. Means l.table (l.semantics bytes) l.text l.start (with_next xs) last) (same p.tokens tokens p.listed listed) p.means in
      once.never_both l.table l.lookahead (l.semantics bytes) d.right bad.before bad.after bad.bad e d.fits
      (subst (λ xs. Reads l.table (l.semantics bytes) l.text l.start xs [] last) bad.whole means) bad.refuses

  pub one_refusal : (a b : Refusal) → IsRefused l bytes a → IsRefused l bytes b → a ≡ b
  one_refusal a b (no_utf8 n p) (no_utf8 m q) = ap (bad_utf8_at l bytes) (one_front bytes n m p q)
  one_refusal a b (no_utf8 n p) (bad_token is tokens listed bad) = absurd (not_both bytes n is p)
  one_refusal a b (bad_token is tokens listed bad) (no_utf8 n p) = absurd (not_both bytes n is p)
  one_refusal a b (bad_token {why = e} is xs p bad) (bad_token {why = f} is' ys q bad') =
      let first = subst (λ zs. IsFirstBad l.table (l.semantics bytes) l.text l.start (with_next zs) e) (same xs ys p q) bad in
      once.one_first_bad l.table l.lookahead (l.semantics bytes) d.right (with_next ys) e f d.fits first bad'
