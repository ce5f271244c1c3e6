-- The kinds of tokens that the grammar takes for a number and for a text.
use Rattle.std.proofs.Common.{◌≡◌, ℕ, ◌==◌, Bool, true, false, List, refl, sym, ◌∙◌}
use Rattle.std.proofs.lemmas.Bool.{false≢true}
use Rattle.text_lexer.specs.declared.token.Mark.{Mark}
use Rattle.text_lexer.specs.declared.token.Mark.TheVariants.{ClosingTag}
use Rattle.text_lexer.specs.declared.token.Reserved.{Reserved}
use Rattle.text_lexer.specs.declared.token.Reserved.TheVariants.{Component}
use Rattle.text_lexer.specs.declared.token.TokenKind.{TokenKind}
use Rattle.text_lexer.specs.declared.token.TokenKind.TheVariants as token
use Rattle.text_grammar.specs.declared.kind.Kind.TheVariants.{Text}
use Rattle.text_grammar.specs.Class.{is_number, is_same, number_of_word, number_of_mark}
use Rattle.text_grammar.specs.Kind.{kind_of_token, is_void_tag, is_one}

pub is_number-kind : (k : TokenKind) (bytes : List ℕ) → is_number (kind_of_token k bytes) ≡ true → k ≡ token.Number
is_number-kind token.Name bytes h = by_tag (is_void_tag bytes) refl
  where
    by_tag : (v : Bool) → is_void_tag bytes ≡ v → token.Name ≡ token.Number
    by_tag true e = absurd (let no = rw e at h in false≢true no)
    by_tag false e = absurd (let no = rw e at h in false≢true no)
is_number-kind (token.Reserved w) bytes h = absurd (false≢true h)
is_number-kind token.Number bytes h = refl
is_number-kind token.Text bytes h = absurd (false≢true h)
is_number-kind (token.Mark m) bytes h = absurd (false≢true h)
is_number-kind token.End bytes h = absurd (false≢true h)

no_word : (w : Reserved) → (33 == number_of_word w) ≡ false
no_word Component = refl
no_word _ = refl

no_mark : (m : Mark) → (33 == number_of_mark m) ≡ false
no_mark ClosingTag = refl
no_mark _ = refl

pub is_text-kind : (k : TokenKind) (bytes : List ℕ) → is_same Text (kind_of_token k bytes) ≡ true → k ≡ token.Text
is_text-kind token.Name bytes h = by_tag (is_void_tag bytes) refl
  where
    by_tag : (v : Bool) → is_void_tag bytes ≡ v → token.Name ≡ token.Text
    by_tag true e = absurd (let no = rw e at h in false≢true no)
    by_tag false e = absurd (let no = rw e at h in false≢true no)
is_text-kind (token.Reserved w) bytes h = absurd (false≢true (sym (no_word w) ∙ h))
is_text-kind token.Number bytes h = by_one (is_one bytes) refl
  where
    by_one : (v : Bool) → is_one bytes ≡ v → token.Number ≡ token.Text
    by_one true e = absurd (let no = rw e at h in false≢true no)
    by_one false e = absurd (let no = rw e at h in false≢true no)
is_text-kind token.Text bytes h = refl
is_text-kind (token.Mark m) bytes h = absurd (false≢true (sym (no_mark m) ∙ h))
is_text-kind token.End bytes h = absurd (false≢true h)
