-- All tokens that are computed are all tokens of the text.
use Rattle.std.proofs.Common.{◌≡◌, ℕ, zero, suc, ◌+◌, ◌-◌, ◌<◌, ◌≤◌, true, false, cond, List, [], ◌∷◌, ◌++◌, length, drop, Ok, Err, inl, inr, refl, sym, ◌∙◌, ap, subst, arith}
use Rattle.std.proofs.lemmas.Bool.{cases_Bool, false≢true}
use Rattle.text_lexer.specs.declared.token.TokenKind.{TokenKind}
use Rattle.text_lexer.specs.declared.token.TokenKind.TheVariants.{End}
use Rattle.text_lexer.specs.Computed.{next_of, tokens_from, tokens_of}
use Rattle.text_lexer.specs.Cursor.{Cursor, start_of}
use Rattle.text_lexer.specs.Lexing.{is_end, after}
use Rattle.text_lexer.specs.Tokens.{Lexed, IsGiven, past, is_last, Leads, here, on, IsTokenList}
use Rattle.text_lexer.proofs.TokenLists.{one_given, head_given, none_led}
use Rattle.text_lexer.proofs.Tokens.{longest_some}
use Rattle.text_lexer.proofs.Total.{next_given}

-- behind a token that is not the last, fewer bytes are left
record GoesOn (cursor : Cursor) (behind : Cursor) : Type 0 where
  same_text : behind.text ≡ cursor.text
  further : cursor.at < behind.at
  within : behind.at ≤ length cursor.text

not_end : (kind : TokenKind) → is_end kind ≡ false → kind ≡ End → ⊥
not_end kind goes e = false≢true (sym goes ∙ ap is_end e)

goes_on : (cursor : Cursor) (x : Lexed) → IsGiven cursor x → is_last x ≡ false → GoesOn cursor (past cursor x)
goes_on cursor (Err bad) given more = absurd (false≢true (sym more))
goes_on cursor (Ok token) given more =
    let moved : record cursor { at = token.end } ≡ after cursor token = sym (ap (λ v. cond v cursor (record cursor { at = token.end })) more) in
    let stands = given.stands in
    let some = longest_some (drop token.start cursor.text) token.kind (token.end - token.start) (stands.longest (not_end token.kind more)) in
    let ordered = given.skips.ordered in
    subst (λ behind. GoesOn cursor behind) moved (record { same_text = refl; further = omega arith; within = stands.within })

last_alone : (cursor : Cursor) (x : Lexed) → IsGiven cursor x → is_last x ≡ true → IsTokenList cursor (x ∷ [])
last_alone cursor x given last = record { before = []; last = x; parts = refl; are = record { at = cursor; leads = here; given = given; last = last } }

one_before : (cursor : Cursor) (x : Lexed) (xs : List Lexed) → IsGiven cursor x → is_last x ≡ false → IsTokenList (past cursor x) xs → IsTokenList cursor (x ∷ xs)
one_before cursor x xs given more rest = record {
  before = x ∷ rest.before;
  last = rest.last;
  parts = ap (λ v. x ∷ v) rest.parts;
  are = record { at = rest.are.at; leads = on given more rest.are.leads; given = rest.are.given; last = rest.are.last };
}

from_is_list : (fuel : ℕ) (cursor : Cursor) → cursor.at ≤ length cursor.text → length cursor.text < cursor.at + fuel → IsTokenList cursor (tokens_from fuel cursor)
from_is_list zero cursor within enough = absurd (omega arith)
from_is_list (suc fuel) cursor within enough =
    let next = next_of cursor in
    let given = next_given cursor within in
    let more = tokens_from fuel (past cursor next) in
    elim (cases_Bool (is_last next)) [
      | inl last ↦ subst (λ v. IsTokenList cursor (next ∷ cond v [] more)) (sym last) (last_alone cursor next given last)
      | inr no_last ↦
          let goes = goes_on cursor next given no_last in
          let size = ap length goes.same_text in
          let further = goes.further in
          let at_most = goes.within in
          subst (λ v. IsTokenList cursor (next ∷ cond v [] more)) (sym no_last) (one_before cursor next more given no_last (from_is_list fuel (past cursor next) (omega arith) (omega arith)))
    ]

pub all_computed : (text : List ℕ) (first_line : ℕ) → IsTokenList (start_of text first_line) (tokens_of text first_line)
all_computed text first_line = from_is_list (suc (length text)) (start_of text first_line) (omega arith) (omega arith)

one_tokens : {c at end : Cursor} (xs ys : List Lexed) (x y : Lexed) → Leads c xs at → IsGiven at x → is_last x ≡ true → Leads c ys end → IsGiven end y → is_last y ≡ true → xs ++ x ∷ [] ≡ ys ++ y ∷ []
one_tokens {c = c} [] [] x y p given ends q other stops =
    ap (λ v. v ∷ []) (one_given c x y (subst (λ v. IsGiven v x) (sym (none_led p)) given) (subst (λ v. IsGiven v y) (sym (none_led q)) other))
one_tokens {c = c} [] (z ∷ ys) x y p given ends q other stops =
    let h = head_given q in
    let same = one_given c x z (subst (λ v. IsGiven v x) (sym (none_led p)) given) h.0 in
    absurd (false≢true (sym h.1 ∙ (ap is_last (sym same) ∙ ends)))
one_tokens {c = c} (z ∷ xs) [] x y p given ends q other stops =
    let h = head_given p in
    let same = one_given c y z (subst (λ v. IsGiven v y) (sym (none_led q)) other) h.0 in
    absurd (false≢true (sym h.1 ∙ (ap is_last (sym same) ∙ stops)))
one_tokens {c = c} {at = at} {end = end} (z ∷ xs) (u ∷ ys) x y p given ends q other stops =
    let h = head_given p in
    let k = head_given q in
    let same = one_given c u z k.0 h.0 in
    let rest = one_tokens xs ys x y h.2 given ends (subst (λ v. Leads (past c v) ys end) same k.2) other stops in
    ap (λ l. z ∷ l) rest ∙ ap (λ v. v ∷ (ys ++ y ∷ [])) (sym same)

pub one_token_list : (cursor : Cursor) (xs ys : List Lexed) → IsTokenList cursor xs → IsTokenList cursor ys → xs ≡ ys
one_token_list cursor xs ys p q =
    p.parts ∙ (one_tokens p.before q.before p.last q.last p.are.leads p.are.given p.are.last q.are.leads q.are.given q.are.last ∙ sym q.parts)
