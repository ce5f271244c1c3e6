-- What comes next is determined.
use Rattle.std.proofs.Common.{◌≡◌, ◌↔◌, ℕ, ◌-◌, ◌<◌, Bool, true, false, eqb, List, length, take, drop, get_or, inl, inr, ◌⊎◌, refl, sym, ◌∙◌, ap, subst, arith}
use Rattle.std.proofs.lemmas.Bool.{cases_order}
use Rattle.std.proofs.lemmas.List.{length-drop}
use Rattle.text_lexer.specs.declared.token.Mark.{Mark}
use Rattle.text_lexer.specs.declared.token.Reserved.{Reserved}
use Rattle.text_lexer.specs.declared.token.Token.{Token}
use Rattle.text_lexer.specs.declared.token.TokenKind.{TokenKind}
use Rattle.text_lexer.specs.declared.token.TokenKind.TheVariants.{Name, Reserved as ReservedWord, Number, Text, Mark as MarkSign, End}
use Rattle.text_lexer.specs.Bytes.{is_letter, is_digit}
use Rattle.text_lexer.specs.Cursor.{Cursor}
use Rattle.text_lexer.specs.Lexing.{Skips, Lexes, done, more, after, HasOneNext, HasNeverBoth, HasOneTokenList}
use Rattle.text_lexer.specs.Token.{reserved_bytes, mark_bytes, IsToken, IsLongest, IsTokenOf}
use Rattle.text_lexer.proofs.Lexemes.{reserved_word, mark_first, word_first, digits_first, text_first, token_lexeme, letter_no_digit, letter_no_quote, letter_no_other, digit_no_quote, digit_no_other, quote_no_other}
use Rattle.text_lexer.proofs.Spelled.{one_reserved, one_mark}
use Rattle.text_lexer.proofs.Tokens.{end_or_not, longest_some}

pub one_skip : (text : List ℕ) (from a b : ℕ) → Skips text from a → Skips text from b → a ≡ b
one_skip text from a b s t =
    let within_s = s.within in
    let within_t = t.within in
    elim (cases_order a b) [
      | inl same ↦ same
      | inr apart ↦ elim apart [
        | inl below ↦ absurd (s.stops (omega arith) (t.all a s.ordered below))
        | inr above ↦ absurd (t.stops (omega arith) (s.all b t.ordered above))
      ]
    ]

-- Bytes are a token of one kind.
word_kind : (k : TokenKind) (bs : List ℕ) → is_letter (get_or bs 0 0) ≡ true → IsToken k bs → (k ≡ Name) ⊎ ((r : Reserved) × (k ≡ ReservedWord r) × (bs ≡ reserved_bytes r))
word_kind Name bs l t = inl refl
word_kind (ReservedWord r) bs l t = inr (r, refl, t)
word_kind Number bs l t = absurd (letter_no_digit (get_or bs 0 0) l (digits_first bs t.0))
word_kind Text bs l t = absurd (letter_no_quote (get_or bs 0 0) l (text_first bs t))
word_kind (MarkSign m) bs l t = absurd (letter_no_other (get_or bs 0 0) l (rw t (mark_first m)))
word_kind End bs l t = absurd t

digits_kind : (k : TokenKind) (bs : List ℕ) → is_digit (get_or bs 0 0) ≡ true → IsToken k bs → k ≡ Number
digits_kind Name bs l t = absurd (letter_no_digit (get_or bs 0 0) (word_first bs t.0) l)
digits_kind (ReservedWord r) bs l t = absurd (letter_no_digit (get_or bs 0 0) (rw t (word_first (reserved_bytes r) (reserved_word r))) l)
digits_kind Number bs l t = refl
digits_kind Text bs l t = absurd (digit_no_quote (get_or bs 0 0) l (text_first bs t))
digits_kind (MarkSign m) bs l t = absurd (digit_no_other (get_or bs 0 0) l (rw t (mark_first m)))
digits_kind End bs l t = absurd t

text_kind : (k : TokenKind) (bs : List ℕ) → eqb (get_or bs 0 0) 34 ≡ true → IsToken k bs → k ≡ Text
text_kind Name bs l t = absurd (letter_no_quote (get_or bs 0 0) (word_first bs t.0) l)
text_kind (ReservedWord r) bs l t = absurd (letter_no_quote (get_or bs 0 0) (rw t (word_first (reserved_bytes r) (reserved_word r))) l)
text_kind Number bs l t = absurd (digit_no_quote (get_or bs 0 0) (digits_first bs t.0) l)
text_kind Text bs l t = refl
text_kind (MarkSign m) bs l t = absurd (quote_no_other (get_or bs 0 0) l (rw t (mark_first m)))
text_kind End bs l t = absurd t

mark_kind : (k : TokenKind) (bs : List ℕ) (m : Mark) → bs ≡ mark_bytes m → IsToken k bs → k ≡ MarkSign m
mark_kind Name bs m e t = absurd (letter_no_other (get_or bs 0 0) (word_first bs t.0) (rw e (mark_first m)))
mark_kind (ReservedWord r) bs m e t = absurd (letter_no_other (get_or bs 0 0) (rw t (word_first (reserved_bytes r) (reserved_word r))) (rw e (mark_first m)))
mark_kind Number bs m e t = absurd (digit_no_other (get_or bs 0 0) (digits_first bs t.0) (rw e (mark_first m)))
mark_kind Text bs m e t = absurd (quote_no_other (get_or bs 0 0) (text_first bs t) (rw e (mark_first m)))
mark_kind (MarkSign n) bs m e t = ap MarkSign (one_mark n m (sym t ∙ e))
mark_kind End bs m e t = absurd t

one_kind : (j k : TokenKind) (bs : List ℕ) → IsToken j bs → IsToken k bs → j ≡ k
one_kind Name k bs s t = elim (word_kind k bs (word_first bs s.0) t) [
  | inl is ↦ sym is
  | inr other ↦ absurd (s.2 other.0 other.2)
]
one_kind (ReservedWord r) k bs s t = elim (word_kind k bs (rw s (word_first (reserved_bytes r) (reserved_word r))) t) [
  | inl is ↦ let name : IsToken Name bs = subst (λ v. IsToken v bs) is t in absurd (name.2 r s)
  | inr other ↦ ap ReservedWord (one_reserved r other.0 (sym s ∙ other.2)) ∙ sym other.1
]
one_kind Number k bs s t = sym (digits_kind k bs (digits_first bs s.0) t)
one_kind Text k bs s t = sym (text_kind k bs (text_first bs s) t)
one_kind (MarkSign m) k bs s t = sym (mark_kind k bs m s t)
one_kind End k bs s t = absurd s

one_longest : (rest : List ℕ) (j k : TokenKind) (m n : ℕ) → IsLongest rest j m → IsLongest rest k n → (m ≡ n) × (j ≡ k)
one_longest rest j k m n s t =
    let up = t.longest m s.within (token_lexeme j (take m rest) s.token) in
    let down = s.longest n t.within (token_lexeme k (take n rest) t.token) in
    let same : m ≡ n = omega arith in
    (same, one_kind j k (take m rest) s.token (subst (λ v. IsToken k (take v rest)) (sym same) t.token))

-- no token but the end of the text stands at its end
end_alone : (text : List ℕ) (token : Token) → IsTokenOf text token → token.start ≡ length text → token.kind ≡ End
end_alone text token t e = elim (end_or_not token.kind) [
  | inl is ↦ is
  | inr is ↦
      let x = t.longest is in
      let some = longest_some (drop token.start text) token.kind (token.end - token.start) x in
      let size = length-drop token.start text in
      let within = x.within in
      absurd (omega arith)
]

one_stands : (text : List ℕ) (a b : Token) → a.start ≡ b.start → IsTokenOf text a → IsTokenOf text b → (a.kind ≡ b.kind) × (a.end ≡ b.end)
one_stands text a b e s t = elim (end_or_not a.kind) [
  | inl is ↦
      let at = s.last is in
      let other = end_alone text b t (sym e ∙ at) in
      let s1 = s.ordered in
      let s2 = s.within in
      let t1 = t.ordered in
      let t2 = t.within in
      (is ∙ sym other, omega arith)
  | inr is ↦ elim (end_or_not b.kind) [
    | inl end ↦ absurd (is (end_alone text a s (e ∙ t.last end)))
    | inr no_end ↦
        let x : IsLongest (drop b.start text) a.kind (a.end - a.start) = subst (λ v. IsLongest (drop v text) a.kind (a.end - a.start)) e (s.longest is) in
        let same = one_longest (drop b.start text) a.kind b.kind (a.end - a.start) (b.end - b.start) x (t.longest no_end) in
        let sizes = same.0 in
        let s1 = s.ordered in
        let t1 = t.ordered in
        (same.1, omega arith)
  ]
]

same_tests : (a b : Bool) (P : Type 0) → ((a ≡ true) ↔ P) → ((b ≡ true) ↔ P) → a ≡ b
same_tests true b P s t = sym (t.1 (s.0 refl))
same_tests false true P s t = s.1 (t.0 refl)
same_tests false false P s t = refl

abbrev pub build : TokenKind → ℕ → ℕ → ℕ → ℕ → Bool → Token
build kind start end line column touches = record { kind = kind; start = start; end = end; line = line; column = column; touches = touches }

same_token : (a b : Token) → a.kind ≡ b.kind → a.start ≡ b.start → a.end ≡ b.end → a.line ≡ b.line → a.column ≡ b.column → a.touches ≡ b.touches → a ≡ b
same_token a b k s e l c t =
    ap (λ v. build v a.start a.end a.line a.column a.touches) k ∙ (ap (λ v. build b.kind v a.end a.line a.column a.touches) s ∙ (ap (λ v. build b.kind b.start v a.line a.column a.touches) e ∙ (ap (λ v. build b.kind b.start b.end v a.column a.touches) l ∙ (ap (λ v. build b.kind b.start b.end b.line v a.touches) c ∙ ap (λ v. build b.kind b.start b.end b.line b.column v) t))))

pub one_next_token : (cursor : Cursor) → HasOneNext cursor
one_next_token cursor a b s t =
    let start = one_skip cursor.text cursor.at a.start b.start s.skips t.skips in
    let same = one_stands cursor.text a b start s.stands t.stands in
    let line : a.line ≡ b.line = s.line ∙ rw start (sym t.line) in
    let column : a.column ≡ b.column = s.column ∙ rw start (sym t.column) in
    let touches = same_tests a.touches b.touches ((0 < cursor.at) × (b.start ≡ cursor.at)) (rw start at s.touches) t.touches in
    same_token a b same.0 start same.1 line column touches

pub never_both : (cursor : Cursor) → HasNeverBoth cursor
never_both cursor next bad s b =
    let start = one_skip cursor.text cursor.at next.start b.start s.skips b.skips in
    let remains = b.remains in
    elim (end_or_not next.kind) [
      | inl is ↦ let at = s.stands.last is in absurd (omega arith)
      | inr is ↦ b.no_token.none next.kind (next.end - next.start) (subst (λ v. IsLongest (drop v cursor.text) next.kind (next.end - next.start)) start (s.stands.longest is))
    ]

along : (from : Cursor) {c : Cursor} {tokens : List Token} (t u : Token) → t ≡ u → Lexes (after from t) tokens c → Lexes (after from u) tokens c
along from {c} {tokens} t u same rest = subst (λ v. Lexes (after from v) tokens c) same rest

lists : (from : Cursor) {c d : Cursor} {a b : List Token} → Lexes from a c → Lexes from b d → length a ≡ length b → (a ≡ b) × (c ≡ d)
lists from done done e = (refl, refl)
lists from done (more t n rest) e = absurd (omega arith)
lists from (more t n rest) done e = absurd (omega arith)
lists from (more t n rest) (more u m others) e =
    let same = one_next_token from t u n m in
    let tail = lists (after from u) (along from t u same rest) others (omega arith) in
    let head = tail.0 in
    (cc, tail.1)

pub one_list : (cursor : Cursor) → HasOneTokenList cursor
one_list cursor a b c d s t e = lists cursor s t e
