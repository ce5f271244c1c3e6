-- The longest bytes at the front that have the form of a token, and whether they are one.
use Rattle.std.proofs.Common.{◌≡◌, ℕ, zero, suc, ◌+◌, ◌-◌, ◌<◌, ◌≤◌, Bool, true, false, not, ◌&&◌, List, [], ◌∷◌, length, take, drop, get_or, eqb, eqb-true, leb, refl, sym, ◌∙◌, ap, subst, arith}
use Rattle.std.proofs.lemmas.Bool.{cond-false, and_parts, and_from, or_left, leb-true, eq-eqb, ne_eqb, false≢true}
use Rattle.std.proofs.lemmas.Bool.Decides.{nat_tests}
use Rattle.std.proofs.lemmas.List.{length-take-le, length-drop, get_or-take, drop_more, drop_all}
use Rattle.std.proofs.lemmas.List.Sums.{prefix_len-le-length}
use Rattle.std.specs.List.{list_all, prefix_len}
use Rattle.text_lexer.specs.declared.token.Mark.{Mark}
use Rattle.text_lexer.specs.declared.token.Mark.TheVariants.{ClosingTag, EqualTo, Arrow, Assign, Less, Greater, Slash, OpenBrace, CloseBrace, OpenParen, CloseParen, OpenBracket, CloseBracket, Dot, Plus, Minus, Star, Percent}
use Rattle.text_lexer.specs.declared.token.Reserved.{Reserved}
use Rattle.text_lexer.specs.declared.token.Reserved.TheVariants.{Component, Signal, Memo, Effect, Resource, After, Load, Store, Max, Cleanup, Area, If, Then, Else, Each, Row, Empty, Lt, Phase, Lane, Set, Get, Pump, Dispose, Insert, At, Remove, Move, To}
use Rattle.text_lexer.specs.declared.token.TokenKind.{TokenKind}
use Rattle.text_lexer.specs.declared.token.TokenKind.TheVariants.{Name, Reserved as ReservedWord, Number, Text, Mark as MarkSign, End}
use Rattle.text_lexer.specs.Bytes.{is_letter, is_digit, is_name_byte}
use Rattle.text_lexer.specs.Token.{reserved_bytes, mark_bytes, is_word, is_digits, is_text, is_text_rest, is_plain, is_escape, IsLexeme, word, digits, text, mark, IsToken, IsLongest, HasNoToken}

-- a byte that begins a mark, and none of a word, a number or a text
abbrev pub is_other : ℕ → Bool
is_other b = not (is_letter b) && (not (is_digit b) && not (eqb b 34))

pub mark_first : (m : Mark) → is_other (get_or (mark_bytes m) 0 0) ≡ true
mark_first ClosingTag = refl
mark_first EqualTo = refl
mark_first Arrow = refl
mark_first Assign = refl
mark_first Less = refl
mark_first Greater = refl
mark_first Slash = refl
mark_first OpenBrace = refl
mark_first CloseBrace = refl
mark_first OpenParen = refl
mark_first CloseParen = refl
mark_first OpenBracket = refl
mark_first CloseBracket = refl
mark_first Dot = refl
mark_first Plus = refl
mark_first Minus = refl
mark_first Star = refl
mark_first Percent = refl

pub mark_some : (m : Mark) → leb 1 (length (mark_bytes m)) ≡ true
mark_some ClosingTag = refl
mark_some EqualTo = refl
mark_some Arrow = refl
mark_some Assign = refl
mark_some Less = refl
mark_some Greater = refl
mark_some Slash = refl
mark_some OpenBrace = refl
mark_some CloseBrace = refl
mark_some OpenParen = refl
mark_some CloseParen = refl
mark_some OpenBracket = refl
mark_some CloseBracket = refl
mark_some Dot = refl
mark_some Plus = refl
mark_some Minus = refl
mark_some Star = refl
mark_some Percent = refl

mark_short : (m : Mark) → leb (length (mark_bytes m)) 2 ≡ true
mark_short ClosingTag = refl
mark_short EqualTo = refl
mark_short Arrow = refl
mark_short Assign = refl
mark_short Less = refl
mark_short Greater = refl
mark_short Slash = refl
mark_short OpenBrace = refl
mark_short CloseBrace = refl
mark_short OpenParen = refl
mark_short CloseParen = refl
mark_short OpenBracket = refl
mark_short CloseBracket = refl
mark_short Dot = refl
mark_short Plus = refl
mark_short Minus = refl
mark_short Star = refl
mark_short Percent = refl

pub reserved_word : (r : Reserved) → is_word (reserved_bytes r) ≡ true
reserved_word Component = refl
reserved_word Signal = refl
reserved_word Memo = refl
reserved_word Effect = refl
reserved_word Resource = refl
reserved_word After = refl
reserved_word Load = refl
reserved_word Store = refl
reserved_word Max = refl
reserved_word Cleanup = refl
reserved_word Area = refl
reserved_word If = refl
reserved_word Then = refl
reserved_word Else = refl
reserved_word Each = refl
reserved_word Row = refl
reserved_word Empty = refl
reserved_word Lt = refl
reserved_word Phase = refl
reserved_word Lane = refl
reserved_word Set = refl
reserved_word Get = refl
reserved_word Pump = refl
reserved_word Dispose = refl
reserved_word Insert = refl
reserved_word At = refl
reserved_word Remove = refl
reserved_word Move = refl
reserved_word To = refl

reserved_short : (r : Reserved) → leb (length (reserved_bytes r)) 64 ≡ true
reserved_short Component = refl
reserved_short Signal = refl
reserved_short Memo = refl
reserved_short Effect = refl
reserved_short Resource = refl
reserved_short After = refl
reserved_short Load = refl
reserved_short Store = refl
reserved_short Max = refl
reserved_short Cleanup = refl
reserved_short Area = refl
reserved_short If = refl
reserved_short Then = refl
reserved_short Else = refl
reserved_short Each = refl
reserved_short Row = refl
reserved_short Empty = refl
reserved_short Lt = refl
reserved_short Phase = refl
reserved_short Lane = refl
reserved_short Set = refl
reserved_short Get = refl
reserved_short Pump = refl
reserved_short Dispose = refl
reserved_short Insert = refl
reserved_short At = refl
reserved_short Remove = refl
reserved_short Move = refl
reserved_short To = refl

pub letter_no_digit : (b : ℕ) → is_letter b ≡ true → is_digit b ≡ true → ⊥
letter_no_digit b l d = grind (arith, nat_tests)

pub letter_no_quote : (b : ℕ) → is_letter b ≡ true → eqb b 34 ≡ true → ⊥
letter_no_quote b l d = grind (arith, nat_tests)

pub digit_no_quote : (b : ℕ) → is_digit b ≡ true → eqb b 34 ≡ true → ⊥
digit_no_quote b l d = grind (arith, nat_tests)

pub letter_no_other : (b : ℕ) → is_letter b ≡ true → is_other b ≡ true → ⊥
letter_no_other b l o = let z : false ≡ true = rw l at o in cc

pub digit_no_other : (b : ℕ) → is_digit b ≡ true → is_other b ≡ true → ⊥
digit_no_other b l o = grind (arith, nat_tests)

pub quote_no_other : (b : ℕ) → eqb b 34 ≡ true → is_other b ≡ true → ⊥
quote_no_other b l o = grind (arith, nat_tests)

plain_no_quote : (b : ℕ) → is_plain b ≡ true → eqb b 34 ≡ false
plain_no_quote b p = grind (arith, nat_tests)

plain_no_backslash : (b : ℕ) → is_plain b ≡ true → eqb b 92 ≡ false
plain_no_backslash b p = grind (arith, nat_tests)

-- the longest run of bytes that pass
run_all : (p : ℕ → Bool) (bs : List ℕ) → list_all p (take (prefix_len p bs) bs) ≡ true
run_all p [] = refl
run_all p (b ∷ bs) = go (p b) refl (run_all p bs)
  where
    go : (v : Bool) → p b ≡ v → list_all p (take (prefix_len p bs) bs) ≡ true → list_all p (take (prefix_len p (b ∷ bs)) (b ∷ bs)) ≡ true
    go true e more = let s : 1 + prefix_len p bs ≡ suc (prefix_len p bs) = omega arith in rw e (rw s (rw e more))
    go false e more = rw e refl

run_most : (p : ℕ → Bool) (bs : List ℕ) (m : ℕ) → list_all p (take m bs) ≡ true → m ≤ length bs → m ≤ prefix_len p bs
run_most p [] m e h = omega arith
run_most p (b ∷ bs) zero e h = omega arith
run_most p (b ∷ bs) (suc m) e h = go (p b) refl (λ rest. run_most p bs m rest (omega arith))
  where
    go : (v : Bool) → p b ≡ v → (list_all p (take m bs) ≡ true → m ≤ prefix_len p bs) → suc m ≤ prefix_len p (b ∷ bs)
    go true f more = let k = more (rw f at e) in rw f (omega arith)
    go false f more = let z : false ≡ true = rw f at e in cc

pub word_first : (bs : List ℕ) → is_word bs ≡ true → is_letter (get_or bs 0 0) ≡ true
word_first bs h = (and_parts (is_letter (get_or bs 0 0)) (list_all is_name_byte bs) h).0

pub word_all : (bs : List ℕ) → is_word bs ≡ true → list_all is_name_byte bs ≡ true
word_all bs h = (and_parts (is_letter (get_or bs 0 0)) (list_all is_name_byte bs) h).1

pub digits_first : (bs : List ℕ) → is_digits bs ≡ true → is_digit (get_or bs 0 0) ≡ true
digits_first bs h = (and_parts (is_digit (get_or bs 0 0)) (list_all is_digit bs) h).0

pub digits_all : (bs : List ℕ) → is_digits bs ≡ true → list_all is_digit bs ≡ true
digits_all bs h = (and_parts (is_digit (get_or bs 0 0)) (list_all is_digit bs) h).1

pub text_first : (bs : List ℕ) → is_text bs ≡ true → eqb (get_or bs 0 0) 34 ≡ true
text_first bs h = (and_parts (eqb (get_or bs 0 0) 34) (is_text_rest (drop 1 bs)) h).0

pub text_rest : (bs : List ℕ) → is_text bs ≡ true → is_text_rest (drop 1 bs) ≡ true
text_rest bs h = (and_parts (eqb (get_or bs 0 0) 34) (is_text_rest (drop 1 bs)) h).1

-- What the first byte of bytes that have the form of a token tells of the rest.
lexeme_word : (bs : List ℕ) → is_letter (get_or bs 0 0) ≡ true → IsLexeme bs → list_all is_name_byte bs ≡ true
lexeme_word bs l x = elim x [
  | word h ↦ word_all bs h
  | digits h ↦ absurd (letter_no_digit (get_or bs 0 0) l (digits_first bs h))
  | text h ↦ absurd (letter_no_quote (get_or bs 0 0) l (text_first bs h))
  | mark m e ↦ absurd (letter_no_other (get_or bs 0 0) l (rw e (mark_first m)))
]

lexeme_digits : (bs : List ℕ) → is_digit (get_or bs 0 0) ≡ true → IsLexeme bs → list_all is_digit bs ≡ true
lexeme_digits bs l x = elim x [
  | word h ↦ absurd (letter_no_digit (get_or bs 0 0) (word_first bs h) l)
  | digits h ↦ digits_all bs h
  | text h ↦ absurd (digit_no_quote (get_or bs 0 0) l (text_first bs h))
  | mark m e ↦ absurd (digit_no_other (get_or bs 0 0) l (rw e (mark_first m)))
]

lexeme_text : (bs : List ℕ) → eqb (get_or bs 0 0) 34 ≡ true → IsLexeme bs → is_text_rest (drop 1 bs) ≡ true
lexeme_text bs l x = elim x [
  | word h ↦ absurd (letter_no_quote (get_or bs 0 0) (word_first bs h) l)
  | digits h ↦ absurd (digit_no_quote (get_or bs 0 0) (digits_first bs h) l)
  | text h ↦ text_rest bs h
  | mark m e ↦ absurd (quote_no_other (get_or bs 0 0) l (rw e (mark_first m)))
]

-- a token has the form of one
pub token_lexeme : (kind : TokenKind) (bs : List ℕ) → IsToken kind bs → IsLexeme bs
token_lexeme Name bs t = word t.0
token_lexeme (ReservedWord r) bs t = word (rw t (reserved_word r))
token_lexeme Number bs t = digits t.0
token_lexeme Text bs t = text t
token_lexeme (MarkSign m) bs t = mark m t
token_lexeme End bs t = absurd t

lexeme_some : (rest : List ℕ) (m : ℕ) → IsLexeme (take m rest) → 0 < m
lexeme_some rest zero x = absurd (elim x as (λ bs _. bs ≡ [] → ⊥) [
  | word h ↦ λ e. let z : false ≡ true = rw e at h in cc
  | digits h ↦ λ e. let z : false ≡ true = rw e at h in cc
  | text h ↦ λ e. let z : false ≡ true = rw e at h in cc
  | mark m e ↦ λ f. let z : false ≡ true = rw (← e, f) at (mark_some m) in cc
] refl)
lexeme_some rest (suc m) x = omega arith

run_some : (p : ℕ → Bool) (rest : List ℕ) → 0 < length rest → p (get_or rest 0 0) ≡ true → 0 < prefix_len p rest
run_some p [] some e = omega arith
run_some p (b ∷ bs) some e = rw e (omega arith)

-- no more bytes than those of the run have the form of a token
word_most : (rest : List ℕ) → is_letter (get_or rest 0 0) ≡ true → (m : ℕ) → m ≤ length rest → IsLexeme (take m rest) → m ≤ prefix_len is_name_byte rest
word_most rest l m h x =
    let some = lexeme_some rest m x in
    run_most is_name_byte rest m (lexeme_word (take m rest) (rw get_or-take l) x) h

digits_most : (rest : List ℕ) → is_digit (get_or rest 0 0) ≡ true → (m : ℕ) → m ≤ length rest → IsLexeme (take m rest) → m ≤ prefix_len is_digit rest
digits_most rest l m h x =
    let some = lexeme_some rest m x in
    run_most is_digit rest m (lexeme_digits (take m rest) (rw get_or-take l) x) h

word_is : (rest : List ℕ) → 0 < length rest → is_letter (get_or rest 0 0) ≡ true → is_word (take (prefix_len is_name_byte rest) rest) ≡ true
word_is rest some l =
    let more = run_some is_name_byte rest some (or_left _ _ (or_left _ _ l)) in
    and_from _ _ (rw get_or-take l) (run_all is_name_byte rest)

digits_is : (rest : List ℕ) → 0 < length rest → is_digit (get_or rest 0 0) ≡ true → is_digits (take (prefix_len is_digit rest) rest) ≡ true
digits_is rest some l =
    let more = run_some is_digit rest some l in
    and_from _ _ (rw get_or-take l) (run_all is_digit rest)

-- a name or a reserved word, or a word that is too long for a name
pub name_token : (rest : List ℕ) (n : ℕ) → 0 < length rest → is_letter (get_or rest 0 0) ≡ true → n ≡ prefix_len is_name_byte rest → n ≤ 64 → ((r : Reserved) → take n rest ≡ reserved_bytes r → ⊥) → IsLongest rest Name n
name_token rest n some l e short none =
    let within = prefix_len-le-length is_name_byte rest in
    record {
      within = omega arith;
      token = (rw e (word_is rest some l), (let k = length-take-le n rest (omega arith) in omega arith), none);
      longest = λ m h x. rw e (word_most rest l m h x);
    }

pub reserved_token : (rest : List ℕ) (n : ℕ) (r : Reserved) → 0 < length rest → is_letter (get_or rest 0 0) ≡ true → n ≡ prefix_len is_name_byte rest → take n rest ≡ reserved_bytes r → IsLongest rest (ReservedWord r) n
reserved_token rest n r some l e is =
    let within = prefix_len-le-length is_name_byte rest in
    record {
      within = omega arith;
      token = is;
      longest = λ m h x. rw e (word_most rest l m h x);
    }

word_short : (kind : TokenKind) (bs : List ℕ) → is_letter (get_or bs 0 0) ≡ true → IsToken kind bs → length bs ≤ 64
word_short Name bs l t = t.1
word_short (ReservedWord r) bs l t = rw t (leb-true _ _ (reserved_short r))
word_short Number bs l t = absurd (letter_no_digit (get_or bs 0 0) l (digits_first bs t.0))
word_short Text bs l t = absurd (letter_no_quote (get_or bs 0 0) l (text_first bs t))
word_short (MarkSign m) bs l t = absurd (letter_no_other (get_or bs 0 0) l (rw t (mark_first m)))
word_short End bs l t = absurd t

pub no_long_word : (rest : List ℕ) (n : ℕ) → 0 < length rest → is_letter (get_or rest 0 0) ≡ true → n ≡ prefix_len is_name_byte rest → 64 < n → HasNoToken rest
no_long_word rest n some l e long = record {
  none = λ kind k x.
      let within = prefix_len-le-length is_name_byte rest in
      let most = x.longest (prefix_len is_name_byte rest) within (word (word_is rest some l)) in
      let more : 0 < k = omega arith in
      let short = word_short kind (take k rest) (rw get_or-take l) x.token in
      let size = length-take-le k rest x.within in
      omega arith;
}

-- a number, or digits that begin with a 0
pub number_token : (rest : List ℕ) (n : ℕ) → 0 < length rest → is_digit (get_or rest 0 0) ≡ true → n ≡ prefix_len is_digit rest → (1 < n → get_or rest 0 0 ≡ 48 → ⊥) → IsLongest rest Number n
number_token rest n some l e alone =
    let within = prefix_len-le-length is_digit rest in
    let size = length-take-le n rest (omega arith) in
    let more = run_some is_digit rest some l in
    let first : get_or (take n rest) 0 0 ≡ get_or rest 0 0 = get_or-take n rest 0 0 (omega arith) in
    record {
      within = omega arith;
      token = (rw e (digits_is rest some l), λ two is. alone (omega arith) (sym first ∙ is));
      longest = λ m h x. rw e (digits_most rest l m h x);
    }

digits_zero : (kind : TokenKind) (bs : List ℕ) → is_digit (get_or bs 0 0) ≡ true → IsToken kind bs → 2 ≤ length bs → get_or bs 0 0 ≡ 48 → ⊥
digits_zero Name bs l t = absurd (letter_no_digit (get_or bs 0 0) (word_first bs t.0) l)
digits_zero (ReservedWord r) bs l t = absurd (letter_no_digit (get_or bs 0 0) (rw t (word_first (reserved_bytes r) (reserved_word r))) l)
digits_zero Number bs l t = t.1
digits_zero Text bs l t = absurd (digit_no_quote (get_or bs 0 0) l (text_first bs t))
digits_zero (MarkSign m) bs l t = absurd (digit_no_other (get_or bs 0 0) l (rw t (mark_first m)))
digits_zero End bs l t = absurd t

pub no_leading_zero : (rest : List ℕ) (n : ℕ) → 0 < length rest → is_digit (get_or rest 0 0) ≡ true → n ≡ prefix_len is_digit rest → 1 < n → get_or rest 0 0 ≡ 48 → HasNoToken rest
no_leading_zero rest n some l e two first_zero = record {
  none = λ kind k x.
      let within = prefix_len-le-length is_digit rest in
      let most = x.longest (prefix_len is_digit rest) within (digits (digits_is rest some l)) in
      let size = length-take-le k rest x.within in
      let first : get_or (take k rest) 0 0 ≡ get_or rest 0 0 = get_or-take k rest 0 0 (omega arith) in
      digits_zero kind (take k rest) (rw first l) x.token (omega arith) (first ∙ first_zero);
}

-- The rest of a text, a byte or an escape further on.
plain_step : (b : ℕ) (bs : List ℕ) → is_plain b ≡ true → is_text_rest (b ∷ bs) ≡ is_text_rest bs
plain_step b [] p = plain_no_quote b p
plain_step b (c ∷ bs) p =
    cond-false (eqb b 92) (is_escape c && is_text_rest bs) (is_plain b && is_text_rest (c ∷ bs)) (plain_no_backslash b p) ∙ ap (λ v. v && is_text_rest (c ∷ bs)) p

text_plain : (b : ℕ) (bs : List ℕ) (q : ℕ) → is_plain b ≡ true → is_text_rest (take q (b ∷ bs)) ≡ is_text_rest (take (q - 1) bs)
text_plain b bs zero p = refl
text_plain b bs (suc q) p = let e : suc q - 1 ≡ q = omega arith in rw e (plain_step b (take q bs) p)

text_escape : (b c : ℕ) (bs : List ℕ) (q : ℕ) → b ≡ 92 → is_escape c ≡ true → is_text_rest (take q (b ∷ c ∷ bs)) ≡ is_text_rest (take (q - 2) bs)
text_escape b c bs zero e p = refl
text_escape b c bs (suc zero) e p = rw e refl
text_escape b c bs (suc (suc q)) e p = let f : suc (suc q) - 2 ≡ q = omega arith in rw (f, e, p) refl

text_close : (b : ℕ) (bs : List ℕ) (q : ℕ) → b ≡ 34 → q ≤ suc (length bs) → is_text_rest (take q (b ∷ bs)) ≡ true → q ≤ 1
text_close b bs zero e h t = omega arith
text_close b bs (suc zero) e h t = omega arith
text_close b [] (suc (suc q)) e h t = omega arith
text_close b (c ∷ bs) (suc (suc q)) e h t = let z : false ≡ true = rw e at t in cc

text_bad : (b : ℕ) (bs : List ℕ) (q : ℕ) → is_plain b ≡ false → (b ≡ 34 → ⊥) → (b ≡ 92 → ⊥) → is_text_rest (take q (b ∷ bs)) ≡ false
text_bad b bs zero p n m = refl
text_bad b [] (suc zero) p n m = ne_eqb b 34 n
text_bad b [] (suc (suc q)) p n m = ne_eqb b 34 n
text_bad b (c ∷ bs) (suc zero) p n m = ne_eqb b 34 n
text_bad b (c ∷ bs) (suc (suc q)) p n m =
    cond-false (eqb b 92) (is_escape c && is_text_rest (take q bs)) (is_plain b && is_text_rest (c ∷ take q bs)) (ne_eqb b 92 m) ∙ ap (λ v. v && is_text_rest (c ∷ take q bs)) p

text_bad_escape : (b c : ℕ) (bs : List ℕ) (q : ℕ) → b ≡ 92 → is_escape c ≡ false → is_text_rest (take q (b ∷ c ∷ bs)) ≡ false
text_bad_escape b c bs zero e p = refl
text_bad_escape b c bs (suc zero) e p = rw e refl
text_bad_escape b c bs (suc (suc q)) e p = rw (e, p) refl

text_bad_end : (b q : ℕ) → b ≡ 92 → is_text_rest (take q (b ∷ [])) ≡ false
text_bad_end b zero e = refl
text_bad_end b (suc zero) e = rw e refl
text_bad_end b (suc (suc q)) e = rw e refl

text_bad_nothing : (q : ℕ) → is_text_rest (take q []) ≡ false
text_bad_nothing zero = refl
text_bad_nothing (suc q) = refl

-- Whether m bytes are a text is what stands behind the first i of them tells.
pub record IsTextFrom (rest : List ℕ) (i : ℕ) : Type 0 where
  pub within : i ≤ length rest
  pub same : (m : ℕ) → is_text_rest (drop 1 (take m rest)) ≡ is_text_rest (take (m - i) (drop i rest))

pub text_start : (rest : List ℕ) → 0 < length rest → IsTextFrom rest 1
text_start [] h = absurd (omega arith)
text_start (b ∷ bs) h = record { within = omega arith; same = same }
  where
    same : (m : ℕ) → is_text_rest (drop 1 (take m (b ∷ bs))) ≡ is_text_rest (take (m - 1) bs)
    same zero = refl
    same (suc m) = let e : suc m - 1 ≡ m = omega arith in rw e refl

pub text_past_plain : (rest : List ℕ) (i : ℕ) → IsTextFrom rest i → i < length rest → is_plain (get_or rest i 0) ≡ true → IsTextFrom rest (i + 1)
text_past_plain rest i t h p = record {
  within = omega arith;
  same = λ m.
      let e : m - (i + 1) ≡ m - i - 1 = omega arith in
      t.same m ∙ rw (drop_more rest i 0 h, e) (text_plain (get_or rest i 0) (drop (i + 1) rest) (m - i) p);
}

pub text_past_escape : (rest : List ℕ) (i : ℕ) → IsTextFrom rest i → i + 1 < length rest → get_or rest i 0 ≡ 92 → is_escape (get_or rest (i + 1) 0) ≡ true → IsTextFrom rest (i + 2)
text_past_escape rest i t h b p = record {
  within = omega arith;
  same = λ m.
      let e : m - (i + 2) ≡ m - i - 2 = omega arith in
      let f : i + 1 + 1 ≡ i + 2 = omega arith in
      t.same m ∙ rw (drop_more rest i 0 (omega arith), drop_more rest (i + 1) 0 h, f, e) (text_escape (get_or rest i 0) (get_or rest (i + 1) 0) (drop (i + 2) rest) (m - i) b p);
}

-- the closing quotation mark ends the text
pub text_token : (rest : List ℕ) (i : ℕ) → IsTextFrom rest i → 0 < i → i < length rest → get_or rest 0 0 ≡ 34 → get_or rest i 0 ≡ 34 → IsLongest rest Text (i + 1)
text_token rest i t some h opens close = record {
  within = omega arith;
  token = and_from (eqb (get_or (take (i + 1) rest) 0 0) 34) (is_text_rest (drop 1 (take (i + 1) rest))) (let more : 0 < i + 1 = omega arith in rw get_or-take (eq-eqb (get_or rest 0 0) 34 opens)) (let e : i + 1 - i ≡ 1 = omega arith in t.same (i + 1) ∙ rw (e, drop_more rest i 0 h) (eq-eqb (get_or rest i 0) 34 close));
  longest = λ m l x.
      let more = lexeme_some rest m x in
      let is = lexeme_text (take m rest) (rw get_or-take (eq-eqb (get_or rest 0 0) 34 opens)) x in
      let ends = rw (drop_more rest i 0 h) at (sym (t.same m) ∙ is) in
      let size = length-drop (i + 1) rest in
      let most = text_close (get_or rest i 0) (drop (i + 1) rest) (m - i) close (omega arith) ends in
      omega arith;
}

-- no text stands there
no_text : (rest : List ℕ) (i : ℕ) → IsTextFrom rest i → get_or rest 0 0 ≡ 34 → ((q : ℕ) → is_text_rest (take q (drop i rest)) ≡ false) → HasNoToken rest
no_text rest i t opens bad = record {
  none = λ kind k x.
      let y = token_lexeme kind (take k rest) x.token in
      let more = lexeme_some rest k y in
      let is = lexeme_text (take k rest) (rw get_or-take (eq-eqb (get_or rest 0 0) 34 opens)) y in
      false≢true (sym (t.same k ∙ bad (k - i)) ∙ is);
}

pub no_closing : (rest : List ℕ) (i : ℕ) → IsTextFrom rest i → get_or rest 0 0 ≡ 34 → length rest ≤ i → HasNoToken rest
no_closing rest i t opens h = no_text rest i t opens (λ q. rw (drop_all i rest h) (text_bad_nothing q))

pub no_text_byte : (rest : List ℕ) (i : ℕ) → IsTextFrom rest i → get_or rest 0 0 ≡ 34 → i < length rest → is_plain (get_or rest i 0) ≡ false → (get_or rest i 0 ≡ 34 → ⊥) → (get_or rest i 0 ≡ 92 → ⊥) → HasNoToken rest
no_text_byte rest i t opens h p n m = no_text rest i t opens (λ q. rw (drop_more rest i 0 h) (text_bad (get_or rest i 0) (drop (i + 1) rest) q p n m))

pub no_escape : (rest : List ℕ) (i : ℕ) → IsTextFrom rest i → get_or rest 0 0 ≡ 34 → i + 1 < length rest → get_or rest i 0 ≡ 92 → is_escape (get_or rest (i + 1) 0) ≡ false → HasNoToken rest
no_escape rest i t opens h b p = no_text rest i t opens (λ q. rw (drop_more rest i 0 (omega arith), drop_more rest (i + 1) 0 h) (text_bad_escape (get_or rest i 0) (get_or rest (i + 1) 0) (drop (i + 1 + 1) rest) q b p))

pub no_escape_at_end : (rest : List ℕ) (i : ℕ) → IsTextFrom rest i → get_or rest 0 0 ≡ 34 → i < length rest → i + 1 ≡ length rest → get_or rest i 0 ≡ 92 → HasNoToken rest
no_escape_at_end rest i t opens h last b = no_text rest i t opens (λ q. rw (drop_more rest i 0 h, drop_all (i + 1) rest (omega arith)) (text_bad_end (get_or rest i 0) q b))

take_one : (rest : List ℕ) → 0 < length rest → take 1 rest ≡ get_or rest 0 0 ∷ []
take_one [] h = absurd (omega arith)
take_one (b ∷ bs) h = refl

take_two : (rest : List ℕ) → 1 < length rest → take 2 rest ≡ get_or rest 0 0 ∷ get_or rest 1 0 ∷ []
take_two [] h = absurd (omega arith)
take_two (b ∷ []) h = absurd (omega arith)
take_two (b ∷ c ∷ bs) h = refl

-- the first byte begins no word, no number and no text
pub record BeginsNoOther (rest : List ℕ) : Type 0 where
  pub no_letter : is_letter (get_or rest 0 0) ≡ false
  pub no_digit : is_digit (get_or rest 0 0) ≡ false
  pub no_quote : get_or rest 0 0 ≡ 34 → ⊥

-- no mark of two bytes stands there
abbrev pub HasNoPair : List ℕ → Type 0
HasNoPair rest = 1 < length rest → (m : Mark) → get_or rest 0 0 ∷ get_or rest 1 0 ∷ [] ≡ mark_bytes m → ⊥

lexeme_mark : (bs : List ℕ) → BeginsNoOther bs → IsLexeme bs → (m : Mark) × (bs ≡ mark_bytes m)
lexeme_mark bs o x = elim x [
  | word h ↦ absurd (false≢true (sym o.no_letter ∙ word_first bs h))
  | digits h ↦ absurd (false≢true (sym o.no_digit ∙ digits_first bs h))
  | text h ↦ absurd (o.no_quote (eqb-true (get_or bs 0 0) 34 (text_first bs h)))
  | mark m e ↦ (m, e)
]

mark_front : (rest : List ℕ) → BeginsNoOther rest → (k : ℕ) → IsLexeme (take k rest) → (m : Mark) × (take k rest ≡ mark_bytes m)
mark_front rest o k x =
    let some = lexeme_some rest k x in
    lexeme_mark (take k rest) (record { no_letter = rw get_or-take o.no_letter; no_digit = rw get_or-take o.no_digit; no_quote = rw get_or-take o.no_quote }) x

mark_most : (rest : List ℕ) → BeginsNoOther rest → (k : ℕ) → k ≤ length rest → IsLexeme (take k rest) → k ≤ 2
mark_most rest o k h x =
    let is = mark_front rest o k x in
    let size = length-take-le k rest h in
    let short = leb-true _ _ (mark_short is.0) in
    let same = ap length is.1 in
    omega arith

mark_single : (rest : List ℕ) → BeginsNoOther rest → HasNoPair rest → (k : ℕ) → k ≤ length rest → IsLexeme (take k rest) → k ≤ 1
mark_single rest o none zero h x = omega arith
mark_single rest o none (suc zero) h x = omega arith
mark_single rest o none (suc (suc zero)) h x =
    let is = mark_front rest o 2 x in
    absurd (none (omega arith) is.0 (sym (take_two rest (omega arith)) ∙ is.1))
mark_single rest o none (suc (suc (suc k))) h x =
    let most = mark_most rest o (suc (suc (suc k))) h x in
    omega arith

pub pair_token : (rest : List ℕ) (m : Mark) → BeginsNoOther rest → 1 < length rest → get_or rest 0 0 ∷ get_or rest 1 0 ∷ [] ≡ mark_bytes m → IsLongest rest (MarkSign m) 2
pair_token rest m o two e = record {
  within = omega arith;
  token = take_two rest two ∙ e;
  longest = mark_most rest o;
}

pub single_token : (rest : List ℕ) (m : Mark) → BeginsNoOther rest → 0 < length rest → HasNoPair rest → get_or rest 0 0 ∷ [] ≡ mark_bytes m → IsLongest rest (MarkSign m) 1
single_token rest m o some none e = record {
  within = omega arith;
  token = take_one rest some ∙ e;
  longest = mark_single rest o none;
}

pub no_mark : (rest : List ℕ) → BeginsNoOther rest → 0 < length rest → HasNoPair rest → ((m : Mark) → get_or rest 0 0 ∷ [] ≡ mark_bytes m → ⊥) → HasNoToken rest
no_mark rest o some pair single = record {
  none = λ kind k x.
      let y = token_lexeme kind (take k rest) x.token in
      let more = lexeme_some rest k y in
      let most = mark_single rest o pair k x.within y in
      let one : k ≡ 1 = omega arith in
      let is = mark_front rest o 1 (subst (λ v. IsLexeme (take v rest)) one y) in
      single is.0 (sym (take_one rest some) ∙ is.1);
}
