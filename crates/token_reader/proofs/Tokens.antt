-- The lexer's tokens, each with the next one.
use Rattle.std.proofs.Common.{◌≡◌, suc, ◌+◌, ◌-◌, ◌<◌, ◌≤◌, true, false, cond, List, [], ◌∷◌, ◌++◌, length, drop, get_or, Ok, Err, refl, sym, ◌∙◌, ap, subst, arith, append_assoc}
use Rattle.std.proofs.lemmas.Bool.{false≢true}
use Rattle.grammar.specs.Ahead.{WithNext, with_next}
use Rattle.text_lexer.specs.declared.token.TokenKind.{TokenKind}
use Rattle.text_lexer.specs.declared.token.TokenKind.TheVariants.{End}
use Rattle.text_lexer.specs.Cursor.{Cursor}
use Rattle.text_lexer.specs.Lexing.{is_end, after}
use Rattle.text_lexer.specs.Tokens.{Lexed, IsGiven, past, is_last, Leads, here, on, IsTokenList}
use Rattle.text_lexer.proofs.TokenLists.{one_given, leads_on, text_past, IsFront, front, is_front}
use Rattle.text_lexer.proofs.Tokens.{longest_some}
use Rattle.token_reader.specs.Reading.{paired}

-- ---- cursors

-- a token that is not the last leads on
pub record GoesOn (cursor : Cursor) (behind : Cursor) : Type 0 where
  pub same_text : behind.text ≡ cursor.text
  pub further : cursor.at < behind.at
  pub within : behind.at ≤ length cursor.text

not_end : (kind : TokenKind) → is_end kind ≡ false → kind ≡ End → ⊥
not_end kind goes e = false≢true (sym goes ∙ ap is_end e)

pub goes_on : (cursor : Cursor) (x : Lexed) → IsGiven cursor x → is_last x ≡ false → GoesOn cursor (past cursor x)
goes_on cursor (Err bad) given more = absurd (false≢true (sym more))
goes_on cursor (Ok token) given more =
    let moved : record cursor { at = token.end } ≡ after cursor token = sym (ap (λ v. cond v cursor (record cursor { at = token.end })) more) in
    let stands = given.stands in
    let some = longest_some (drop token.start cursor.text) token.kind (token.end - token.start) (stands.longest (not_end token.kind more)) in
    let ordered = given.skips.ordered in
    subst (λ behind. GoesOn cursor behind) moved (record { same_text = refl; further = omega arith; within = stands.within })

-- behind the last token the cursor stays
pub stays : (cursor : Cursor) (x : Lexed) → is_last x ≡ true → past cursor x ≡ cursor
stays cursor (Err bad) last = refl
stays cursor (Ok token) last = ap (λ v. cond v cursor (record cursor { at = token.end })) last

-- and so the last token comes again
pub again : (cursor : Cursor) (x y : Lexed) → is_last x ≡ true → IsGiven cursor x → IsGiven (past cursor x) y → y ≡ x
again cursor x y last given more = one_given cursor y x (subst (λ c. IsGiven c y) (stays cursor x last) more) given

pub led_text : {c at : Cursor} {xs : List Lexed} → Leads c xs at → at.text ≡ c.text
led_text here = refl
led_text (on {cursor = c} {x = x} given more go) = led_text go ∙ text_past c x

pub led_within : {c at : Cursor} {xs : List Lexed} → Leads c xs at → c.at ≤ length c.text → at.at ≤ length at.text
led_within here within = within
led_within (on {cursor = c} {x = x} given more go) within =
    let goes = goes_on c x given more in
    let size = ap length goes.same_text in
    let most = goes.within in
    led_within go (omega arith)

-- each token takes a byte
pub led_far : {c at : Cursor} {xs : List Lexed} → Leads c xs at → c.at + length xs ≤ at.at
led_far here = omega arith
led_far (on {cursor = c} {x = x} given more go) =
    let goes = goes_on c x given more in
    let further = goes.further in
    let rest = led_far go in
    omega arith

-- ---- pairs

pub length_paired : {A : Type 0} (xs : List A) (x : A) → length (paired xs x) ≡ length xs
length_paired [] x = refl
length_paired (y ∷ xs) x = ap suc (length_paired xs x)

head_or : {A : Type 0} (xs : List A) (x y z : A) → get_or (xs ++ x ∷ []) 0 y ≡ get_or xs 0 x
head_or [] x y z = refl
head_or (w ∷ xs) x y z = refl

pub paired_on : {A : Type 0} (xs : List A) (x y : A) → paired (xs ++ x ∷ []) y ≡ paired xs x ++ record { token = x; next = y } ∷ []
paired_on [] x y = refl
paired_on {A = A} (z ∷ xs) x y =
    ap (λ (n : A). record { token = z; next = n } ∷ paired (xs ++ x ∷ []) y) (head_or xs x y z)
    ∙ ap (λ (l : List (WithNext A)). record { token = z; next = get_or xs 0 x } ∷ l) (paired_on xs x y)

front_or : {A : Type 0} (xs : List A) (x : A) (rest : List A) (y : A) → get_or (xs ++ x ∷ rest) 0 y ≡ get_or xs 0 x
front_or [] x rest y = refl
front_or (w ∷ xs) x rest y = refl

pub whole_pairs : {A : Type 0} (xs : List A) (x : A) (rest : List A) → with_next (xs ++ x ∷ rest) ≡ paired xs x ++ record { token = x; next = get_or rest 0 x } ∷ with_next rest
whole_pairs [] x rest = refl
whole_pairs {A = A} (z ∷ xs) x rest =
    ap (λ (n : A). record { token = z; next = n } ∷ with_next (xs ++ x ∷ rest)) (front_or xs x rest z)
    ∙ ap (λ (l : List (WithNext A)). record { token = z; next = get_or xs 0 x } ∷ l) (whole_pairs xs x rest)

-- ---- the whole list

-- A token that comes, with the one that comes behind it, is one of the pairs of all tokens.
pub record IsAmong (whole before : List Lexed) (x y : Lexed) : Type 0 where
  pub after : List (WithNext Lexed)
  pub pairs : with_next whole ≡ paired before x ++ record { token = x; next = y } ∷ after

pub last_listed : (c at : Cursor) (before : List Lexed) (x : Lexed) → Leads c before at → IsGiven at x → is_last x ≡ true → IsTokenList c (before ++ x ∷ [])
last_listed c at before x leads given last = record { before = before; last = x; parts = refl; are = record { at = at; leads = leads; given = given; last = last } }

pub last_among : (c at : Cursor) (before whole : List Lexed) (x y : Lexed) → whole ≡ before ++ x ∷ [] → Leads c before at → IsGiven at x → IsGiven (past at x) y → is_last x ≡ true
    → IsAmong whole before x y
last_among c at before whole x y parts leads given more last =
    let same = again at x y last given more in
    record { after = []; pairs = ap with_next parts ∙ (whole_pairs before x [] ∙ ap (λ (n : Lexed). paired before x ++ record { token = x; next = n } ∷ []) (sym same)) }

pub inner_among : (c at : Cursor) (before whole : List Lexed) (x y : Lexed) → IsTokenList c whole → Leads c before at → IsGiven at x → IsGiven (past at x) y → is_last x ≡ false
    → IsAmong whole before x y
inner_among c at before whole x y listed leads given more goes =
    by_front (is_front (before ++ x ∷ []) listed.before y listed.last (leads_on x leads given goes) more listed.are.leads listed.are.given listed.are.last)
  where
    by_front : IsFront (before ++ x ∷ []) y (listed.before ++ listed.last ∷ []) → IsAmong whole before x y
    by_front (front rest is) = record {
      after = with_next (y ∷ rest);
      pairs = ap with_next (listed.parts ∙ (is ∙ append_assoc before (x ∷ []) (y ∷ rest))) ∙ whole_pairs before x (y ∷ rest);
    }

pub last_pairs : (at : Cursor) (before : List Lexed) (x y : Lexed) → IsGiven at x → IsGiven (past at x) y → is_last x ≡ true
    → with_next (before ++ x ∷ []) ≡ paired before x ++ record { token = x; next = y } ∷ []
last_pairs at before x y given more last =
    whole_pairs before x [] ∙ ap (λ (n : Lexed). paired before x ++ record { token = x; next = n } ∷ []) (sym (again at x y last given more))
