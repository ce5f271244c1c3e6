-- What the lexer gives for a text is one list.
use Rattle.std.proofs.Common.{◌≡◌, ℕ, Bool, true, false, List, [], ◌∷◌, ◌++◌, Ok, Err, refl, sym, ◌∙◌, ap, subst}
use Rattle.text_lexer.specs.declared.token.BadToken.{BadToken}
use Rattle.text_lexer.specs.Cursor.{Cursor}
use Rattle.text_lexer.specs.Lexing.{HasOneBad, is_end, after}
use Rattle.text_lexer.specs.Tokens.{Lexed, IsGiven, past, is_last, Leads, here, on}
use Rattle.text_lexer.proofs.Unique.{one_skip, one_next_token, never_both}

-- ---- one token or one bad token

at_place : ℕ → ℕ → BadToken
at_place line column = record { line = line; column = column }

same_bad : (a b : BadToken) → a.line ≡ b.line → a.column ≡ b.column → a ≡ b
unfolding at_place
same_bad a b l c = ap (λ v. at_place v a.column) l ∙ ap (λ v. at_place b.line v) c

one_bad : (c : Cursor) → HasOneBad c
one_bad c a b p q =
    let start = one_skip c.text c.at p.start q.start p.skips q.skips in
    let line : a.line ≡ b.line = p.line ∙ rw start (sym q.line) in
    let column : a.column ≡ b.column = p.column ∙ rw start (sym q.column) in
    same_bad a b line column

pub one_given : (c : Cursor) (x y : Lexed) → IsGiven c x → IsGiven c y → x ≡ y
one_given c (Ok t) (Ok u) p q = ap Ok (one_next_token c t u p q)
one_given c (Ok t) (Err b) p q = absurd (never_both c t b p q)
one_given c (Err b) (Ok t) p q = absurd (never_both c t b q p)
one_given c (Err b) (Err d) p q = ap Err (one_bad c b d p q)

-- one more token that is not the last
pub leads_on : {c at : Cursor} {xs : List Lexed} (x : Lexed) → Leads c xs at → IsGiven at x → is_last x ≡ false → Leads c (xs ++ x ∷ []) (past at x)
leads_on x here given more = on given more here
leads_on x (on given' more' go) given more = on given' more' (leads_on x go given more)

pub text_past : (c : Cursor) (x : Lexed) → (past c x).text ≡ c.text
text_past c (Err b) = refl
text_past c (Ok t) = by_end (is_end t.kind) refl
  where
    by_end : (b : Bool) → is_end t.kind ≡ b → (after c t).text ≡ c.text
    by_end true e = rw e refl
    by_end false e = rw e refl

-- the first token
pub head_given : {c at : Cursor} {x : Lexed} {xs : List Lexed} → Leads c (x ∷ xs) at → IsGiven c x × (is_last x ≡ false) × Leads (past c x) xs at
head_given (on given more go) = (given, more, go)

pub none_led : {c at : Cursor} → Leads c [] at → c ≡ at
none_led here = refl

-- Tokens up to the last begin with all tokens up to any other that comes.
pub data IsFront (xs : List Lexed) (x : Lexed) (whole : List Lexed) : Type 0 where
  front : (rest : List Lexed) → whole ≡ xs ++ x ∷ rest → IsFront xs x whole

pub is_front : {c at end : Cursor} (xs ys : List Lexed) (x y : Lexed) → Leads c xs at → IsGiven at x → Leads c ys end → IsGiven end y → is_last y ≡ true
    → IsFront xs x (ys ++ y ∷ [])
is_front {c = c} {at = at} {end = end} [] [] x y p given q last ends =
    let same = one_given c x y (subst (λ v. IsGiven v x) (sym (none_led p)) given) (subst (λ v. IsGiven v y) (sym (none_led q)) last) in
    front [] (ap (λ v. v ∷ []) (sym same))
is_front {c = c} [] (z ∷ ys) x y p given q last ends =
    let h = head_given q in
    let same = one_given c x z (subst (λ v. IsGiven v x) (sym (none_led p)) given) h.0 in
    front (ys ++ y ∷ []) (ap (λ v. v ∷ (ys ++ y ∷ [])) (sym same))
is_front {c = c} (z ∷ xs) [] x y p given q last ends =
    let h = head_given p in
    let same = one_given c y z (subst (λ v. IsGiven v y) (sym (none_led q)) last) h.0 in
    let no : is_last y ≡ false = ap is_last same ∙ h.1 in
    cc
is_front {c = c} {at = at} {end = end} (z ∷ xs) (u ∷ ys) x y p given q last ends =
    let h = head_given p in
    let k = head_given q in
    let same = one_given c u z k.0 h.0 in
    let more = is_front xs ys x y h.2 given (subst (λ v. Leads (past c v) ys end) same k.2) last ends in
    next_front same more
  where
    next_front : u ≡ z → IsFront xs x (ys ++ y ∷ []) → IsFront (z ∷ xs) x (u ∷ (ys ++ y ∷ []))
    next_front same (front rest is) = front rest ((ap (λ v. v ∷ (ys ++ y ∷ [])) same) ∙ ap (λ l. z ∷ l) is)

-- Two places of one text are one, or one comes before the other.
pub data ArePlaced (xs : List Lexed) (x : Lexed) (ys : List Lexed) (y : Lexed) : Type 0 where
  same : xs ≡ ys → x ≡ y → ArePlaced xs x ys y
  before : (more : List Lexed) → ys ≡ xs ++ x ∷ more → ArePlaced xs x ys y
  behind : (more : List Lexed) → xs ≡ ys ++ y ∷ more → ArePlaced xs x ys y

pub are_placed : {c at end : Cursor} (xs ys : List Lexed) (x y : Lexed) → Leads c xs at → IsGiven at x → Leads c ys end → IsGiven end y → ArePlaced xs x ys y
are_placed {c = c} [] [] x y p given q other =
    same refl (one_given c x y (subst (λ v. IsGiven v x) (sym (none_led p)) given) (subst (λ v. IsGiven v y) (sym (none_led q)) other))
are_placed {c = c} [] (z ∷ ys) x y p given q other =
    before ys (ap (λ v. v ∷ ys) (one_given c z x (head_given q).0 (subst (λ v. IsGiven v x) (sym (none_led p)) given)))
are_placed {c = c} (z ∷ xs) [] x y p given q other =
    behind xs (ap (λ v. v ∷ xs) (one_given c z y (head_given p).0 (subst (λ v. IsGiven v y) (sym (none_led q)) other)))
are_placed {c = c} {at = at} {end = end} (z ∷ xs) (u ∷ ys) x y p given q other =
    let h = head_given p in
    let k = head_given q in
    let one = one_given c u z k.0 h.0 in
    next one (are_placed xs ys x y h.2 given (subst (λ v. Leads (past c v) ys end) one k.2) other)
  where
    next : u ≡ z → ArePlaced xs x ys y → ArePlaced (z ∷ xs) x (u ∷ ys) y
    next one (same a b) = same (ap (λ v. v ∷ xs) (sym one) ∙ ap (λ l. u ∷ l) a) b
    next one (before more is) = before more (ap (λ v. v ∷ ys) one ∙ ap (λ l. z ∷ l) is)
    next one (behind more is) = behind more (ap (λ v. v ∷ xs) (sym one) ∙ ap (λ l. u ∷ l) is)
