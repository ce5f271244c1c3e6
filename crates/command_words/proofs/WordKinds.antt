-- What a single word is to the command.
use Rattle.std.proofs.Common.{◌≡◌, ◌∙◌, ℕ, suc, ◌+◌, ◌==◌, Bool, true, false, List, [], ◌∷◌, ◌++◌, Option, Some, None, refl, sym, ap, subst, arith, codes, eqb-true}
use Rattle.std.specs.Str.{bytes_eq}
use Rattle.std.specs.List.{before_first, after_first, position_or_len}
use Rattle.std.proofs.lemmas.Slice.Eq.{bytes_eq-Decides}
use Rattle.clap.specs.Lexer.{has_byte, long_of, short_of}
use Rattle.command_words.specs.Clap.{is_other_flag}

pub data Kind : List ℕ → Type 0 where
  dashes : Kind (codes "--")
  flag : Kind (codes "-a")
  option : Kind (codes "--rounds")
  joined : (v : List ℕ) → Kind (codes "--rounds=" ++ v)
  other : (word name : List ℕ) (v : Option (List ℕ)) → long_of word ≡ Some (name, v) → bytes_eq (codes "rounds") name ≡ false → bytes_eq word (codes "--") ≡ false → Kind word
  plain : (word : List ℕ) → long_of word ≡ None → short_of word ≡ None → bytes_eq word (codes "--") ≡ false → Kind word

is_equal : (xs ys : List ℕ) → bytes_eq xs ys ≡ true → xs ≡ ys
is_equal xs ys e = (bytes_eq-Decides xs ys).0 e

-- the bytes up to the first `=` and behind it
abbrev upto : List ℕ → List ℕ
upto = before_first (λ x. x == 61)

abbrev behind : List ℕ → List ℕ
behind = after_first (λ x. x == 61)

upto_more : (x : ℕ) (xs : List ℕ) → (x == 61) ≡ false → upto (x ∷ xs) ≡ x ∷ upto xs
upto_more x xs e =
    let more : 1 + position_or_len (λ y. y == 61) xs ≡ suc (position_or_len (λ y. y == 61) xs) = omega arith in
    rw (e, more) refl

behind_more : (x : ℕ) (xs : List ℕ) → (x == 61) ≡ false → behind (x ∷ xs) ≡ behind xs
behind_more x xs e =
    let more : 1 + position_or_len (λ y. y == 61) xs + 1 ≡ suc (position_or_len (λ y. y == 61) xs + 1) = omega arith in
    rw (e, more) refl

with_equals : (xs : List ℕ) → has_byte 61 xs ≡ true → xs ≡ upto xs ++ 61 ∷ behind xs
with_equals [] e = cc
with_equals (x ∷ xs) e = by_head (λ h. with_equals xs h) (x == 61) refl
  where
    by_head : (has_byte 61 xs ≡ true → xs ≡ upto xs ++ 61 ∷ behind xs) → (b : Bool) → (x == 61) ≡ b → x ∷ xs ≡ upto (x ∷ xs) ++ 61 ∷ behind (x ∷ xs)
    by_head more true is = rw is (ap (λ y. y ∷ xs) (eqb-true x 61 is))
    by_head more false is =
        let rest : has_byte 61 xs ≡ true = rw is at e in
        rw (upto_more x xs is, behind_more x xs is) (ap (λ l. x ∷ l) (more rest))

without_equals : (xs : List ℕ) → has_byte 61 xs ≡ false → upto xs ≡ xs
without_equals [] e = refl
without_equals (x ∷ xs) e = by_head (λ h. without_equals xs h) (x == 61) refl
  where
    by_head : (has_byte 61 xs ≡ false → upto xs ≡ xs) → (b : Bool) → (x == 61) ≡ b → upto (x ∷ xs) ≡ x ∷ xs
    by_head more true is =
        let bad : true ≡ false = rw is at e in
        cc
    by_head more false is =
        let rest : has_byte 61 xs ≡ false = rw is at e in
        upto_more x xs is ∙ ap (λ l. x ∷ l) (more rest)

-- a long word, behind its hyphens
long_kind : (x : ℕ) (xs : List ℕ) → Kind (45 ∷ 45 ∷ x ∷ xs)
long_kind x xs = by_name (bytes_eq (codes "rounds") (upto (x ∷ xs))) refl
  where
    by_value : codes "rounds" ≡ upto (x ∷ xs) → (b : Bool) → has_byte 61 (x ∷ xs) ≡ b → Kind (45 ∷ 45 ∷ x ∷ xs)
    by_value name true is = subst Kind (ap (λ l. 45 ∷ 45 ∷ l) (ap (λ l. l ++ 61 ∷ behind (x ∷ xs)) name ∙ sym (with_equals (x ∷ xs) is))) (joined (behind (x ∷ xs)))
    by_value name false is = subst Kind (ap (λ l. 45 ∷ 45 ∷ l) (name ∙ without_equals (x ∷ xs) is)) option

    by_name : (b : Bool) → bytes_eq (codes "rounds") (upto (x ∷ xs)) ≡ b → Kind (45 ∷ 45 ∷ x ∷ xs)
    by_name true is = by_value (is_equal (codes "rounds") (upto (x ∷ xs)) is) (has_byte 61 (x ∷ xs)) refl
    by_name false is = other (45 ∷ 45 ∷ x ∷ xs) (upto (x ∷ xs)) _ refl is refl

-- a word with a hyphen in front
hyphen_kind : (word : List ℕ) → is_other_flag (45 ∷ word) ≡ false → Kind (45 ∷ word)
hyphen_kind [] e = plain (45 ∷ []) refl refl refl
hyphen_kind (y ∷ ys) e = by_second (y == 45) refl
  where
    long : (zs : List ℕ) → Kind (45 ∷ 45 ∷ zs)
    long [] = dashes
    long (z ∷ zs) = long_kind z zs

    by_second : (b : Bool) → (y == 45) ≡ b → Kind (45 ∷ y ∷ ys)
    by_second true is = subst (λ c. Kind (45 ∷ c ∷ ys)) (sym (eqb-true y 45 is)) (long ys)
    by_second false is = by_flag (bytes_eq (45 ∷ y ∷ ys) (codes "-a")) refl
      where
        by_flag : (b : Bool) → bytes_eq (45 ∷ y ∷ ys) (codes "-a") ≡ b → Kind (45 ∷ y ∷ ys)
        by_flag true same = subst Kind (sym (is_equal (45 ∷ y ∷ ys) (codes "-a") same)) flag
        by_flag false differs =
            let bad : true ≡ false = rw (is, differs) at e in
            cc

pub kind_of : (word : List ℕ) → is_other_flag word ≡ false → Kind word
kind_of [] e = plain [] refl refl refl
kind_of (x ∷ xs) e = by_first (x == 45) refl
  where
    by_first : (b : Bool) → (x == 45) ≡ b → Kind (x ∷ xs)
    by_first true is =
        let same = eqb-true x 45 is in
        subst (λ c. Kind (c ∷ xs)) (sym same) (hyphen_kind xs (subst (λ c. is_other_flag (c ∷ xs) ≡ false) same e))
    by_first false is = plain (x ∷ xs) (rw is refl) (rw is refl) (rw is refl)
