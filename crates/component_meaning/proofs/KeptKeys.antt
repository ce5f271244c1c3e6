-- Keys of a resource stay distinct.
use Rattle.std.proofs.Common.{◌≡◌, ℕ, ◌||◌, not, if◌then◌else◌, Bool, true, false, List, [], ◌∷◌, ◌++◌, length, Some, None, Option, is_some, unwrap_or, refl, ap, ◌∙◌, arith, ne_eqb, ltb-true}
use Rattle.std.specs.List.{list_any, list_all}
use Rattle.std.proofs.lemmas.Cmp.{int_eq_equiv, nat_eq_equiv}
use Rattle.std.proofs.lemmas.List.Folds.{list_any-append}
use Rattle.grammar.proofs.Theory.{and_cases, and_both}
use Rattle.values.specs.declared.code.Code.{Code}
use Rattle.values.specs.declared.code.Code.TheVariants.{Empty, Number, Word}
use Rattle.values.specs.Evaluation.{is_same}
use Rattle.values.specs.Texts.{index_of, with_text}
use Rattle.values.proofs.TextsLemmas.{index_of-added}
use Rattle.component_items.specs.Kept.{are_distinct, code_has_text}
use Rattle.component_meaning.specs.Names.{number_with}

is_same-sym : (a b : Code) → is_same a b ≡ is_same b a
is_same-sym Empty Empty = refl
is_same-sym Empty (Number b) = refl
is_same-sym Empty (Word b) = refl
is_same-sym (Number a) Empty = refl
is_same-sym (Number a) (Number b) = int_eq_equiv.symm a b
is_same-sym (Number a) (Word b) = refl
is_same-sym (Word a) Empty = refl
is_same-sym (Word a) (Number b) = refl
is_same-sym (Word a) (Word b) = nat_eq_equiv.symm a b

or_none : (a b : Bool) → (a || b) ≡ false → (a ≡ false) × (b ≡ false)
or_none true b h = absurd cc
or_none false b h = (refl, h)

not_any : (b : Bool) → not b ≡ true → b ≡ false
not_any true h = absurd cc
not_any false h = refl

-- a key that differs from each stands behind them
pub distinct_more : (keys : List Code) (key : Code) → are_distinct keys ≡ true → list_any (is_same key) keys ≡ false → are_distinct (keys ++ key ∷ []) ≡ true
distinct_more [] key distinct new = refl
distinct_more (k ∷ keys) key distinct new =
    let both = and_cases (not (list_any (is_same k) keys)) (are_distinct keys) distinct in
    let parts = or_none (is_same key k) (list_any (is_same key) keys) new in
    let before : list_any (is_same k) keys ≡ false = not_any _ both.0 in
    let last : is_same k key ≡ false = is_same-sym k key ∙ parts.0 in
    let none : list_any (is_same k) (keys ++ key ∷ []) ≡ false =
    list_any-append (is_same k) keys (key ∷ []) ∙ ap (λ b. b || (is_same k key || false)) before ∙ ap (λ b. b || false) last
    in
    and_both _ _ (ap not none) (distinct_more keys key both.1 parts.1)

-- no key is a text behind those of the table
none_beyond : (n : ℕ) (keys : List Code) → list_all (code_has_text n) keys ≡ true → list_any (is_same (Word n)) keys ≡ false
none_beyond n [] h = refl
none_beyond n (k ∷ keys) h =
    let both = and_cases (code_has_text n k) (list_all (code_has_text n) keys) h in
    ap (λ b. b || list_any (is_same (Word n)) keys) (at k both.0) ∙ none_beyond n keys both.1
  where
    at : (k : Code) → code_has_text n k ≡ true → is_same (Word n) k ≡ false
    at Empty has = refl
    at (Number m) has = refl
    at (Word m) has = let below = ltb-true m n has in ne_eqb n m (omega arith)

-- a text that is no key yet makes a key that differs from each
pub new_text_key : (bytes : List ℕ) (texts : List (List ℕ)) (keys : List Code) → list_all (code_has_text (length texts)) keys ≡ true
    → ((n : ℕ) → index_of bytes texts ≡ Some n → list_any (is_same (Word n)) keys ≡ false) → list_any (is_same (Word (number_with bytes texts))) keys ≡ false
new_text_key bytes texts keys have differs = at (index_of bytes texts) refl
  where
    at : (o : Option ℕ) → index_of bytes texts ≡ o → list_any (is_same (Word (number_with bytes texts))) keys ≡ false
    at None is =
        let same : with_text bytes texts ≡ texts ++ bytes ∷ [] = ap (λ (f : Option ℕ). if is_some f then texts else texts ++ bytes ∷ []) is in
        let number : number_with bytes texts ≡ length texts = ap (λ (l : List (List ℕ)). unwrap_or (index_of bytes l) 0) same ∙ ap (λ (f : Option ℕ). unwrap_or f 0) (index_of-added bytes texts is) in
        ap (λ (n : ℕ). list_any (is_same (Word n)) keys) number ∙ none_beyond (length texts) keys have
    at (Some n) is =
        let same : with_text bytes texts ≡ texts = ap (λ (f : Option ℕ). if is_some f then texts else texts ++ bytes ∷ []) is in
        let number : number_with bytes texts ≡ n = ap (λ (l : List (List ℕ)). unwrap_or (index_of bytes l) 0) same ∙ ap (λ (f : Option ℕ). unwrap_or f 0) is in
        ap (λ (n : ℕ). list_any (is_same (Word n)) keys) number ∙ differs n is
