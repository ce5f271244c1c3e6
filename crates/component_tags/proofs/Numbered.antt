-- A text of the table and its number.
use Rattle.std.proofs.Common.{◌≡◌, ◌==◌, ℕ, suc, Bool, true, false, List, [], ◌∷◌, Option, Some, None, option_map, slice_get, refl, sym, ap, subst, ◌∙◌, arith}
use Rattle.std.specs.Str.{bytes_eq}
use Rattle.std.proofs.lemmas.Bool.Decides.{nat_tests}
use Rattle.std.proofs.lemmas.Slice.Eq.{bytes_eq-Decides}
use Rattle.values.specs.Texts.{index_of, IsTable}
use Rattle.component_meaning.specs.Names.{is_text}

-- a text stands where it is found
get_found : (text : List ℕ) (ts : List (List ℕ)) (k : ℕ) → index_of text ts ≡ Some k → slice_get ts k ≡ Some text
get_found text [] k h = cc
get_found text (t ∷ ts) k h = by_eq (bytes_eq text t) refl (λ j e. get_found text ts j e)
  where
    by_rest : (o : Option ℕ) → index_of text ts ≡ o → option_map suc o ≡ Some k → ((j : ℕ) → index_of text ts ≡ Some j → slice_get ts j ≡ Some text) → slice_get (t ∷ ts) k ≡ Some text
    by_rest None e h again = cc
    by_rest (Some j) e h again = let at : suc j ≡ k = cc in subst (λ k. slice_get (t ∷ ts) k ≡ Some text) at (again j e)

    by_eq : (b : Bool) → bytes_eq text t ≡ b → ((j : ℕ) → index_of text ts ≡ Some j → slice_get ts j ≡ Some text) → slice_get (t ∷ ts) k ≡ Some text
    by_eq true e again =
        let found : Some 0 ≡ Some k = rw e at h in
        let at : 0 ≡ k = cc in
        subst (λ k. slice_get (t ∷ ts) k ≡ Some text) at (ap (λ l. Some l) (sym ((bytes_eq-Decides text t).0 e)))
    by_eq false e again = by_rest (index_of text ts) refl (rw e at h) again

-- the text of a number is what its bytes are
pub text_at : (bytes t : List ℕ) (texts : List (List ℕ)) (n : ℕ) → IsTable texts → slice_get texts n ≡ Some t → is_text bytes texts (Some n) ≡ bytes_eq t bytes
text_at bytes t texts n table h = by_eq (bytes_eq t bytes) refl
  where
    by_place : (o : Option ℕ) → index_of bytes texts ≡ o → bytes_eq t bytes ≡ false → is_text bytes texts (Some n) ≡ false
    by_place None e other = rw e refl
    by_place (Some k) e other = rw e (by_test (k == n) refl)
      where
        by_test : (b : Bool) → (k == n) ≡ b → b ≡ false
        by_test false same = refl
        by_test true same = grind (arith, nat_tests, same, h, get_found bytes texts k e, other, (bytes_eq-Decides t bytes).1)

    by_eq : (b : Bool) → bytes_eq t bytes ≡ b → is_text bytes texts (Some n) ≡ b
    by_eq true e = rw (table.distinct n bytes (h ∙ ap (λ l. Some l) ((bytes_eq-Decides t bytes).0 e))) (grind (arith, nat_tests))
    by_eq false e = by_place (index_of bytes texts) refl e

-- where no text has the number, the bytes are none of that number
pub no_text : (bytes : List ℕ) (texts : List (List ℕ)) (n : ℕ) → slice_get texts n ≡ None → is_text bytes texts (Some n) ≡ false
no_text bytes texts n h = by_place (index_of bytes texts) refl
  where
    by_place : (o : Option ℕ) → index_of bytes texts ≡ o → is_text bytes texts (Some n) ≡ false
    by_place None e = rw e refl
    by_place (Some k) e = rw e (by_test (k == n) refl)
      where
        by_test : (b : Bool) → (k == n) ≡ b → b ≡ false
        by_test false same = refl
        by_test true same = grind (arith, nat_tests, same, h, get_found bytes texts k e)
