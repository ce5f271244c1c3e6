-- Bytes that are no UTF-8 have a longest front that is.
use Rattle.std.proofs.Common.{◌≡◌, ℕ, zero, suc, ◌<◌, ◌≤◌, Bool, true, false, if◌then◌else◌, List, [], length, take, ◌⊎◌, inl, inr, refl, sym, subst, ap, ◌∙◌, arith}
use Rattle.std.proofs.Math.Seq.{take-length}
use Rattle.std.proofs.lemmas.Bool.{cases_order}
use Rattle.std.proofs.lemmas.List.{take_all}
use Rattle.std.specs.Str.{IsUtf8, IsValidUpTo, is_utf8}
use Rattle.std.specs.Str.Lossy.{valid_len_up_to, utf8_valid_len}
use Rattle.std.proofs.lemmas.Str.{IsUtf8-from_is_utf8, is_utf8-from_IsUtf8, utf8_valid_len-IsValidUpTo, utf8_valid_len_le}

order : (i n : ℕ) → (i < n) ⊎ (n ≤ i)
order i n = by_cases (cases_order i n)
  where
    by_cases : (i ≡ n) ⊎ ((i < n) ⊎ (n < i)) → (i < n) ⊎ (n ≤ i)
    by_cases (inl same) = inr (omega arith)
    by_cases (inr (inl less)) = inl less
    by_cases (inr (inr more)) = inr (omega arith)

true_is_not_false : true ≡ false → ⊥
true_is_not_false is = cc

-- the search down from m finds a front that is UTF-8, and passes none
record IsFound (bs : List ℕ) (m n : ℕ) : Type 0 where
  front : IsUtf8 (take n bs)
  longest : (k : ℕ) → n < k → k ≤ m → IsUtf8 (take k bs) → ⊥

at_next : List ℕ → ℕ → Bool → ℕ
at_next bs m b = if b then suc m else valid_len_up_to bs m

found_next : (bs : List ℕ) (m : ℕ) → IsFound bs m (valid_len_up_to bs m) → (b : Bool) → is_utf8 (take (suc m) bs) ≡ b → IsFound bs (suc m) (at_next bs m b)
unfolding at_next
found_next bs m before true is = record { front = IsUtf8-from_is_utf8 (take (suc m) bs) is; longest = λ k above within other. absurd (omega arith) }
found_next bs m before false is = record { front = before.front; longest = last }
  where
    last : (k : ℕ) → valid_len_up_to bs m < k → k ≤ suc m → IsUtf8 (take k bs) → ⊥
    last k above within other = by_order (order k (suc m))
      where
        same_front : k ≡ suc m → ⊥
        same_front same = true_is_not_false (sym (is_utf8-from_IsUtf8 (take (suc m) bs) (subst (λ i. IsUtf8 (take i bs)) same other)) ∙ is)

        by_order : (k < suc m) ⊎ (suc m ≤ k) → ⊥
        by_order (inl less) = before.longest k above (omega arith) other
        by_order (inr more) = same_front (omega arith)

found : (bs : List ℕ) (m : ℕ) → IsFound bs m (valid_len_up_to bs m)
unfolding at_next
found bs zero = record { front = ([], (refl, refl)); longest = λ k above within is. absurd (omega arith) }
found bs (suc m) = found_next bs m (found bs m) (is_utf8 (take (suc m) bs)) refl

utf8_found : (bs : List ℕ) → IsFound bs (length bs) (utf8_valid_len bs)
unfolding utf8_valid_len
utf8_found bs = found bs (length bs)

pub bad_utf8 : (bs : List ℕ) → is_utf8 bs ≡ false → IsValidUpTo bs (utf8_valid_len bs)
bad_utf8 bs refused = record { short = short; front = (utf8_found bs).front; longest = longest }
  where
    n : ℕ
    n = utf8_valid_len bs

    not_whole : IsUtf8 bs → ⊥
    not_whole is = true_is_not_false (sym (is_utf8-from_IsUtf8 bs is) ∙ refused)

    same_length : n ≡ length bs → ⊥
    same_length same = not_whole (subst IsUtf8 (ap (λ i. take i bs) same ∙ take-length bs) (utf8_found bs).front)

    by_order : n ≤ length bs → (n < length bs) ⊎ (length bs ≤ n) → n < length bs
    by_order within (inl less) = less
    by_order within (inr more) = absurd (same_length (omega arith))

    short : n < length bs
    short = by_order (utf8_valid_len_le bs) (order n (length bs))

    longest : (k : ℕ) → n < k → IsUtf8 (take k bs) → ⊥
    longest k above is = by_order_of (order k (length bs))
      where
        by_order_of : (k < length bs) ⊎ (length bs ≤ k) → ⊥
        by_order_of (inl inside) = (utf8_found bs).longest k above (omega arith) is
        by_order_of (inr outside) = not_whole (subst IsUtf8 (take_all k bs outside) is)

pub one_front : (bs : List ℕ) (n m : ℕ) → IsValidUpTo bs n → IsValidUpTo bs m → n ≡ m
one_front bs n m a b = sym (utf8_valid_len-IsValidUpTo bs n a) ∙ utf8_valid_len-IsValidUpTo bs m b

pub not_both : (bs : List ℕ) (n : ℕ) → IsUtf8 bs → IsValidUpTo bs n → ⊥
not_both bs n is bad = bad.longest (length bs) bad.short (subst IsUtf8 (sym (take-length bs)) is)
