-- Sums and products of counts that are held to one more than the most.
use Rattle.std.proofs.Common.{◌≡◌, ℕ, zero, suc, ◌+◌, ◌*◌, ◌<◌, ◌≤◌, ◌⊎◌, inl, inr, nat_lt, lt-ltb, sym, ap, ◌∙◌, arith}
use Rattle.std.proofs.lemmas.Bool.{cases_lt}
use Rattle.std.proofs.Math.Nat.{mul-le-mul_left, mul_comm}
use Rattle.values.specs.declared.limits.TheConstants.{MOST_NODES}
use Rattle.node_counts.specs.declared.numbers.TheConstants.{TOO_MANY}
use Rattle.node_counts.specs.Nodes.{capped}

pub capped-small : (n : ℕ) → n ≤ TOO_MANY → capped n ≡ n
capped-small n h = omega arith

pub capped-large : (n : ℕ) → TOO_MANY ≤ n → capped n ≡ TOO_MANY
capped-large n h = omega arith

pub capped-le : (n : ℕ) → capped n ≤ TOO_MANY
capped-le n = omega arith

pub capped-capped : (n : ℕ) → capped (capped n) ≡ capped n
capped-capped n = omega arith

pub capped-add : (a b : ℕ) → capped (capped a + capped b) ≡ capped (a + b)
capped-add a b = omega arith

-- a large count times one that is not 0 is large
large_times : (a b : ℕ) → TOO_MANY ≤ a → 1 ≤ b → TOO_MANY ≤ a * b
large_times a b h some = let more : a * 1 ≤ a * b = mul-le-mul_left a some in omega (arith, more)

large_product : (a b : ℕ) → TOO_MANY ≤ a → 1 ≤ b → capped (capped a * capped b) ≡ capped (a * b)
large_product a b h some =
    let one : 1 ≤ capped b = omega arith in
    let top : TOO_MANY ≤ capped a = omega arith in
    capped-large (capped a * capped b) (large_times (capped a) (capped b) top one) ∙ sym (capped-large (a * b) (large_times a b h some))

small_product : (a b : ℕ) → a ≤ TOO_MANY → b ≤ TOO_MANY → capped (capped a * capped b) ≡ capped (a * b)
small_product a b ha hb = ap (λ x. capped (x * capped b)) (capped-small a ha) ∙ ap (λ y. capped (a * y)) (capped-small b hb)

product_with : (a b : ℕ) → (a < TOO_MANY) ⊎ (TOO_MANY ≤ a) → (b < TOO_MANY) ⊎ (TOO_MANY ≤ b) → 1 ≤ a → 1 ≤ b → capped (capped a * capped b) ≡ capped (a * b)
product_with a b (inl ha) (inl hb) sa sb = small_product a b (omega arith) (omega arith)
product_with a b (inr ha) hb sa sb = large_product a b ha sb
product_with a b (inl ha) (inr hb) sa sb =
    ap capped (mul_comm (capped a) (capped b)) ∙ (large_product b a hb sa ∙ ap capped (mul_comm b a))

pub capped-mul : (a b : ℕ) → capped (capped a * capped b) ≡ capped (a * b)
capped-mul zero b = small_product_zero b
  where
    small_product_zero : (b : ℕ) → capped (capped zero * capped b) ≡ capped (zero * b)
    small_product_zero b = omega arith
capped-mul (suc a) zero = omega arith
capped-mul (suc a) (suc b) = product_with (suc a) (suc b) (cases_lt (suc a) TOO_MANY) (cases_lt (suc b) TOO_MANY) (omega arith) (omega arith)

-- what is held is over the most where the count is
pub over_most : (n : ℕ) → nat_lt MOST_NODES (capped n) ≡ nat_lt MOST_NODES n
over_most n = by_size (cases_lt n TOO_MANY)
  where
    by_size : (n < TOO_MANY) ⊎ (TOO_MANY ≤ n) → nat_lt MOST_NODES (capped n) ≡ nat_lt MOST_NODES n
    by_size (inl small) = ap (nat_lt MOST_NODES) (capped-small n (omega arith))
    by_size (inr large) = ap (nat_lt MOST_NODES) (capped-large n large) ∙ sym (lt-ltb MOST_NODES n (omega arith))
