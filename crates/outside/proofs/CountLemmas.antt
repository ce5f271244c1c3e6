-- What follows from the risings of counts.
use Rattle.std.proofs.Common.{◌≡◌, ℕ, ◌+◌, ◌<◌, ◌≤◌, ◌↔◌, ◌⊎◌, inl, inr, arith}
use Rattle.outside.specs.Counts.{last_count, Rose, RoseBy, RoseByTogether}

rose_apart : (before after : ℕ) → Rose before after → after ≤ last_count → (before < after) ⊎ (after ≡ last_count)
rose_apart before after h fits = grind arith

-- a count rose exactly where it is greater, or stands at its last value
pub Rose-is : (before after : ℕ) → after ≤ last_count → Rose before after ↔ ((before < after) ⊎ (after ≡ last_count))
Rose-is before after fits = (λ h. rose_apart before after h fits, λ s. elim s [ inl h ↦ omega arith | inr h ↦ omega arith ])

-- a count that rose twice rose by the sum
pub RoseBy-then : (m n before between after : ℕ) → RoseBy m before between → RoseBy n between after → RoseBy (m + n) before after
RoseBy-then m n before between after h k = omega arith

-- two counts that rose twice rose by the sum
pub RoseByTogether-then : (m n before between after other_before other_between other_after : ℕ) → RoseByTogether m before between other_before other_between → RoseByTogether n between after other_between other_after → RoseByTogether (m + n) before after other_before other_after
RoseByTogether-then m n before between after other_before other_between other_after h k =
    (h.0 + k.0, h.1 + k.1, omega (arith, h.2, k.2), RoseBy-then h.0 k.0 _ _ _ h.3 k.3, RoseBy-then h.1 k.1 _ _ _ h.4 k.4)
