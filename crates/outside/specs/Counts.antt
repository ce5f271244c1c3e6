-- Counts of failures and of waits: a count rises to its last value, stays there, and never falls.
use Rattle.std.specs.Prelude.{◌≡◌, ℕ, ◌+◌, ◌-◌, ◌^◌, ◌≤◌, min}

-- where a count stays
abbrev pub last_count : ℕ
last_count = 2 ^ 64 - 1

-- the count after one more
abbrev pub next_count : ℕ → ℕ
next_count before = min (before + 1) last_count

-- a count rose by at least n, or stands at its last value
abbrev pub RoseBy : ℕ → ℕ → ℕ → Type 0
RoseBy n before after = min (before + n) last_count ≤ after

-- a count rose: it is greater than before, or stands at its last value
abbrev pub Rose : ℕ → ℕ → Type 0
Rose before after = RoseBy 1 before after

abbrev pub NeverFalls : ℕ → ℕ → Type 0
NeverFalls before after = before ≤ after

-- two counts rose by at least n between them
abbrev pub RoseByTogether : ℕ → ℕ → ℕ → ℕ → ℕ → Type 0
RoseByTogether n before after other_before other_after =
    (i j : ℕ) × (i + j ≡ n) × RoseBy i before after × RoseBy j other_before other_after
