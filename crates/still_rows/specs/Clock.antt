-- Numbers that are drawn, and what is noted with them.
use Rattle.std.specs.Prelude.{◌≡◌, ◌≢◌, ℕ, ◌+◌, ◌<◌, ◌≤◌, ◌^◌, ◌⊎◌, true, false, [], ◌∷◌, ◌++◌, length, slice_set}
use Rattle.values.specs.declared.code.Code.{Code}
use Rattle.values.specs.declared.plan.Fact.{Fact}
use Rattle.values.specs.declared.plan.Fact.TheVariants.{Change}
use Rattle.values.specs.declared.plan.Noted.{Noted}
use Rattle.values.specs.Packing.{unpacked}
use Rattle.values.specs.Reserved.{room_of}
use Rattle.sources.specs.declared.opening.Opened.{Opened}
use Rattle.still_rows.specs.declared.clock.Clock.{Clock}

-- the count of ticks
abbrev pub now_of : Clock → ℕ
now_of c = c.base + c.drawn

-- what holds of a clock: in a phase there is an entry for each number up to the last one, never more entries than numbers, and room for all
pub record IsClock (c : Clock) : Type 0 where
  pub base : c.base < 2 ^ 62
  pub few : c.drawn < 2 ^ 31
  pub noted : c.in_phase ≡ true → c.drawn ≤ 65536 → length c.entries.list ≡ c.drawn
  pub short : c.in_phase ≡ true → length c.entries.list ≤ c.drawn
  pub room : c.in_phase ≡ true → 66560 ≤ room_of c.entries

-- the entry of the number that comes after this many
abbrev pub entry_at : ℕ → Fact → Noted
entry_at k fact = record { number = k + 1; fact = fact }

-- one number is drawn; in a phase the fact is noted with it
pub record IsTicked (old new : Clock) (fact : Fact) : Type 0 where
  pub base : new.base ≡ old.base
  pub drawn : new.drawn ≡ old.drawn + 1
  pub few : new.drawn ≤ 65536
  pub in_phase : new.in_phase ≡ old.in_phase
  pub noted : old.in_phase ≡ true → new.entries.list ≡ old.entries.list ++ entry_at old.drawn fact ∷ []
  pub silent : old.in_phase ≡ false → new.entries ≡ old.entries
  pub room : room_of new.entries ≡ room_of old.entries

-- one number is drawn, which comes to nothing
abbrev pub refused : Clock → Clock
refused c = record c { drawn = c.drawn + 1 }

-- one number is drawn, and the fact is noted with it, however many were drawn
pub record IsNoted (old new : Clock) (fact : Fact) : Type 0 where
  pub base : new.base ≡ old.base
  pub drawn : new.drawn ≡ old.drawn + 1
  pub in_phase : new.in_phase ≡ old.in_phase
  pub entries : new.entries.list ≡ old.entries.list ++ entry_at old.drawn fact ∷ []
  pub room : room_of new.entries ≡ room_of old.entries

-- the entry at a place says this
abbrev pub filled : Clock → ℕ → Fact → Clock
filled c place fact = record c { entries = record c.entries { list = slice_set c.entries.list place (entry_at place fact) } }

-- the version of a memo that ends with this value: a new one, with its entry, exactly where the value differs
abbrev pub IsVersioned : Clock → Clock → ℕ → Opened → Code → ℕ → Type 0
IsVersioned old new node row code version =
    ((unpacked row.code ≡ code) × (version ≡ row.version) × (new ≡ old))
    ⊎ ((unpacked row.code ≢ code) × (version ≡ now_of old + 1) × IsTicked old new (Change node code))
