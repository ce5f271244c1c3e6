-- A source and a sink in memory, and what a call of each does.
use Rattle.std.specs.Prelude.{ℕ, ◌-◌, ◌≤◌, List, ◌++◌, length, drop, min, ◌⊎◌, Contains}
use Rattle.outside.specs.Counts.{next_count}

-- bytes to give in pieces, the numbers of the calls that fail, and how many calls were made and failed
pub record Supply : Type 0 where
  pub held : List ℕ
  pub piece : ℕ
  pub fails : List ℕ
  pub calls : ℕ
  pub faults : ℕ

-- the next call is one of those that fail
abbrev pub FailsNext : Supply → Type 0
FailsNext s = Contains s.fails (next_count s.calls)

-- how many bytes the next call gives to so much room, where it doesn't fail
abbrev pub given_count : Supply → ℕ → ℕ
given_count s room = min s.piece (min room (length s.held))

abbrev pub after_read : Supply → ℕ → Supply
after_read s n = record s { held = drop n s.held; calls = next_count s.calls }

abbrev pub after_failed_read : Supply → Supply
after_failed_read s = record s { calls = next_count s.calls; faults = next_count s.faults }

-- bytes taken in pieces, up to so much room, the numbers of the calls that fail, and how many calls were made and failed
pub record Intake : Type 0 where
  pub taken : List ℕ
  pub room : ℕ
  pub piece : ℕ
  pub fails : List ℕ
  pub calls : ℕ
  pub faults : ℕ

-- the next call is one of those that fail, or there is no room left
abbrev pub RefusesNext : Intake → Type 0
RefusesNext s = Contains s.fails (next_count s.calls) ⊎ (s.room ≤ length s.taken)

-- how many of so many bytes the next call takes, where it doesn't fail
abbrev pub taken_count : Intake → ℕ → ℕ
taken_count s offered = min s.piece (min offered (s.room - length s.taken))

abbrev pub after_write : Intake → List ℕ → Intake
after_write s bytes = record s { taken = s.taken ++ bytes; calls = next_count s.calls }

abbrev pub after_failed_write : Intake → Intake
after_failed_write s = record s { calls = next_count s.calls; faults = next_count s.faults }
