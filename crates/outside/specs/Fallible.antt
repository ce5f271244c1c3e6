-- A loader that fails at chosen calls, and what a call of it does.
use Rattle.std.specs.Prelude.{ℕ, List, Contains}
use Rattle.outside.specs.Counts.{next_count}
use Rattle.outside.specs.declared.traits.Arrival.{Arrival}
use Rattle.outside.specs.declared.traits.Arrival.TheVariants.{Ready, NotYet, Failed}

-- the numbers of the calls that fail, and how many calls were made, were too early, and failed
pub record Fallible : Type 0 where
  pub fails : List ℕ
  pub calls : ℕ
  pub not_yets : ℕ
  pub faults : ℕ

-- the next call is one of those that fail
abbrev pub FailsNextAsk : Fallible → Type 0
FailsNextAsk s = Contains s.fails (next_count s.calls)

-- after a call with this answer
abbrev pub after_ask : Fallible → Arrival → Fallible
after_ask s Ready = record s { calls = next_count s.calls }
after_ask s NotYet = record s { calls = next_count s.calls; not_yets = next_count s.not_yets }
after_ask s Failed = record s { calls = next_count s.calls; faults = next_count s.faults }
