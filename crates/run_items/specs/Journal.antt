-- A journal as contracts see it: its phases in order.
use Rattle.std.specs.Prelude.{ℕ, suc, Option, List, [], ◌∷◌, ◌++◌, map}
use Rattle.std.specs.Option.{option_map, option_and_then}
use Rattle.values.specs.declared.plan.Noted.{Noted}
use Rattle.script_items.specs.Script.{numbered}
use Rattle.run_items.specs.declared.entry.Entry.{Entry}

-- how often a pass met a node that another had claimed, and how often a node that it brought up to date was marked meanwhile
pub record PassCounts : Type 0 where
  pub meets : ℕ
  pub remarks : ℕ

-- a phase: the count of ticks when it opened, its entries in order of number, and the counts of each pass that it was opened with, in order
pub record JournalPhase : Type 0 where
  pub base : ℕ
  pub entries : List Noted
  pub counts : List PassCounts

-- ---- the entries of all phases, by phase and then by number

abbrev pub entry_in : ℕ → Noted → Entry
entry_in phase noted = record { phase = phase; number = noted.number; fact = noted.fact }

-- where the first of these phases has this number
abbrev pub entries_from : ℕ → List JournalPhase → List Entry
entries_from phase [] = []
entries_from phase (p ∷ ps) = map (entry_in phase) p.entries ++ entries_from (suc phase) ps

-- phases count from 1
abbrev pub entries_of : List JournalPhase → List Entry
entries_of journal = entries_from 1 journal

-- ---- one phase, and one pass of it; both count from 1, and there is none at 0 and past the end

abbrev pub base_of : List JournalPhase → ℕ → Option ℕ
base_of journal phase = option_map (λ p. p.base) (numbered journal phase)

abbrev pub counts_of : List JournalPhase → ℕ → ℕ → Option PassCounts
counts_of journal phase pass = option_and_then (λ p. numbered p.counts pass) (numbered journal phase)

abbrev pub meets_of : List JournalPhase → ℕ → ℕ → Option ℕ
meets_of journal phase pass = option_map (λ c. c.meets) (counts_of journal phase pass)

abbrev pub remarks_of : List JournalPhase → ℕ → ℕ → Option ℕ
remarks_of journal phase pass = option_map (λ c. c.remarks) (counts_of journal phase pass)
