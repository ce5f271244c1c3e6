-- A journal as contracts see it.
use Rattle.std.specs.Prelude.{ℕ, List, map, replicate}
use Rattle.run_items.specs.Journal.{PassCounts, JournalPhase}
use Rattle.run_journal.specs.declared.journal.Kept.{Kept}

-- the phases, in order, and for how many more there is room
pub record JournalState : Type 0 where
  pub phases : List JournalPhase
  pub spare : ℕ

-- one caller meets no other
abbrev pub no_counts : PassCounts
no_counts = record { meets = 0; remarks = 0 }

abbrev pub phase_kept : Kept → JournalPhase
phase_kept kept = record { base = kept.base; entries = kept.entries; counts = replicate kept.passes no_counts }

abbrev pub phases_kept : List Kept → List JournalPhase
phases_kept kept = map phase_kept kept
