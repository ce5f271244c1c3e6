-- A history makes a phase of which all holds.
use Rattle.std.proofs.Common.{ℕ, List}
use Rattle.run_meaning.specs.Opened.{Opened}
use Rattle.run_meaning.specs.Phase.{Phase}
use Rattle.run_meaning.specs.Merge.{IsMerge}
use Rattle.run_meaning.specs.Run.{IsPhase}
use Rattle.run_history.specs.Going.{Going, just_opened}
use Rattle.run_history.specs.History.{Made, Follows, phase_of, ByPasses, PastFits, VerdictsFit}
use Rattle.run_history.proofs.Journal.{journal_of_history}
use Rattle.run_history.proofs.Numbers.{answered, noted_in_order, noted_once}
use Rattle.run_history.proofs.Got.{got_explained, entries_explained}
use Rattle.run_history.proofs.Disposals.{disposed_once, no_run_after}
use Rattle.run_history.proofs.Pumps.{pumps_fit, changes_differ}
use Rattle.run_history.proofs.Causes.{replies_caused}
use Rattle.run_history.proofs.Counts.{refusals_counted}

module _ (past : List Phase) (o : Opened) (base count : ℕ) (h : List Made) (k : Going) (f : Follows past o just_opened h k) (by : ByPasses count h) (p : PastFits past o) (v : VerdictsFit (phase_of o base count h k)) where
  pub is_merge : IsMerge past (phase_of o base count h k)
  is_merge = record {
    answered = answered past o base count h k f;
    in_order = noted_in_order past o base count h k f v;
    once = noted_once past o base count h k f by;
    disposals = disposed_once past o base count h k f by p;
    pumps = pumps_fit past o base count h k f by p.lawful;
    changes = changes_differ past o base count h k f;
  }

  pub is_phase : IsPhase past (phase_of o base count h k)
  is_phase = record {
    journal = journal_of_history past o h k f;
    merge = is_merge;
    got = got_explained past o base count h k f p.lawful;
    entries = entries_explained past o base count h k f p.lawful;
    no_run_after = no_run_after past o base count h k f p;
    causes = replies_caused past o base count h k f by p;
    counts = refusals_counted past o base count h k f;
  }
