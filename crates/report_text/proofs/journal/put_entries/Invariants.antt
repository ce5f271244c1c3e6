use Rattle.std.proofs.Common.{◌≡◌, ◌++◌, drop}
use Rattle.run_meaning.specs.Report.{journal_lines}
use Rattle.report_text.proofs.journal.put_entries.Given as goal

abbrev pub invariant-loop-entry : goal.invariant-loop-entry
invariant-loop-entry l = l.out.items ++ journal_lines l.texts l.owners l.phase (drop l.entry-index l.entries) ≡ l.initial.out.items ++ journal_lines l.texts l.owners l.phase l.entries
