use Rattle.std.proofs.Common.{◌≡◌, ◌++◌, take}
use Rattle.std.specs.List.{flat_map}
use Rattle.run_meaning.specs.Report.{cleanup_line}
use Rattle.report_text.proofs.journal.put_each_cleanup.Given as goal

abbrev pub invariant-loop-text : goal.invariant-loop-text
invariant-loop-text l = l.out.items ≡ l.initial.out.items ++ flat_map (cleanup_line l.texts) (take l.text-index l.cleanups)
