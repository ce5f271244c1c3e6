use Rattle.std.proofs.Common.{◌≡◌, ◌++◌, take}
use Rattle.std.specs.List.{flat_map}
use Rattle.run_meaning.specs.Ending.{waiting_line}
use Rattle.report_text.proofs.waiting.put_others.Given as goal

abbrev pub invariant-loop-load : goal.invariant-loop-load
invariant-loop-load l = l.out.items ≡ l.initial.out.items ++ flat_map (waiting_line l.component) (take l.load-index l.loads)
