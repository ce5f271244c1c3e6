use Rattle.std.proofs.Common.{◌≡◌, ◌≤◌, ◌++◌, take, slice_range}
use Rattle.std.specs.List.{flat_map}
use Rattle.run_meaning.specs.Report.{quoted_byte}
use Rattle.report_text.proofs.code.put_escaped.Given as goal

-- all before the run is written, and the run stands for itself
abbrev pub invariant-loop-i : goal.invariant-loop-i
invariant-loop-i l =
    (l.plain ≤ l.i)
    × (l.out.items ≡ l.initial.out.items ++ flat_map quoted_byte (take l.plain l.text))
    × (flat_map quoted_byte (slice_range l.text l.plain l.i) ≡ slice_range l.text l.plain l.i)
