use Rattle.std.proofs.Common.{◌≡◌, ◌≤◌, take, slice_range}
use Rattle.outside.specs.Puts.{PutsAll}
use Rattle.html_out.specs.Shown.{escaped}
use Rattle.html_out.proofs.escape.escape.Given as goal

-- all before the run is written, and the run stands for itself
abbrev pub invariant-loop-i : goal.invariant-loop-i
invariant-loop-i g l = record {
  within : l.plain ≤ l.i;
  written : PutsAll (g.K.Sink.taken l.fn.sink) (g.K.Sink.taken l.sink) (g.K.Sink.faults l.fn.sink) (g.K.Sink.faults l.sink) (escaped l.in_value (take l.plain l.text));
  run : escaped l.in_value (slice_range l.text l.plain l.i) ≡ slice_range l.text l.plain l.i;
}
