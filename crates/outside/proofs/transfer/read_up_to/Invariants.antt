use Rattle.std.proofs.Common.{◌≡◌, ◌+◌, ◌≤◌, ◌-◌, vec_len}
use Rattle.std.specs.Io.KnownBytes.{Consumes}
use Rattle.outside.specs.Counts.{NeverFalls}
use Rattle.outside.proofs.transfer.read_up_to.Given as goal

-- what was read so far is the front of what was held
abbrev pub invariant-loop-bytes : goal.invariant-loop-bytes
invariant-loop-bytes g l =
    record {
      room : vec_len l.buffer ≡ 65536;
      bound : vec_len l.bytes ≤ l.limit + 1;
      moved : Consumes (g.S.Source.held l.fn.source) (g.S.Source.held l.source) l.bytes.items;
      counted : NeverFalls (g.S.Source.faults l.fn.source) (g.S.Source.faults l.source);
    }

abbrev pub decreases-loop-bytes : goal.decreases-loop-bytes
decreases-loop-bytes g l = (l.limit + 1) - vec_len l.bytes
