use Rattle.std.proofs.Common.{◌≡◌, min, length, ap, sym, arith}
use Rattle.plain_values.specs.Pairs.{with_pairs}
use Rattle.plain_values.specs.Seen.{values_seen}
use Rattle.plain_values.proofs.PlaceLemmas.{zip_none}
use Rattle.plain_values.proofs.pairs.put_pairs.Goals as goal

pub loop-left-init : goal.loop-left-init
loop-left-init c =
    let least : c.min-left.result ≡ min (length c.args.keys.now) (length c.args.codes.now) = c.min-left.ensures in
    record {
      keys = omega arith;
      codes = omega arith;
      same = sym (ap (λ pairs. with_pairs c.args.id pairs (values_seen c.args.pairs.now)) (zip_none c.args.keys.now c.args.codes.now c.min-left.result least));
    }
