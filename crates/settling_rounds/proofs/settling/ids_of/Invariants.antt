use Rattle.std.proofs.Common.{◌≡◌, map, take}
use Rattle.settling_rounds.proofs.settling.ids_of.Given as goal

abbrev pub invariant-loop-load : goal.invariant-loop-load
invariant-loop-load l = l.ids ≡ map (λ load. load.0) (take l.load-index l.load-items)
