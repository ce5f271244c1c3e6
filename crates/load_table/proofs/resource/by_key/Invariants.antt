use Rattle.std.proofs.Common.{◌≡◌, [], drop, length}
use Rattle.std.specs.List.{zip}
use Rattle.load_table.specs.Table.{pairs_put}
use Rattle.load_table.proofs.resource.by_key.Given as goal

-- what is left to put in makes of the map what all makes of the empty one
abbrev pub invariant-loop-key : goal.invariant-loop-key
invariant-loop-key l = pairs_put l.map.entries (drop (length l.yielded) (zip l.keys l.codes)) ≡ pairs_put [] (zip l.keys l.codes)
