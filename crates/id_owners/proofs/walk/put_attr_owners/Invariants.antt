use Rattle.std.proofs.Common.{◌≡◌, ◌++◌, drop}
use Rattle.std.specs.List.{flat_map}
use Rattle.plain_evaluation.specs.Origins.{tell_attr}
use Rattle.id_owners.specs.Table.{in_owner, owners_told}
use Rattle.id_owners.proofs.walk.put_attr_owners.Given as goal

abbrev pub invariant-loop-attr : goal.invariant-loop-attr
invariant-loop-attr l = l.owners ++ owners_told (flat_map (tell_attr (in_owner l.owner)) (drop l.attr-index l.attrs)) ≡ l.initial.owners ++ owners_told (flat_map (tell_attr (in_owner l.owner)) l.attrs)
