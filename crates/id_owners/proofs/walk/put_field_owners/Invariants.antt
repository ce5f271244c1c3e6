use Rattle.std.proofs.Common.{◌≡◌, ◌++◌, map, drop}
use Rattle.id_owners.proofs.walk.put_field_owners.Given as goal

abbrev pub invariant-loop : goal.invariant-loop
invariant-loop l = l.owners ++ map (λ field. l.owner) (drop l.index l.fields) ≡ l.initial.owners ++ map (λ field. l.owner) l.fields
