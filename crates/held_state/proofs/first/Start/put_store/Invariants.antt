use Rattle.std.proofs.Common.{◌≡◌, map, drop}
use Rattle.plain_evaluation.specs.Held.{nothing}
use Rattle.held_state.specs.Built.{with_more}
use Rattle.held_state.specs.Start.{built}
use Rattle.held_state.proofs.first.Start.put_store.Given as goal

abbrev pub invariant-loop : goal.invariant-loop
invariant-loop l = with_more (map (λ field. nothing) (drop l.index l.fields)) (built l.self) ≡ with_more (map (λ field. nothing) l.fields) (built l.initial.self)
