use Rattle.std.proofs.Common.{◌≡◌, ◌++◌, drop}
use Rattle.std.specs.List.{flat_map}
use Rattle.plain_evaluation.specs.Written.{state_of}
use Rattle.plain_values.specs.Seen.{values_seen}
use Rattle.plain_page.specs.Waiting.{items_waiting}
use Rattle.plain_page.proofs.pending.Waiting.+waiting.Given as goal

abbrev pub invariant-items-loop-item : goal.invariant-items-loop-item
invariant-items-loop-item l = l.loads.items ++ items_waiting (state_of l.self.held.now.held) (values_seen l.self.values.now) (drop l.item-index l.items) ≡ l.initial.loads.items ++ items_waiting (state_of l.self.held.now.held) (values_seen l.self.values.now) l.items

abbrev pub invariant-each-loop : goal.invariant-each-loop
invariant-each-loop l = l.loads.items ++ flat_map (λ row. items_waiting (state_of l.self.held.now.held) (values_seen l.self.values.now) l.items) (drop l.counter l.rows.rows) ≡ l.initial.loads.items ++ flat_map (λ row. items_waiting (state_of l.self.held.now.held) (values_seen l.self.values.now) l.items) l.rows.rows
