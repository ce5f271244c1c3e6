-- What the calls answer.
use Rattle.std.specs.Prelude.{ℕ, List, [], map}
use Rattle.load_meaning.specs.declared.late.Late.{Late}
use Rattle.run_meaning.specs.Opened.{Target as Target-Meant, at_row, at_none, at_dead}
use Rattle.still_graph.specs.declared.still.Target.{Target}
use Rattle.still_graph.specs.declared.still.Target.TheVariants as target
use Rattle.still_graph.specs.declared.settling.Settled.{Settled}
use Rattle.still_graph.specs.declared.settling.Settled.TheVariants as settled

abbrev pub target_of : Target → Target-Meant
target_of (target.Row row) = at_row row
target_of target.NoRow = at_none
target_of (target.Dead owner) = at_dead owner

-- the loads that a settling says are pending, with why
abbrev pub late_of : Settled → List (ℕ × Late)
late_of settled.Whole = []
late_of (settled.Waiting pending) = pending

abbrev pub ids_of : Settled → List ℕ
ids_of settled = map (λ l. l.0) (late_of settled)
