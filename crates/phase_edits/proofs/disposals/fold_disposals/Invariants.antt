use Rattle.component_items.specs.declared.component.Component.{Component}
use Rattle.component_items.specs.Kept.{IsKept}
use Rattle.held_state.specs.State.{IsOf}
use Rattle.phase_edits.proofs.Folds.{Disposing}
use Rattle.phase_edits.proofs.disposals.fold_disposals.Given as goal

abbrev pub invariant-loop-entry : goal.invariant-loop-entry
invariant-loop-entry l = (component : Component) → IsKept component → IsOf component l.initial.held → Disposing component l.initial.held l.entries l.entry-index l.held × IsOf component l.held
