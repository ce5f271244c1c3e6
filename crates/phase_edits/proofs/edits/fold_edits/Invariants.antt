use Rattle.std.proofs.Common.{◌≡◌, length, map}
use Rattle.component_items.specs.declared.component.Component.{Component}
use Rattle.held_state.specs.State.{IsOf}
use Rattle.phase_edits.proofs.Folds.{Editing}
use Rattle.phase_edits.proofs.edits.fold_edits.Given as goal

abbrev pub invariant-loop-entry : goal.invariant-loop-entry
invariant-loop-entry l = record {
  folded : Editing (map (λ post. post.list) l.posts) l.initial.held l.initial.verdicts.items l.entries l.entry-index l.held l.verdicts.items;
  passes : length l.verdicts.items ≡ length l.initial.verdicts.items;
  fits : (component : Component) → IsOf component l.initial.held → IsOf component l.held;
}
