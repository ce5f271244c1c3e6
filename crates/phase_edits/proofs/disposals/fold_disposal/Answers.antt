use Rattle.std.proofs.Common.{sym, ap, subst, ◌∙◌}
use Rattle.held_state.specs.State.{IsOf, with_held}
use Rattle.held_state.proofs.OfComponent.{goes_by_text, killed_is_of}
use Rattle.run_meaning.specs.Entries.{owner_in}
use Rattle.phase_edits.specs.Making.{held_left}
use Rattle.phase_edits.proofs.disposals.fold_disposal.Goals as goal

pub returns-in-Disposed-clause-held : goal.returns-in-Disposed-clause-held
returns-in-Disposed-clause-held c = λ component kept is.
    let state = c.args.held.now in
    c.kill.ensures
    ∙ ap (with_held state) (goes_by_text component state c.in-Disposed.owner kept is)
    ∙ ap (λ o. with_held state (held_left component o state.held)) (sym (ap owner_in c.in-Disposed.is))

pub returns-in-Disposed-clause-fits : goal.returns-in-Disposed-clause-fits
returns-in-Disposed-clause-fits c = λ component kept is.
    let state = c.args.held.now in
    subst (IsOf component) (sym (c.kill.ensures ∙ ap (with_held state) (goes_by_text component state c.in-Disposed.owner kept is))) (killed_is_of component state c.in-Disposed.owner kept is)
