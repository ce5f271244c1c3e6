use Rattle.std.proofs.Common.{length, map, ap, ◌∙◌, arith}
use Rattle.phase_edits.specs.Making.{all_told}
use Rattle.phase_edits.proofs.Folds.{editing_ends}
use Rattle.phase_edits.proofs.Told.{told_from_nothing}
use Rattle.phase_edits.proofs.edits.fold_edits.Goals as goal

pub returns-clause-told : goal.returns-clause-told
returns-clause-told c = λ pass told there.
    let posts = map (λ post. post.list) c.args.posts.now in
    let entries = c.args.entries.now in
    let held = c.args.held.now in
    let verdicts = c.loop-entry.verdicts.items in
    let ended = editing_ends posts held c.in_ok-verdicts.verdicts.items entries c.loop-entry.entry-index c.loop-entry.held verdicts (omega arith) c.loop-entry.invariant.folded in
    told_from_nothing posts entries held.held verdicts (length c.args.posts.now) pass told (ended.1 ∙ ap (all_told posts entries held.held) c.in_ok-verdicts.ensures) there
