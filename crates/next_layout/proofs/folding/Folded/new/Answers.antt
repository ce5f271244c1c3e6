use Rattle.std.proofs.Common.{List, slice_get, sym, ap, subst, ◌∙◌}
use Rattle.std.proofs.lemmas.List.{length-map}
use Rattle.sources.specs.declared.opening.Opened.{Opened}
use Rattle.held_state.specs.State.{IsOf}
use Rattle.next_layout.proofs.Folds.{is_folded}
use Rattle.next_layout.proofs.folding.Folded.new.Goals as goal

pub write_back-requires-clause-fits : goal.write_back-requires-clause-fits
write_back-requires-clause-fits c = subst (IsOf c.args.component.now) (sym c.in_ok-next.ensures) c.requires

pub write_back-requires-clause-packed : goal.write_back-requires-clause-packed
write_back-requires-clause-packed c = λ n row at. c.rows.ensures.packed n row (ap (λ (rs : List Opened). slice_get rs n) (sym c.rows.ensures.rows) ∙ at)

pub returns : goal.returns
returns c =
    let component = c.args.component.now in
    let edited = c.in_ok-verdicts.ensures.fits component c.write_back.ensures.fits_still in
    is_folded component c.args.held.now c.args.names.now c.args.graph.now c.args.entries.now c.rows.result.now _ c.in_ok-next.next c.write_back.new.held c.fold_edits.new.held _ _
    c.rows.ensures.rows c.posts.ensures c.in_ok-next.ensures c.write_back.ensures.shown c.in_ok-verdicts.ensures.held
    (c.fold_disposals.ensures.held component c.items-items.ensures.kept edited)
    (c.fold_disposals.ensures.fits component c.items-items.ensures.kept edited)
    (c.in_ok-verdicts.ensures.passes ∙ sym (length-map c.posts.result.now _)) c.in_ok-verdicts.ensures.told
