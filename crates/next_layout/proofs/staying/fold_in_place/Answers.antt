use Rattle.std.proofs.Common.{List, slice_get, sym, ap, ◌∙◌}
use Rattle.sources.specs.declared.opening.Opened.{Opened}
use Rattle.sources.specs.Rows.{value_in}
use Rattle.held_state.specs.State.{with_held}
use Rattle.held_rows.specs.Shown.{held_shown}
use Rattle.next_layout.proofs.InPlace.{laid_still, said_still, loads_still}
use Rattle.next_layout.proofs.staying.fold_in_place.Goals as goal

pub write_back-requires-clause-fits : goal.write_back-requires-clause-fits
write_back-requires-clause-fits c = c.requires.fits

pub write_back-requires-clause-packed : goal.write_back-requires-clause-packed
write_back-requires-clause-packed c = λ n row at. c.rows.ensures.packed n row (ap (λ (rs : List Opened). slice_get rs n) (sym c.rows.ensures.rows) ∙ at)

pub returns-clause-held : goal.returns-clause-held
returns-clause-held c = c.write_back.ensures.shown ∙ ap (λ (rs : List Opened). with_held c.args.held.now (held_shown c.args.names.now (value_in rs) c.args.held.now.held)) c.rows.ensures.rows

pub returns-clause-laid : goal.returns-clause-laid
returns-clause-laid c = laid_still c.args.component.now c.args.held.now c.args.names.now c.args.graph.now c.requires c.write_back.new.held
    (c.write_back.ensures.shown ∙ ap (λ (rs : List Opened). with_held c.args.held.now (held_shown c.args.names.now (value_in rs) c.args.held.now.held)) c.rows.ensures.rows) c.write_back.ensures.fits_still

pub returns-clause-sources : goal.returns-clause-sources
returns-clause-sources c = said_still c.args.component.now c.args.held.now c.args.names.now c.args.graph.now c.requires c.write_back.new.held
    (c.write_back.ensures.shown ∙ ap (λ (rs : List Opened). with_held c.args.held.now (held_shown c.args.names.now (value_in rs) c.args.held.now.held)) c.rows.ensures.rows) c.write_back.ensures.fits_still

pub returns-clause-loads : goal.returns-clause-loads
returns-clause-loads c = loads_still c.args.component.now c.args.held.now c.args.names.now c.args.graph.now c.requires c.write_back.new.held
    (c.write_back.ensures.shown ∙ ap (λ (rs : List Opened). with_held c.args.held.now (held_shown c.args.names.now (value_in rs) c.args.held.now.held)) c.rows.ensures.rows) c.write_back.ensures.fits_still
