use Rattle.std.proofs.Common.{List, sym, ap, subst, ◌∙◌}
use Rattle.component_items.specs.declared.component.Item.{Item}
use Rattle.view_meaning.specs.Mounted.{mounted_again}
use Rattle.view_slots.specs.Seen.{seen_by}
use Rattle.view_rows.specs.Listed.{rows_remounted}
use Rattle.view_rows.specs.Shows.{ShowsRows, rows_follow}
use Rattle.view_rows.proofs.Meaning.{followed}
use Rattle.view_rows.proofs.rows.MountedRows.remount.Goals as goal

pub returns-clause-shows : goal.returns-clause-shows
returns-clause-shows c = λ old e before kept stands is mounted shown follow.
    let seen = seen_by c.args.sight.now in
    let whole = (λ i. record { rows = c.remount_all.ensures i; next = c.self.inside.next }) ∙ ap (rows_remounted seen c.args.items.now) (c.self.view_is ∙ follow) ∙ ap (λ (items : List Item). rows_remounted seen items (rows_follow seen e before)) (sym is) in
    subst (ShowsRows (mounted_again c.args.sight.now.component.items seen old) e) (sym whole) (followed seen c.args.sight.now.component old e before kept stands shown mounted)
