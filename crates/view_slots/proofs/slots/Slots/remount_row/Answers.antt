use Rattle.std.proofs.Common.{List, Some, sym, ap, subst, ◌∙◌}
use Rattle.component_items.specs.declared.component.Item.{Item}
use Rattle.view_meaning.specs.Mounted.{mounted_again}
use Rattle.view_slots.specs.Home.{home_parts, remounted}
use Rattle.view_slots.specs.Seen.{seen_by}
use Rattle.view_slots.specs.Shows.{Shows}
use Rattle.view_slots.proofs.RowMeaning.{row_shows}
use Rattle.view_slots.proofs.slots.Slots.remount_row.Goals as goal

pub returns-clause-shows : goal.returns-clause-shows
returns-clause-shows c = λ old e kept stands is mounted home shown. subst (Shows (mounted_again c.args.sight.now.component.items (seen_by c.args.sight.now) old) (Some c.args.key)) (sym (c.remount.ensures ∙ ap (λ (items : List Item). remounted (seen_by c.args.sight.now) (home_parts (seen_by c.args.sight.now).view items (Some c.args.key)) (Some c.args.key) c.args.self.now) (sym is))) (row_shows (seen_by c.args.sight.now) c.args.sight.now.component old c.args.self.now e c.args.key kept stands mounted home shown)
