use Rattle.std.proofs.Common.{List, None, sym, ap, subst, ◌∙◌}
use Rattle.view_meaning.specs.Mounted.{mounted_again}
use Rattle.view_meaning.specs.Parts.{Part}
use Rattle.view_slots.specs.Home.{remounted}
use Rattle.view_slots.specs.Seen.{seen_by}
use Rattle.view_slots.specs.Shows.{Shows}
use Rattle.view_slots.proofs.Meaning.{top_shows, top_made}
use Rattle.view_slots.proofs.slots.Slots.remount_top.Goals as goal

pub returns-clause-shows : goal.returns-clause-shows
returns-clause-shows c = λ old kept shown. subst (Shows (mounted_again c.args.sight.now.component.items (seen_by c.args.sight.now) old) None) (sym (c.remount.ensures ∙ ap (λ (parts : List Part). remounted (seen_by c.args.sight.now) parts None c.args.self.now) (top_made (seen_by c.args.sight.now).view c.args.sight.now.component.items c.top_items.result.now c.top_items.ensures))) (top_shows (seen_by c.args.sight.now) c.args.sight.now.component old c.args.self.now kept shown)
