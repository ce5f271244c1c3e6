use Rattle.std.proofs.Common.{ap, sym}
use Rattle.component_items.specs.Own.{place}
use Rattle.component_items.proofs.AroundLemmas.{inside_area, inside_other}
use Rattle.component_items.proofs.around.owner_inside.Goals as goal

pub returns-in-Area : goal.returns-in-Area
returns-in-Area c = λ areas. sym (ap (λ there. there.owner) (inside_area c.args.item.now c.in-Area.id c.in-Area.name c.in-Area.area c.in-Area.items (place c.args.owner areas) c.in-Area.is))

pub returns-in_default : goal.returns-in_default
returns-in_default c = λ areas. sym (ap (λ there. there.owner) (inside_other c.args.item.now (place c.args.owner areas) c.in_default.not-Area))
