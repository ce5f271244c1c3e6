use Rattle.std.proofs.Common.{All, sym, subst}
use Rattle.component_items.specs.Ids.{ids_in}
use Rattle.script_names.proofs.Small.{IsSmall, small_ids}
use Rattle.script_names.proofs.names.Names.new.Goals as goal

pub add_items-requires : goal.add_items-requires
add_items-requires c = record {
  small = subst (λ items. All IsSmall (ids_in items)) (sym c.items.ensures.items) (small_ids c.args.component.now.items c.items.ensures.kept.numbered c.items.ensures.kept.few_ids);
}
