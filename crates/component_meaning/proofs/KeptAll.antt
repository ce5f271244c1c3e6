-- All that a component keeps.
use Rattle.std.proofs.Common.{ℕ, ◌+◌, ◌^◌, ◌<◌, List, length, arith}
use Rattle.component_items.specs.declared.component.Component.{Component}
use Rattle.component_items.specs.Kept.{IsKept}
use Rattle.component_meaning.specs.Component.{IsComponent}
use Rattle.component_meaning.proofs.KeptFew.{ids_are_few}
use Rattle.component_meaning.proofs.KeptIds.{ids_are_numbered}
use Rattle.component_meaning.proofs.KeptOwners.{owners_are_few}
use Rattle.component_meaning.proofs.KeptPlaces.{items_stand_where_they_may}
use Rattle.component_meaning.proofs.KeptShapes.{stores_and_resources_have_their_shape}
use Rattle.component_meaning.proofs.KeptTexts.{texts_are_in_the_table}
use Rattle.component_meaning.proofs.KeptUses.{names_are_of_what_is_seen}

pub components_are_kept : (bytes : List ℕ) (component : Component) → length bytes + 1 < 2 ^ 31 → IsComponent bytes component → IsKept component
components_are_kept bytes component short is = record {
  numbered = ids_are_numbered bytes component is;
  stand = items_stand_where_they_may bytes component is;
  see = names_are_of_what_is_seen bytes component is;
  texts = texts_are_in_the_table bytes component is;
  shaped = stores_and_resources_have_their_shape bytes component is;
  few_nodes = is.few_nodes;
  few_owners = owners_are_few bytes component is;
  few_ids = let few = ids_are_few bytes component is in omega arith;
}
