-- The owners of a component, whether live or not: each with the owner that it is inside of, and its cleanups.
use Rattle.std.specs.Prelude.{ℕ, List, [], ◌∷◌, ◌++◌, map, Some, None}
use Rattle.std.specs.List.{flat_map}
use Rattle.values.specs.declared.plan.PlanOwner.{PlanOwner}
use Rattle.component_items.specs.declared.component.Component.{Component}
use Rattle.component_items.specs.declared.component.Item.{Item}
use Rattle.component_items.specs.declared.component.Item.TheOpen as level
use Rattle.component_items.specs.declared.component.Item.TheOpen.{Item-F}
use Rattle.component_items.specs.declared.component.Item.TheFolds.{fold-Item}

-- what an item adds: to the owner around it its own cleanup, if it is one; and the owners in it, where the one around it is this one
pub record Owning : Type 0 where
  pub cleanups : List ℕ
  pub owners : ℕ → List PlanOwner

abbrev pub owns_nothing : Owning
owns_nothing = record { cleanups = []; owners = λ parent. [] }

-- the owners in items one after another
abbrev pub owners_inside : List Owning → ℕ → List PlanOwner
owners_inside [] parent = []
owners_inside (one ∷ others) parent = one.owners parent ++ owners_inside others parent

-- an area is an owner, which has the cleanups that stand in it directly
abbrev pub owning_step : Item-F Owning → Owning
owning_step (level.Signal id name start) = owns_nothing
owning_step (level.Memo id name expr) = owns_nothing
owning_step (level.Effect id name expr) = owns_nothing
owning_step (level.Resource id name after keys values) = owns_nothing
owning_step (level.Load id name resource key) = owns_nothing
owning_step (level.Store id name max fields starts) = owns_nothing
owning_step (level.Cleanup text) = record { cleanups = text ∷ []; owners = λ parent. [] }
owning_step (level.Area id name owner items) = record { cleanups = []; owners = λ parent. record { parent = Some parent; cleanups = flat_map (λ one. one.cleanups) items } ∷ owners_inside items owner }
owning_step (level.If id cond items) = record { cleanups = []; owners = owners_inside items }
owning_step (level.Each id store items) = record { cleanups = []; owners = owners_inside items }
owning_step (level.Element tag closed attrs items) = record { cleanups = []; owners = owners_inside items }
owning_step (level.Text text) = owns_nothing
owning_step (level.Shown id expr) = owns_nothing

unfoldable pub item_owning : Item → Owning
item_owning = fold-Item Owning owning_step

-- the top is inside of no owner, and has no cleanups
abbrev pub top_owner : PlanOwner
top_owner = record { parent = None; cleanups = [] }

-- the top, and then the areas in text order
abbrev pub plan_owners : Component → List PlanOwner
plan_owners component = top_owner ∷ owners_inside (map item_owning component.items) 0
