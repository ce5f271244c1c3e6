-- The whole state at the start.
use Rattle.std.proofs.Common.{◌≡◌, ℕ, ◌==◌, Bool, true, false, List, [], ◌∷◌, ◌++◌, map, length, replicate, refl, sym, ap, ◌∙◌, arith}
use Rattle.std.proofs.lemmas.List.{length-map}
use Rattle.component_items.specs.declared.component.Component.{Component}
use Rattle.component_items.specs.Ids.{ids_in, owners_in}
use Rattle.component_items.specs.Kept.{IsKept}
use Rattle.plain_evaluation.specs.Killed.{Going, going_if, ids_going, owners_going, going_with}
use Rattle.plain_evaluation.proofs.Goings.{has_number, numbered_bounds, items_go}
use Rattle.held_state.specs.State.{HeldState, goings_of, first_state}
use Rattle.held_state.specs.Built.{goings_in, Built, with_area}
use Rattle.held_state.proofs.Built.{map_same}

-- the top, and then the areas
pub goings_whole : (component : Component) → IsKept component → goings_of component ≡ record { ids = ids_in component.items; owners = 0 ∷ owners_in component.items } ∷ goings_in component.items
goings_whole component kept = λ i. top i ∷ map_same (going_with component) (λ owner. record { ids = ids_going owner component.items false; owners = owners_going owner component.items false }) (owners_in component.items) others i
  where
    top : ◌≡◌ {A = Going} (going_with component 0) (record { ids = ids_in component.items; owners = 0 ∷ owners_in component.items })
    top = λ i. record { ids = (items_go 0 component.items).all_ids i; owners = 0 ∷ (items_go 0 component.items).all_owners i }

    differs : (owner : ℕ) → has_number (owners_in component.items) owner ≡ true → (owner == 0) ≡ false
    differs owner has = at (owner == 0) refl
      where
        at : (b : Bool) → (owner == 0) ≡ b → b ≡ false
        at true is = let bounds = numbered_bounds 1 (owners_in component.items) owner kept.numbered.owners has in let same : owner ≡ 0 = grind arith in absurd (omega arith)
        at false is = refl

    others : (owner : ℕ) → has_number (owners_in component.items) owner ≡ true → ◌≡◌ {A = Going} (going_with component owner) (record { ids = ids_going owner component.items false; owners = owners_going owner component.items false })
    others owner has = λ i. record { ids = ids_going owner component.items (differs owner has i); owners = going_if (differs owner has i) (0 ∷ []) ++ owners_going owner component.items (differs owner has i) }

replicate-map : (numbers : List ℕ) → replicate (length numbers) true ≡ map (λ owner. true) numbers
replicate-map [] = refl
replicate-map (n ∷ numbers) = ap (λ more. true ∷ more) (replicate-map numbers)

pub first_whole : (component : Component) (built : Built) (live : List Bool) → IsKept component → built ≡ with_area component.items (record { holdings = []; goings = [] }) → live ≡ replicate (length built.goings) true → ◌≡◌ {A = HeldState} (record { held = record { holdings = built.holdings; live = live }; goings = built.goings }) (first_state component)
first_whole component built live kept is lives = λ i. record { held = record { holdings = (is i).holdings; live = all_live i }; goings = (ap (λ (b : Built). b.goings) is ∙ sym (goings_whole component kept)) i }
  where
    count : length (goings_in component.items) ≡ length (owners_in component.items)
    count = length-map (owners_in component.items) (λ owner. record { ids = ids_going owner component.items false; owners = owners_going owner component.items false })

    all_live : live ≡ true ∷ map (λ owner. true) (owners_in component.items)
    all_live = lives ∙ ap (λ (b : Built). replicate (length b.goings) true) is ∙ ap (λ (n : ℕ). true ∷ replicate n true) count ∙ ap (λ more. true ∷ more) (replicate-map (owners_in component.items))
