-- What each form of item gives to the owners of a plan.
use Rattle.std.proofs.Common.{◌≡◌, ℕ, Bool, List, [], ◌∷◌, ◌++◌, map, Some, refl, sym, ap, ◌∙◌}
use Rattle.std.specs.List.{flat_map}
use Rattle.values.specs.declared.expr.Expr.{Expr}
use Rattle.component_items.specs.declared.component.Attr.{Attr}
use Rattle.component_items.specs.declared.component.Item.{Item}
use Rattle.component_items.specs.declared.component.Item.TheOpen as level
use Rattle.component_items.specs.declared.component.Item.TheOpen.{Item-F}
use Rattle.component_items.specs.declared.component.Item.TheViews.{roll-Item, out-Item, roll-out-Item}
use Rattle.component_items.specs.declared.component.Item.TheFolds.{fold-roll-Item, map-Item}
use Rattle.component_items.specs.declared.component.Item.TheVariants.{Cleanup, Area, If, Each, Element, rolls-Cleanup, rolls-Area, rolls-If, rolls-Each, rolls-Element}
use Rattle.component_items.proofs.FoldLemmas.{fold-Cleanup, fold-Area, fold-If, fold-Each, fold-Element}
use Rattle.plan_meaning.specs.Owners.{Owning, owning_step, item_owning, owners_inside}
use Rattle.node_plan.specs.OwnersOf.{cleanups_in}

cleanups_among : (items : List Item) → flat_map (λ one. one.cleanups) (map item_owning items) ≡ cleanups_in items
cleanups_among [] = refl
cleanups_among (item ∷ items) = ap (λ texts. (item_owning item).cleanups ++ texts) (cleanups_among items)

layer : (x : Item-F Item) → item_owning (roll-Item x) ≡ owning_step (map-Item Item Owning item_owning x)
unfolding item_owning
layer x = fold-roll-Item Owning owning_step x

module _ (item : Item) where
  form : {X : Item} {owning : Owning} → item ≡ X → item_owning X ≡ owning → item_owning item ≡ owning
  form is owning = ap item_owning is ∙ owning

  pub cleanups-Cleanup : (text : ℕ) → item ≡ Cleanup text → (item_owning item).cleanups ≡ text ∷ []
  unfolding item_owning
  cleanups-Cleanup text is = ap (λ one. one.cleanups) (form is (fold-Cleanup owning_step text))

  pub no_cleanups : ((text : ℕ) → item ≡ Cleanup text → ⊥) → (item_owning item).cleanups ≡ []
  no_cleanups none = at (out-Item item) (sym (roll-out-Item item))
    where
      at : (x : Item-F Item) → item ≡ roll-Item x → (item_owning item).cleanups ≡ []
      at (level.Cleanup text) is = absurd (none text (is ∙ rolls-Cleanup text))
      at (level.Signal id name start) is = ap (λ one. one.cleanups) (form is (layer (level.Signal id name start)))
      at (level.Memo id name expr) is = ap (λ one. one.cleanups) (form is (layer (level.Memo id name expr)))
      at (level.Effect id name expr) is = ap (λ one. one.cleanups) (form is (layer (level.Effect id name expr)))
      at (level.Resource id name after keys values) is = ap (λ one. one.cleanups) (form is (layer (level.Resource id name after keys values)))
      at (level.Load id name resource key) is = ap (λ one. one.cleanups) (form is (layer (level.Load id name resource key)))
      at (level.Store id name max fields starts) is = ap (λ one. one.cleanups) (form is (layer (level.Store id name max fields starts)))
      at (level.Area id name owner items) is = ap (λ one. one.cleanups) (form is (layer (level.Area id name owner items)))
      at (level.If id cond items) is = ap (λ one. one.cleanups) (form is (layer (level.If id cond items)))
      at (level.Each id store items) is = ap (λ one. one.cleanups) (form is (layer (level.Each id store items)))
      at (level.Element tag closed attrs items) is = ap (λ one. one.cleanups) (form is (layer (level.Element tag closed attrs items)))
      at (level.Text text) is = ap (λ one. one.cleanups) (form is (layer (level.Text text)))
      at (level.Shown id expr) is = ap (λ one. one.cleanups) (form is (layer (level.Shown id expr)))

  module _ (around : ℕ) where
    owners_by : {owning : Owning} → item_owning item ≡ owning → (item_owning item).owners around ≡ owning.owners around
    owners_by same = ap (λ one. one.owners around) same

    pub owners-Area : (id name owner : ℕ) (items : List Item) → item ≡ Area id name owner items → (item_owning item).owners around ≡ (record { parent = Some around; cleanups = cleanups_in items } ∷ []) ++ owners_inside (map item_owning items) owner
    unfolding item_owning
    owners-Area id name owner items is =
        owners_by (form is (fold-Area owning_step id name owner items))
        ∙ ap (λ texts. record { parent = Some around; cleanups = texts } ∷ owners_inside (map item_owning items) owner) (cleanups_among items)

    pub owners-If : (id : ℕ) (cond : Expr) (items : List Item) → item ≡ If id cond items → (item_owning item).owners around ≡ owners_inside (map item_owning items) around
    unfolding item_owning
    owners-If id cond items is = owners_by (form is (fold-If owning_step id cond items))

    pub owners-Each : (id store : ℕ) (items : List Item) → item ≡ Each id store items → (item_owning item).owners around ≡ owners_inside (map item_owning items) around
    unfolding item_owning
    owners-Each id store items is = owners_by (form is (fold-Each owning_step id store items))

    pub owners-Element : (tag : ℕ) (closed : Bool) (attrs : List Attr) (items : List Item) → item ≡ Element tag closed attrs items → (item_owning item).owners around ≡ owners_inside (map item_owning items) around
    unfolding item_owning
    owners-Element tag closed attrs items is = owners_by (form is (fold-Element owning_step tag closed attrs items))

    pub no_owners : ((id name owner : ℕ) (items : List Item) → item ≡ Area id name owner items → ⊥) → ((id : ℕ) (cond : Expr) (items : List Item) → item ≡ If id cond items → ⊥) → ((id store : ℕ) (items : List Item) → item ≡ Each id store items → ⊥) → ((tag : ℕ) (closed : Bool) (attrs : List Attr) (items : List Item) → item ≡ Element tag closed attrs items → ⊥) → (item_owning item).owners around ≡ []
    no_owners no_area no_if no_each no_element = at (out-Item item) (sym (roll-out-Item item))
      where
        at : (x : Item-F Item) → item ≡ roll-Item x → (item_owning item).owners around ≡ []
        at (level.Area id name owner items) is = absurd (no_area id name owner items (is ∙ rolls-Area id name owner items))
        at (level.If id cond items) is = absurd (no_if id cond items (is ∙ rolls-If id cond items))
        at (level.Each id store items) is = absurd (no_each id store items (is ∙ rolls-Each id store items))
        at (level.Element tag closed attrs items) is = absurd (no_element tag closed attrs items (is ∙ rolls-Element tag closed attrs items))
        at (level.Signal id name start) is = owners_by (form is (layer (level.Signal id name start)))
        at (level.Memo id name expr) is = owners_by (form is (layer (level.Memo id name expr)))
        at (level.Effect id name expr) is = owners_by (form is (layer (level.Effect id name expr)))
        at (level.Resource id name after keys values) is = owners_by (form is (layer (level.Resource id name after keys values)))
        at (level.Load id name resource key) is = owners_by (form is (layer (level.Load id name resource key)))
        at (level.Store id name max fields starts) is = owners_by (form is (layer (level.Store id name max fields starts)))
        at (level.Cleanup text) is = owners_by (form is (layer (level.Cleanup text)))
        at (level.Text text) is = owners_by (form is (layer (level.Text text)))
        at (level.Shown id expr) is = owners_by (form is (layer (level.Shown id expr)))
