-- The ids that an item takes itself, apart from those of the items that it holds.
use Rattle.std.specs.Prelude.{ℕ, suc, ◌+◌, ◌==◌, List, [], ◌∷◌, Option}
use Rattle.std.specs.List.{find}
use Rattle.std.specs.Option.{option_map}
use Rattle.component_items.specs.declared.around.Own.{Own}
use Rattle.component_items.specs.declared.around.Own.TheVariants as own
use Rattle.component_items.specs.declared.component.Item.{Item}
use Rattle.component_items.specs.declared.component.Item.TheOpen as level
use Rattle.component_items.specs.declared.component.Item.TheOpen.{Item-F}
use Rattle.component_items.specs.declared.component.Item.TheViews.{out-Item}
use Rattle.component_items.specs.Around.{Around, Listed, named, nameless, within, listed_fields, listed_attrs}

-- the place in areas of these names, with this owner
abbrev pub place : ℕ → List ℕ → Around
place owner areas = record { owner = owner; areas = areas }

-- an id with the name that it has there, if it has one
abbrev pub listed_as : ℕ → Around → Own → Listed
listed_as id around (own.Named name) = named id name around
listed_as id around own.Nameless = nameless id around

-- what it adds to the names of the areas around it
abbrev pub own_path : Own → List ℕ
own_path (own.Named name) = name ∷ []
own_path own.Nameless = []

abbrev pub own_step : Item-F Item → Around → List Listed
own_step (level.Signal id name start) around = named id name around ∷ []
own_step (level.Memo id name expr) around = named id name around ∷ []
own_step (level.Effect id name expr) around = named id name around ∷ []
own_step (level.Resource id name after keys values) around = named id name around ∷ []
own_step (level.Load id name resource key) around = named id name around ∷ nameless (suc id) around ∷ []
own_step (level.Store id name max fields starts) around = named id name around ∷ nameless (suc id) around ∷ listed_fields (2 + id) fields around
own_step (level.Cleanup text) around = []
own_step (level.Area id name owner items) around = named id name around ∷ []
own_step (level.If id cond items) around = nameless id around ∷ []
own_step (level.Each id store items) around = nameless id around ∷ []
own_step (level.Element tag closed attrs items) around = listed_attrs around attrs
own_step (level.Text text) around = []
own_step (level.Shown id expr) around = nameless id around ∷ []

-- the ids that the item takes itself, in text order
abbrev pub own_listed : Item → Around → List Listed
own_listed item around = own_step (out-Item item) around

abbrev pub held_step : Item-F Item → List Item
held_step (level.Area id name owner items) = items
held_step (level.If id cond items) = items
held_step (level.Each id store items) = items
held_step (level.Element tag closed attrs items) = items
held_step _ = []

-- the items that it holds
abbrev pub held : Item → List Item
held item = held_step (out-Item item)

abbrev pub inside_step : Item-F Item → Around → Around
inside_step (level.Area id name owner items) around = within name owner around
inside_step _ around = around

-- the place of those
abbrev pub inside : Item → Around → Around
inside item around = inside_step (out-Item item) around

-- the owner and the path of an id among these
abbrev pub owner_among : ℕ → List Listed → Option ℕ
owner_among id listed = option_map (λ l. l.owner) (find (λ l. l.id == id) listed)

abbrev pub path_among : ℕ → List Listed → Option (List ℕ)
path_among id listed = option_map (λ l. l.path) (find (λ l. l.id == id) listed)
