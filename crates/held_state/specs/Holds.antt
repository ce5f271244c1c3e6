-- What each id holds, but for values, rows and keys.
use Rattle.std.specs.Prelude.{◌≡◌, ℕ, suc, length, if◌then◌else◌}
use Rattle.component_items.specs.declared.component.Component.{Component}
use Rattle.component_items.specs.Ids.{ids_in, owners_in}
use Rattle.plain_evaluation.specs.Held.{Holding, nothing, value, stored, arrived, Held, holding_of, is_live, first_held}
use Rattle.plain_evaluation.specs.Origins.{origin_in}

pub data Form : Type 0 where
  no_form : Form
  signal_form : Form
  store_form : Form
  load_form : Form

abbrev pub form_of : Holding → Form
form_of nothing = no_form
form_of (value code) = signal_form
form_of (stored store) = store_form
form_of (arrived key) = load_form

-- the innermost area around an id, as an owner
abbrev pub owner_around : Component → ℕ → ℕ
owner_around component id = (origin_in component id).around.owner

-- there is something to each id, and a flag to each owner; an id holds what it held at the start, but for values, rows and keys, while its owner is live, and nothing from then on
pub record HoldsAsSaid (component : Component) (held : Held) : Type 0 where
  pub long : length held.holdings ≡ length (ids_in component.items)
  pub live_long : length held.live ≡ suc (length (owners_in component.items))
  pub each : (id : ℕ) → form_of (holding_of held id) ≡ (if is_live held (owner_around component id) then form_of (holding_of (first_held component) id) else no_form)
