-- Plain evaluation: the value of each place, by recursion over the text, with no graph and no cache.
use Rattle.std.specs.Prelude.{ℕ, suc, Bool, false, if◌then◌else◌, List, [], ◌∷◌, Option, Some, None}
use Rattle.std.specs.List.{flat_map}
use Rattle.values.specs.declared.code.Code.{Code}
use Rattle.values.specs.declared.code.Code.TheVariants.{Empty}
use Rattle.values.specs.Evaluation.{is_same, value_of}
use Rattle.component_items.specs.declared.component.Component.{Component}
use Rattle.plain_evaluation.specs.Place.{Place, outside, same_place}
use Rattle.plain_evaluation.specs.Held.{Held}
use Rattle.plain_evaluation.specs.Written.{State, state_of, Scene, Says, given, loaded, derived, Written, place_of, written_in}
use Rattle.plain_evaluation.specs.Keyed.{Stand, literal, place, stands_for, is_keyed}

-- the value of each place; one that has none is empty
abbrev pub Values : Type 0
Values = Place → Code

abbrev pub no_values : Values
no_values p = Empty

abbrev pub with_value : Place → Code → Values → Values
with_value p code values q = if same_place p q then code else values q

-- the value of what an id stands for
abbrev pub value_for : Values → Stand → Code
value_for values (literal code) = code
value_for values (place p) = values p

-- what an expression in this scene reads
abbrev pub seen_from : (ℕ → Bool) → Values → Scene → ℕ → Code
seen_from keyed values scene id = value_for values (stands_for keyed scene id)

-- the value of a resource for a key
abbrev pub value_by : List (Code × Code) → Code → Code
value_by [] key = Empty
value_by (pair ∷ pairs) key = if is_same pair.0 key then pair.1 else value_by pairs key

-- a load has the value for the key that arrived, where that is the value of its key
abbrev pub load_value : List (Code × Code) → Option Code → Code → Code
load_value pairs None key = Empty
load_value pairs (Some code) key = if is_same code key then value_by pairs code else Empty

-- what the value of a place is, where `seen` gives that of each id that it reads
abbrev pub value_said : Says → ℕ → (ℕ → Code) → Code
value_said (given kind code) id seen = code
value_said (loaded pairs arrived) id seen = load_value pairs arrived (seen (suc id))
value_said (derived kind expr) id seen = value_of expr seen

-- the values of a text, from the top down
abbrev pub values_in : (ℕ → Bool) → List Written → Values → Values
values_in keyed [] values = values
values_in keyed (w ∷ ws) values = values_in keyed ws (with_value (place_of w) (value_said w.says w.id (seen_from keyed values w.scene)) values)

-- the value of each place of the component
abbrev pub scratch_in : Component → State → Values
scratch_in component state = values_in (is_keyed component) (written_in component state) no_values

abbrev pub scratch : Component → Held → Values
scratch component held = scratch_in component (state_of held)

-- ---- pending loads

-- the key that arrived, if one did, is the one
abbrev pub has_arrived : Option Code → Code → Bool
has_arrived None key = false
has_arrived (Some code) key = is_same code key

abbrev pub pending_step : Values → ℕ → Says → List ℕ
pending_step values id (given kind code) = []
pending_step values id (loaded pairs arrived) = if has_arrived arrived (values (outside (suc id))) then [] else id ∷ []
pending_step values id (derived kind expr) = []

-- the live loads whose key has not arrived, in order of declaration
abbrev pub pending_in : Component → State → List ℕ
pending_in component state = flat_map (λ w. pending_step (scratch_in component state) w.id w.says) (written_in component state)

abbrev pub pending : Component → Held → List ℕ
pending component held = pending_in component (state_of held)
