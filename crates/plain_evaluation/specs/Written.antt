-- A component written out: its text with dead areas left out, and what is in an `each` once for each row of the store.
use Rattle.std.specs.Prelude.{ℕ, suc, ◌+◌, ◌==◌, if◌then◌else◌, Bool, List, [], ◌∷◌, ◌++◌, Option, Some, None}
use Rattle.std.specs.Option.{option_map}
use Rattle.std.specs.List.{flat_map, zip}
use Rattle.values.specs.declared.code.Code.{Code}
use Rattle.values.specs.declared.expr.Expr.{Expr}
use Rattle.values.specs.declared.plan.Kind.{Kind}
use Rattle.values.specs.declared.plan.Kind.TheVariants as kind
use Rattle.store_fields.specs.declared.row.Row.{Row}
use Rattle.component_items.specs.declared.component.Attr.{Attr}
use Rattle.component_items.specs.declared.component.Attr.TheVariants as attr
use Rattle.component_items.specs.declared.component.Component.{Component}
use Rattle.component_items.specs.declared.component.Item.{Item}
use Rattle.component_items.specs.declared.component.Item.TheOpen as level
use Rattle.component_items.specs.declared.component.Item.TheOpen.{Item-F}
use Rattle.component_items.specs.declared.component.Item.TheViews.{out-Item}
use Rattle.component_items.specs.declared.component.Item.TheFolds.{fold-Item}
use Rattle.plain_evaluation.specs.Place.{Place, place_at}
use Rattle.plain_evaluation.specs.Held.{Held, is_live, value_held, rows_held, arrived_held}

-- ---- what a text asks of the state

pub record State : Type 0 where
  -- the value of a signal, by its place
  pub value : Place → Code
  -- the rows of the store with the id
  pub rows : ℕ → List Row
  -- the key that arrived for the load with the id, if one did
  pub arrived : ℕ → Option Code
  -- whether the owner is live
  pub live : ℕ → Bool

abbrev pub state_of : Held → State
state_of held = record { value = λ p. value_held held p.id; rows = rows_held held; arrived = arrived_held held; live = is_live held }

-- ---- what is said of a place

-- a row of the store with this id
pub record RowAround : Type 0 where
  pub store : ℕ
  pub key : Code

-- what stands around a place: the innermost area, as an owner, and the row of the store of the `each`
pub record Scene : Type 0 where
  pub owner : ℕ
  pub row : Option RowAround

-- what the text and the state say of a place
pub data Says : Type 0 where
  -- a signal or a field, with its value
  given : Kind → Code → Says
  -- a load: the values of its resource by key, and the key that arrived, if one did
  loaded : List (Code × Code) → Option Code → Says
  -- a memo or an effect; shown values, conditions and keys of loads are memos
  derived : Kind → Expr → Says

abbrev pub kind_said : Says → Kind
kind_said (given kind code) = kind
kind_said (loaded pairs arrived) = kind.Load
kind_said (derived kind expr) = kind

pub record Written : Type 0 where
  pub id : ℕ
  pub scene : Scene
  pub says : Says

abbrev pub key_in : Scene → Option Code
key_in scene = option_map (λ row. row.key) scene.row

abbrev pub place_of : Written → Place
place_of w = place_at w.id (key_in w.scene)

abbrev pub in_row : ℕ → Code → Scene → Scene
in_row store key scene = record scene { row = Some (record { store = store; key = key }) }

abbrev pub in_area : ℕ → Scene → Scene
in_area owner scene = record scene { owner = owner }

-- ---- the pairs of a resource, by its id; resources stand at the top alone

abbrev pub pairs_step : ℕ → Item-F Item → List (Code × Code)
pairs_step id (level.Signal own name start) = []
pairs_step id (level.Memo own name expr) = []
pairs_step id (level.Effect own name expr) = []
pairs_step id (level.Resource own name after keys values) = if own == id then zip keys values else []
pairs_step id (level.Load own name resource key) = []
pairs_step id (level.Store own name max fields starts) = []
pairs_step id (level.Cleanup text) = []
pairs_step id (level.Area own name owner items) = []
pairs_step id (level.If own cond items) = []
pairs_step id (level.Each own store items) = []
pairs_step id (level.Element tag closed attrs items) = []
pairs_step id (level.Text text) = []
pairs_step id (level.Shown own expr) = []

abbrev pub pairs_among : List Item → ℕ → List (Code × Code)
pairs_among items id = flat_map (λ item. pairs_step id (out-Item item)) items

-- ---- the text, written out

abbrev pub put : ℕ → Says → Scene → List Written
put id says scene = record { id = id; scene = scene; says = says } ∷ []

abbrev pub write_attr : Scene → Attr → List Written
write_attr scene (attr.Bare name) = []
write_attr scene (attr.Fixed name text) = []
write_attr scene (attr.Shown name id expr) = put id (derived kind.Memo expr) scene

-- the fields of a row, the first with this id
abbrev pub write_fields : ℕ → List Code → Scene → List Written
write_fields id [] scene = []
write_fields id (code ∷ codes) scene = put id (given kind.Field code) scene ++ write_fields (suc id) codes scene

-- items one after another
abbrev pub write_all : List (Scene → List Written) → Scene → List Written
write_all [] scene = []
write_all (one ∷ others) scene = one scene ++ write_all others scene

-- One item. A load stands behind its key, a condition before its items, and attributes before the items of their element.
abbrev pub write_step : State → (ℕ → List (Code × Code)) → Item-F (Scene → List Written) → Scene → List Written
write_step state pairs (level.Signal id name start) scene = put id (given kind.Signal (state.value (place_at id (key_in scene)))) scene
write_step state pairs (level.Memo id name expr) scene = put id (derived kind.Memo expr) scene
write_step state pairs (level.Effect id name expr) scene = put id (derived kind.Effect expr) scene
write_step state pairs (level.Resource id name after keys values) scene = []
write_step state pairs (level.Load id name resource key) scene = put (suc id) (derived kind.Memo key) scene ++ put id (loaded (pairs resource) (state.arrived id)) scene
write_step state pairs (level.Store id name max fields starts) scene = flat_map (λ row. write_fields (2 + id) row.fields (in_row id row.key scene)) (state.rows id)
write_step state pairs (level.Cleanup text) scene = []
write_step state pairs (level.Area id name owner items) scene = if state.live owner then write_all items (in_area owner scene) else []
write_step state pairs (level.If id cond items) scene = put id (derived kind.Memo cond) scene ++ write_all items scene
write_step state pairs (level.Each id store items) scene = flat_map (λ row. write_all items (in_row store row.key scene)) (state.rows store)
write_step state pairs (level.Element tag closed attrs items) scene = flat_map (write_attr scene) attrs ++ write_all items scene
write_step state pairs (level.Text text) scene = []
write_step state pairs (level.Shown id expr) scene = put id (derived kind.Memo expr) scene

unfoldable pub write_item : State → (ℕ → List (Code × Code)) → Item → Scene → List Written
write_item state pairs = fold-Item (Scene → List Written) (write_step state pairs)

abbrev pub write_items : State → (ℕ → List (Code × Code)) → List Item → Scene → List Written
write_items state pairs [] scene = []
write_items state pairs (item ∷ items) scene = write_item state pairs item scene ++ write_items state pairs items scene

abbrev pub at_top : Scene
at_top = record { owner = 0; row = None }

-- all places of the component, in text order; where the top is dead, there is none
abbrev pub written_in : Component → State → List Written
written_in component state = if state.live 0 then write_items state (pairs_among component.items) component.items at_top else []

abbrev pub written : Component → Held → List Written
written component held = written_in component (state_of held)
