-- What a text says of each id, whatever the state: what stands around it, and what it is. So what is written out in two states is alike.
use Rattle.std.specs.Prelude.{ℕ, suc, ◌+◌, List, [], ◌∷◌, ◌++◌, Option, Some, None}
use Rattle.std.specs.Option.{option_map}
use Rattle.std.specs.List.{flat_map}
use Rattle.values.specs.declared.code.Code.{Code}
use Rattle.values.specs.declared.expr.Expr.{Expr}
use Rattle.values.specs.declared.plan.Kind.{Kind}
use Rattle.values.specs.declared.plan.Kind.TheVariants as kind
use Rattle.component_items.specs.declared.component.Attr.{Attr}
use Rattle.component_items.specs.declared.component.Attr.TheVariants as attr
use Rattle.component_items.specs.declared.component.Component.{Component}
use Rattle.component_items.specs.declared.component.Item.{Item}
use Rattle.component_items.specs.declared.component.Item.TheOpen as level
use Rattle.component_items.specs.declared.component.Item.TheOpen.{Item-F}
use Rattle.component_items.specs.declared.component.Item.TheFolds.{fold-Item}
use Rattle.plain_evaluation.specs.Lookup.{found_in}
use Rattle.plain_evaluation.specs.Written.{Scene, Says, given, loaded, derived, Written, pairs_among}

-- what an id is: a line of the text with the values left out
pub data Told : Type 0 where
  nothing_told : Told
  source : Kind → Told
  loads : List (Code × Code) → Told
  derives : Kind → Expr → Told

-- the area, and the store of the row, that stand around it
pub record Around : Type 0 where
  pub owner : ℕ
  pub store : Option ℕ

pub record Origin : Type 0 where
  pub around : Around
  pub told : Told

abbrev pub told_of : Says → Told
told_of (given kind code) = source kind
told_of (loaded pairs arrived) = loads pairs
told_of (derived kind expr) = derives kind expr

abbrev pub around_of : Scene → Around
around_of scene = record { owner = scene.owner; store = option_map (λ row. row.store) scene.row }

abbrev pub origin_of : Written → Origin
origin_of w = record { around = around_of w.scene; told = told_of w.says }

-- ---- the origin of each id that an item takes, in text order

abbrev pub tell : ℕ → Told → Around → List (ℕ × Origin)
tell id told around = (id, record { around = around; told = told }) ∷ []

abbrev pub tell_attr : Around → Attr → List (ℕ × Origin)
tell_attr around (attr.Bare name) = []
tell_attr around (attr.Fixed name text) = []
tell_attr around (attr.Shown name id expr) = tell id (derives kind.Memo expr) around

abbrev pub tell_fields : ℕ → List ℕ → Around → List (ℕ × Origin)
tell_fields id [] around = []
tell_fields id (name ∷ fields) around = (id, record { around = around; told = source kind.Field }) ∷ tell_fields (suc id) fields around

abbrev pub tell_all : List (Around → List (ℕ × Origin)) → Around → List (ℕ × Origin)
tell_all [] around = []
tell_all (one ∷ others) around = one around ++ tell_all others around

abbrev pub tell_step : (ℕ → List (Code × Code)) → Item-F (Around → List (ℕ × Origin)) → Around → List (ℕ × Origin)
tell_step pairs (level.Signal id name start) around = tell id (source kind.Signal) around
tell_step pairs (level.Memo id name expr) around = tell id (derives kind.Memo expr) around
tell_step pairs (level.Effect id name expr) around = tell id (derives kind.Effect expr) around
tell_step pairs (level.Resource id name after keys values) around = tell id nothing_told around
tell_step pairs (level.Load id name resource key) around = (id, record { around = around; told = loads (pairs resource) }) ∷ tell (suc id) (derives kind.Memo key) around
tell_step pairs (level.Store id name max fields starts) around = (id, record { around = around; told = nothing_told }) ∷ (suc id, record { around = around; told = nothing_told }) ∷ tell_fields (2 + id) fields (record around { store = Some id })
tell_step pairs (level.Cleanup text) around = []
tell_step pairs (level.Area id name owner items) around = (id, record { around = around; told = nothing_told }) ∷ tell_all items (record around { owner = owner })
tell_step pairs (level.If id cond items) around = (id, record { around = around; told = derives kind.Memo cond }) ∷ tell_all items around
tell_step pairs (level.Each id store items) around = (id, record { around = around; told = nothing_told }) ∷ tell_all items (record around { store = Some store })
tell_step pairs (level.Element tag closed attrs items) around = flat_map (tell_attr around) attrs ++ tell_all items around
tell_step pairs (level.Text text) around = []
tell_step pairs (level.Shown id expr) around = tell id (derives kind.Memo expr) around

unfoldable pub tell_item : (ℕ → List (Code × Code)) → Item → Around → List (ℕ × Origin)
tell_item pairs = fold-Item (Around → List (ℕ × Origin)) (tell_step pairs)

abbrev pub tell_items : (ℕ → List (Code × Code)) → List Item → Around → List (ℕ × Origin)
tell_items pairs [] around = []
tell_items pairs (item ∷ items) around = tell_item pairs item around ++ tell_items pairs items around

abbrev pub top_around : Around
top_around = record { owner = 0; store = None }

abbrev pub no_origin : Origin
no_origin = record { around = top_around; told = nothing_told }

-- what the text says of the id
abbrev pub origin_in : Component → ℕ → Origin
origin_in component id = found_in no_origin (tell_items (pairs_among component.items) component.items top_around) id
