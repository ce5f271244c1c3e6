-- What a script keeps for its component. Each fact can be tried by itself.
use Rattle.std.specs.Prelude.{◌≡◌, ◌⊎◌, ℕ, ◌+◌, ◌<◌, true, List, length, Option, Some, None, All, Contains, ◌++◌}
use Rattle.std.specs.List.{list_all}
use Rattle.values.specs.declared.code.Code.{Code}
use Rattle.store_fields.specs.declared.edit.EditOp.{EditOp}
use Rattle.store_fields.specs.declared.edit.EditOp.TheVariants.{Insert, Remove, Move}
use Rattle.component_items.specs.declared.component.Component.{Component}
use Rattle.component_items.specs.Kept.{code_has_text}
use Rattle.script_items.specs.Members.{Member, a_signal, a_memo, a_load, a_store, an_area, members_of}
use Rattle.script_items.specs.declared.operation.ScriptOp.{ScriptOp}
use Rattle.script_items.specs.declared.operation.ScriptOp.TheVariants as op
use Rattle.script_items.specs.Script.{IsScript}

-- ---- operations name what there is outside of `if`s and `each`es

-- the id is that of a field of a store: it comes behind the store's own and that of its key
pub record IsField (members : List Member) (id : ℕ) : Type 0 where
  pub store : ℕ
  pub fields : ℕ
  pub field : ℕ
  pub declared : Contains members (a_store store fields)
  pub within : field < fields
  pub is : id ≡ store + 2 + field

-- a signal is set with no key, and a field with the key of its row
abbrev pub MaySet : List Member → ℕ → Option Code → Type 0
MaySet members id None = Contains members (a_signal id)
MaySet members id (Some key) = IsField members id

-- a signal, memo or load is read with no key, and a field with the key of its row
abbrev pub MayGet : List Member → ℕ → Option Code → Type 0
MayGet members id None = Contains members (a_signal id) ⊎ (Contains members (a_memo id) ⊎ Contains members (a_load id))
MayGet members id (Some key) = IsField members id

-- an edit is one of a store, and an inserted row has a value for each field
abbrev pub MayEdit : List Member → ℕ → EditOp → Type 0
MayEdit members store (Insert key values place) = Contains members (a_store store (length values))
MayEdit members store (Remove key) = (fields : ℕ) × Contains members (a_store store fields)
MayEdit members store (Move key place) = (fields : ℕ) × Contains members (a_store store fields)

abbrev pub NamesMembers : List Member → ScriptOp → Type 0
NamesMembers members (op.Set id key code) = MaySet members id key
NamesMembers members (op.Get id key) = MayGet members id key
NamesMembers members op.Pump = Unit {0}
NamesMembers members (op.Dispose owner) = Contains members (an_area owner)
NamesMembers members (op.Change edit) = MayEdit members edit.store edit.op

-- ---- texts are in the table

abbrev pub KeyHasText : ℕ → Option Code → Type 0
KeyHasText count None = Unit {0}
KeyHasText count (Some key) = code_has_text count key ≡ true

abbrev pub EditHasTexts : ℕ → EditOp → Type 0
EditHasTexts count (Insert key values place) = (code_has_text count key ≡ true) × (list_all (code_has_text count) values ≡ true)
EditHasTexts count (Remove key) = code_has_text count key ≡ true
EditHasTexts count (Move key place) = code_has_text count key ≡ true

abbrev pub HasTexts : ℕ → ScriptOp → Type 0
HasTexts count (op.Set id key code) = KeyHasText count key × (code_has_text count code ≡ true)
HasTexts count (op.Get id key) = KeyHasText count key
HasTexts count op.Pump = Unit {0}
HasTexts count (op.Dispose owner) = Unit {0}
HasTexts count (op.Change edit) = EditHasTexts count edit.op

-- ---- all of it

abbrev pub AllOps : (ScriptOp → Type 0) → List (List (List ScriptOp)) → Type 0
AllOps P script = All (λ lanes. All (λ ops. All P ops) lanes) script

-- what the script keeps for the component, which has these texts with it
pub record IsKeptFor (component : Component) (script : List (List (List ScriptOp))) (texts : List (List ℕ)) : Type 0 where
  pub names : AllOps (NamesMembers (members_of component.items)) script
  pub words : AllOps (HasTexts (length texts)) script
  pub few : IsScript script
  -- the texts of the component keep their numbers
  pub grown : (more : List (List ℕ)) × (texts ≡ component.texts ++ more)
