-- The graph over the rows of a plan, as contracts see it.
use Rattle.std.specs.Prelude.{◌≡◌, ℕ, ◌+◌, ◌-◌, ◌<◌, ◌⊎◌, Bool, true, Some, Result, Ok, Err, List, [], ◌∷◌, ◌++◌, slice_get, slice_set, unwrap_or}
use Rattle.values.specs.declared.plan.Noted.{Noted}
use Rattle.values.specs.declared.plan.Plan.{Plan}
use Rattle.values.specs.declared.plan.Stop.{Stop}
use Rattle.values.specs.declared.plan.Kind.TheVariants.{Memo, Effect}
use Rattle.values.specs.declared.plan.PlanNode.{PlanNode}
use Rattle.script_items.specs.Script.{numbered}
use Rattle.store_fields.specs.declared.edit.Edit.{Edit}
use Rattle.sources.specs.declared.colour.Colour.TheVariants.{Dirty}
use Rattle.sources.specs.declared.opening.Opened.{Opened}
use Rattle.sources.specs.Colours.{is_clean}

pub record GraphState : Type 0 where
  pub plan : Plan
  -- each row with its value, version, colour and body
  pub rows : List Opened
  -- whether each owner is live
  pub live : List Bool
  -- the count of ticks when the phase opened, or, between phases, when the last one ended
  pub base : ℕ
  -- how many numbers were drawn since
  pub drawn : ℕ
  -- whether a phase is open
  pub is_open : Bool
  -- what was noted in the phase, in order of number
  pub entries : List Noted
  -- the edits that each pass has noted, in order, and room for how many each has
  pub edits : List (List Edit)
  pub edit_room : ℕ

-- a version is the base and a number
abbrev pub ticks_of : GraphState → ℕ
ticks_of x = x.base + x.drawn

-- a call of a phase leaves these as they are
pub record StaysOpen (old new : GraphState) : Type 0 where
  pub plan : new.plan ≡ old.plan
  pub base : new.base ≡ old.base
  pub is_open : new.is_open ≡ old.is_open
  pub edit_room : new.edit_room ≡ old.edit_room

-- the lists of edits with the one that was accepted behind those of its pass
abbrev pub edits_with : List (List Edit) → ℕ → Edit → Result ℕ Stop → List (List Edit)
edits_with lists pass asked (Ok number) = slice_set lists (pass - 1) (unwrap_or (numbered lists pass) [] ++ asked ∷ [])
edits_with lists pass asked (Err why) = lists

-- every memo below this row is up to date
abbrev pub AreSettledTo : List PlanNode → List Opened → ℕ → Type 0
AreSettledTo nodes rows bound = (n : ℕ) (node : PlanNode) (row : Opened) → n < bound → slice_get nodes n ≡ Some node → slice_get rows n ≡ Some row → node.kind ≡ Memo → is_clean row.colour ≡ true

-- each effect whose owner is live is clean, or dirty where it was left
abbrev pub AreRunOrLeft : List PlanNode → List Bool → List Opened → Type 0
AreRunOrLeft nodes live rows = (n : ℕ) (node : PlanNode) (row : Opened) → slice_get nodes n ≡ Some node → node.kind ≡ Effect → slice_get live node.owner ≡ Some true → slice_get rows n ≡ Some row → (is_clean row.colour ≡ true) ⊎ (row.colour ≡ Dirty)
