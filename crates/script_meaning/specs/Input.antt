-- Whole inputs: a component text, and behind a line `---` the text of a script for that component.
use Rattle.std.specs.Prelude.{ℕ, List, take, drop}
use Rattle.input_split.specs.declared.Split.{Split}
use Rattle.input_split.specs.Parts.{IsSplit}
use Rattle.component_items.specs.declared.component.Component.{Component}
use Rattle.component_items.specs.declared.refusal.Refusal.{Refusal}
use Rattle.component_meaning.specs.Component.{IsComponent, IsNoComponent}
use Rattle.script_items.specs.declared.operation.ScriptOp.{ScriptOp}
use Rattle.script_meaning.specs.Script.{IsScript, IsNoScript}

abbrev pub component_part : List ℕ → Split → List ℕ
component_part bytes split = take split.component_end bytes

abbrev pub script_part : List ℕ → Split → List ℕ
script_part bytes split = drop split.script_start bytes

-- the bytes are the texts of the component and of the script for it, and these are all texts of both
pub record IsInput (bytes : List ℕ) (component : Component) (script : List (List (List ScriptOp))) (texts : List (List ℕ)) : Type 0 where
  pub split : Split
  pub is_split : IsSplit bytes split
  pub is_component : IsComponent (component_part bytes split) component
  pub is_script : IsScript component split.script_line (script_part bytes split) script texts

-- The bytes are no such input, for this reason: the component text comes first, and then the script text.
pub data IsBadInput (bytes : List ℕ) : Refusal → Type 0 where
  bad_component : {why : Refusal} (split : Split) → IsSplit bytes split → IsNoComponent (component_part bytes split) why → IsBadInput bytes why
  bad_script : {why : Refusal} (split : Split) → IsSplit bytes split → (component : Component) → IsComponent (component_part bytes split) component
      → IsNoScript component split.script_line (script_part bytes split) why → IsBadInput bytes why
