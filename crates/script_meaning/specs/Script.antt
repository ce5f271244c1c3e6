-- Which bytes are the text of which script, for a component.
use Rattle.std.specs.Prelude.{◌≡◌, ℕ, List}
use Rattle.text_grammar.specs.declared.script.Action.{Action}
use Rattle.text_grammar.specs.declared.script.Rule.{Rule}
use Rattle.text_grammar.specs.declared.script.Terminal.{Terminal}
use Rattle.text_grammar.specs.Script.{table, text}
use Rattle.text_grammar.specs.ScriptAhead.{lookahead}
use Rattle.component_items.specs.declared.component.Component.{Component}
use Rattle.component_items.specs.declared.refusal.Refusal.{Refusal}
use Rattle.part_meaning.specs.Part.{Language, IsReadTo, IsRefused}
use Rattle.script_items.specs.declared.operation.ScriptOp.{ScriptOp}
use Rattle.script_meaning.specs.Names.{Declaration, names_of}
use Rattle.script_meaning.specs.State.{State, start_for}
use Rattle.script_meaning.specs.Meaning.{semantics}

-- the language of script texts for a component with these texts and these names
abbrev pub script_for : List (List ℕ) → List Declaration → ℕ → Language Terminal Rule Action State
script_for texts names first_line = record { table = table; lookahead = lookahead; text = text; semantics = semantics; start = start_for texts names; first_line = first_line }

abbrev pub script_text : Component → ℕ → Language Terminal Rule Action State
script_text component first_line = script_for component.texts (names_of component.items) first_line

-- The bytes, the first line of which has this number, are the text of the script for the component, which has these texts then.
pub record IsScript (component : Component) (first_line : ℕ) (bytes : List ℕ) (script : List (List (List ScriptOp))) (texts : List (List ℕ)) : Type 0 where
  pub last : State
  pub read : IsReadTo (script_text component first_line) bytes last
  pub phases : script ≡ last.phases
  pub all_texts : texts ≡ last.texts

-- the bytes are the text of no script for the component, for this reason
abbrev pub IsNoScript : Component → ℕ → List ℕ → Refusal → Type 0
IsNoScript component first_line bytes why = IsRefused (script_text component first_line) bytes why
