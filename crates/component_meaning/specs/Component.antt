-- Which bytes are the text of which component, and why the others are of none.
use Rattle.std.specs.Prelude.{◌≡◌, ℕ, ◌≤◌, ◌<◌, List, length}
use Rattle.values.specs.declared.limits.TheConstants.{MOST_NODES}
use Rattle.text_lexer.specs.Place.{line_at, column_at}
use Rattle.text_grammar.specs.declared.component.Action.{Action}
use Rattle.text_grammar.specs.declared.component.Rule.{Rule}
use Rattle.text_grammar.specs.declared.component.Terminal.{Terminal}
use Rattle.text_grammar.specs.Component.{table, text}
use Rattle.text_grammar.specs.ComponentAhead.{lookahead}
use Rattle.component_items.specs.declared.component.Component.{Component}
use Rattle.component_items.specs.declared.refusal.Count.TheVariants.{Nodes}
use Rattle.component_items.specs.declared.refusal.Refusal.{Refusal}
use Rattle.component_items.specs.declared.refusal.Refusal.TheVariants.{Bad}
use Rattle.component_items.specs.declared.refusal.Why.TheVariants.{TooLarge}
use Rattle.component_items.specs.Counts.{nodes_of}
use Rattle.part_meaning.specs.Part.{Language, IsReadTo, IsRefused}
use Rattle.component_meaning.specs.State.{State, start}
use Rattle.component_meaning.specs.Meaning.{semantics}

-- the language of component texts
abbrev pub component_text : Language Terminal Rule Action State
component_text = record { table = table; lookahead = lookahead; text = text; semantics = semantics; start = start; first_line = 1 }

-- The bytes are the text of the component: their tokens lead to a state that has its texts and its items, and these
-- lay out few enough nodes.
pub record IsComponent (bytes : List ℕ) (component : Component) : Type 0 where
  pub last : State
  pub read : IsReadTo component_text bytes last
  pub texts : component.texts ≡ last.texts
  pub items : component.items ≡ last.items
  pub few_nodes : nodes_of component.items ≤ MOST_NODES

-- too many nodes are refused at the end of the bytes
abbrev pub too_many_nodes : List ℕ → Refusal
too_many_nodes bytes = Bad (TooLarge Nodes) (record { line = line_at 1 bytes (length bytes); column = column_at bytes (length bytes) })

-- The bytes are the text of no component, for this reason: they are refused, as one of their tokens is; or, as the last
-- of all checks, their items lay out too many nodes.
pub data IsNoComponent (bytes : List ℕ) : Refusal → Type 0 where
  refused_text : {why : Refusal} → IsRefused component_text bytes why → IsNoComponent bytes why
  too_large : (last : State) → IsReadTo component_text bytes last → MOST_NODES < nodes_of last.items → IsNoComponent bytes (too_many_nodes bytes)
