-- What the tokens of a text lead to, or why it is refused, in a form that computes.
use Rattle.std.specs.Prelude.{ℕ, List, Option, Some, None}
use Rattle.grammar.specs.Running.{Outcome, read, refused, undecided}
use Rattle.component_items.specs.declared.component.Component.{Component}
use Rattle.component_items.specs.declared.refusal.Refusal.{Refusal}
use Rattle.part_meaning.specs.Computed.{outcome}
use Rattle.component_meaning.specs.State.{State}
use Rattle.component_meaning.specs.Component.{component_text}

-- as a component
abbrev pub component_in : State → Component
component_in a = record { texts = a.texts; items = a.items }

abbrev pub read_in : Outcome State Refusal → Option Component
read_in (read a) = Some (component_in a)
read_in (refused why) = None
read_in undecided = None

abbrev pub refusal_in : Outcome State Refusal → Option Refusal
refusal_in (read a) = None
refusal_in (refused why) = Some why
refusal_in undecided = None

-- the texts and the items that the tokens of a text lead to, and why it is refused
abbrev pub read_of : List ℕ → Option Component
read_of bytes = read_in (outcome component_text bytes)

abbrev pub refusal_of : List ℕ → Option Refusal
refusal_of bytes = refusal_in (outcome component_text bytes)
