-- What the tokens of a script text lead to, or why it is refused, in a form that computes.
use Rattle.std.specs.Prelude.{ℕ, List, Option, Some, None}
use Rattle.grammar.specs.Running.{Outcome, read, refused, undecided}
use Rattle.component_items.specs.declared.refusal.Refusal.{Refusal}
use Rattle.part_meaning.specs.Computed.{outcome}
use Rattle.script_items.specs.declared.operation.ScriptOp.{ScriptOp}
use Rattle.script_meaning.specs.Names.{Declaration}
use Rattle.script_meaning.specs.State.{State}
use Rattle.script_meaning.specs.Script.{script_for}

-- a script, and the texts of its component with those that it adds
pub record Read : Type 0 where
  pub phases : List (List (List ScriptOp))
  pub texts : List (List ℕ)

abbrev pub read_in : Outcome State Refusal → Option Read
read_in (read a) = Some (record { phases = a.phases; texts = a.texts })
read_in (refused why) = None
read_in undecided = None

abbrev pub refusal_in : Outcome State Refusal → Option Refusal
refusal_in (read a) = None
refusal_in (refused why) = Some why
refusal_in undecided = None

-- for a component with these texts and these names
abbrev pub read_of : List (List ℕ) → List Declaration → ℕ → List ℕ → Option Read
read_of texts names first_line bytes = read_in (outcome (script_for texts names first_line) bytes)

abbrev pub refusal_of : List (List ℕ) → List Declaration → ℕ → List ℕ → Option Refusal
refusal_of texts names first_line bytes = refusal_in (outcome (script_for texts names first_line) bytes)
