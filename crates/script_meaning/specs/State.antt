-- What was read of a script text so far.
use Rattle.std.specs.Prelude.{ℕ, Bool, List, [], Option, None}
use Rattle.values.specs.declared.code.Code.{Code}
use Rattle.values.specs.declared.code.Code.TheVariants.{Empty}
use Rattle.script_items.specs.declared.script.TheConstants.{END_OF_ROWS}
use Rattle.script_items.specs.declared.operation.ScriptOp.{ScriptOp}
use Rattle.script_meaning.specs.Names.{Named, nothing, Declaration}

pub record State : Type 0 where
  -- the texts so far, in order of first meeting
  pub texts : List (List ℕ)
  -- the phases so far, each a list of lanes, each a list of operations
  pub phases : List (List (List ScriptOp))
  -- the names of the component, which stay
  pub names : List Declaration
  -- what the path that is read names so far
  pub named : Named
  -- the key of a store row
  pub key : Option Code
  -- of an insert: the value of each field, which fields were given, and the last of them
  pub values : List Code
  pub given : List Bool
  pub field : ℕ
  -- a place behind `at` or `to`, and the last literal
  pub place : ℕ
  pub literal : Code

-- before the first token, for a component with these texts and these names
abbrev pub start_for : List (List ℕ) → List Declaration → State
start_for texts names = record {
  texts = texts;
  phases = [];
  names = names;
  named = nothing;
  key = None;
  values = [];
  given = [];
  field = 0;
  place = END_OF_ROWS;
  literal = Empty;
}
