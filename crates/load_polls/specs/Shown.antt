-- What the rows of sources show of held state.
use Rattle.std.specs.Prelude.{◌≡◌, ℕ, List, slice_get, Option, Some, None}
use Rattle.values.specs.declared.code.Code.{Code}
use Rattle.values.specs.declared.code.Code.TheVariants.{Empty}
use Rattle.values.specs.declared.plan.Kind.{Kind}
use Rattle.component_items.specs.declared.component.Component.{Component}
use Rattle.plain_evaluation.specs.Scratch.{value_by}
use Rattle.plain_evaluation.specs.Written.{State, given, loaded, Written, written_in}
use Rattle.plan_meaning.specs.Layout.{rows_of}
use Rattle.sources.specs.declared.opening.Opened.{Opened}
use Rattle.sources.specs.Rows.{value_in}

-- the value of a resource for the key that arrived, and nothing where none has
abbrev pub load_code : List (Code × Code) → Option Code → Code
load_code pairs None = Empty
load_code pairs (Some key) = value_by pairs key

-- Each row of a signal and of a field has the value that the text written out in this state gives it. That of a load has the
-- value of its resource for the key that arrived, whether or not its key has another value by now.
pub record SourcesShow (component : Component) (state : State) (rows : List Opened) : Type 0 where
  pub given_so : (row : ℕ) (w : Written) (k : Kind) (code : Code) → slice_get (rows_of (written_in component state)) row ≡ Some w → w.says ≡ given k code → value_in rows row ≡ code
  pub loaded_so : (row : ℕ) (w : Written) (pairs : List (Code × Code)) (arrived : Option Code) → slice_get (rows_of (written_in component state)) row ≡ Some w → w.says ≡ loaded pairs arrived → value_in rows row ≡ load_code pairs arrived
