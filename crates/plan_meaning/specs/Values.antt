-- The values of the rows, by plain evaluation.
use Rattle.std.specs.Prelude.{List, map}
use Rattle.values.specs.declared.code.Code.{Code}
use Rattle.component_items.specs.declared.component.Component.{Component}
use Rattle.plain_evaluation.specs.Scratch.{scratch_in}
use Rattle.plain_evaluation.specs.Written.{State, written_in}
use Rattle.plan_meaning.specs.Layout.{places_of}

-- the value of each row, in order of row: that of its place
abbrev pub row_values : Component → State → List Code
row_values component state = map (scratch_in component state) (places_of (written_in component state))
