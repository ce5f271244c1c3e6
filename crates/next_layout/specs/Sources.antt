-- The values of the sources of a layout, and the rows that have taken them.
use Rattle.std.specs.Prelude.{◌≡◌, ◌≤◌, ◌<◌, ℕ, ◌+◌, ◌-◌, if◌then◌else◌, is_some, not, map, filter, length, slice_get, unwrap_or, List, [], ◌∷◌, Option, Some, None}
use Rattle.std.specs.Option.{option_and_then}
use Rattle.values.specs.declared.code.Code.{Code}
use Rattle.values.specs.declared.code.Code.TheVariants.{Empty}
use Rattle.values.specs.declared.plan.Kind.{Kind}
use Rattle.values.specs.declared.plan.Kind.TheVariants as kind
use Rattle.values.specs.Packing.{unpacked}
use Rattle.component_items.specs.declared.component.Component.{Component}
use Rattle.store_fields.specs.declared.row.Row.{Row}
use Rattle.store_fields.specs.Edits.{place_of}
use Rattle.sources.specs.declared.opening.Opened as rows
use Rattle.sources.specs.Rows.{value_in}
use Rattle.plain_evaluation.specs.Held.{Held, value_held, rows_held}
use Rattle.plain_evaluation.specs.Place.{Place}
use Rattle.plain_evaluation.specs.Written.{State, RowAround, Says, given, loaded, derived, Written, written_in}
use Rattle.plan_meaning.specs.Layout.{is_computed, rows_of}
use Rattle.plan_lines.specs.Lines.{Placed}
use Rattle.held_rows.specs.Shown.{shown_at}
use Rattle.phase_graph.specs.Graph.{GraphState}

-- the value that a graph shows of the load with an id, and nothing where it has no row
abbrev pub load_shown : List Place → GraphState → ℕ → Code
load_shown places graph id = shown_at places (value_in graph.rows) id None Empty

-- what is said of a source with this id; a load has the value that `loads` says
abbrev pub code_said : (ℕ → Code) → ℕ → Says → Code
code_said loads id (given kind code) = code
code_said loads id (loaded pairs arrived) = loads id
code_said loads id (derived kind expr) = Empty

-- that of each source of a text, in order of row: sources come before what is computed
abbrev pub codes_said : (ℕ → Code) → List Written → List Code
codes_said loads ws = map (λ w. code_said loads w.id w.says) (filter (λ w. not (is_computed w.says)) ws)

-- the row of the store with the key
abbrev pub row_held : Held → RowAround → Option Row
row_held held around = option_and_then (λ place. slice_get (rows_held held around.store) place) (place_of around.key (rows_held held around.store))

-- the value of the field with the id, in the row around it; the first field has the id behind that of the store's key
abbrev pub field_held : Held → ℕ → Option RowAround → Option Code
field_held held id row = option_and_then (λ around. option_and_then (λ r. slice_get r.fields (id - (2 + around.store))) (row_held held around)) row

-- the value of a source of this kind
abbrev pub source_held : (ℕ → Code) → Held → Kind → ℕ → Option RowAround → Code
source_held loads held kind.Signal id row = value_held held id
source_held loads held kind.Field id row = unwrap_or (field_held held id row) Empty
source_held loads held kind.Load id row = loads id
source_held loads held kind.Memo id row = Empty
source_held loads held kind.Effect id row = Empty

-- that of a line, where it is a source's
abbrev pub codes_held : (ℕ → Code) → Held → Placed → List Code
codes_held loads held p = if is_some p.expr then [] else source_held loads held p.kind p.id p.scene.row ∷ []

-- so many of the first rows have these values, and the others are as they were but for their colours
pub record ArePut (codes : List Code) (count : ℕ) (old new : GraphState) : Type 0 where
  pub rest : new ≡ record old { rows = new.rows; drawn = new.drawn }
  pub raised : old.drawn ≤ new.drawn
  pub few : new.drawn ≤ old.drawn + count
  pub long : length new.rows ≡ length old.rows
  pub values : (n : ℕ) (code : Code) (row : rows.Opened) → n < count → slice_get codes n ≡ Some code → slice_get new.rows n ≡ Some row → unpacked row.code ≡ code
  pub others : (n : ℕ) (one two : rows.Opened) → count ≤ n → slice_get old.rows n ≡ Some one → slice_get new.rows n ≡ Some two → two ≡ record one { colour = two.colour }

-- the rows of the signals and fields of a layout have the values that the text written out in this state gives them
abbrev pub SourcesAreSaid : Component → State → List rows.Opened → Type 0
SourcesAreSaid component state xs = (row : ℕ) (w : Written) (k : Kind) (code : Code) → slice_get (rows_of (written_in component state)) row ≡ Some w → w.says ≡ given k code → value_in xs row ≡ code
