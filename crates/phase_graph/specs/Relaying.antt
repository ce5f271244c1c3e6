-- What a graph needs to go over to another layout, and what becomes of its rows.
use Rattle.std.specs.Prelude.{◌≡◌, ℕ, ◌+◌, Bool, false, Option, Some, None, List, [], length, slice_get}
use Rattle.values.specs.declared.plan.Plan.{Plan}
use Rattle.values.specs.declared.plan.PlanNode.{PlanNode}
use Rattle.values.specs.Plan.{IsLawful}
use Rattle.values.specs.Reserved.{Reserve}
use Rattle.store_fields.specs.declared.edit.Edit.{Edit}
use Rattle.sources.specs.declared.opening.Opened.{Opened}
use Rattle.sources.specs.Rows.{IsGood, IsDated, IsRoomy}
use Rattle.plain_evaluation.specs.Place.{Place}
use Rattle.plan_meaning.specs.Carried.{rows_to, IsCarried}
use Rattle.carried_rows.specs.Moved.{HasMoved}
use Rattle.row_carrying.specs.Target.{number_by, IsNoTarget}
use Rattle.still_readers.specs.Readers.{IsReadersOf, IsEnrolled}
use Rattle.still_rows.specs.Fresh.{AreFreshRows}
use Rattle.still_rows.specs.Works.{IsWorkOf}
use Rattle.phase_graph.specs.declared.table.Table.{Table}

-- another layout, as contracts see it
pub record Relaying : Type 0 where
  pub plan : Plan
  -- whether each owner is live
  pub live : List Bool
  -- for each row of the graph the row of this plan that has its place, where one has
  pub to : List (Option ℕ)

-- By some places of these nodes and of the other layout's, one for each node, each row goes to that of its place.
pub record GoesBetween (nodes : List PlanNode) (relaid : Relaying) : Type 0 where
  pub old : List Place
  pub new : List Place
  pub to : relaid.to ≡ rows_to old new
  pub carried : IsCarried old new nodes relaid.plan.nodes
  pub planned : length old ≡ length nodes
  pub planned_later : length new ≡ length relaid.plan.nodes

-- a table before its rows went over to it: all are empty and never ran
pub record IsLaid (t : Table) : Type 0 where
  pub lawful : IsLawful t.plan
  pub owners : length t.live.items ≡ length t.plan.owners
  pub fresh : AreFreshRows t.plan.nodes (length t.plan.nodes) t.rows.items
  pub dated : IsDated t.rows.items 0
  pub roomy : IsRoomy t.plan.nodes t.rows.items
  pub of_plan : IsReadersOf t.plan.nodes t.readers
  pub fits : IsWorkOf t.plan.nodes t.work
  pub closed : t.clock.in_phase ≡ false
  pub drawn : t.clock.drawn ≡ 0
  pub full : t.full ≡ None

-- what holds of another layout
pub record IsRelaid (t : Table) (edits : List (Reserve Edit)) (scratch : List Bool) : Type 0 where
  pub laid : IsLaid t
  pub none : edits ≡ []
  pub inside : length scratch ≡ length t.plan.owners

-- each row that goes anywhere is there, with the new numbers of the rows that its body names
abbrev pub HaveMoved : List (Option ℕ) → List Opened → List Opened → Type 0
HaveMoved to old new = (row later : ℕ) (one two : Opened) → slice_get to row ≡ Some (Some later) → slice_get old row ≡ Some one → slice_get new later ≡ Some two → HasMoved (number_by to) one two

-- where no row went, the row is as it was
abbrev pub HaveStayed : List (Option ℕ) → List Opened → List Opened → Type 0
HaveStayed to first new = (later : ℕ) → IsNoTarget to later → slice_get new later ≡ slice_get first later

-- the rows of an old table went over to one that was laid, which has its count of ticks
pub record IsTakenOver (first old : Table) (to : List (Option ℕ)) (new : Table) : Type 0 where
  pub same : new ≡ record first { rows = new.rows; readers = new.readers; clock = record first.clock { base = old.clock.base + old.clock.drawn } }
  pub filled : length new.rows.items ≡ length first.rows.items
  pub moved : HaveMoved to old.rows.items new.rows.items
  pub stayed : HaveStayed to first.rows.items new.rows.items
  pub of_plan : (nodes : List PlanNode) → IsReadersOf nodes first.readers → IsReadersOf nodes new.readers
  pub enrolled : (nodes : List PlanNode) → IsReadersOf nodes first.readers → IsGood nodes new.rows.items → IsEnrolled nodes new.rows.items new.readers
