-- What rows, owners and edits show of a phase on its way.
use Rattle.std.specs.Prelude.{◌≡◌, ◌≢◌, ℕ, ◌-◌, true, false, List, [], length, slice_get, Some, None, replicate}
use Rattle.values.specs.declared.code.Code.{Code}
use Rattle.values.specs.declared.plan.Kind.{Kind}
use Rattle.values.specs.declared.plan.Kind.TheVariants as kind
use Rattle.values.specs.declared.plan.Noted.{Noted}
use Rattle.values.specs.declared.plan.PlanNode.{PlanNode}
use Rattle.values.specs.Packing.{unpacked}
use Rattle.store_fields.specs.declared.edit.Edit.{Edit}
use Rattle.script_items.specs.Script.{numbered}
use Rattle.sources.specs.declared.opening.Opened as rows
use Rattle.run_meaning.specs.Merge.{changed_to}
use Rattle.run_meaning.specs.Told.{IsCurrent}
use Rattle.run_history.specs.Going.{Start, Going, opened_at, Numbered, latest_code, shown_number, last_value, IsDead, edits_by}
use Rattle.phase_graph.specs.Graph.{GraphState}

-- the row shows this value, and its version that it came to it under its last number of the phase, or before
pub record Shows (es : List Noted) (base n : ℕ) (row : rows.Opened) (code : Code) : Type 0 where
  pub value : unpacked row.code ≡ code
  pub number : row.version - base ≡ shown_number es n

-- A source shows its last write, and a memo its last change. An effect that ran has the value of its last run.
abbrev pub ShowsAs : Kind → Start → List Noted → ℕ → ℕ → rows.Opened → Type 0
ShowsAs kind.Signal s es base n row = Shows es base n row (latest_code s es n)
ShowsAs kind.Field s es base n row = Shows es base n row (latest_code s es n)
ShowsAs kind.Load s es base n row = Shows es base n row (latest_code s es n)
ShowsAs kind.Memo s es base n row = Shows es base n row (changed_to (opened_at s) n es)
ShowsAs kind.Effect s es base n row = row.body.cause ≢ None → last_value s es n ≡ Some (unpacked row.code)

-- the graph stands at g of a phase that opened with s
pub record IsOnWay (s : Start) (g : Going) (x : GraphState) : Type 0 where
  pub plan : x.plan ≡ s.plan
  pub is_open : x.is_open ≡ true
  pub drawn : x.drawn ≡ g.drawn
  pub entries : x.entries ≡ g.entries
  pub numbered_so : Numbered 0 g.entries g.drawn
  pub shown : (n : ℕ) (node : PlanNode) (row : rows.Opened) → slice_get s.plan.nodes n ≡ Some node → slice_get x.rows n ≡ Some row → ShowsAs node.kind s g.entries x.base n row
  -- no effect's value is asked for
  pub current : (n : ℕ) (node : PlanNode) (row : rows.Opened) → slice_get s.plan.nodes n ≡ Some node → slice_get x.rows n ≡ Some row → node.kind ≢ kind.Effect → IsCurrent (opened_at s) g.entries n (unpacked row.code) (row.version - x.base)
  pub dead : (owner : ℕ) → slice_get x.live owner ≡ Some false → IsDead s g.entries owner
  pub alive : (owner : ℕ) → slice_get x.live owner ≡ Some true → ¬ IsDead s g.entries owner
  pub noted_edits : (pass : ℕ) (edits : List Edit) → numbered x.edits pass ≡ Some edits → length edits ≡ edits_by pass g.entries

-- no row of the plan is of an owner that was dead when the phase opened
pub record AreHome (s : Start) : Type 0 where
  pub homes : (n : ℕ) (node : PlanNode) → slice_get s.plan.nodes n ≡ Some node → slice_get s.live node.owner ≡ Some true

-- ---- when a phase may open so

-- no effect's value is asked for: what it ran to is
abbrev pub OpensAs : Kind → Start → List rows.Opened → ℕ → rows.Opened → Type 0
OpensAs kind.Signal s rs n row = slice_get s.values n ≡ Some (unpacked row.code)
OpensAs kind.Field s rs n row = slice_get s.values n ≡ Some (unpacked row.code)
OpensAs kind.Load s rs n row = slice_get s.values n ≡ Some (unpacked row.code)
OpensAs kind.Memo s rs n row = slice_get s.values n ≡ Some (unpacked row.code)
OpensAs kind.Effect s rs n row = row.body.cause ≢ None → s.ran n ≡ Some (unpacked row.code)

-- a phase of the graph as it stands opens with s
pub record OpensWith (s : Start) (x : GraphState) : Type 0 where
  pub plan : x.plan ≡ s.plan
  pub live : x.live ≡ s.live
  pub each : (n : ℕ) (node : PlanNode) (row : rows.Opened) → slice_get s.plan.nodes n ≡ Some node → slice_get x.rows n ≡ Some row → OpensAs node.kind s x.rows n row

-- the lists of edits of so many passes, all empty
abbrev pub no_edits : ℕ → List (List Edit)
no_edits passes = replicate passes []
