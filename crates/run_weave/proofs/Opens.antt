-- What a component opens with.
use Rattle.std.proofs.Common.{◌≡◌, ℕ, Bool, true, false, cond, List, sym, ap, arith, Option, Some, None}
use Rattle.std.specs.Prelude.{slice_get}
use Rattle.values.specs.declared.plan.PlanNode.{PlanNode}
use Rattle.component_items.specs.declared.component.Component.{Component}
use Rattle.component_items.specs.Kept.{IsKept}
use Rattle.plain_evaluation.specs.Fits.{RowsFit}
use Rattle.plain_evaluation.specs.Held.{Held, is_live}
use Rattle.plain_evaluation.specs.Keyed.{is_keyed}
use Rattle.plain_evaluation.specs.Place.{Place, place_at}
use Rattle.plain_evaluation.specs.Written.{Written, state_of, written, place_of}
use Rattle.plan_meaning.specs.Layout.{rows_of, places_of, row_of, node_of, plan_of}
use Rattle.plan_meaning.specs.Told.{owner_of_id}
use Rattle.plan_meaning.proofs.Rows.{row_got, map_at, at_map}
use Rattle.plan_meaning.proofs.Told.{as_told}
use Rattle.run_meaning.specs.Opened.{Target, at_row, at_none, at_dead, target_at, opened_of}
use Rattle.run_weave.specs.Lanes.{TargetsFit}

abbrev is_row : Target → ℕ
is_row (at_row n) = 1
is_row at_none = 0
is_row (at_dead n) = 2

abbrev pub row_or : Target → ℕ
row_or (at_row n) = n
row_or at_none = 0
row_or (at_dead n) = 0

pub row_at : (r : Option ℕ) (row : ℕ) → target_at r ≡ at_row row → r ≡ Some row
row_at None row e = let one : ℕ = 1 in let q : 0 ≡ one = ap is_row e in absurd (omega arith)
row_at (Some n) row e = ap (λ (t : Target). Some (row_or t)) e

row_here : (live : Bool) (r : Option ℕ) (owner row : ℕ) → cond live (target_at r) (at_dead owner) ≡ at_row row → r ≡ Some row
row_here true r owner row e = row_at r row e
row_here false r owner row e = let one : ℕ = 1 in let q : 2 ≡ one = ap is_row e in absurd (omega arith)

pub targets_fit : (component : Component) (held : Held) → IsKept component → RowsFit component (state_of held) → TargetsFit (opened_of component held)
targets_fit component held kept fits = record {
  owned = λ past id key row e.
      let ws : List Written = written component held in
      let place : Place = place_at id key in
      let found = row_got (places_of ws) place row (row_here (is_live held (owner_of_id component id)) (row_of (places_of ws) place) (owner_of_id component id) row e) in
      let line = map_at place_of (rows_of ws) row place found in
      let node : PlanNode = node_of (is_keyed component) (places_of ws) line.0 in
      let there : slice_get (plan_of component (state_of held)).nodes row ≡ Some node = at_map (node_of (is_keyed component) (places_of ws)) (rows_of ws) row line.0 line.1 in
      let told = as_told component (state_of held) kept fits row place node found there in
      (node, there, sym told.1);
}
