-- A phase, as the object keeps it.
use Rattle.std.proofs.Common.{◌≡◌, ◌≢◌, ◌⊎◌, inl, inr, ℕ, List, [], ◌∷◌, ◌++◌, Option, Some, None, slice_get, refl, sym, ap, subst, ◌∙◌}
use Rattle.std.specs.Option.{option_map, option_and_then}
use Rattle.values.specs.declared.code.Code.{Code}
use Rattle.values.specs.declared.plan.Kind.{Kind}
use Rattle.values.specs.declared.plan.Kind.TheVariants as kind
use Rattle.values.specs.declared.plan.Noted.{Noted}
use Rattle.values.specs.declared.plan.Plan.{Plan}
use Rattle.values.specs.declared.plan.PlanNode.{PlanNode}
use Rattle.values.specs.Packing.{unpacked}
use Rattle.sources.specs.declared.opening.Opened as rows
use Rattle.plain_evaluation.specs.Place.{Place}
use Rattle.plain_evaluation.specs.Keyed.{is_keyed}
use Rattle.plain_evaluation.specs.Written.{Written, place_of, written}
use Rattle.plan_meaning.specs.Layout.{rows_of, places_of, node_of}
use Rattle.plan_meaning.proofs.Rows.{map_at, at_map}
use Rattle.run_meaning.specs.Opened.{Opened}
use Rattle.run_meaning.specs.Words.{In}
use Rattle.run_meaning.specs.Merge.{last_run}
use Rattle.run_meaning.specs.Phase.{Phase}
use Rattle.run_history.specs.Going.{Start, Going, just_opened}
use Rattle.run_history.specs.Calls.{Call, Calls}
use Rattle.phase_graph.specs.Graph.{GraphState}
use Rattle.phase_graph.specs.Way.{IsOnWay, OpensAs, OpensWith}
use Rattle.still_graph.specs.Still.{StillState, opened_in, start_in, IsSettledAfter}
use Rattle.still_graph.specs.Stands.{start_with, IsRunning, IsAtRest, IsStill}

-- ---- calls

in_either : (e : Noted) (xs ys : List Noted) → In e (xs ++ ys) → In e xs ⊎ In e ys
in_either e [] ys here = inr here
in_either e (x ∷ xs) ys (inl here) = inl (inl here)
in_either e (x ∷ xs) ys (inr later) = elim (in_either e xs ys later) [
  | inl before ↦ inl (inr before)
  | inr after ↦ inr after
]

-- from whatever went before, the call takes the phase from the one graph to the other
abbrev pub CallsOn : Opened → GraphState → GraphState → ℕ → Call → Type 0
CallsOn o old new pass call = (ran : ℕ → Option Code) (g : Going) → IsOnWay (start_with ran o) g old → (block : List Noted) × (h : Going) × Calls (start_with ran o) g block h pass call × IsOnWay (start_with ran o) h new

pub goes_on : (o : Opened) (pass : ℕ) (call : Call) (old new : GraphState) → CallsOn o old new pass call → IsRunning o old → IsRunning o new
goes_on o pass call old new calls runs =
    let one = calls runs.ran runs.going runs.way in
    record {
      ran = runs.ran;
      going = one.1;
      way = one.3;
      of_plan = λ e here. elim (in_either e runs.going.entries one.0 (subst (In e) one.2.0.entries here)) [
        | inl before ↦ runs.of_plan e before
        | inr now ↦ one.2.0.of_plan e now
      ];
    }

-- ---- a phase opens

-- what each row runs to now
abbrev ran_now : GraphState → ℕ → Option Code
ran_now graph n = option_map (λ (row : rows.Opened). unpacked row.code) (slice_get graph.rows n)

opens_as : (k : Kind) (s : Start) (rs : List rows.Opened) (n : ℕ) (row : rows.Opened) → (k ≢ kind.Effect → slice_get s.values n ≡ Some (unpacked row.code)) → (k ≡ kind.Effect → row.body.cause ≢ None → s.ran n ≡ Some (unpacked row.code)) → OpensAs k s rs n row
opens_as kind.Signal s rs n row value ran = value (λ e. cc)
opens_as kind.Field s rs n row value ran = value (λ e. cc)
opens_as kind.Load s rs n row value ran = value (λ e. cc)
opens_as kind.Memo s rs n row value ran = value (λ e. cc)
opens_as kind.Effect s rs n row value ran = ran refl

pub opens_with : (x : StillState) (room : ℕ) (s : Start) → IsStill x room → IsAtRest x → s.plan ≡ x.graph.plan → s.live ≡ x.state.held.live → s.values ≡ (opened_in x).values
    → ((n : ℕ) (node : PlanNode) (row : rows.Opened) → slice_get x.graph.plan.nodes n ≡ Some node → slice_get x.graph.rows n ≡ Some row → node.kind ≡ kind.Effect → row.body.cause ≢ None → s.ran n ≡ Some (unpacked row.code)) → OpensWith s x.graph
opens_with x room s still rest plan live values ran = record {
  plan = sym plan;
  live = rest.live ∙ sym live;
  each = λ n node row at_node at_row. (
      let there : slice_get x.graph.plan.nodes n ≡ Some node = ap (λ (p : Plan). slice_get p.nodes n) (sym plan) ∙ at_node in
      opens_as node.kind s x.graph.rows n row (λ other. ap (λ (codes : List Code). slice_get codes n) values ∙ rest.values n node row there at_row other) (λ effect did. ran n node row there at_row effect did));
}

-- each row has a place
pub place_of_node : (x : StillState) (room : ℕ) → IsStill x room → (n : ℕ) (node : PlanNode) → slice_get x.graph.plan.nodes n ≡ Some node → (place : Place) × (slice_get x.places n ≡ Some place)
place_of_node x room still n node at_node =
    let ws : List Written = written x.component x.state.held in
    let one = map_at (node_of (is_keyed x.component) (places_of ws)) (rows_of ws) n node (ap (λ (p : Plan). slice_get p.nodes n) (sym still.plan) ∙ at_node) in
    (place_of one.0, ap (λ (ps : List Place). slice_get ps n) still.places ∙ at_map place_of (rows_of ws) n one.0 one.1)

-- behind these phases
pub opens_after : (past : List Phase) (x : StillState) (room : ℕ) → IsStill x room → IsAtRest x → IsSettledAfter past x → OpensWith (start_in past x) x.graph
opens_after past x room still rest settled = opens_with x room (start_in past x) still rest (sym still.plan) refl refl (λ n node row at_node at_row effect did.
    let place = place_of_node x room still n node at_node in
    ap (option_and_then (last_run past)) (ap (λ (ps : List Place). slice_get ps n) (sym still.places) ∙ place.1) ∙ settled.ran n node row place.0 at_node at_row place.1 effect did)

-- and behind whatever it was
pub opens_alone : (x : StillState) (room : ℕ) → IsStill x room → IsAtRest x → OpensWith (start_with (ran_now x.graph) (opened_in x)) x.graph
opens_alone x room still rest = opens_with x room (start_with (ran_now x.graph) (opened_in x)) still rest (sym still.plan) refl refl (λ n node row at_node at_row effect did. ap (option_map (λ (r : rows.Opened). unpacked r.code)) at_row)

pub runs_first : (o : Opened) (ran : ℕ → Option Code) (graph : GraphState) → IsOnWay (start_with ran o) just_opened graph → IsRunning o graph
runs_first o ran graph way = record { ran = ran; going = just_opened; way = way; of_plan = λ e here. absurd here }
