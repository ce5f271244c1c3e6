-- A phase on its way, from where the graph stands.
use Rattle.std.proofs.Common.{◌≡◌, inl, inr, ℕ, ◌-◌, List, [], ◌++◌, Some, slice_get, length, refl, sym, ap, subst, ◌∙◌, arith, false}
use Rattle.values.specs.declared.code.Code.{Code}
use Rattle.values.specs.declared.plan.Kind.{Kind}
use Rattle.values.specs.declared.plan.Kind.TheVariants as kind
use Rattle.values.specs.declared.plan.Noted.{Noted}
use Rattle.values.specs.declared.plan.Plan.{Plan}
use Rattle.values.specs.declared.plan.PlanNode.{PlanNode}
use Rattle.values.specs.Packing.{unpacked}
use Rattle.values.specs.PlanValues.{is_derived, plan_value}
use Rattle.values.proofs.PlanValuesLemmas.{plan_value-by_sources}
use Rattle.sources.specs.declared.opening.Opened.{Opened}
use Rattle.sources.specs.Rows.{value_in}
use Rattle.sources.proofs.RowLemmas.{code_in-at}
use Rattle.still_readers.proofs.Lists.{at_within, within_at}
use Rattle.still_rows.specs.declared.clock.Clock.{Clock}
use Rattle.run_meaning.specs.Words.{In}
use Rattle.run_meaning.specs.Entries.{disposed_in}
use Rattle.run_meaning.specs.Told.{IsCurrent}
use Rattle.run_meaning.specs.Merge.{changed_to}
use Rattle.run_history.specs.Going.{Start, Going, opened_at, latest_code, plain_code, shown_number, last_value, IsDead}
use Rattle.run_history.proofs.Lists.{in_left, append_nil}
use Rattle.run_history.proofs.Cut.{fact_at_more}
use Rattle.run_history.proofs.Disposals.{disposed_append}
use Rattle.phase_graph.specs.Graph.{GraphState}
use Rattle.phase_graph.specs.Way.{Shows, ShowsAs, IsOnWay}

-- where the graph stands
abbrev pub going_of : GraphState → Going
going_of x = record { drawn = x.drawn; entries = x.entries }

abbrev pub at_clock : Clock → Going
at_clock c = record { drawn = c.drawn; entries = c.entries.list }

abbrev pub with_plan : Start → Plan → Start
with_plan s plan = record s { plan = plan }

-- the phase may be taken to have begun with the graph's plan, and to stand where the graph stands
pub from_here : (s : Start) (g : Going) (x : GraphState) (P : Start → Going → Type 0) → IsOnWay s g x → (IsOnWay (with_plan s x.plan) (going_of x) x → P (with_plan s x.plan) (going_of x)) → P s g
from_here s g x P way f =
    let start : with_plan s x.plan ≡ s = ap (with_plan s) way.plan in
    let going : going_of x ≡ g = (λ i. record { drawn = way.drawn i; entries = way.entries i }) in
    subst (λ (q : Start). P q g) start (subst (λ (q : Going). P (with_plan s x.plan) q) going (f (subst (λ (q : Start). IsOnWay q (going_of x) x) (sym start) (subst (λ (q : Going). IsOnWay s q x) (sym going) way))))

-- ---- values by plan evaluation

source_value : (s : Start) (es : List Noted) (base n : ℕ) (row : Opened) (k : Kind) → is_derived k ≡ false → ShowsAs k s es base n row → unpacked row.code ≡ latest_code s es n
source_value s es base n row kind.Signal d shows = shows.value
source_value s es base n row kind.Field d shows = shows.value
source_value s es base n row kind.Load d shows = shows.value
source_value s es base n row kind.Memo d shows = cc
source_value s es base n row kind.Effect d shows = cc

-- the values by plan evaluation over the rows are those over the latest writes
pub plain_is : (s : Start) (es : List Noted) (base : ℕ) (rows : List Opened) → length rows ≡ length s.plan.nodes → ((n : ℕ) (node : PlanNode) (row : Opened) → slice_get s.plan.nodes n ≡ Some node → slice_get rows n ≡ Some row → ShowsAs node.kind s es base n row) → (n : ℕ) → plan_value s.plan.nodes (value_in rows) n ≡ plain_code s es n
plain_is s es base rows paired shown n = ap (λ (f : ℕ → Code). f n) (plan_value-by_sources s.plan.nodes (value_in rows) (latest_code s es) record {
  same = (λ i node at d.
      let w = at_within s.plan.nodes i node at in
      let row = within_at rows i (omega arith) in
      ap unpacked (code_in-at rows i row.0 row.1) ∙ source_value s es base i row.0 node.kind d (shown i node row.0 at row.1));
})

-- ---- what stays where more is noted

pub current_more : (s : Start) (es block : List Noted) (n : ℕ) (code : Code) (k : ℕ) → IsCurrent (opened_at s) es n code k → IsCurrent (opened_at s) (es ++ block) n code k
current_more s es block n code k (inl h) = inl h
current_more s es block n code k (inr (inl h)) = inr (inl (fact_at_more k es block _ h))
current_more s es block n code k (inr (inr h)) = inr (inr (fact_at_more k es block _ h))

pub dead_more : (s : Start) (es block : List Noted) (n : ℕ) → IsDead s es n → IsDead s (es ++ block) n
dead_more s es block n (inl h) = inl h
dead_more s es block n (inr h) = inr (subst (In n) (sym (disposed_append es block)) (in_left (disposed_in es) (disposed_in block) n h))

pub dead_same : (s : Start) (es block : List Noted) (n : ℕ) → disposed_in block ≡ [] → IsDead s (es ++ block) n → IsDead s es n
dead_same s es block n none (inl h) = inl h
dead_same s es block n none (inr h) = inr (subst (In n) (disposed_append es block ∙ (ap (λ (t : List ℕ). disposed_in es ++ t) none ∙ append_nil (disposed_in es))) h)

-- ---- what a row shows

-- a row with the value, the version and the body that it had, where the entries say the same of it
pub shows_on : (s : Start) (es es' : List Noted) (base base' n : ℕ) (old new : Opened) → new.code ≡ old.code → new.version - base' ≡ old.version - base → latest_code s es' n ≡ latest_code s es n → changed_to (opened_at s) n es' ≡ changed_to (opened_at s) n es → shown_number es' n ≡ shown_number es n → last_value s es' n ≡ last_value s es n → (k : Kind) → (k ≡ kind.Effect → new.body.cause ≡ old.body.cause) → ShowsAs k s es base n old → ShowsAs k s es' base' n new
shows_on s es es' base base' n old new code version written change number last k cause h = by k cause h
  where
    kept : (before after : Code) → after ≡ before → Shows es base n old before → Shows es' base' n new after
    kept before after same w = record { value = ap unpacked code ∙ w.value ∙ sym same; number = version ∙ w.number ∙ sym number }

    by : (k : Kind) → (k ≡ kind.Effect → new.body.cause ≡ old.body.cause) → ShowsAs k s es base n old → ShowsAs k s es' base' n new
    by kind.Signal same w = kept (latest_code s es n) (latest_code s es' n) written w
    by kind.Field same w = kept (latest_code s es n) (latest_code s es' n) written w
    by kind.Load same w = kept (latest_code s es n) (latest_code s es' n) written w
    by kind.Memo same w = kept (changed_to (opened_at s) n es) (changed_to (opened_at s) n es') change w
    by kind.Effect same w = (λ ran. last ∙ w (λ none. ran (same refl ∙ none)) ∙ ap (λ (z : ℕ). Some (unpacked z)) (sym code))
