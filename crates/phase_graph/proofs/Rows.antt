-- The row of a number, and whether it is an effect.
use Rattle.std.proofs.Common.{◌≡◌, ◌≢◌, ℕ, ◌<◌, Bool, true, false, List, slice_get, Some, get_or, length, refl, sym, ap, ◌∙◌}
use Rattle.std.proofs.lemmas.Option.{get_or_from_slice_get}
use Rattle.values.specs.declared.plan.Kind.{Kind}
use Rattle.values.specs.declared.plan.Kind.TheVariants as kind
use Rattle.values.specs.declared.plan.PlanNode.{PlanNode}
use Rattle.still_readers.proofs.Lists.{within_at, not_both}
use Rattle.still_effects.specs.Effects.{IsEffect}
use Rattle.plain_evaluation.specs.Sound.{is_effect}
use Rattle.phase_graph.specs.declared.table.Table.{Table}
use Rattle.phase_graph.specs.Pumping.{IsOther}

pub effect_yes : (k : Kind) → k ≡ kind.Effect → is_effect k ≡ true
effect_yes k e = ap is_effect e

pub effect_no : (k : Kind) → k ≢ kind.Effect → is_effect k ≡ false
effect_no kind.Signal e = refl
effect_no kind.Field e = refl
effect_no kind.Load e = refl
effect_no kind.Memo e = refl
effect_no kind.Effect e = absurd (e refl)

is_the_effect : (k : Kind) → is_effect k ≡ true → k ≡ kind.Effect
is_the_effect kind.Signal e = cc
is_the_effect kind.Field e = cc
is_the_effect kind.Load e = cc
is_the_effect kind.Memo e = cc
is_the_effect kind.Effect e = refl

-- a row that is read, and whether it is an effect
row_at : (nodes nodes' : List PlanNode) (row : ℕ) (d : PlanNode) (b : Bool) → nodes' ≡ nodes → row < length nodes → is_effect (get_or nodes' row d).kind ≡ b → (node : PlanNode) × (slice_get nodes row ≡ Some node) × (is_effect node.kind ≡ b)
row_at nodes nodes' row d b same l is =
    let n = within_at nodes row l in
    (n.0, n.1, ap (λ (z : PlanNode). is_effect z.kind) (sym (get_or_from_slice_get nodes row n.0 d n.1)) ∙ ap (λ (q : List PlanNode). is_effect (get_or q row d).kind) (sym same) ∙ is)

pub is_effect_at : (nodes nodes' : List PlanNode) (row : ℕ) (d : PlanNode) → nodes' ≡ nodes → row < length nodes → is_effect (get_or nodes' row d).kind ≡ true → IsEffect nodes row
is_effect_at nodes nodes' row d same l is = let n = row_at nodes nodes' row d true same l is in record { node = n.0; at = n.1; is = is_the_effect n.0.kind n.2 }

pub is_other_at : (t : Table) (nodes' : List PlanNode) (row : ℕ) (d : PlanNode) → nodes' ≡ t.plan.nodes → row < length t.plan.nodes → is_effect (get_or nodes' row d).kind ≡ false → IsOther t row
is_other_at t nodes' row d same l is = let n = row_at t.plan.nodes nodes' row d false same l is in record { node = n.0; at = n.1; other = (λ e. not_both (is_effect n.0.kind) (effect_yes n.0.kind e) n.2) }
