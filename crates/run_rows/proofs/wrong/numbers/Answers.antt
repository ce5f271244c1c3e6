use Rattle.std.proofs.Common.{◌≡◌, Bool, true, false, Option, Some, None, ap, ◌∙◌, inl, refl, ⊎_elim}
use Rattle.std.proofs.lemmas.Bool.{true≢false}
use Rattle.values.specs.declared.plan.Kind.{Kind}
use Rattle.values.specs.declared.plan.Kind.TheVariants as kind
use Rattle.values.specs.declared.plan.PlanNode.{PlanNode}
use Rattle.values.specs.PlanValues.{is_derived}
use Rattle.run_meaning.specs.Opened.{IsKind}
use Rattle.run_rows.specs.Rows.{branch_opened}
use Rattle.run_rows.proofs.wrong.numbers.Goals as goal

abbrev derives : Option PlanNode → Bool
derives None = false
derives (Some node) = is_derived node.kind

no_source : (k : Kind) → is_derived k ≡ false → IsKind branch_opened 3 k → true ≡ false
no_source k f i = ap derives i.1 ∙ (ap is_derived i.2 ∙ f)

pub returns-clause-memo : goal.returns-clause-memo
returns-clause-memo c h = ⊎_elim (λ (i : IsKind branch_opened 3 kind.Signal). true≢false (no_source kind.Signal refl i)) (λ (i : IsKind branch_opened 3 kind.Field). true≢false (no_source kind.Field refl i)) (h.of_plan _ (inl refl))
