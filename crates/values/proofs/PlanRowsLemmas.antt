-- The worked rows of plans.
use Rattle.std.proofs.Common.{◌≡◌, ℕ, zero, suc, ◌<◌, inl, inr, List, [], ◌∷◌, Contains, Some, unwrap_or, IsSomeAnd, slice_get, refl, sym, ap, subst, arith}
use Rattle.values.specs.declared.code.Code.TheVariants.{Empty}
use Rattle.values.specs.declared.plan.Kind.{Kind}
use Rattle.values.specs.declared.plan.Kind.TheVariants.{Memo, Effect}
use Rattle.values.specs.declared.plan.PlanNode.{PlanNode}
use Rattle.values.specs.declared.plan.PlanOwner.{PlanOwner}
use Rattle.values.specs.Plan.{IsLawful, MayRead, rows_in}
use Rattle.values.specs.PlanRows.{plan_of, signal_in, reader, root, inside}
use Rattle.values.proofs.PlanLemmas.{rows_in-Lit, rows_in-Read, Contains-from_cons}

abbrev nodes : List PlanNode
nodes = signal_in 1 ∷ reader Memo 0 ∷ reader Effect 1 ∷ []

abbrev owners : List PlanOwner
owners = root ∷ inside 0 ∷ []

-- nothing is in the empty list
none_in : (r : ℕ) → Contains [] r → ⊥
none_in r c = omega (arith, c.1)

signal_reads : (r : ℕ) → Contains (rows_in (signal_in 1).expr) r → ⊥
signal_reads r c = none_in r (subst (λ xs. Contains xs r) (rows_in-Lit Empty) c)

reader_reads : (kind : Kind) (row r : ℕ) → Contains (rows_in (reader kind row).expr) r → row ≡ r
reader_reads kind row r c = elim (Contains-from_cons row r [] (subst (λ xs. Contains xs r) (rows_in-Read row) c)) [ inl e ↦ e | inr g ↦ absurd (none_in r g) ]

pub reader_names : (kind : Kind) (row : ℕ) → Contains (rows_in (reader kind row).expr) row
reader_names kind row = rw (rows_in-Read row) (0, omega arith, refl)

reads_back : (row : ℕ) (node : PlanNode) → slice_get nodes row ≡ Some node → (source : ℕ) → Contains (rows_in node.expr) source → MayRead nodes row source
reads_back zero node at source c = absurd (signal_reads source (subst (λ o. Contains (rows_in (unwrap_or o (signal_in 1)).expr) source) (sym at) c))
reads_back (suc zero) node at source c = subst (MayRead nodes 1) (reader_reads Memo 0 source (subst (λ o. Contains (rows_in (unwrap_or o (signal_in 1)).expr) source) (sym at) c)) (omega arith, λ e. cc)
reads_back (suc (suc zero)) node at source c = subst (MayRead nodes 2) (reader_reads Effect 1 source (subst (λ o. Contains (rows_in (unwrap_or o (signal_in 1)).expr) source) (sym at) c)) (omega arith, λ e. cc)
reads_back (suc (suc (suc k))) node at source c = cc

owned : (row : ℕ) (node : PlanNode) → slice_get nodes row ≡ Some node → node.owner < 2
owned zero node at = subst (λ o. (unwrap_or o (signal_in 1)).owner < 2) at (omega arith)
owned (suc zero) node at = subst (λ o. (unwrap_or o (signal_in 1)).owner < 2) at (omega arith)
owned (suc (suc zero)) node at = subst (λ o. (unwrap_or o (signal_in 1)).owner < 2) at (omega arith)
owned (suc (suc (suc k))) node at = cc

parents : (number : ℕ) (owner : PlanOwner) → 0 < number → slice_get owners number ≡ Some owner → IsSomeAnd owner.parent (λ parent. parent < number)
parents zero owner later at = absurd (omega (arith, later))
parents (suc zero) owner later at = subst (λ o. IsSomeAnd (unwrap_or o (inside 0)).parent (λ parent. parent < 1)) at (omega arith)
parents (suc (suc k)) owner later at = cc

pub lawful : IsLawful (plan_of nodes owners)
lawful = record {
  few_nodes = omega arith;
  some_owner = omega arith;
  few_owners = omega arith;
  reads_back = reads_back;
  owned = owned;
  root = λ owner at. ap (λ o. (unwrap_or o root).parent) (sym at);
  inside = parents;
}

pub no_owner : IsLawful (plan_of [] []) → ⊥
no_owner l = omega (arith, l.some_owner)

pub reads_itself : IsLawful (plan_of (reader Memo 0 ∷ []) (root ∷ [])) → ⊥
reads_itself l = let back = l.reads_back 0 (reader Memo 0) refl 0 (reader_names Memo 0) in omega (arith, back.0)

pub reads_effect : IsLawful (plan_of (signal_in 0 ∷ reader Effect 0 ∷ reader Memo 1 ∷ []) (root ∷ [])) → ⊥
reads_effect l = let back = l.reads_back 2 (reader Memo 1) refl 1 (reader_names Memo 1) in back.1 refl

pub stranger : IsLawful (plan_of (signal_in 1 ∷ []) (root ∷ [])) → ⊥
stranger l = let at = l.owned 0 (signal_in 1) refl in omega (arith, at)

pub second_root : IsLawful (plan_of [] (root ∷ root ∷ [])) → ⊥
second_root l = l.inside 1 root (omega arith) refl

pub later_parent : IsLawful (plan_of [] (root ∷ inside 1 ∷ [])) → ⊥
later_parent l = let smaller = l.inside 1 (inside 1) (omega arith) refl in omega (arith, smaller)
