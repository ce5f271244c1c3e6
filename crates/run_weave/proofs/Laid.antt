-- The plans of the worked rows are lawful.
use Rattle.std.proofs.Common.{◌≡◌, ℕ, zero, suc, ◌<◌, inl, inr, List, [], ◌∷◌, Contains, Some, unwrap_or, IsSomeAnd, slice_get, sym, ap, subst, arith}
use Rattle.values.specs.declared.code.Code.TheVariants.{Empty}
use Rattle.values.specs.declared.expr.Expr.TheVariants.{Lit, Read}
use Rattle.values.specs.declared.plan.Kind.TheVariants as kind
use Rattle.values.specs.declared.plan.PlanNode.{PlanNode}
use Rattle.values.specs.declared.plan.PlanOwner.{PlanOwner}
use Rattle.values.specs.Plan.{MayRead, rows_in}
use Rattle.values.proofs.PlanLemmas.{rows_in-Lit, rows_in-Read, Contains-from_cons}
use Rattle.run_history.specs.History.{PastFits}
use Rattle.run_weave.specs.Worked.{node, top, area_opened, store_opened, copy_opened}

none_in : (r : ℕ) → Contains [] r → ⊥
none_in r c = omega (arith, c.1)

signal_reads : (r : ℕ) → Contains (rows_in (Lit Empty)) r → ⊥
signal_reads r c = none_in r (subst (λ xs. Contains xs r) (rows_in-Lit Empty) c)

reader_reads : (row r : ℕ) → Contains (rows_in (Read row)) r → row ≡ r
reader_reads row r c = elim (Contains-from_cons row r [] (subst (λ xs. Contains xs r) (rows_in-Read row) c)) [ inl e ↦ e | inr g ↦ absurd (none_in r g) ]

abbrev signal_of : ℕ → PlanNode
signal_of owner = node kind.Signal (Lit Empty) owner

-- ---- a signal and a memo of an area

abbrev area_nodes : List PlanNode
area_nodes = area_opened.plan.nodes

area_back : (row : ℕ) (n : PlanNode) → slice_get area_nodes row ≡ Some n → (source : ℕ) → Contains (rows_in n.expr) source → MayRead area_nodes row source
area_back zero n at source c = absurd (signal_reads source (subst (λ o. Contains (rows_in (unwrap_or o (signal_of 1)).expr) source) (sym at) c))
area_back (suc zero) n at source c = subst (MayRead area_nodes 1) (reader_reads 0 source (subst (λ o. Contains (rows_in (unwrap_or o (signal_of 1)).expr) source) (sym at) c)) (omega arith, λ e. cc)
area_back (suc (suc k)) n at source c = cc

area_owned : (row : ℕ) (n : PlanNode) → slice_get area_nodes row ≡ Some n → n.owner < 2
area_owned zero n at = subst (λ o. (unwrap_or o (signal_of 1)).owner < 2) at (omega arith)
area_owned (suc zero) n at = subst (λ o. (unwrap_or o (signal_of 1)).owner < 2) at (omega arith)
area_owned (suc (suc k)) n at = cc

abbrev side : PlanOwner
side = record { parent = Some 0; cleanups = 3 ∷ [] }

area_inside : (number : ℕ) (owner : PlanOwner) → 0 < number → slice_get area_opened.plan.owners number ≡ Some owner → IsSomeAnd owner.parent (λ parent. parent < number)
area_inside zero owner later at = absurd (omega (arith, later))
area_inside (suc zero) owner later at = subst (λ o. IsSomeAnd (unwrap_or o side).parent (λ parent. parent < 1)) at (omega arith)
area_inside (suc (suc k)) owner later at = cc

pub area_fits : PastFits [] area_opened
area_fits = record {
  lawful = record { few_nodes = omega arith; some_owner = omega arith; few_owners = omega arith; reads_back = area_back; owned = area_owned; root = λ owner at. ap (λ o. (unwrap_or o top).parent) (sym at); inside = area_inside };
  dead_was = λ n i. i;
  was_dead = λ n i. i;
  once = λ n. omega arith;
}

-- ---- the top alone

top_inside : (number : ℕ) (owner : PlanOwner) → 0 < number → slice_get (top ∷ []) number ≡ Some owner → IsSomeAnd owner.parent (λ parent. parent < number)
top_inside zero owner later at = absurd (omega (arith, later))
top_inside (suc k) owner later at = cc

pub store_fits : PastFits [] store_opened
store_fits = record {
  lawful = record { few_nodes = omega arith; some_owner = omega arith; few_owners = omega arith; reads_back = λ row n at. cc; owned = λ row n at. cc; root = λ owner at. ap (λ o. (unwrap_or o top).parent) (sym at); inside = top_inside };
  dead_was = λ n i. i;
  was_dead = λ n i. i;
  once = λ n. omega arith;
}

-- ---- a signal, a memo and an effect

abbrev copy_nodes : List PlanNode
copy_nodes = copy_opened.plan.nodes

copy_back : (row : ℕ) (n : PlanNode) → slice_get copy_nodes row ≡ Some n → (source : ℕ) → Contains (rows_in n.expr) source → MayRead copy_nodes row source
copy_back zero n at source c = absurd (signal_reads source (subst (λ o. Contains (rows_in (unwrap_or o (signal_of 0)).expr) source) (sym at) c))
copy_back (suc zero) n at source c = subst (MayRead copy_nodes 1) (reader_reads 0 source (subst (λ o. Contains (rows_in (unwrap_or o (signal_of 0)).expr) source) (sym at) c)) (omega arith, λ e. cc)
copy_back (suc (suc zero)) n at source c = subst (MayRead copy_nodes 2) (reader_reads 1 source (subst (λ o. Contains (rows_in (unwrap_or o (signal_of 0)).expr) source) (sym at) c)) (omega arith, λ e. cc)
copy_back (suc (suc (suc k))) n at source c = cc

copy_owned : (row : ℕ) (n : PlanNode) → slice_get copy_nodes row ≡ Some n → n.owner < 1
copy_owned zero n at = subst (λ o. (unwrap_or o (signal_of 0)).owner < 1) at (omega arith)
copy_owned (suc zero) n at = subst (λ o. (unwrap_or o (signal_of 0)).owner < 1) at (omega arith)
copy_owned (suc (suc zero)) n at = subst (λ o. (unwrap_or o (signal_of 0)).owner < 1) at (omega arith)
copy_owned (suc (suc (suc k))) n at = cc

pub copy_fits : PastFits [] copy_opened
copy_fits = record {
  lawful = record { few_nodes = omega arith; some_owner = omega arith; few_owners = omega arith; reads_back = copy_back; owned = copy_owned; root = λ owner at. ap (λ o. (unwrap_or o top).parent) (sym at); inside = top_inside };
  dead_was = λ n i. i;
  was_dead = λ n i. i;
  once = λ n. omega arith;
}
