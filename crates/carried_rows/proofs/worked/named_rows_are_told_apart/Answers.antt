use Rattle.std.proofs.Common.{◌≡◌, ℕ, [], Option, Some, None, Contains, subst, inl, inr, arith}
use Rattle.values.specs.declared.plan.Kind.TheVariants as kind
use Rattle.values.specs.Plan.{rows_in}
use Rattle.values.specs.PlanRows.{reader}
use Rattle.values.proofs.PlanLemmas.{rows_in-Read, Contains-from_cons}
use Rattle.values.proofs.PlanRowsLemmas.{reader_names}
use Rattle.sources.specs.declared.body.Cause.{Cause}
use Rattle.sources.specs.declared.body.Cause.TheVariants.{Changed}
use Rattle.carried_rows.proofs.worked.named_rows_are_told_apart.Goals as goal

clash : {o : Option Cause} (cause : Cause) → o ≡ Some cause → o ≡ None → ⊥
clash cause some none = cc

source_of : {o : Option Cause} (source old new : ℕ) → o ≡ Some (Changed 0 4 9) → o ≡ Some (Changed source old new) → 0 ≡ source
source_of source old new here there = cc

pub returns-clause-named : goal.returns-clause-named
returns-clause-named c row is = record {
  unread = λ none. absurd (clash (Changed 0 4 9) is none);
  caused = λ source old new changed. subst (λ r. Contains (rows_in (reader kind.Memo 0).expr) r) (source_of source old new is changed) (reader_names kind.Memo 0);
}

pub returns-clause-other : goal.returns-clause-other
returns-clause-other c row is named =
    elim (Contains-from_cons 0 1 [] (subst (λ xs. Contains xs 1) (rows_in-Read 0) (named.caused 1 4 9 is))) [ inl e ↦ (let z : 0 ≡ 1 = e in omega (arith, z)) | inr none ↦ omega (arith, none.1) ]
