use Rattle.std.proofs.Common.{◌≡◌, ℕ, None, refl, sym, ap, ◌∙◌, inr, ⊎_elim}
use Rattle.std.proofs.lemmas.Bool.{true≢false}
use Rattle.values.specs.declared.code.Code.{Code}
use Rattle.values.specs.declared.code.Op.TheVariants.{Add}
use Rattle.values.specs.declared.plan.Fact.TheVariants as fact
use Rattle.values.specs.Evaluation.{combined, is_same}
use Rattle.run_meaning.specs.Explained.{Explained}
use Rattle.run_rows.specs.Parts.{number}
use Rattle.run_rows.specs.Rows.{equal_opened}
use Rattle.run_rows.specs.Wrong.{change_unexplained}
use Rattle.run_rows.proofs.Cases.{fact_in}
use Rattle.run_rows.proofs.Explains.{binary_rests, signal_rests}
use Rattle.run_rows.proofs.wrong.changes_and_edits.Goals as goal

abbrev none : ℕ → ℕ
none n = 0

-- the signal had one value throughout
one : (v : Code) → Explained equal_opened change_unexplained.entries none None 0 v → number 1 ≡ v
one v x = ⊎_elim (λ e. e) (λ w. fact_in (λ k f. f ≡ fact.Write 0 v → number 1 ≡ v) change_unexplained.entries ((λ q. cc), ((λ q. cc), ((λ q. cc), tt))) w.0 (fact.Write 0 v) w.1 refl)
    (signal_rests equal_opened change_unexplained.entries none None 0 v x (_, refl, refl))

pub returns-clause-unexplained : goal.returns-clause-unexplained
returns-clause-unexplained c h =
    let r = binary_rests equal_opened change_unexplained.entries none None 1 (number 5) _ Add 0 (number 1) (h 3 1 (number 5) (inr refl)) refl refl refl in
    true≢false (sym (ap (λ (v : Code). is_same (combined Add v (number 1)) (number 5)) (one r.value r.rests) ∙ ap (λ (v : Code). is_same v (number 5)) r.gives))
