use Rattle.std.proofs.Common.{◌≡◌, ℕ, Some, None, [], ◌∷◌, List, refl, sym, ap, ◌∙◌, subst, arith}
use Rattle.std.proofs.lemmas.Bool.{true≢false}
use Rattle.values.specs.declared.code.Code.{Code}
use Rattle.values.specs.declared.code.Op.TheVariants.{Add}
use Rattle.values.specs.declared.plan.Fact.TheVariants as fact
use Rattle.values.specs.Evaluation.{combined, is_same}
use Rattle.run_items.specs.declared.answer.Reply.TheVariants as reply
use Rattle.run_meaning.specs.Entries.{fact_at}
use Rattle.run_meaning.specs.Explained.{Explained}
use Rattle.run_meaning.specs.Lane.{Done, own}
use Rattle.run_rows.specs.Parts.{number, did, set}
use Rattle.run_rows.specs.Rows.{diamond_opened}
use Rattle.run_rows.specs.Wrong.{too_old_below}
use Rattle.run_rows.proofs.Cases.{fact_in}
use Rattle.run_rows.proofs.Explains.{binary_rests, written_rests}
use Rattle.run_rows.proofs.wrong.values.Goals as goal

abbrev before : List Done
before = did (set 0 (number 10)) (reply.Set 1) ∷ []

wrote : (v : Code) (k : ℕ) → fact_at k too_old_below.entries ≡ Some (fact.Write 0 v) → v ≡ number 10
wrote v k e = fact_in (λ m f. f ≡ fact.Write 0 v → v ≡ number 10) too_old_below.entries ((λ q. cc), tt) k (fact.Write 0 v) e refl

not_explained : Explained diamond_opened too_old_below.entries (own diamond_opened before) None 1 (number 2) → ⊥
not_explained x =
    let r = binary_rests diamond_opened too_old_below.entries (own diamond_opened before) None 1 (number 2) _ Add 0 (number 1) x refl refl refl in
    let w = written_rests diamond_opened too_old_below.entries (own diamond_opened before) None 0 r.value r.rests (_, refl, refl) (omega arith) in
    true≢false (sym (ap (λ (v : Code). is_same (combined Add v (number 1)) (number 2)) (sym (wrote r.value w.0 w.1)) ∙ ap (λ (v : Code). is_same v (number 2)) r.gives))

pub returns-clause-too_old_below : goal.returns-clause-too_old_below
returns-clause-too_old_below c h =
    let row : 1 ≡ h.0.1.0.0 = cc in
    not_explained (subst (λ (n : ℕ). Explained diamond_opened too_old_below.entries (own diamond_opened before) None n (number 2)) (sym row) h.0.1.0.2)
