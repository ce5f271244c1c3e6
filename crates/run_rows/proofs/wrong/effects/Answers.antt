use Rattle.std.proofs.Common.{◌≡◌, ℕ, ◌≤◌, Some, None, List, [], ◌∷◌, length, refl, sym, ap, ◌∙◌, subst, ⊎_elim, arith}
use Rattle.std.proofs.lemmas.Option.{none-some}
use Rattle.std.proofs.lemmas.Bool.{true≢false}
use Rattle.values.specs.declared.code.Code.{Code}
use Rattle.values.specs.declared.code.Op.TheVariants.{Mul}
use Rattle.values.specs.declared.plan.Fact.TheVariants as fact
use Rattle.values.specs.Evaluation.{combined, is_same}
use Rattle.run_items.specs.declared.answer.Reply.TheVariants as reply
use Rattle.run_meaning.specs.Words.{In}
use Rattle.run_meaning.specs.Entries.{fact_at}
use Rattle.run_meaning.specs.Explained.{Explained}
use Rattle.run_meaning.specs.Lane.{Done, own}
use Rattle.run_meaning.specs.Merge.{Stands, RanTo}
use Rattle.run_rows.specs.Parts.{number, did, set, pumped}
use Rattle.run_rows.specs.Rows.{effect_opened}
use Rattle.run_rows.proofs.Cases.{fact_in}
use Rattle.run_rows.proofs.Explains.{binary_rests, written_rests}
use Rattle.run_rows.specs.Wrong.{never_ran, ran_too_early}
use Rattle.run_rows.proofs.wrong.effects.Goals as goal

no_items : (left : List ℕ) (n : ℕ) → length left ≤ 0 → In n left → ⊥
no_items [] n l i = i
no_items (x ∷ xs) n l i = omega arith

no_run : Stands [] never_ran [] 1 → ⊥
no_run s = ⊎_elim (λ a. a.2) (λ b. ⊎_elim (λ r. none-some _ r.1) (λ r. none-some _ r.2) b.1) s

pub returns-clause-never_ran : goal.returns-clause-never_ran
returns-clause-never_ran c h =
    let left = h.each.0.0.2 in
    ⊎_elim (no_items left.0 1 left.1) no_run (left.2 1 (_, refl, refl))

abbrev before : List Done
before = pumped 1 0 0 ∷ did (set 0 (number 2)) (reply.Set 2) ∷ []

ran_to : (code : Code) → RanTo [] ran_too_early 1 code → code ≡ number 10
ran_to code r = ⊎_elim (λ a. fact_in (λ k f. f ≡ fact.Ran 1 code → code ≡ number 10) ran_too_early.entries ((λ e. cc), ((λ e. cc), tt)) a.0 (fact.Ran 1 code) a.1 refl) (λ b. absurd (none-some _ b.2)) r

wrote : (v : Code) (k : ℕ) → fact_at k ran_too_early.entries ≡ Some (fact.Write 0 v) → v ≡ number 2
wrote v k e = fact_in (λ m f. f ≡ fact.Write 0 v → v ≡ number 2) ran_too_early.entries ((λ q. cc), ((λ q. cc), tt)) k (fact.Write 0 v) e refl

not_explained : Explained effect_opened ran_too_early.entries (own effect_opened before) None 1 (number 10) → ⊥
not_explained x =
    let r = binary_rests effect_opened ran_too_early.entries (own effect_opened before) None 1 (number 10) _ Mul 0 (number 10) x refl refl refl in
    let w = written_rests effect_opened ran_too_early.entries (own effect_opened before) None 0 r.value r.rests (_, refl, refl) (omega arith) in
    true≢false (sym (ap (λ (v : Code). is_same (combined Mul v (number 10)) (number 10)) (sym (wrote r.value w.0 w.1)) ∙ ap (λ (v : Code). is_same v (number 10)) r.gives))

pub returns-clause-ran_too_early : goal.returns-clause-ran_too_early
returns-clause-ran_too_early c h =
    let left = h.each.0.1.1.0.2 in
    ⊎_elim (no_items left.0 1 left.1) (λ s. ⊎_elim (λ a. a.2) (λ b. not_explained (subst (Explained effect_opened ran_too_early.entries (own effect_opened before) None 1) (ran_to b.0 b.1) b.2)) s) (left.2 1 (_, refl, refl))
