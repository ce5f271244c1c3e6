use Rattle.std.proofs.Common.{◌≡◌, ℕ, Bool, true, false, Option, Some, None, List, [], ◌∷◌, is_some, if◌then◌else◌, refl, sym, ap, ◌∙◌}
use Rattle.values.specs.declared.code.Code.{Code}
use Rattle.values.specs.Evaluation.{value_of, reads_of}
use Rattle.values.specs.Attempt.{known_value, first_unknown, answer}
use Rattle.values.proofs.AskedLemmas.{tried_of-known_by}
use Rattle.work_order.specs.declared.order.Next.TheVariants.{Read}
use Rattle.work_order.specs.Order.{run_of}
use Rattle.work_order.proofs.laws.runs_read_each_source_once.Goals as goal

none_of : (o : Option Code) → is_some o ≡ false → o ≡ None
none_of None h = refl
none_of (Some code) h = cc

first_is : (known : List (ℕ × Code)) (r : ℕ) (xs : List ℕ) → first_unknown known xs ≡ Some r → known_value known r ≡ None
first_is known r [] h = cc
first_is known r (x ∷ xs) h = by (is_some (known_value known x)) refl h (first_is known r xs)
  where
    by : (b : Bool) → is_some (known_value known x) ≡ b → (if b then first_unknown known xs else Some x) ≡ Some r → (first_unknown known xs ≡ Some r → known_value known r ≡ None) → known_value known r ≡ None
    by true k h rec = rec h
    by false k h rec = let same : x ≡ r = cc in none_of (known_value known r) (ap (λ (q : ℕ). is_some (known_value known q)) (sym same) ∙ k)

pub returns-clause-unread : goal.returns-clause-unread
returns-clause-unread c = λ e known values row h. by known row (reads_of e values) (first_unknown known (reads_of e values)) refl (value_of e values) h
  where
    by : (known : List (ℕ × Code)) (row : ℕ) (xs : List ℕ) (o : Option ℕ) → first_unknown known xs ≡ o → (code : Code) → run_of (answer o code) ≡ Read row → known_value known row ≡ None
    by known row xs None e code h = cc
    by known row xs (Some r) e code h = let same : r ≡ row = cc in first_is known row xs (e ∙ ap (λ (q : ℕ). Some q) same)

pub returns-clause-in_order : goal.returns-clause-in_order
returns-clause-in_order c = λ e values n row h. ap run_of (tried_of-known_by e values n) ∙ ap (λ (o : Option ℕ). run_of (answer o (value_of e values))) h

pub returns-clause-ends : goal.returns-clause-ends
returns-clause-ends c = λ e values n h. ap run_of (tried_of-known_by e values n) ∙ ap (λ (o : Option ℕ). run_of (answer o (value_of e values))) h
