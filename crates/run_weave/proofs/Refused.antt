-- Calls that lead nowhere.
use Rattle.std.proofs.Common.{◌≡◌, ℕ, ◌≤◌, Bool, true, false, cond, List, [], ◌∷◌, ◌++◌, length, sym, refl, ap, ◌∙◌, subst, ⊎_elim, arith, Some, None}
use Rattle.std.specs.Prelude.{unwrap_or, filter_map, count_by}
use Rattle.std.specs.List.{last_or, cons_option}
use Rattle.std.specs.Option.{option_or}
use Rattle.std.proofs.lemmas.Bool.{true≢false}
use Rattle.std.proofs.lemmas.List.Sums.{sum_by-cons}
use Rattle.values.specs.declared.code.Code.{Code}
use Rattle.values.specs.declared.plan.Fact.{Fact}
use Rattle.values.specs.declared.plan.Fact.TheVariants as fact
use Rattle.values.specs.declared.plan.Kind.TheVariants as kind
use Rattle.values.specs.declared.plan.Noted.{Noted}
use Rattle.run_meaning.specs.Words.{In}
use Rattle.run_meaning.specs.Opened.{IsKind, opening_code}
use Rattle.run_meaning.specs.Entries.{fact_at, written_of, is_ran, is_ran_fact, ran_of, disposed_in}
use Rattle.run_meaning.specs.Phase.{entry_numbers}
use Rattle.run_history.specs.Going.{Going, just_opened, opened_at, note, latest_code, plain_code, last_value, all_are}
use Rattle.run_history.specs.Calls.{is_change, CallsLead}
use Rattle.run_history.proofs.Lists.{grows_above}
use Rattle.run_history.proofs.Journal.{numbered_grows}
use Rattle.run_history.proofs.Cut.{none_some, fact_at_in}
use Rattle.run_history.proofs.Totals.{none_of}
use Rattle.run_history.proofs.Facts.{pumps_no_owner}
use Rattle.run_weave.specs.Worked.{number, stale_calls, misnumbered_calls, forgotten_calls, renumbered_calls}
use Rattle.run_weave.proofs.Copies.{copy_start, other_number, signal_is}

-- changes write nothing
change_no_write : (n : ℕ) (f : Fact) → is_change f ≡ true → written_of n f ≡ None
change_no_write n (fact.Write row c) e = absurd (true≢false (sym e))
change_no_write n (fact.Change row c) e = refl
change_no_write n (fact.Ran row c) e = absurd (true≢false (sym e))
change_no_write n (fact.Void row) e = absurd (true≢false (sym e))
change_no_write n (fact.Disposed owner) e = absurd (true≢false (sym e))
change_no_write n (fact.Edit pass index) e = absurd (true≢false (sym e))

-- behind a write of 2 the signal has 2, whatever changes are noted
written_then : (block : List Noted) → all_are is_change block ≡ true → latest_code copy_start (note 1 (fact.Write 0 (number 2)) ∷ block) 0 ≡ number 2
written_then block a = ap (λ (t : List Code). unwrap_or (last_or (Some (number 2)) t) (opening_code (opened_at copy_start) 0)) (none_of is_change (λ e. written_of 0 e.fact) (λ e t. change_no_write 0 e.fact t) block a)

pub stale : (k : Going) → CallsLead copy_start just_opened stale_calls k → ⊥
stale k f =
    let first : f.0.entries ≡ note 1 (fact.Write 0 (number 2)) ∷ [] = f.1.1.0.entries ∙ f.1.1.1.1.block_is in
    let got = f.2.1.1.1 in
    let block : List Noted = f.2.1.0 in
    let second : f.2.0.entries ≡ note 1 (fact.Write 0 (number 2)) ∷ block = f.2.1.1.0.entries ∙ ap (λ (t : List Noted). t ++ block) first in
    other_number (got.plain ∙ (signal_is f.2.0.entries ∙ (ap (λ (t : List Noted). latest_code copy_start t 0) second ∙ written_then block got.changes)))

pub misnumbered : (k : Going) → CallsLead copy_start just_opened misnumbered_calls k → ⊥
misnumbered k f =
    let one = f.1.1.1.1 in
    let first : f.0.entries ≡ note 1 (fact.Write 0 (number 2)) ∷ [] = f.1.1.0.entries ∙ one.block_is in
    let got = f.2.1.1.1 in
    let block : List Noted = f.2.1.0 in
    let second : f.2.0.entries ≡ note 1 (fact.Write 0 (number 2)) ∷ block = f.2.1.1.0.entries ∙ ap (λ (t : List Noted). t ++ block) first in
    let none : (g : Fact) → fact_at 0 f.2.0.entries ≡ Some g → ⊥ = λ g e.
    ⊎_elim (λ (q : 1 ≡ 0). let z : ⊥ = absurd (omega arith) in z) (λ (i : In 0 (entry_numbers block)). let l = grows_above f.0.drawn (entry_numbers block) 0 (numbered_grows f.0.drawn block f.2.0.drawn f.2.1.1.0.numbered) i in absurd (omega arith))
    (subst (λ (t : List Noted). In 0 (entry_numbers t)) second (fact_at_in 0 f.2.0.entries g e)) in
    ⊎_elim (λ (a : (0 ≡ 0) × (opening_code (opened_at copy_start) 0 ≡ number 2)). other_number a.1)
    (λ t. ⊎_elim (λ (e : fact_at 0 f.2.0.entries ≡ Some (fact.Write 0 (number 2))). none (fact.Write 0 (number 2)) e) (λ (e : fact_at 0 f.2.0.entries ≡ Some (fact.Change 0 (number 2))). none (fact.Change 0 (number 2)) e) t) got.current

pub renumbered : (k : Going) → CallsLead copy_start just_opened renumbered_calls k → ⊥
renumbered k f = let a = f.1.1.1.1.drawn in let b = f.2.1.1.1.1.number in absurd (omega arith)

-- ---- an effect that is left as it was

no_run_of : (n : ℕ) (f : Fact) → is_ran_fact f ≡ false → ran_of n f ≡ None
no_run_of n (fact.Write row c) e = refl
no_run_of n (fact.Change row c) e = refl
no_run_of n (fact.Ran row c) e = absurd (true≢false e)
no_run_of n (fact.Void row) e = refl
no_run_of n (fact.Disposed owner) e = refl
no_run_of n (fact.Edit pass index) e = refl

no_runs : (n : ℕ) (es : List Noted) → count_by is_ran es ≡ 0 → filter_map (λ e. ran_of n e.fact) es ≡ []
no_runs n [] z = refl
no_runs n (e ∷ es) z =
    let c = sum_by-cons (λ (x : Noted). cond (is_ran x) 1 0) e es in
    let later : count_by is_ran es ≡ 0 = omega arith in
    let this : cond {A = ℕ} (is_ran e) 1 0 ≡ 0 = omega arith in
    (λ i. cons_option (no_run_of n e.fact (is_no (is_ran e) this) i) (filter_map (λ x. ran_of n x.fact) es)) ∙ no_runs n es later
  where
    is_no : (b : Bool) → cond {A = ℕ} b 1 0 ≡ 0 → b ≡ false
    is_no true z = absurd (omega arith)
    is_no false z = refl

pub forgotten : (k : Going) → CallsLead copy_start just_opened forgotten_calls k → ⊥
forgotten k f =
    let first : f.0.entries ≡ note 1 (fact.Write 0 (number 2)) ∷ [] = f.1.1.0.entries ∙ f.1.1.1.1.block_is in
    let pumped = f.2.1.1.1 in
    let block : List Noted = f.2.1.0 in
    let second : f.2.0.entries ≡ note 1 (fact.Write 0 (number 2)) ∷ block = f.2.1.1.0.entries ∙ ap (λ (t : List Noted). t ++ block) first in
    let none : last_value copy_start f.2.0.entries 2 ≡ None = ap (λ (t : List Noted). last_value copy_start t 2) second ∙ ap (λ (t : List Code). option_or (last_or None t) None) (no_runs 2 block pumped.ran) in
    let gone : disposed_in f.2.0.entries ≡ [] = ap disposed_in second ∙ pumps_no_owner block pumped.of_pump in
    let effect : IsKind (opened_at copy_start) 2 kind.Effect = (_, refl, refl) in
    ⊎_elim (λ (i : In 2 pumped.stand.0). few pumped.stand.0 2 pumped.stand.1 i)
    (λ t. ⊎_elim (λ x. let z : ⊥ = subst (λ (u : List ℕ). In x.0.owner u) gone x.2 in z) (λ (e : last_value copy_start f.2.0.entries 2 ≡ Some (plain_code copy_start f.2.0.entries 2)). none_some (plain_code copy_start f.2.0.entries 2) (sym none ∙ e)) t) (pumped.stand.2 2 effect)
  where
    few : (ns : List ℕ) (n : ℕ) → length ns ≤ 0 → In n ns → ⊥
    few [] n l i = i
    few (m ∷ ns) n l i = absurd (omega arith)
