-- The journal of a history is well formed.
use Rattle.std.proofs.Common.{◌≡◌, ◌⊎◌, ℕ, ◌+◌, ◌<◌, ◌≤◌, true, false, List, [], ◌∷◌, ◌++◌, sym, refl, ap, ◌∙◌, subst, inl, inr, ⊎_elim, arith}
use Rattle.std.specs.Prelude.{nat_eq, nat_le, min}
use Rattle.std.proofs.lemmas.Bool.{true≢false}
use Rattle.std.proofs.lemmas.Bool.Decides.{nat_tests}
use Rattle.values.specs.declared.plan.Noted.{Noted}
use Rattle.run_meaning.specs.Words.{In, GrowsFrom}
use Rattle.run_meaning.specs.Opened.{Opened}
use Rattle.run_meaning.specs.Entries.{is_disposal}
use Rattle.run_meaning.specs.Phase.{Phase, IsJournal, entry_numbers}
use Rattle.run_history.specs.Going.{Going, just_opened, Numbered}
use Rattle.run_history.specs.History.{Made, Does, Follows}
use Rattle.run_history.proofs.Lists.{in_append, in_left, in_right, map_append, grows_append}

-- ---- the entries of one call

pub numbered_least : (low : ℕ) (es : List Noted) (high : ℕ) → Numbered low es high → low ≤ high
numbered_least low [] high h = h.0
numbered_least low (e ∷ es) high h = let a = h.0 in let b = numbered_least e.number es high h.3 in omega arith

pub numbered_grows : (low : ℕ) (es : List Noted) (high : ℕ) → Numbered low es high → GrowsFrom low (entry_numbers es)
numbered_grows low [] high h = tt
numbered_grows low (e ∷ es) high h = (h.0, numbered_grows e.number es high h.3)

pub numbered_within : (low : ℕ) (es : List Noted) (high : ℕ) → Numbered low es high → (n : ℕ) → In n (entry_numbers es) → n ≤ high
numbered_within low [] high h n i = absurd i
numbered_within low (e ∷ es) high h n i = ⊎_elim (λ (q : e.number ≡ n). let b = numbered_least e.number es high h.3 in let l : n ≤ high = omega arith in l) (λ t. numbered_within e.number es high h.3 n t) i

pub numbered_complete : (low : ℕ) (es : List Noted) (high : ℕ) → Numbered low es high → (n : ℕ) → low < n → n ≤ min high 65536 → In n (entry_numbers es)
numbered_complete low [] high h n a b = let f = h.1 in let l : low < high = omega arith in let k = f l in absurd (omega arith)
numbered_complete low (e ∷ es) high h n a b =
    elim (nat_eq e.number n) as (λ c. (nat_eq e.number n ≡ c) → (e.number ≡ n) ⊎ In n (entry_numbers es)) [
      | true ↦ λ q. inl (grind (arith, nat_tests))
      | false ↦ λ q. ⊎_elim (λ (one : e.number ≡ low + 1). let ne : e.number ≡ n → ⊥ = λ same. true_false (sym (is_true e.number n same) ∙ q) in let l : e.number < n = grind arith in inr (numbered_complete e.number es high h.3 n l b))
          (λ (k : 65536 ≤ low). absurd (omega arith)) h.1
    ] refl
  where
    is_true : (x y : ℕ) → x ≡ y → nat_eq x y ≡ true
    is_true x y e = grind (arith, nat_tests)

    true_false : true ≡ false → ⊥
    true_false e = true≢false e

pub numbered_late : (low : ℕ) (es : List Noted) (high : ℕ) → Numbered low es high → (e : Noted) → In e es → 65536 < e.number → is_disposal e.fact ≡ true
numbered_late low [] high h x i l = absurd i
numbered_late low (e ∷ es) high h x i l = ⊎_elim (λ (q : e ≡ x). subst (λ (y : Noted). 65536 < y.number → is_disposal y.fact ≡ true) q h.2 l) (λ t. numbered_late e.number es high h.3 x t l) i

-- ---- the journal is well formed

pub one_more : (past : List Phase) (o : Opened) (g : Going) (m : Made) (h : Going) → Does past o g m h → IsJournal o g.drawn g.entries → IsJournal o h.drawn h.entries
one_more past o g m h d j =
    let num = d.goes.numbered in
    let least = numbered_least g.drawn m.block h.drawn num in
    let same : entry_numbers h.entries ≡ entry_numbers g.entries ++ entry_numbers m.block = ap entry_numbers d.goes.entries ∙ map_append (λ (e : Noted). e.number) g.entries m.block in record {
      in_order = subst (GrowsFrom 0) (sym same) (grows_append 0 g.drawn (entry_numbers g.entries) (entry_numbers m.block) (omega arith) j.in_order j.drawn_all (numbered_grows g.drawn m.block h.drawn num));
      drawn_all = λ n i. ⊎_elim (λ (l : In n (entry_numbers g.entries)). let k = j.drawn_all n l in let q : n ≤ h.drawn = omega arith in q) (λ r. numbered_within g.drawn m.block h.drawn num n r) (in_append (entry_numbers g.entries) (entry_numbers m.block) n (subst (In n) same i));
      complete = λ n pos most. subst (In n) (sym same)
          (elim (nat_le n g.drawn) as (λ c. (nat_le n g.drawn ≡ c) → In n (entry_numbers g.entries ++ entry_numbers m.block)) [
            | true ↦ λ q. let l : n ≤ g.drawn = grind (arith, nat_tests) in in_left (entry_numbers g.entries) (entry_numbers m.block) n (j.complete n pos (omega arith))
            | false ↦ λ q. let l : g.drawn < n = grind (arith, nat_tests) in in_right (entry_numbers g.entries) (entry_numbers m.block) n (numbered_complete g.drawn m.block h.drawn num n l most)
          ] refl);
      late = λ e i l. ⊎_elim (λ (a : In e g.entries). j.late e a l) (λ b. numbered_late g.drawn m.block h.drawn num e b l) (in_append g.entries m.block e (subst (In e) d.goes.entries i));
      of_plan = λ e i. ⊎_elim (λ (a : In e g.entries). j.of_plan e a) (λ b. d.goes.of_plan e b) (in_append g.entries m.block e (subst (In e) d.goes.entries i));
    }

pub all_more : (past : List Phase) (o : Opened) (g : Going) (ms : List Made) (k : Going) → Follows past o g ms k → IsJournal o g.drawn g.entries → IsJournal o k.drawn k.entries
all_more past o g [] k f j = subst (λ (x : Going). IsJournal o x.drawn x.entries) f j
all_more past o g (m ∷ ms) k f j = all_more past o f.0 ms k f.2 (one_more past o g m f.0 f.1 j)

pub nothing_yet : (o : Opened) → IsJournal o 0 []
nothing_yet o = record { in_order = tt; drawn_all = λ n i. absurd i; complete = λ n pos most. absurd (omega arith); late = λ e i l. absurd i; of_plan = λ e i. absurd i }

pub journal_of_history : (past : List Phase) (o : Opened) (h : List Made) (k : Going) → Follows past o just_opened h k → IsJournal o k.drawn k.entries
journal_of_history past o h k f = all_more past o just_opened h k f (nothing_yet o)
