-- Bounds, numbers and lanes.
use Rattle.std.proofs.Common.{◌≡◌, ◌≢◌, ◌⊎◌, ℕ, zero, suc, ◌+◌, ◌<◌, ◌≤◌, ◌==◌, Bool, true, false, if◌then◌else◌, Option, Some, None, List, [], ◌∷◌, length, inl, inr, eqb, refl, sym, ap, subst, ⊎_elim, arith}
use Rattle.std.specs.Prelude.{slice_get}
use Rattle.std.specs.List.{cons_option, range_with_len}
use Rattle.std.proofs.lemmas.Bool.Decides.{eqb_tells}
use Rattle.std.proofs.lemmas.List.Sums.{sum_by-cons}
use Rattle.std.proofs.lemmas.Option.{none-some}
use Rattle.values.specs.declared.code.Code.{Code}
use Rattle.values.specs.declared.plan.Fact.{Fact}
use Rattle.values.specs.declared.plan.Fact.TheVariants as fact
use Rattle.values.specs.declared.plan.Noted.{Noted}
use Rattle.values.specs.declared.plan.Pumped.{Pumped}
use Rattle.script_items.specs.declared.operation.ScriptOp.{ScriptOp}
use Rattle.run_items.specs.declared.answer.Reply.{Reply}
use Rattle.run_meaning.specs.Causes.{ElseWhere, IsMet, IsMarked, IsSpent, IsDisturbed, PumpedBy}
use Rattle.run_meaning.specs.Entries.{own_numbers, own_number, if_own}
use Rattle.run_meaning.specs.Explained.{Explained, opening, written, loaded, run}
use Rattle.run_meaning.specs.Lane.{Done}
use Rattle.run_meaning.specs.Opened.{Opened}
use Rattle.run_meaning.specs.Phase.{Phase, entry_numbers}
use Rattle.run_meaning.specs.Words.{In, GrowsFrom, times}

pub widened : (o : Opened) (es : List Noted) (low wider : ℕ → ℕ) (high : Option ℕ) (n : ℕ) (v : Code) → ((row : ℕ) → wider row ≤ low row) → Explained o es low high n v → Explained o es wider None n v
widened o es low wider high n v w (opening is z e) = opening is (let l = w n in omega arith) e
widened o es low wider high n v w (written k is e l b) = written k is e (let m = w n in omega arith) tt
widened o es low wider high n v w (loaded is e) = loaded is e
widened o es low wider high n v w (run node reads is e each) = run node reads is e (λ s c i. widened o es low wider high s c w (each s c i))

-- ---- one lane

-- there is no other lane
pub no_other : (K : ScriptOp → Reply → Type 0) (lanes : List (List Done)) → length lanes ≤ 1 → ElseWhere 1 K lanes → ⊥
no_other K [] l e = none-some _ e.4
no_other K (lane ∷ lanes) l e = at e.0 e.3 e.4 (rest lanes l)
  where
    rest : (more : List (List Done)) → suc (length more) ≤ 1 → more ≡ []
    rest [] l = refl
    rest (x ∷ xs) l = absurd (omega arith)

    at : (other : ℕ) → suc other ≢ 1 → slice_get (lane ∷ lanes) other ≡ Some e.1 → lanes ≡ [] → ⊥
    at zero n s r = n refl
    at (suc other) n s r = none-some _ (subst (λ (more : List (List Done)). slice_get more other ≡ Some e.1) r s)

no_disturbed : (p : Phase) (effects : List ℕ) (n : ℕ) → length p.lanes ≤ 1 → ((n : ℕ) → In n effects → IsDisturbed p 1 n) → n ≤ length effects → n ≡ 0
no_disturbed p [] n l each m = omega arith
no_disturbed p (e ∷ effects) n l each m = let d = (each e (inl refl)).1 in absurd (⊎_elim (λ (k : IsMet p 1 d.0). no_other _ p.lanes l k) (λ (k : IsMarked p 1 d.0). no_other _ p.lanes l k) d.2)

pub none_left : (p : Phase) (before : List Done) (x : Pumped) → length p.lanes ≤ 1 → PumpedBy p 1 before x → ((k : ℕ) × IsSpent p k) ⊎ (x.left ≡ 0)
none_left p before x l by = ⊎_elim (λ s. inl s) (λ d. inr (no_disturbed p d.0 x.left l d.3 d.1)) by.left

-- ---- numbers that grow

above : (low n : ℕ) (ns : List ℕ) → GrowsFrom low ns → In n ns → low < n
above low n [] g i = absurd i
above low n (m ∷ ns) g i = ⊎_elim (λ (e : m ≡ n). let l = g.0 in omega arith) (λ j. let l = above m n ns g.1 j in let k = g.0 in omega arith) i

-- numbers one after another take as many places
pub as_many : (count low : ℕ) (ns : List ℕ) → GrowsFrom low ns → ((n : ℕ) → low < n → n ≤ low + count → In n ns) → count ≤ length ns
as_many zero low ns g each = omega arith
as_many (suc count) low [] g each = absurd (each (low + 1) (omega arith) (omega arith))
as_many (suc count) low (m ∷ ns) g each =
    let first : m ≡ low + 1 = ⊎_elim (λ (e : m ≡ low + 1). e) (λ j. let a = above m (low + 1) ns g.1 j in let b = g.0 in absurd (omega arith)) (each (low + 1) (omega arith) (omega arith)) in
    let rest : count ≤ length ns = as_many count m ns g.1 (λ n a b. ⊎_elim (λ (e : m ≡ n). absurd (omega arith)) (λ j. j) (each n (omega arith) (omega arith))) in
    omega arith

-- ---- numbers one after another

pub number_in : (low len n : ℕ) → low ≤ n → n < low + len → In n (range_with_len low len)
number_in low zero n l u = absurd (omega arith)
number_in low (suc len) n l u = ⊎_elim (λ (t : (eqb low n ≡ true) × (low ≡ n)). inl t.1) (λ (f : (eqb low n ≡ false) × (low ≢ n)). inr (number_in (low + 1) len n (omega (arith, f.1)) (omega arith))) (eqb_tells low n)

pub in_range : (low len n : ℕ) → In n (range_with_len low len) → n < low + len
in_range low zero n i = absurd i
in_range low (suc len) n i = ⊎_elim (λ (e : low ≡ n). omega arith) (λ j. let l = in_range (low + 1) len n j in omega arith) i

-- ---- numbers that stand once

abbrev pub one_if : Bool → ℕ
one_if b = if b then 1 else 0

times-cons : (n m : ℕ) (ns : List ℕ) → times n (m ∷ ns) ≡ one_if (n == m) + times n ns
times-cons n m ns = sum_by-cons (λ (k : ℕ). one_if (n == k)) m ns

-- the first entry counts at most once, and only where it has the number
once_more : (n m : ℕ) (o : Option ℕ) (ns : List ℕ) → (o ≡ None) ⊎ (o ≡ Some m) → times n (cons_option o ns) ≤ one_if (n == m) + times n ns
once_more n m None ns is = omega arith
once_more n m (Some k) ns is = ⊎_elim (λ (e : Some k ≡ None). absurd (none-some k (sym e))) (λ (e : Some k ≡ Some m). let same : k ≡ m = cc in let c = times-cons n m ns in subst (λ (j : ℕ). times n (j ∷ ns) ≤ one_if (n == m) + times n ns) (sym same) (omega arith)) is

own_or_none : (f : Fact) (n : ℕ) → (if_own f n ≡ None) ⊎ (if_own f n ≡ Some n)
own_or_none (fact.Write row code) n = inr refl
own_or_none (fact.Change row code) n = inl refl
own_or_none (fact.Ran row code) n = inl refl
own_or_none (fact.Void row) n = inl refl
own_or_none (fact.Disposed owner) n = inl refl
own_or_none (fact.Edit pass index) n = inr refl

tested : (n m : ℕ) → (one_if (n == m) ≡ 0) ⊎ ((one_if (n == m) ≡ 1) × (n ≡ m))
tested n m = ⊎_elim (λ (t : (eqb n m ≡ true) × (n ≡ m)). inr (ap one_if t.0, t.1)) (λ (f : (eqb n m ≡ false) × (n ≢ m)). inl (ap one_if f.0)) (eqb_tells n m)

none_below : (low n : ℕ) (es : List Noted) → GrowsFrom low (entry_numbers es) → n ≤ low → times n (own_numbers es) ≡ 0
none_below low n [] g l = refl
none_below low n (e ∷ es) g l =
    let rest = none_below e.number n es g.1 (let k = g.0 in omega arith) in
    let more = once_more n e.number (own_number e) (own_numbers es) (own_or_none e.fact e.number) in
    ⊎_elim (λ (t : one_if (n == e.number) ≡ 0). omega arith) (λ (t : (one_if (n == e.number) ≡ 1) × (n ≡ e.number)). let k = g.0 in absurd (omega (arith, t.1))) (tested n e.number)

pub at_most_once : (low n : ℕ) (es : List Noted) → GrowsFrom low (entry_numbers es) → times n (own_numbers es) ≤ 1
at_most_once low n [] g = omega arith
at_most_once low n (e ∷ es) g =
    let more = once_more n e.number (own_number e) (own_numbers es) (own_or_none e.fact e.number) in
    ⊎_elim (λ (t : one_if (n == e.number) ≡ 0). let rest = at_most_once e.number n es g.1 in omega arith)
    (λ (t : (one_if (n == e.number) ≡ 1) × (n ≡ e.number)). let rest = none_below e.number n es g.1 (let s = t.1 in omega arith) in let one = t.0 in omega arith) (tested n e.number)
