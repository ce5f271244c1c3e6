-- Nothing is full while the operations of a phase may draw no more numbers than are noted.
use Rattle.std.proofs.Common.{◌≡◌, ℕ, zero, suc, ◌+◌, ◌*◌, ◌<◌, ◌≤◌, Bool, true, false, cond, List, [], ◌∷◌, length, sym, refl, ap, ◌∙◌, subst, inl, inr, arith, Option, Some, None}
use Rattle.std.specs.Prelude.{MatchOption, IfSome, nat_eq, sum_by, count_by}
use Rattle.std.proofs.lemmas.Bool.{true≢false}
use Rattle.std.proofs.lemmas.Bool.Decides.{nat_tests}
use Rattle.std.proofs.lemmas.List.Sums.{sum_by-cons}
use Rattle.values.specs.declared.plan.Kind.TheVariants as kind
use Rattle.values.specs.declared.plan.Left.{Left}
use Rattle.values.specs.declared.plan.Left.TheVariants as left
use Rattle.values.specs.declared.plan.Noted.{Noted}
use Rattle.values.specs.declared.plan.Fact.{Fact}
use Rattle.values.specs.declared.plan.Fact.TheVariants as fact
use Rattle.script_items.specs.declared.operation.ScriptOp.{ScriptOp}
use Rattle.script_items.specs.declared.operation.ScriptOp.TheVariants as op
use Rattle.run_items.specs.declared.answer.Reply.{Reply}
use Rattle.run_items.specs.declared.answer.Reply.TheVariants as reply
use Rattle.run_items.specs.declared.limits.TheConstants.{LAST_NUMBER}
use Rattle.run_meaning.specs.Words.{In, times}
use Rattle.run_meaning.specs.Opened.{Opened, IsKind}
use Rattle.run_meaning.specs.Lane.{Done}
use Rattle.run_meaning.specs.Entries.{owner_in, disposed_by, disposed_in}
use Rattle.run_meaning.specs.Phase.{Phase, IsJournal, IsOfPlan, disposed_before}
use Rattle.run_meaning.specs.Merge.{is_answer, is_set, is_get, is_pump, is_edit, turned_in}
use Rattle.run_meaning.specs.Causes.{times_asked, cost_of, LeftUnspent, IsUnspent, HasRoom}
use Rattle.run_history.specs.Going.{start_of, Going, just_opened, derived_of}
use Rattle.run_history.specs.Calls.{LeftFull}
use Rattle.run_history.specs.History.{Made, may_draw, Says, Follows, phase_of, ByPasses, PastFits}
use Rattle.run_history.proofs.Journal.{journal_of_history}
use Rattle.run_history.proofs.Cut.{is_yes, some_same, none_some, drawn_more, Place, place, said}
use Rattle.run_history.proofs.Totals.{everywhere, over_lanes}
use Rattle.run_history.proofs.Disposals.{turned_sum, disposed_once, times_append}
use Rattle.run_history.proofs.Pumps.{in_filter_map}

-- ---- each operation draws no more than its share

set_draws : (past : List Phase) (o : Opened) (x : ScriptOp) → is_set x ≡ true → may_draw (start_of past o) x ≡ 1
set_draws past o (op.Set i k c) e = refl
set_draws past o (op.Get i k) e = absurd (true≢false (sym e))
set_draws past o op.Pump e = absurd (true≢false (sym e))
set_draws past o (op.Dispose n) e = absurd (true≢false (sym e))
set_draws past o (op.Change y) e = absurd (true≢false (sym e))

get_draws : (past : List Phase) (o : Opened) (x : ScriptOp) → is_get x ≡ true → may_draw (start_of past o) x ≡ derived_of (start_of past o)
get_draws past o (op.Set i k c) e = absurd (true≢false (sym e))
get_draws past o (op.Get i k) e = refl
get_draws past o op.Pump e = absurd (true≢false (sym e))
get_draws past o (op.Dispose n) e = absurd (true≢false (sym e))
get_draws past o (op.Change y) e = absurd (true≢false (sym e))

pump_draws : (past : List Phase) (o : Opened) (x : ScriptOp) → is_pump x ≡ true → may_draw (start_of past o) x ≡ derived_of (start_of past o)
pump_draws past o (op.Set i k c) e = absurd (true≢false (sym e))
pump_draws past o (op.Get i k) e = absurd (true≢false (sym e))
pump_draws past o op.Pump e = refl
pump_draws past o (op.Dispose n) e = absurd (true≢false (sym e))
pump_draws past o (op.Change y) e = absurd (true≢false (sym e))

edit_draws : (past : List Phase) (o : Opened) (x : ScriptOp) → is_edit x ≡ true → may_draw (start_of past o) x ≡ 1
edit_draws past o (op.Set i k c) e = absurd (true≢false (sym e))
edit_draws past o (op.Get i k) e = absurd (true≢false (sym e))
edit_draws past o op.Pump e = absurd (true≢false (sym e))
edit_draws past o (op.Dispose n) e = absurd (true≢false (sym e))
edit_draws past o (op.Change y) e = refl

draws_here : (past : List Phase) (o : Opened) (g : Going) (block : List Noted) (h : Going) (pass : ℕ) (x : ScriptOp) (r : Reply) → is_answer x r ≡ true → Says past o g block h pass x r → h.drawn ≤ g.drawn + (may_draw (start_of past o) x + turned_in r)
draws_here past o g block h pass x (reply.Set n) a s = let e = set_draws past o x a in let b = s.4.number in let c = s.4.drawn in omega arith
draws_here past o g block h pass x (reply.Got v n) a s = let e = get_draws past o x a in let b = s.2.draws in omega arith
draws_here past o g block h pass x (reply.Pumped y) a s = let e = pump_draws past o x a in let b = s.draws in omega arith
draws_here past o g block h pass x (reply.Disposal y) a s = let b = s.2.draws in omega arith
draws_here past o g block h pass x (reply.Edited n v) a s = let e = edit_draws past o x a in let b = s.number in let c = s.drawn in omega arith
draws_here past o g block h pass x reply.NoRow a s = let b = s.0.1 in omega arith
draws_here past o g block h pass x (reply.Busy n) a s = absurd s
draws_here past o g block h pass x (reply.Again n) a s = absurd s
draws_here past o g block h pass x (reply.Disposed n) a s = let b = s.0.1 in omega arith
draws_here past o g block h pass x (reply.Full n) a s = let b = s.draws in omega arith

drawn_most : (past : List Phase) (o : Opened) (g : Going) (ms : List Made) (k : Going) → Follows past o g ms k → k.drawn ≤ g.drawn + (sum_by (λ m. may_draw (start_of past o) m.done.op) ms + sum_by (λ m. turned_in m.done.reply) ms)
drawn_most past o g [] k f = let e : g.drawn ≡ k.drawn = ap (λ (x : Going). x.drawn) f in omega arith
drawn_most past o g (m ∷ ms) k f =
    let i = drawn_most past o f.0 ms k f.2 in
    let a = draws_here past o g m.block f.0 m.pass m.done.op m.done.reply f.1.answers f.1.says in
    let b = sum_by-cons (λ (x : Made). may_draw (start_of past o) x.done.op) m ms in
    let c = sum_by-cons (λ (x : Made). turned_in x.done.reply) m ms in omega arith

-- ---- shares by kinds of operations

abbrev one_if : Bool → ℕ
one_if b = cond b 1 0

abbrev asked : (ScriptOp → Bool) → List Made → ℕ
asked test ms = sum_by (λ m. one_if (test m.done.op)) ms

distributes : (a b c : ℕ) → (a + b) * c ≡ a * c + b * c
distributes a b c = grind arith

by_kind : (past : List Phase) (o : Opened) (x : ScriptOp) → may_draw (start_of past o) x ≡ one_if (is_set x) + one_if (is_edit x) + (one_if (is_get x) + one_if (is_pump x)) * derived_of (start_of past o)
by_kind past o (op.Set i k c) = omega arith
by_kind past o (op.Get i k) = omega arith
by_kind past o op.Pump = omega arith
by_kind past o (op.Dispose n) = omega arith
by_kind past o (op.Change y) = omega arith

-- what one more operation adds
one_more : (a b c s e g p x y z d one : ℕ) → one ≡ a + b + c * d → s ≡ a + x → e ≡ b + y → g + p ≡ c + z → one + (x + y + z * d) ≡ s + e + (g + p) * d
one_more a b c s e g p x y z d one o1 o2 o3 o4 = let q = distributes c z d in let r : (g + p) * d ≡ (c + z) * d = ap (λ (n : ℕ). n * d) o4 in omega arith

shares : (past : List Phase) (o : Opened) (ms : List Made) → sum_by (λ m. may_draw (start_of past o) m.done.op) ms ≡ asked is_set ms + asked is_edit ms + (asked is_get ms + asked is_pump ms) * derived_of (start_of past o)
shares past o [] = let z = distributes 0 0 (derived_of (start_of past o)) in omega arith
shares past o (m ∷ ms) =
    let i = shares past o ms in
    let a = sum_by-cons (λ (x : Made). may_draw (start_of past o) x.done.op) m ms in
    let b = sum_by-cons (λ (x : Made). one_if (is_set x.done.op)) m ms in
    let c = sum_by-cons (λ (x : Made). one_if (is_edit x.done.op)) m ms in
    let d = sum_by-cons (λ (x : Made). one_if (is_get x.done.op)) m ms in
    let e = sum_by-cons (λ (x : Made). one_if (is_pump x.done.op)) m ms in
    let both : asked is_get (m ∷ ms) + asked is_pump (m ∷ ms) ≡ (one_if (is_get m.done.op) + one_if (is_pump m.done.op)) + (asked is_get ms + asked is_pump ms) = omega arith in
    let step = one_more (one_if (is_set m.done.op)) (one_if (is_edit m.done.op)) (one_if (is_get m.done.op) + one_if (is_pump m.done.op)) (asked is_set (m ∷ ms)) (asked is_edit (m ∷ ms)) (asked is_get (m ∷ ms)) (asked is_pump (m ∷ ms)) (asked is_set ms) (asked is_edit ms) (asked is_get ms + asked is_pump ms) (derived_of (start_of past o)) (may_draw (start_of past o) m.done.op) (by_kind past o m.done.op) b c both in
    a ∙ (ap (λ (n : ℕ). may_draw (start_of past o) m.done.op + n) i ∙ step)

-- ---- distinct numbers below a bound are no more than the bound

abbrev total : ℕ → List ℕ → ℕ
total zero ns = 0
total (suc n) ns = times n ns + total n ns

total_none : (n : ℕ) → total n [] ≡ 0
total_none zero = refl
total_none (suc n) = let i = total_none n in omega arith

times_cons : (n m : ℕ) (ns : List ℕ) → times n (m ∷ ns) ≡ one_if (nat_eq n m) + times n ns
times_cons n m ns = sum_by-cons (λ (x : ℕ). one_if (nat_eq n x)) m ns

total_past : (n m : ℕ) (ns : List ℕ) → n ≤ m → total n (m ∷ ns) ≡ total n ns
total_past zero m ns l = refl
total_past (suc n) m ns l =
    let i = total_past n m ns (omega arith) in let c = times_cons n m ns in
    let no : nat_eq n m ≡ false = elim (nat_eq n m) as (λ b. (nat_eq n m ≡ b) → b ≡ false) [ true ↦ λ q. let e : n ≡ m = grind (arith, nat_tests) in absurd (omega arith) | false ↦ λ q. refl ] refl in
    let z : one_if (nat_eq n m) ≡ 0 = ap one_if no in omega arith

total_more : (n m : ℕ) (ns : List ℕ) → m < n → total n (m ∷ ns) ≡ suc (total n ns)
total_more zero m ns l = absurd (omega arith)
total_more (suc n) m ns l =
    let c = times_cons n m ns in
    elim (nat_eq n m) as (λ b. (nat_eq n m ≡ b) → times n (m ∷ ns) + total n (m ∷ ns) ≡ suc (times n ns + total n ns)) [
      | true ↦ λ q. let e : n ≡ m = grind (arith, nat_tests) in let i = total_past n m ns (omega arith) in let z : one_if (nat_eq n m) ≡ 1 = ap one_if q in omega arith
      | false ↦ λ q. let ne : n ≡ m → ⊥ = λ e. true≢false (sym (is_yes n m e) ∙ q) in let low : m < n = grind arith in let i = total_more n m ns low in let z : one_if (nat_eq n m) ≡ 0 = ap one_if q in omega arith
    ] refl

total_all : (n : ℕ) (ns : List ℕ) → ((m : ℕ) → In m ns → m < n) → length ns ≡ total n ns
total_all n [] all = let z = total_none n in omega arith
total_all n (m ∷ ns) all = let i = total_all n ns (λ x j. all x (inr j)) in let t = total_more n m ns (all m (inl refl)) in omega arith

total_most : (n : ℕ) (ns : List ℕ) → ((m : ℕ) → times m ns ≤ 1) → total n ns ≤ n
total_most zero ns once = omega arith
total_most (suc n) ns once = let i = total_most n ns once in let o = once n in omega arith

is_disposed_fact : (f : Fact) (n : ℕ) → owner_in f ≡ Some n → f ≡ fact.Disposed n
is_disposed_fact (fact.Write row c) n e = absurd (none_some n e)
is_disposed_fact (fact.Change row c) n e = absurd (none_some n e)
is_disposed_fact (fact.Ran row c) n e = absurd (none_some n e)
is_disposed_fact (fact.Void row) n e = absurd (none_some n e)
is_disposed_fact (fact.Disposed m) n e = ap (λ (x : ℕ). fact.Disposed x) (some_same m n e)
is_disposed_fact (fact.Edit pass index) n e = absurd (none_some n e)

-- ---- all of it

module _ (past : List Phase) (o : Opened) (base count : ℕ) (h : List Made) (k : Going) (f : Follows past o just_opened h k) (by : ByPasses count h) (p : PastFits past o) where
  owners_most : length (disposed_in k.entries) ≤ length o.plan.owners
  owners_most =
      let j : IsJournal o k.drawn k.entries = journal_of_history past o h k f in
      let once : (n : ℕ) → times n (disposed_in k.entries) ≤ 1 = λ n. let d = (disposed_once past o base count h k f by p).once n in let a = times_append n (disposed_in k.entries) (disposed_before past) in omega arith in
      let below : (n : ℕ) → In n (disposed_in k.entries) → n < length o.plan.owners = λ n i. let e = in_filter_map disposed_by k.entries n i in
      let is : e.0.fact ≡ fact.Disposed n = is_disposed_fact e.0.fact n e.2 in
      subst (λ (x : Fact). IsOfPlan o x) is (j.of_plan e.0 e.1) in
      let a = total_all (length o.plan.owners) (disposed_in k.entries) below in
      let b = total_most (length o.plan.owners) (disposed_in k.entries) once in omega arith

  asked_is : (test : ScriptOp → Bool) → times_asked test (phase_of o base count h k) ≡ asked test h
  asked_is test = over_lanes (count_by (λ d. test d.op)) (λ d. one_if (test d.op)) refl (λ d ds. sum_by-cons (λ (x : Done). one_if (test x.op)) d ds) count h by

  pub drawn_within : k.drawn ≤ cost_of (phase_of o base count h k)
  drawn_within =
      let a = drawn_most past o just_opened h k f in
      let b = turned_sum past o just_opened h k f in
      let c = owners_most in
      let s = shares past o h in
      let sets = asked_is is_set in let edits = asked_is is_edit in let gets = asked_is is_get in let pumps = asked_is is_pump in
      let both : times_asked is_get (phase_of o base count h k) + times_asked is_pump (phase_of o base count h k) ≡ asked is_get h + asked is_pump h = omega arith in
      let product = ap (λ (n : ℕ). n * derived_of (start_of past o)) both in
      omega arith

  module _ (pass : ℕ) (before : List Done) (d : Done) (later : List Done) (t : Place past o pass h k before d later) (few : cost_of (phase_of o base count h k) ≤ LAST_NUMBER) where
    not_full : LAST_NUMBER < t.end.drawn → ⊥
    not_full l = let a = drawn_within in let b = drawn_more past o t.end t.there.back k t.rest in absurd (omega arith)

    left_unspent : (why : Left) → LeftFull why t.end.drawn → LeftUnspent why
    left_unspent (left.Busy n) s = tt
    left_unspent (left.Again n) s = tt
    left_unspent (left.Full n) s = not_full (let a = s.0 in let b = s.1 in omega arith)

    unspent : (r : Reply) → Says past o t.start t.there.made.block t.end pass d.op r → IsUnspent r
    unspent (reply.Set n) s = tt
    unspent (reply.Got v n) s = tt
    unspent (reply.Pumped y) s = first y.first_left s.first
      where
        first : (r : Option (ℕ × Left)) → MatchOption r (y.left ≡ 0) (λ f. (0 < y.left) × IsKind o f.0 kind.Effect × LeftFull f.1 t.end.drawn) → IfSome r (λ f. LeftUnspent f.1)
        first None m = tt
        first (Some f) m = left_unspent f.1 m.2
    unspent (reply.Disposal y) s = tt
    unspent (reply.Edited n v) s = tt
    unspent reply.NoRow s = tt
    unspent (reply.Busy n) s = absurd s
    unspent (reply.Again n) s = absurd s
    unspent (reply.Disposed n) s = tt
    unspent (reply.Full n) s = not_full (let a = s.above in let b = s.drawn in omega arith)

  pub has_room : HasRoom (phase_of o base count h k)
  has_room alone few = everywhere (λ pass before d later. IsUnspent d.reply) h count
      (λ pass before d later e. let t = place past o pass h k before d later f e in unspent pass before d later t few d.reply (said past o pass h k before d later t))
