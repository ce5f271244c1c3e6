-- Disposals: each owner once, between the lane's sets and edits, and no run after.
use Rattle.std.proofs.Common.{◌≡◌, ◌⊎◌, ℕ, zero, suc, ◌+◌, ◌<◌, ◌≤◌, Bool, true, false, cond, List, [], ◌∷◌, ◌++◌, length, sym, refl, ap, ◌∙◌, subst, inl, inr, ⊎_elim, arith, Option, Some, length-append}
use Rattle.std.specs.Prelude.{◌&&◌, ◌||◌, IsSomeAnd, nat_eq, map, sum_by, count_by, filter}
use Rattle.std.specs.List.{list_any, cons_option, range_with_len}
use Rattle.std.specs.Option.{option_map_or}
use Rattle.std.proofs.lemmas.Bool.{true≢false}
use Rattle.std.proofs.lemmas.Bool.Decides.{nat_tests}
use Rattle.std.proofs.lemmas.List.Sums.{sum_by-cons, sum_by-append}
use Rattle.std.proofs.lemmas.List.Elements.{filter_map-append}
use Rattle.values.specs.declared.plan.Disposal.{Disposal}
use Rattle.values.specs.declared.plan.Noted.{Noted}
use Rattle.values.specs.declared.plan.Fact.{Fact}
use Rattle.values.specs.declared.plan.Fact.TheVariants as fact
use Rattle.values.specs.declared.plan.PlanNode.{PlanNode}
use Rattle.script_items.specs.declared.operation.ScriptOp.{ScriptOp}
use Rattle.run_items.specs.declared.answer.Reply.{Reply}
use Rattle.run_items.specs.declared.answer.Reply.TheVariants as reply
use Rattle.run_meaning.specs.Words.{In, times}
use Rattle.run_meaning.specs.Opened.{Opened, is_inside, area_of, dead_of}
use Rattle.run_meaning.specs.Lane.{Done, area_in}
use Rattle.run_meaning.specs.Entries.{is_disposal, owner_in, disposed_by, disposed_in}
use Rattle.run_meaning.specs.Phase.{Phase, disposed_before}
use Rattle.run_meaning.specs.Merge.{DisposesAs, IsDisposal, DisposedOnce, disposes_in, turned_in, names_area}
use Rattle.run_meaning.specs.Told.{NoRunAfter}
use Rattle.run_history.specs.Going.{start_of, Going, just_opened, note, IsDead, all_are}
use Rattle.run_history.specs.Calls.{IsDisposed, FallsFrom}
use Rattle.run_history.specs.History.{Made, Says, Follows, done_by, phase_of, ByPasses, PastFits}
use Rattle.run_history.proofs.Lists.{in_append, in_left}
use Rattle.run_history.proofs.Journal.{numbered_within}
use Rattle.run_history.proofs.Cut.{is_yes, some_same, in_option_here, in_option_there, noted_in, number_of, rest_of, Place, place, said, whole_of, Origin, rest_above}
use Rattle.run_history.proofs.Totals.{everywhere, over_lanes, entries_sum, and_left, and_right, count_within}
use Rattle.run_history.proofs.Facts.{changes_no_owner, pumps_no_owner, one_kind}
use Rattle.run_history.proofs.Numbers.{block_between}
use Rattle.run_history.proofs.Got.{of_origin}

-- ---- lists

pub disposed_append : (xs ys : List Noted) → disposed_in (xs ++ ys) ≡ disposed_in xs ++ disposed_in ys
disposed_append xs ys = filter_map-append disposed_by xs ys

pub disposed_more : (xs ys : List Noted) (n : ℕ) → In n (disposed_in xs) → In n (disposed_in (xs ++ ys))
disposed_more xs ys n i = subst (λ (t : List ℕ). In n t) (sym (disposed_append xs ys)) (in_left (disposed_in xs) (disposed_in ys) n i)

in_filter : (test : ℕ → Bool) (xs : List ℕ) (n : ℕ) → In n (filter test xs) → test n ≡ true
in_filter test [] n i = absurd i
in_filter test (x ∷ xs) n i = elim (test x) as (λ b. (test x ≡ b) → In n (cond b (x ∷ filter test xs) (filter test xs)) → test n ≡ true) [
  | true ↦ λ q j. ⊎_elim (λ (e : x ≡ n). subst (λ (y : ℕ). test y ≡ true) e q) (λ t. in_filter test xs n t) j
  | false ↦ λ q j. in_filter test xs n j
] refl i

pub inside_of : (o : Opened) (area n : ℕ) → In n (area_of o area) → is_inside o area n ≡ true
inside_of o area n i = in_filter (is_inside o area) (range_with_len 0 (length o.plan.owners)) n i

pub in_disposed : (e : Noted) (es : List Noted) (n : ℕ) → In e es → disposed_by e ≡ Some n → In n (disposed_in es)
in_disposed e [] n i q = absurd i
in_disposed e (x ∷ es) n i q = ⊎_elim (λ (s : x ≡ e). in_option_here (disposed_by x) (disposed_in es) n (ap disposed_by s ∙ q)) (λ t. in_option_there (disposed_by x) (disposed_in es) n (in_disposed e es n t q)) i

pub in_all : (test : Fact → Bool) (es : List Noted) (e : Noted) → all_are test es ≡ true → In e es → test e.fact ≡ true
in_all test [] e a i = absurd i
in_all test (x ∷ es) e a i = ⊎_elim (λ (q : x ≡ e). subst (λ (y : Noted). test y.fact ≡ true) q (and_left (test x.fact) (all_are test es) a)) (λ t. in_all test es e (and_right (test x.fact) (all_are test es) a) t) i

pub in_or_zero : (n : ℕ) (xs : List ℕ) → In n xs ⊎ (times n xs ≡ 0)
in_or_zero n [] = inr refl
in_or_zero n (x ∷ xs) = let c = sum_by-cons (λ (y : ℕ). cond (nat_eq n y) 1 0) x xs in elim (nat_eq n x) as (λ b. (nat_eq n x ≡ b) → In n (x ∷ xs) ⊎ (times n (x ∷ xs) ≡ 0)) [
  | true ↦ λ q. inl (inl (let e : x ≡ n = grind (arith, nat_tests) in e))
  | false ↦ λ q. ⊎_elim (λ (i : In n xs). inl (inr i)) (λ (z : times n xs ≡ 0). inr (let y : cond {A = ℕ} (nat_eq n x) 1 0 ≡ 0 = ap (λ (b : Bool). cond {A = ℕ} b 1 0) q in omega arith)) (in_or_zero n xs)
] refl

pub times_append : (n : ℕ) (xs ys : List ℕ) → times n (xs ++ ys) ≡ times n xs + times n ys
times_append n xs ys = sum_by-append (λ (x : ℕ). cond (nat_eq n x) 1 0) xs ys

pub times_none : (n : ℕ) (xs : List ℕ) → (In n xs → ⊥) → times n xs ≡ 0
times_none n xs away = ⊎_elim (λ (i : In n xs). absurd (away i)) (λ z. z) (in_or_zero n xs)

pub falls_below : (high : ℕ) (ns : List ℕ) (n : ℕ) → FallsFrom high ns → In n ns → n < high
falls_below high [] n f i = absurd i
falls_below high (m ∷ ns) n f i = let l = f.0 in ⊎_elim (λ (e : m ≡ n). let q : n < high = omega arith in q) (λ t. let k = falls_below m ns n f.1 t in let q : n < high = omega arith in q) i

pub falls_once : (high n : ℕ) (ns : List ℕ) → FallsFrom high ns → times n ns ≤ 1
falls_once high n [] f = omega arith
falls_once high n (m ∷ ns) f = let c = sum_by-cons (λ (y : ℕ). cond (nat_eq n y) 1 0) m ns in elim (nat_eq n m) as (λ b. (nat_eq n m ≡ b) → times n (m ∷ ns) ≤ 1) [
  | true ↦ λ q. let e : n ≡ m = grind (arith, nat_tests) in let z = times_none n ns (λ i. let l = falls_below m ns n f.1 i in absurd (omega arith)) in let y : cond {A = ℕ} (nat_eq n m) 1 0 ≡ 1 = ap (λ (b : Bool). cond {A = ℕ} b 1 0) q in omega arith
  | false ↦ λ q. let i = falls_once m n ns f.1 in let y : cond {A = ℕ} (nat_eq n m) 1 0 ≡ 0 = ap (λ (b : Bool). cond {A = ℕ} b 1 0) q in omega arith
] refl

-- ---- what each operation disposes

pub all_owners : (es : List Noted) → all_are is_disposal es ≡ true → length (disposed_in es) ≡ length es
all_owners [] a = refl
all_owners (e ∷ es) a = let i = all_owners es (and_right (is_disposal e.fact) (all_are is_disposal es) a) in there e.fact (and_left (is_disposal e.fact) (all_are is_disposal es) a) ∙ ap suc i
  where
    there : (f : Fact) → is_disposal f ≡ true → length (cons_option (owner_in f) (disposed_in es)) ≡ suc (length (disposed_in es))
    there (fact.Write n c) e = absurd (true≢false (sym e))
    there (fact.Change n c) e = absurd (true≢false (sym e))
    there (fact.Ran n c) e = absurd (true≢false (sym e))
    there (fact.Void n) e = absurd (true≢false (sym e))
    there (fact.Disposed n) e = refl
    there (fact.Edit p i) e = absurd (true≢false (sym e))

-- it disposes none, or is a disposal of an area
module _ (past : List Phase) (o : Opened) (g : Going) (block : List Noted) (h : Going) (pass : ℕ) (x : ScriptOp) where
  pub disposes_here : (r : Reply) → Says past o g block h pass x r → (disposed_in block ≡ []) ⊎ ((area : ℕ) × (y : Disposal) × (area_in x ≡ Some area) × IsDisposed (start_of past o) g block h area y)
  disposes_here (reply.Set n) s = inl (ap disposed_in s.4.block_is)
  disposes_here (reply.Edited n v) s = inl (ap disposed_in s.block_is)
  disposes_here (reply.Got v n) s = inl (changes_no_owner block s.2.changes)
  disposes_here (reply.Pumped y) s = inl (pumps_no_owner block s.of_pump)
  disposes_here (reply.Disposal y) s = inr (s.0, y, s.1, s.2)
  disposes_here reply.NoRow s = inl (ap disposed_in s.0.0)
  disposes_here (reply.Busy n) s = absurd s
  disposes_here (reply.Again n) s = absurd s
  disposes_here (reply.Disposed n) s = inl (ap disposed_in s.0.0)
  disposes_here (reply.Full n) s = inl (changes_no_owner block s.changes)

  turned_here : (r : Reply) → Says past o g block h pass x r → length (disposed_in block) ≡ turned_in r
  turned_here (reply.Set n) s = ap (λ (b : List Noted). length (disposed_in b)) s.4.block_is
  turned_here (reply.Edited n v) s = ap (λ (b : List Noted). length (disposed_in b)) s.block_is
  turned_here (reply.Got v n) s = ap length (changes_no_owner block s.2.changes)
  turned_here (reply.Pumped y) s = ap length (pumps_no_owner block s.of_pump)
  turned_here (reply.Disposal y) s = all_owners block s.2.disposals ∙ s.2.now
  turned_here reply.NoRow s = ap (λ (b : List Noted). length (disposed_in b)) s.0.0
  turned_here (reply.Busy n) s = absurd s
  turned_here (reply.Again n) s = absurd s
  turned_here (reply.Disposed n) s = ap (λ (b : List Noted). length (disposed_in b)) s.0.0
  turned_here (reply.Full n) s = ap length (changes_no_owner block s.changes)

-- ---- no owner twice

once_all : (past : List Phase) (o : Opened) → PastFits past o → (n : ℕ) (g : Going) (ms : List Made) (k : Going) → Follows past o g ms k → times n (disposed_in g.entries) + times n (disposed_before past) ≤ 1 → times n (disposed_in k.entries) + times n (disposed_before past) ≤ 1
once_all past o p n g [] k f l = subst (λ (x : Going). times n (disposed_in x.entries) + times n (disposed_before past) ≤ 1) f l
once_all past o p n g (m ∷ ms) k f l = once_all past o p n f.0 ms k f.2 (
    let e : times n (disposed_in f.0.entries) ≡ times n (disposed_in g.entries) + times n (disposed_in m.block) = ap (λ (x : List Noted). times n (disposed_in x)) f.1.goes.entries ∙ (ap (times n) (disposed_append g.entries m.block) ∙ times_append n (disposed_in g.entries) (disposed_in m.block)) in
    let none : times n (disposed_in m.block) ≡ 0 → times n (disposed_in f.0.entries) + times n (disposed_before past) ≤ 1 = λ z. omega arith in
    ⊎_elim (λ (z : disposed_in m.block ≡ []). none (ap (times n) z))
    (λ (t : (area : ℕ) × (y : Disposal) × (area_in m.done.op ≡ Some area) × IsDisposed (start_of past o) g m.block f.0 area y).
    ⊎_elim (λ (i : In n (disposed_in m.block)).
    let fresh = (t.3.of_area n i).1 in
    let a = times_none n (disposed_in g.entries) (λ j. fresh (inr j)) in
    let b = times_none n (disposed_before past) (λ j. fresh (inl (p.was_dead n j))) in
    let c = falls_once (length o.plan.owners) n (disposed_in m.block) t.3.falls in omega arith) none (in_or_zero n (disposed_in m.block)))
    (disposes_here past o g m.block f.0 m.pass m.done.op m.done.reply f.1.says))

-- ---- who disposed an owner

pub disposer : (past : List Phase) (o : Opened) (n : ℕ) (g : Going) (ms : List Made) (k : Going) → Follows past o g ms k → In n (disposed_in k.entries) → In n (disposed_in g.entries) ⊎ ((m : Made) × In m ms × (area : ℕ) × (area_in m.done.op ≡ Some area) × In n (area_of o area))
disposer past o n g [] k f i = inl (subst (λ (x : Going). In n (disposed_in x.entries)) (sym f) i)
disposer past o n g (m ∷ ms) k f i = ⊎_elim
    (λ (a : In n (disposed_in f.0.entries)). ⊎_elim (λ (b : In n (disposed_in g.entries)). inl b)
    (λ (b : In n (disposed_in m.block)). ⊎_elim (λ (z : disposed_in m.block ≡ []). let none : ⊥ = subst (λ (t : List ℕ). In n t) z b in absurd none)
    (λ (t : (area : ℕ) × (y : Disposal) × (area_in m.done.op ≡ Some area) × IsDisposed (start_of past o) g m.block f.0 area y). inr (m, inl refl, t.0, t.2, (t.3.of_area n b).0))
    (disposes_here past o g m.block f.0 m.pass m.done.op m.done.reply f.1.says))
    (in_append (disposed_in g.entries) (disposed_in m.block) n (subst (λ (t : List ℕ). In n t) (disposed_append g.entries m.block) (subst (λ (t : List Noted). In n (disposed_in t)) f.1.goes.entries a))))
    (λ (t : (x : Made) × In x ms × (area : ℕ) × (area_in x.done.op ≡ Some area) × In n (area_of o area)). inr (t.0, inr t.1, t.2, t.3, t.4)) (disposer past o n f.0 ms k f.2 i)

-- an operation that disposes an area with the owner in it names it
pub names_it : (o : Opened) (n : ℕ) (d : Done) (area : ℕ) → area_in d.op ≡ Some area → In n (area_of o area) → names_area o n d ≡ true
names_it o n d area e i = ap (λ (r : Option ℕ). option_map_or (λ a. is_inside o a n) r false) e ∙ inside_of o area n i

or_right : (a b : Bool) → b ≡ true → (a || b) ≡ true
or_right true b e = refl
or_right false b e = e

pub any_made : (test : Done → Bool) (m : Made) (h : List Made) → In m h → test m.done ≡ true → list_any test (done_by m.pass h) ≡ true
any_made test m [] i e = absurd i
any_made test m (x ∷ h) i e = ⊎_elim
    (λ (q : x ≡ m). subst (λ (y : Made). list_any test (cond (nat_eq y.pass x.pass) (x.done ∷ done_by y.pass h) (done_by y.pass h)) ≡ true) q
    (ap (λ (b : Bool). list_any test (cond b (x.done ∷ done_by x.pass h) (done_by x.pass h))) (is_yes x.pass x.pass refl) ∙ (λ j. (subst (λ (y : Made). test y.done ≡ true) (sym q) e) j || list_any test (done_by x.pass h))))
    (λ (t : In m h). elim (nat_eq m.pass x.pass) as (λ b. list_any test (cond b (x.done ∷ done_by m.pass h) (done_by m.pass h)) ≡ true) [
      | true ↦ or_right (test x.done) (list_any test (done_by m.pass h)) (any_made test m h t e)
      | false ↦ any_made test m h t e
    ]) i

any_of : (test : List Done → Bool) (h : List Made) (pass : ℕ) → test (done_by pass h) ≡ true → (a n : ℕ) → a ≤ pass → pass < a + n → list_any test (map (λ p. done_by p h) (range_with_len a n)) ≡ true
any_of test h pass e a zero l u = absurd (omega arith)
any_of test h pass e a (suc n) l u = elim (nat_eq a pass) as (λ b. (nat_eq a pass ≡ b) → (test (done_by a h) || list_any test (map (λ p. done_by p h) (range_with_len (a + 1) n))) ≡ true) [
  | true ↦ λ q. let same : pass ≡ a = grind (arith, nat_tests) in (λ j. (subst (λ (x : ℕ). test (done_by x h) ≡ true) same e) j || list_any test (map (λ p. done_by p h) (range_with_len (a + 1) n)))
  | false ↦ λ q. let ne : a ≡ pass → ⊥ = λ t. true≢false (sym (is_yes a pass t) ∙ q) in let low : a + 1 ≤ pass = grind arith in or_right (test (done_by a h)) (list_any test (map (λ p. done_by p h) (range_with_len (a + 1) n))) (any_of test h pass e (a + 1) n low (omega arith))
] refl

pub by_pass : (count : ℕ) (h : List Made) (m : Made) → ByPasses count h → In m h → (0 < m.pass) × (m.pass ≤ count)
by_pass count [] m b i = absurd i
by_pass count (x ∷ h) m b i = ⊎_elim (λ (e : x ≡ m). subst (λ (y : Made). (0 < y.pass) × (y.pass ≤ count)) e b.0) (λ t. by_pass count h m b.1 t) i

-- ---- each reply

of_area : (o : Opened) (area : ℕ) (f : Fact) → is_disposal f ≡ true → ((n : ℕ) → owner_in f ≡ Some n → is_inside o area n ≡ true) → option_map_or (is_inside o area) (owner_in f) false ≡ true
of_area o area (fact.Write n c) e all = absurd (true≢false (sym e))
of_area o area (fact.Change n c) e all = absurd (true≢false (sym e))
of_area o area (fact.Ran n c) e all = absurd (true≢false (sym e))
of_area o area (fact.Void n) e all = absurd (true≢false (sym e))
of_area o area (fact.Disposed n) e all = all n refl
of_area o area (fact.Edit p i) e all = absurd (true≢false (sym e))

count_all : (es : List Noted) → count_by (λ e. true) es ≡ length es
count_all [] = refl
count_all (e ∷ es) = let c = sum_by-cons (λ (x : Noted). 1) e es in let i = count_all es in omega arith

pub count_middle : (p : Noted → Bool) (xs ys zs : List Noted) → count_by p ys ≤ count_by p ((xs ++ ys) ++ zs)
count_middle p xs ys zs = let a = sum_by-append (λ (e : Noted). cond (p e) 1 0) (xs ++ ys) zs in let b = sum_by-append (λ (e : Noted). cond (p e) 1 0) xs ys in omega arith

module _ (past : List Phase) (o : Opened) (base count pass : ℕ) (h : List Made) (k : Going) (before : List Done) (d : Done) (later : List Done) (t : Place past o pass h k before d later) (p : PastFits past o) where
  dispose_as : (area : ℕ) (x : Disposal) → IsDisposed (start_of past o) t.start t.there.made.block t.end area x → DisposesAs past (phase_of o base count h k) before later area x
  dispose_as area x s =
      let w = whole_of past o pass h k before d later t in
      let block : List Noted = t.there.made.block in
      let r = rest_of past o t.end t.there.back k t.rest in
      let test : Noted → Bool = disposes_in o area before later in
      let each : (e : Noted) → In e block → true ≡ true → test e ≡ true = λ e i u. let inside = of_area o area e.fact (in_all is_disposal block e s.disposals i) (λ n q. inside_of o area n (s.of_area n (in_disposed e block n i q)).0) in let between = block_between past o pass h k before d later t e i in (λ j. inside j && between j) in
      let most = count_within (λ e. true) test block each in
      let mid = count_middle test t.start.entries block w.0 in
      let same : count_by test k.entries ≡ count_by test ((t.start.entries ++ block) ++ w.0) = ap (count_by test) w.1 in
      let all = count_all block in let len = s.now in
      (s.all, (λ n i. ⊎_elim (λ (a : In n (dead_of o)). inr (p.dead_was n a)) (λ (b : In n (disposed_in t.end.entries)). inl (subst (λ (y : List Noted). In n (disposed_in y)) (sym r.1) (disposed_more t.end.entries r.0 n b))) (s.dead n i)), omega arith)

  is_disposal_of : (r : Reply) → Says past o t.start t.there.made.block t.end pass d.op r → IsDisposal past (phase_of o base count h k) before later d.op r
  is_disposal_of (reply.Disposal x) s = subst (λ (a : Option ℕ). IsSomeAnd a (λ area. DisposesAs past (phase_of o base count h k) before later area x)) (sym s.1) (dispose_as s.0 x s.2)
  is_disposal_of (reply.Set n) s = tt
  is_disposal_of (reply.Edited n w) s = tt
  is_disposal_of (reply.Got x n) s = tt
  is_disposal_of (reply.Pumped x) s = tt
  is_disposal_of reply.NoRow s = tt
  is_disposal_of (reply.Busy x) s = tt
  is_disposal_of (reply.Again x) s = tt
  is_disposal_of (reply.Disposed x) s = tt
  is_disposal_of (reply.Full x) s = tt

pub lane_sum : (f : Done → ℕ) (d : Done) (ds : List Done) → sum_by f (d ∷ ds) ≡ f d + sum_by f ds
lane_sum f d ds = sum_by-cons f d ds

length_disposed : (xs ys : List Noted) → length (disposed_in (xs ++ ys)) ≡ length (disposed_in xs) + length (disposed_in ys)
length_disposed xs ys = ap length (disposed_append xs ys) ∙ length-append (disposed_in xs) (disposed_in ys)

-- the owners that were disposed are those of all replies
pub turned_sum : (past : List Phase) (o : Opened) (g : Going) (ms : List Made) (k : Going) → Follows past o g ms k → length (disposed_in k.entries) ≡ length (disposed_in g.entries) + sum_by (λ m. turned_in m.done.reply) ms
turned_sum past o g ms k f = entries_sum (λ es. length (disposed_in es)) length_disposed past o (λ d. turned_in d.reply) (λ g m b d. turned_here past o g m.block b m.pass m.done.op m.done.reply d.says) g ms k f

pub disposed_once : (past : List Phase) (o : Opened) (base count : ℕ) (h : List Made) (k : Going) → Follows past o just_opened h k → ByPasses count h → PastFits past o → DisposedOnce past (phase_of o base count h k)
disposed_once past o base count h k f by p = record {
  once = λ n. let a = once_all past o p n just_opened h k f (let b = p.once n in omega arith) in let c = times_append n (disposed_in k.entries) (disposed_before past) in omega arith;
  each = everywhere (λ pass before d later. IsDisposal past (phase_of o base count h k) before later d.op d.reply) h count (λ pass before d later e. let t = place past o pass h k before d later f e in is_disposal_of past o base count pass h k before d later t p d.reply (said past o pass h k before d later t));
  sum = let a = turned_sum past o just_opened h k f in let b = over_lanes (sum_by (λ d. turned_in d.reply)) (λ d. turned_in d.reply) refl (λ d ds. lane_sum (λ d. turned_in d.reply) d ds) count h by in omega arith;
  asked = λ n i. ⊎_elim (λ (z : In n []). absurd z) (λ (t : (m : Made) × In m h × (area : ℕ) × (area_in m.done.op ≡ Some area) × In n (area_of o area)). let b = by_pass count h t.0 by t.1 in any_of (list_any (names_area o n)) h t.0.pass (any_made (names_area o n) t.0 h t.1 (names_it o n t.0.done t.2 t.3 t.4)) 1 count (let l = b.0 in omega arith) (let l = b.1 in omega arith)) (disposer past o n just_opened h k f i);
}

-- ---- no run after the disposal

pub no_run_after : (past : List Phase) (o : Opened) (base count : ℕ) (h : List Made) (k : Going) → Follows past o just_opened h k → PastFits past o → NoRunAfter past (phase_of o base count h k)
no_run_after past o base count h k f p n row v e =
    let ran : Noted = note n (fact.Ran row v) in
    let y : Origin past o just_opened h k ran = of_origin past o h k n (fact.Ran row v) f e in
    let kind = y.does.goes.of_plan ran y.here in
    let live = (y.does.goes.fit ran y.here).1 in
    let node : PlanNode = kind.0 in
    let owner : live.0 ≡ node.owner = sym live.1.2 ∙ ap (λ (x : PlanNode). x.owner) (some_same live.1.0 node (sym live.1.1 ∙ kind.1)) in
    let alive : IsDead (start_of past o) y.start.entries node.owner → ⊥ = subst (λ (q : ℕ). IsDead (start_of past o) y.start.entries q → ⊥) owner live.2 in
    let most : n ≤ y.end.drawn = numbered_within y.start.drawn y.made.block y.end.drawn y.does.goes.numbered n (number_of ran y.made.block y.here) in (
      node,
      kind.1,
      kind.2,
      record {
        before = λ b. alive (inl (p.was_dead node.owner b));
        now = λ m q.
            let gone : Noted = note m (fact.Disposed node.owner) in
            ⊎_elim (λ (a : In gone y.end.entries). ⊎_elim
            (λ (b : In gone y.start.entries). absurd (alive (inr (in_disposed gone y.start.entries node.owner b refl))))
            (λ (b : In gone y.made.block). ⊎_elim
            (λ (z : disposed_in y.made.block ≡ []). let none : ⊥ = subst (λ (t : List ℕ). In node.owner t) z (in_disposed gone y.made.block node.owner b refl) in absurd none)
            (λ (z : all_are is_disposal y.made.block ≡ true). absurd (true≢false (sym (in_all is_disposal y.made.block ran z y.here))))
            (one_kind past o y.start y.made.block y.end y.made.pass y.made.done.op y.made.done.reply y.does.says))
            (in_append y.start.entries y.made.block gone (subst (λ (t : List Noted). In gone t) y.does.goes.entries a)))
            (λ (l : y.end.drawn < m). let g : n < m = omega arith in g)
            (rest_above past o y.end y.back k gone y.after (noted_in m k.entries (fact.Disposed node.owner) q));
      },
    )
