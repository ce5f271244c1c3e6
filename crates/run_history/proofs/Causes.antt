-- Why operations are answered as they are.
use Rattle.std.proofs.Common.{◌≡◌, ◌⊎◌, ℕ, zero, suc, ◌+◌, ◌<◌, ◌≤◌, Bool, true, false, cond, List, [], ◌∷◌, ◌++◌, length, sym, refl, ap, ◌∙◌, subst, inl, inr, ⊎_elim, arith, Option, Some, None}
use Rattle.std.specs.Prelude.{◌&&◌, ◌||◌, MatchOption, IsSomeAnd, nat_eq, map, count_by}
use Rattle.std.specs.List.{list_any, range_with_len}
use Rattle.std.proofs.lemmas.Bool.{true≢false}
use Rattle.std.proofs.lemmas.Bool.Decides.{nat_tests}
use Rattle.std.proofs.lemmas.List.Sums.{sum_by-cons}
use Rattle.values.specs.declared.plan.Kind.TheVariants as kind
use Rattle.values.specs.declared.plan.Left.{Left}
use Rattle.values.specs.declared.plan.Left.TheVariants as left
use Rattle.values.specs.declared.plan.Noted.{Noted}
use Rattle.values.specs.declared.plan.PlanNode.{PlanNode}
use Rattle.values.specs.declared.plan.Pumped.{Pumped}
use Rattle.script_items.specs.declared.operation.ScriptOp.{ScriptOp}
use Rattle.script_items.specs.declared.operation.ScriptOp.TheVariants as op
use Rattle.run_items.specs.declared.answer.Reply.{Reply}
use Rattle.run_items.specs.declared.answer.Reply.TheVariants as reply
use Rattle.run_items.specs.declared.limits.TheConstants.{LAST_NUMBER}
use Rattle.run_meaning.specs.Words.{In, is_among}
use Rattle.run_meaning.specs.Opened.{Opened, area_of, IsKind, dead_of}
use Rattle.run_meaning.specs.Lane.{Done, area_in}
use Rattle.run_meaning.specs.Entries.{disposed_in}
use Rattle.run_meaning.specs.Phase.{Phase, IsJournal, disposed_before}
use Rattle.run_meaning.specs.Merge.{is_answer, is_effect_node, names_area}
use Rattle.run_meaning.specs.Causes.{IsOwned, DisposedHere, IsSpent, is_gone, is_gone_by, LeftBy, AreDisturbed, PumpedBy, DisposedBy, Caused, Owed, IsCaused, RepliesCaused}
use Rattle.run_history.specs.Going.{start_of, Going, just_opened, IsDead}
use Rattle.run_history.specs.Calls.{LeftFull, IsPumped}
use Rattle.run_history.specs.History.{Made, Says, Owes, Follows, done_by, lanes_of, phase_of, ByPasses, PastFits}
use Rattle.run_history.proofs.Lists.{in_left}
use Rattle.run_history.proofs.Journal.{journal_of_history}
use Rattle.run_history.proofs.Cut.{is_yes, none_some, some_same, rest_of, drawn_more, Place, place, said}
use Rattle.run_history.proofs.Totals.{everywhere, and_left, and_right}
use Rattle.run_history.proofs.Disposals.{disposed_more, disposer, names_it, by_pass, any_made}

-- ---- lists

pub length_lanes : (h : List Made) (a n : ℕ) → length (map (λ pass. done_by pass h) (range_with_len a n)) ≡ n
length_lanes h a zero = refl
length_lanes h a (suc n) = ap suc (length_lanes h (a + 1) n)

in_middle : (xs ys : List Made) (m : Made) → In m (xs ++ m ∷ ys)
in_middle [] ys m = inl refl
in_middle (x ∷ xs) ys m = inr (in_middle xs ys m)

among_in : (ns : List ℕ) (n : ℕ) → is_among ns n ≡ true → In n ns
among_in [] n e = absurd (true≢false (sym e))
among_in (m ∷ ns) n e = elim (nat_eq n m) as (λ b. (nat_eq n m ≡ b) → (b || is_among ns n) ≡ true → (m ≡ n) ⊎ In n ns) [
  | true ↦ λ q h. inl (let r : m ≡ n = grind (arith, nat_tests) in r)
  | false ↦ λ q h. inr (among_in ns n h)
] refl e

in_among : (ns : List ℕ) (n : ℕ) → In n ns → is_among ns n ≡ true
in_among [] n i = absurd i
in_among (m ∷ ns) n i = ⊎_elim (λ (e : m ≡ n). ap (λ (b : Bool). b || is_among ns n) (is_yes n m (sym e))) (λ t. either (nat_eq n m) (is_among ns n) (in_among ns n t)) i
  where
    either : (a b : Bool) → b ≡ true → (a || b) ≡ true
    either true b e = refl
    either false b e = e

-- a count of nodes
count_nodes : (p q : PlanNode → Bool) → ((x : PlanNode) → p x ≡ true → q x ≡ true) → (xs : List PlanNode) → count_by p xs ≤ count_by q xs
count_nodes p q all [] = omega arith
count_nodes p q all (x ∷ xs) = let c = sum_by-cons (λ (y : PlanNode). cond (p y) 1 0) x xs in let d = sum_by-cons (λ (y : PlanNode). cond (q y) 1 0) x xs in let i = count_nodes p q all xs in
    let one : cond (p x) 1 0 ≤ cond (q x) 1 0 = step (p x) (q x) (all x) in omega arith
  where
    step : (a b : Bool) → (a ≡ true → b ≡ true) → cond a 1 0 ≤ cond b 1 0
    step true true t = omega arith
    step true false t = absurd (true≢false (sym (t refl)))
    step false true t = omega arith
    step false false t = omega arith

done_in : (pass : ℕ) (h : List Made) (m : Made) → In m h → m.pass ≡ pass → In m.done (done_by pass h)
done_in pass [] m i e = absurd i
done_in pass (x ∷ h) m i e = ⊎_elim
    (λ (q : x ≡ m). subst (λ (b : Bool). In m.done (cond b (x.done ∷ done_by pass h) (done_by pass h))) (sym (is_yes pass x.pass (sym (ap (λ (y : Made). y.pass) q ∙ e)))) (inl (ap (λ (y : Made). y.done) q)))
    (λ (t : In m h). elim (nat_eq pass x.pass) as (λ b. In m.done (cond b (x.done ∷ done_by pass h) (done_by pass h))) [ true ↦ inr (done_in pass h m t e) | false ↦ done_in pass h m t e ]) i

made_of : (pass : ℕ) (h : List Made) (d : Done) → In d (done_by pass h) → (m : Made) × In m h × (m.done ≡ d)
made_of pass [] d i = absurd i
made_of pass (x ∷ h) d i = elim (nat_eq pass x.pass) as (λ b. In d (cond b (x.done ∷ done_by pass h) (done_by pass h)) → (m : Made) × In m (x ∷ h) × (m.done ≡ d)) [
  | true ↦ λ j. ⊎_elim (λ (e : x.done ≡ d). (x, inl refl, e)) (λ (t : In d (done_by pass h)). let r = made_of pass h d t in (r.0, inr r.1, r.2)) j
  | false ↦ λ j. let r = made_of pass h d j in (r.0, inr r.1, r.2)
] i

-- ---- what was disposed is dead then

dead_more : (past : List Phase) (o : Opened) (n : ℕ) (g : Going) (ms : List Made) (k : Going) → Follows past o g ms k → IsDead (start_of past o) g.entries n → IsDead (start_of past o) k.entries n
dead_more past o n g ms k f d = let r = rest_of past o g ms k f in ⊎_elim (λ (a : In n (dead_of o)). inl a) (λ (b : In n (disposed_in g.entries)). inr (subst (λ (t : List Noted). In n (disposed_in t)) (sym r.1) (disposed_more g.entries r.0 n b))) d

is_dispose_of : (x : ScriptOp) (area : ℕ) → area_in x ≡ Some area → x ≡ op.Dispose area
is_dispose_of (op.Set i k c) area e = absurd (none_some area e)
is_dispose_of (op.Get i k) area e = absurd (none_some area e)
is_dispose_of op.Pump area e = absurd (none_some area e)
is_dispose_of (op.Dispose a) area e = ap (λ (n : ℕ). op.Dispose n) (some_same a area e)
is_dispose_of (op.Change e) area q = absurd (none_some area q)

module _ (past : List Phase) (o : Opened) (n area : ℕ) (inside : In n (area_of o area)) where
  dead_here : (g : Going) (block : List Noted) (h : Going) (pass : ℕ) (r : Reply) → is_answer (op.Dispose area) r ≡ true → Says past o g block h pass (op.Dispose area) r → IsDead (start_of past o) h.entries n
  dead_here g block h pass (reply.Disposal d) a s = s.2.dead n (subst (λ (y : ℕ). In n (area_of o y)) (some_same area s.0 s.1) inside)
  dead_here g block h pass (reply.Set y) a s = absurd (true≢false (sym a))
  dead_here g block h pass (reply.Edited y v) a s = absurd (true≢false (sym a))
  dead_here g block h pass (reply.Got v y) a s = absurd (true≢false (sym a))
  dead_here g block h pass (reply.Pumped p) a s = absurd (true≢false (sym a))
  dead_here g block h pass reply.NoRow a s = absurd (true≢false (sym a))
  dead_here g block h pass (reply.Busy y) a s = absurd (true≢false (sym a))
  dead_here g block h pass (reply.Again y) a s = absurd (true≢false (sym a))
  dead_here g block h pass (reply.Disposed y) a s = absurd (true≢false (sym a))
  dead_here g block h pass (reply.Full y) a s = absurd (true≢false (sym a))

  disposed_dead : (g : Going) (ms : List Made) (k : Going) (m : Made) → Follows past o g ms k → In m ms → area_in m.done.op ≡ Some area → IsDead (start_of past o) k.entries n
  disposed_dead g [] k m f i e = absurd i
  disposed_dead g (x ∷ ms) k m f i e = ⊎_elim
      (λ (q : x ≡ m). let is : x.done.op ≡ op.Dispose area = is_dispose_of x.done.op area (ap (λ (y : Made). area_in y.done.op) q ∙ e) in
      dead_more past o n f.0 ms k f.2 (dead_here g x.block f.0 x.pass x.done.reply (subst (λ (y : ScriptOp). is_answer y x.done.reply ≡ true) is f.1.answers) (subst (λ (y : ScriptOp). Says past o g x.block f.0 x.pass y x.done.reply) is f.1.says)))
      (λ (t : In m ms). disposed_dead f.0 ms k m f.2 t e) i

-- ---- an operation of a lane

module _ (past : List Phase) (o : Opened) (base count pass : ℕ) (h : List Made) (k : Going) (before : List Done) (d : Done) (later : List Done) (t : Place past o pass h k before d later) (f : Follows past o just_opened h k) (by : ByPasses count h) (p : PastFits past o) where
  abbrev phase : Phase
  phase = phase_of o base count h k

  -- where there is one lane, each earlier operation is of it
  of_lane : length (lanes_of count h) ≡ 1 → (m : Made) → In m t.there.front → m.pass ≡ pass
  of_lane one m i =
      let in_h : In m h = subst (λ (u : List Made). In m u) (sym t.there.whole) (in_left t.there.front (t.there.made ∷ t.there.back) m i) in
      let mine = by_pass count h m by in_h in
      let this = by_pass count h t.there.made by (subst (λ (u : List Made). In t.there.made u) (sym t.there.whole) (in_middle t.there.front t.there.back t.there.made)) in
      let single : count ≡ 1 = sym (length_lanes h 1 count) ∙ one in
      let own_pass = t.there.by in
      omega (arith, mine.0, mine.1, this.0, this.1)

  -- who disposed it before
  disposer_before : (n : ℕ) → In n (disposed_in t.start.entries) → (m : Made) × In m t.there.front × (area : ℕ) × (area_in m.done.op ≡ Some area) × In n (area_of o area)
  disposer_before n i = ⊎_elim (λ (z : In n []). absurd z) (λ (x : (m : Made) × In m t.there.front × (area : ℕ) × (area_in m.done.op ≡ Some area) × In n (area_of o area)). x) (disposer past o n just_opened t.there.front t.start t.first i)

  disposed_here : length (lanes_of count h) ≡ 1 → (n : ℕ) → In n (disposed_in t.start.entries) → DisposedHere o before n
  disposed_here one n i =
      let x = disposer_before n i in
      (x.0.done, subst (λ (u : List Done). In x.0.done u) t.there.earlier (done_in pass t.there.front x.0 x.1 (of_lane one x.0 x.1)), subst (λ (a : Option ℕ). IsSomeAnd a (λ area. In n (area_of o area))) (sym x.3) x.4)

  from_start : (n : ℕ) → In n (disposed_in t.start.entries) → In n (disposed_in k.entries)
  from_start n i = let r = rest_of past o t.start (t.there.made ∷ t.there.back) k (t.end, t.does, t.rest) in subst (λ (u : List Noted). In n (disposed_in u)) (sym r.1) (disposed_more t.start.entries r.0 n i)

  disposed_by_lane : (x : ScriptOp) (n : ℕ) → IsOwned o x n → IsDead (start_of past o) t.start.entries n → DisposedBy past phase before x n
  disposed_by_lane x n owned dead = record {
    owned = owned;
    disposed = ⊎_elim (λ (a : In n (dead_of o)). inr (p.dead_was n a)) (λ (b : In n (disposed_in t.start.entries)). inl (from_start n b)) dead;
    alone = λ one. ⊎_elim (λ (a : In n (dead_of o)). inl (p.dead_was n a)) (λ (b : In n (disposed_in t.start.entries)). inr (disposed_here one n b)) dead;
  }

  spent : (n : ℕ) → LAST_NUMBER < n → n ≤ t.end.drawn → IsSpent phase n
  spent n a b = let j : IsJournal o k.drawn k.entries = journal_of_history past o h k f in let m = drawn_more past o t.end t.there.back k t.rest in (a, λ i pos most. j.complete i pos (omega arith))

  -- why effects were gone
  gone_then : (node : PlanNode) → is_gone (disposed_in t.start.entries) node ≡ true → is_gone (disposed_in k.entries) node ≡ true
  gone_then node e =
      let is = and_left (is_effect_node node) (is_among (disposed_in t.start.entries) node.owner) e in
      let among = in_among (disposed_in k.entries) node.owner (from_start node.owner (among_in (disposed_in t.start.entries) node.owner (and_right (is_effect_node node) (is_among (disposed_in t.start.entries) node.owner) e))) in (λ i. is i && among i)

  gone_alone : length (lanes_of count h) ≡ 1 → (node : PlanNode) → is_gone (disposed_in t.start.entries) node ≡ true → is_gone_by o (disposed_in k.entries) before node ≡ true
  gone_alone one node e =
      let i = among_in (disposed_in t.start.entries) node.owner (and_right (is_effect_node node) (is_among (disposed_in t.start.entries) node.owner) e) in
      let x = disposer_before node.owner i in
      let any : list_any (names_area o node.owner) (done_by pass t.there.front) ≡ true = subst (λ (n : ℕ). list_any (names_area o node.owner) (done_by n t.there.front) ≡ true) (of_lane one x.0 x.1) (any_made (names_area o node.owner) x.0 t.there.front x.1 (names_it o node.owner x.0.done x.2 x.3 x.4)) in
      let here : list_any (names_area o node.owner) before ≡ true = subst (λ (u : List Done). list_any (names_area o node.owner) u ≡ true) t.there.earlier any in
      let gone = gone_then node e in (λ j. gone j && here j)

  -- why effects were left
  left_by : (n : ℕ) (why : Left) → LeftFull why t.end.drawn → LeftBy phase pass n why
  left_by n (left.Busy m) s = absurd s
  left_by n (left.Again m) s = absurd s
  left_by n (left.Full m) s = spent m s.0 s.1

  first_left : (x : Pumped) (r : Option (ℕ × Left)) → MatchOption r (x.left ≡ 0) (λ y. (0 < x.left) × IsKind o y.0 kind.Effect × LeftFull y.1 t.end.drawn) → MatchOption r (x.left ≡ 0) (λ y. (0 < x.left) × IsKind o y.0 kind.Effect × LeftBy phase pass y.0 y.1)
  first_left x None m = m
  first_left x (Some y) m = (m.0, m.1, left_by y.0 y.1 m.2)

  all_left : (x : Pumped) (r : Option (ℕ × Left)) → MatchOption r (x.left ≡ 0) (λ y. (0 < x.left) × IsKind o y.0 kind.Effect × LeftFull y.1 t.end.drawn) → ((n : ℕ) × IsSpent phase n) ⊎ AreDisturbed phase pass x.left
  all_left x None m = inr ([], omega arith, (λ n. omega arith), λ y i. absurd i)
  all_left x (Some y) m = by_cause y.1 m.2
    where
      by_cause : (why : Left) → LeftFull why t.end.drawn → ((n : ℕ) × IsSpent phase n) ⊎ AreDisturbed phase pass x.left
      by_cause (left.Busy n) s = absurd s
      by_cause (left.Again n) s = absurd s
      by_cause (left.Full n) s = inl (n, spent n s.0 s.1)

  pumped_by : (x : Pumped) → IsPumped (start_of past o) t.start t.there.made.block t.end x → PumpedBy phase pass before x
  pumped_by x s = record {
    gone = let e = s.gone in let more = count_nodes (is_gone (disposed_in t.start.entries)) (is_gone (disposed_in k.entries)) gone_then o.plan.nodes in omega arith;
    gone_alone = λ one. let e = s.gone in let more = count_nodes (is_gone (disposed_in t.start.entries)) (is_gone_by o (disposed_in k.entries) before) (gone_alone one) o.plan.nodes in omega arith;
    left = all_left x x.first_left s.first;
    first = first_left x x.first_left s.first;
  }

  caused : (x : ScriptOp) (r : Reply) → Says past o t.start t.there.made.block t.end pass x r → Caused past phase pass before x r
  caused x (reply.Set n) s = tt
  caused x (reply.Got v n) s = tt
  caused x (reply.Pumped y) s = pumped_by y s
  caused x (reply.Disposal y) s = tt
  caused x (reply.Edited n v) s = tt
  caused x reply.NoRow s = s.1
  caused x (reply.Busy n) s = absurd s
  caused x (reply.Again n) s = absurd s
  caused x (reply.Disposed n) s = disposed_by_lane x n s.1 s.2
  caused x (reply.Full n) s = spent n s.above s.drawn

  some_area : (a : Option ℕ) (n : ℕ) → IsSomeAnd a (λ area. In n (area_of o area)) → (area : ℕ) × (a ≡ Some area) × In n (area_of o area)
  some_area None n i = absurd i
  some_area (Some area) n i = (area, refl, i)

  owed : Owed past phase before d.op d.reply
  owed =
      let w : Owes past o t.start d.op d.reply = subst (λ (x : Done). Owes past o t.start x.op x.reply) t.there.done t.does.owes in record {
        no_row = w.no_row;
        disposed = λ n own c. w.disposed n own (⊎_elim (λ (a : In n (disposed_before past)). inl (p.was_dead n a))
            (λ (z : DisposedHere o before n).
            let m = made_of pass t.there.front z.0 (subst (λ (u : List Done). In z.0 u) (sym t.there.earlier) z.1) in
            let area = some_area (area_in z.0.op) n z.2 in
            disposed_dead past o n area.0 area.2 just_opened t.there.front t.start m.0 t.first m.1 (ap (λ (y : Done). area_in y.op) m.2 ∙ area.1)) c);
      }

pub replies_caused : (past : List Phase) (o : Opened) (base count : ℕ) (h : List Made) (k : Going) → Follows past o just_opened h k → ByPasses count h → PastFits past o → RepliesCaused past (phase_of o base count h k)
replies_caused past o base count h k f by p = everywhere (λ pass before d later. IsCaused past (phase_of o base count h k) pass before d.op d.reply) h count
    (λ pass before d later e. let t = place past o pass h k before d later f e in record {
      only = caused past o base count pass h k before d later t f by p d.op d.reply (said past o pass h k before d later t);
      owed = owed past o base count pass h k before d later t f by p;
    })
