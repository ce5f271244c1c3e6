-- Pumps: counts, runs between the lane's sets and edits, and effects whose values stand. Changes differ.
use Rattle.std.proofs.Common.{◌≡◌, ◌⊎◌, ℕ, ◌≤◌, Bool, true, false, cond, List, [], ◌∷◌, ◌++◌, sym, refl, ap, ◌∙◌, subst, inl, inr, ⊎_elim, arith, Option, Some, None}
use Rattle.std.specs.Prelude.{◌&&◌, nat_eq, slice_get, sum_by, count_by, filter_map}
use Rattle.std.specs.List.{last_or}
use Rattle.std.specs.Option.{option_or, option_and_then}
use Rattle.std.proofs.lemmas.Bool.Decides.{nat_tests}
use Rattle.std.proofs.lemmas.List.Sums.{sum_by-append}
use Rattle.values.specs.declared.code.Code.{Code}
use Rattle.values.specs.declared.plan.Kind.TheVariants as kind
use Rattle.values.specs.declared.plan.Noted.{Noted}
use Rattle.values.specs.declared.plan.Fact.{Fact}
use Rattle.values.specs.declared.plan.Fact.TheVariants as fact
use Rattle.values.specs.declared.plan.PlanNode.{PlanNode}
use Rattle.values.specs.declared.plan.Pumped.{Pumped}
use Rattle.values.specs.Plan.{IsLawful}
use Rattle.script_items.specs.declared.operation.ScriptOp.{ScriptOp}
use Rattle.run_items.specs.declared.answer.Reply.{Reply}
use Rattle.run_items.specs.declared.answer.Reply.TheVariants as reply
use Rattle.plain_evaluation.specs.Place.{Place as PlaceOf}
use Rattle.run_meaning.specs.Words.{In}
use Rattle.run_meaning.specs.Opened.{Opened, IsKind, node_at}
use Rattle.run_meaning.specs.Lane.{Done}
use Rattle.run_meaning.specs.Entries.{fact_at, is_ran, is_void, ran_of, last_ran, disposed_in}
use Rattle.run_meaning.specs.Phase.{Phase}
use Rattle.run_meaning.specs.Merge.{IsPump, PumpsFit, RanTo, Stands, is_between, ran_in, missed_in, last_run, AllDiffer, ChangesDiffer}
use Rattle.run_history.specs.Going.{start_of, Going, just_opened, plain_code, last_value}
use Rattle.run_history.specs.Calls.{StandsNow, IsPumped}
use Rattle.run_history.specs.History.{Made, Says, Follows, phase_of, ByPasses}
use Rattle.run_history.proofs.Lists.{append_nil, append_assoc'}
use Rattle.run_history.proofs.Cut.{none_some, some_same, in_cons_option, fact_at_more, fact_of, rest_of, Place, place, said, whole_of}
use Rattle.run_history.proofs.Totals.{everywhere, over_lanes, entries_sum, entries_most, count_within}
use Rattle.run_history.proofs.Facts.{changes_no_ran, changes_no_void, disposals_no_ran, disposals_no_void}
use Rattle.run_history.proofs.Numbers.{block_between}
use Rattle.run_history.proofs.Got.{journal_then, plain_stays}
use Rattle.run_history.proofs.Disposals.{disposed_more, count_middle, lane_sum}

-- ---- the last run of a row

pub in_filter_map : {X Y : Type 0} (f : X → Option Y) (xs : List X) (y : Y) → In y (filter_map f xs) → (x : X) × In x xs × (f x ≡ Some y)
in_filter_map f [] y i = absurd i
in_filter_map f (x ∷ xs) y i = ⊎_elim (λ (e : f x ≡ Some y). (x, inl refl, e)) (λ (t : In y (filter_map f xs)). let r = in_filter_map f xs y t in (r.0, inr r.1, r.2)) (in_cons_option (f x) (filter_map f xs) y i)

last_in : {X : Type 0} (r : Option X) (xs : List X) (x : X) → last_or r xs ≡ Some x → (r ≡ Some x) ⊎ In x xs
last_in r [] x e = inl e
last_in r (y ∷ xs) x e = ⊎_elim (λ (q : Some y ≡ Some x). inr (inl (some_same y x q))) (λ (i : In x xs). inr (inr i)) (last_in (Some y) xs x e)

is_run : (n : ℕ) (f : Fact) (code : Code) → ran_of n f ≡ Some code → f ≡ fact.Ran n code
is_run n (fact.Write row c) code e = absurd (none_some code e)
is_run n (fact.Change row c) code e = absurd (none_some code e)
is_run n (fact.Ran row c) code e = elim (nat_eq n row) as (λ b. (nat_eq n row ≡ b) → cond b (Some c) None ≡ Some code → fact.Ran row c ≡ fact.Ran n code) [
  | true ↦ λ q h. let r : row ≡ n = grind (arith, nat_tests) in let s = some_same c code h in (λ i. fact.Ran (r i) (s i))
  | false ↦ λ q h. absurd (none_some code h)
] refl e
is_run n (fact.Void row) code e = absurd (none_some code e)
is_run n (fact.Disposed owner) code e = absurd (none_some code e)
is_run n (fact.Edit pass index) code e = absurd (none_some code e)

ran_entry : (es : List Noted) (n : ℕ) (code : Code) → last_ran es n ≡ Some code → (e : Noted) × In e es × (e.fact ≡ fact.Ran n code)
ran_entry es n code e = ⊎_elim (λ (z : None ≡ Some code). absurd (none_some code z))
    (λ (i : In code (filter_map (λ x. ran_of n x.fact) es)). let r = in_filter_map (λ x. ran_of n x.fact) es code i in (r.0, r.1, is_run n r.0.fact code r.2)) (last_in None (filter_map (λ x. ran_of n x.fact) es) code e)

-- ---- each reply

module _ (past : List Phase) (o : Opened) (base count pass : ℕ) (h : List Made) (k : Going) (before : List Done) (d : Done) (later : List Done) (t : Place past o pass h k before d later) (lawful : IsLawful o.plan) where
  abbrev now : List Noted
  now = t.end.entries

  ran_to : (n : ℕ) (code : Code) → last_value (start_of past o) now n ≡ Some code → RanTo past (phase_of o base count h k) n code
  ran_to n code e = by (last_ran now n) refl e
    where
      before_it : (p : Option PlaceOf) → slice_get o.places n ≡ p → option_and_then (last_run past) p ≡ Some code → RanTo past (phase_of o base count h k) n code
      before_it None q z = absurd (none_some code z)
      before_it (Some p) q z = inr (p, q, z)

      by : (r : Option Code) → last_ran now n ≡ r → option_or r (option_and_then (last_run past) (slice_get o.places n)) ≡ Some code → RanTo past (phase_of o base count h k) n code
      by None q z = before_it (slice_get o.places n) refl z
      by (Some c) q z =
          let found = ran_entry now n c q in
          let same = some_same c code z in
          let r = rest_of past o t.end t.there.back k t.rest in
          let there : fact_at found.0.number now ≡ Some (fact.Ran n code) = fact_of 0 now found.0 (journal_then past o pass h k before d later t).in_order found.1 ∙ (ap (λ (f : Fact). Some f) found.2 ∙ ap (λ (x : Code). Some (fact.Ran n x)) same) in
          inl (found.0.number, subst (λ (u : List Noted). fact_at found.0.number u ≡ Some (fact.Ran n code)) (sym r.1) (fact_at_more found.0.number now r.0 (fact.Ran n code) there))

  stands : (n : ℕ) → IsKind o n kind.Effect → StandsNow (start_of past o) now n → Stands past (phase_of o base count h k) before n
  stands n is s = ⊎_elim
      (λ (x : (node : PlanNode) × (node_at o n ≡ Some node) × In node.owner (disposed_in now)). let r = rest_of past o t.end t.there.back k t.rest in inl (x.0, x.1, subst (λ (u : List Noted). In x.0.owner (disposed_in u)) (sym r.1) (disposed_more now r.0 x.0.owner x.2)))
      (λ (e : last_value (start_of past o) now n ≡ Some (plain_code (start_of past o) now n)). inr (plain_code (start_of past o) now n, ran_to n (plain_code (start_of past o) now n) e, plain_stays past o pass h k before d later t lawful n is.0 is.1)) s

  -- its runs lie between the lane's sets and edits
  runs_between : (x : Pumped) → IsPumped (start_of past o) t.start t.there.made.block t.end x → x.ran ≤ count_by (λ e. is_ran e && is_between before later e.number) k.entries
  runs_between x s =
      let w = whole_of past o pass h k before d later t in
      let block : List Noted = t.there.made.block in
      let test : Noted → Bool = λ e. is_ran e && is_between before later e.number in
      let most : count_by is_ran block ≤ count_by test block = count_within is_ran test block (λ e i r. let between = block_between past o pass h k before d later t e i in (λ j. r j && between j)) in
      let mid = count_middle test t.start.entries block w.0 in
      let same : count_by test k.entries ≡ count_by test ((t.start.entries ++ block) ++ w.0) = ap (count_by test) w.1 in
      let ran = s.ran in omega arith

  is_pump_of : (r : Reply) → Says past o t.start t.there.made.block t.end pass d.op r → IsPump past (phase_of o base count h k) before later r
  is_pump_of (reply.Pumped x) s = (s.counts, runs_between x s, (s.stand.0, s.stand.1, λ n is. ⊎_elim (λ (a : In n s.stand.0). inl a) (λ (b : StandsNow (start_of past o) now n). inr (stands n is b)) (s.stand.2 n is)))
  is_pump_of (reply.Set n) s = tt
  is_pump_of (reply.Edited n w) s = tt
  is_pump_of (reply.Got x n) s = tt
  is_pump_of (reply.Disposal x) s = tt
  is_pump_of reply.NoRow s = tt
  is_pump_of (reply.Busy x) s = tt
  is_pump_of (reply.Again x) s = tt
  is_pump_of (reply.Disposed x) s = tt
  is_pump_of (reply.Full x) s = tt

-- ---- sums

module _ (past : List Phase) (o : Opened) (g : Going) (block : List Noted) (h : Going) (pass : ℕ) (x : ScriptOp) where
  ran_here : (r : Reply) → Says past o g block h pass x r → count_by is_ran block ≡ ran_in r
  ran_here (reply.Set n) s = ap (count_by is_ran) s.4.block_is
  ran_here (reply.Edited n v) s = ap (count_by is_ran) s.block_is
  ran_here (reply.Got v n) s = changes_no_ran block s.2.changes
  ran_here (reply.Pumped y) s = s.ran
  ran_here (reply.Disposal y) s = disposals_no_ran block s.2.disposals
  ran_here reply.NoRow s = ap (count_by is_ran) s.0.0
  ran_here (reply.Busy n) s = absurd s
  ran_here (reply.Again n) s = absurd s
  ran_here (reply.Disposed n) s = ap (count_by is_ran) s.0.0
  ran_here (reply.Full n) s = changes_no_ran block s.changes

  void_here : (r : Reply) → Says past o g block h pass x r → count_by is_void block ≤ missed_in r
  void_here (reply.Set n) s = let z : count_by is_void block ≡ 0 = ap (count_by is_void) s.4.block_is in omega arith
  void_here (reply.Edited n v) s = let z : count_by is_void block ≡ 0 = ap (count_by is_void) s.block_is in omega arith
  void_here (reply.Got v n) s = let z = changes_no_void block s.2.changes in omega arith
  void_here (reply.Pumped y) s = s.void
  void_here (reply.Disposal y) s = let z = disposals_no_void block s.2.disposals in omega arith
  void_here reply.NoRow s = let z : count_by is_void block ≡ 0 = ap (count_by is_void) s.0.0 in omega arith
  void_here (reply.Busy n) s = absurd s
  void_here (reply.Again n) s = absurd s
  void_here (reply.Disposed n) s = let z : count_by is_void block ≡ 0 = ap (count_by is_void) s.0.0 in omega arith
  void_here (reply.Full n) s = let z = changes_no_void block s.changes in omega arith

pub pumps_fit : (past : List Phase) (o : Opened) (base count : ℕ) (h : List Made) (k : Going) → Follows past o just_opened h k → ByPasses count h → IsLawful o.plan → PumpsFit past (phase_of o base count h k)
pumps_fit past o base count h k f by lawful = record {
  each = everywhere (λ pass before d later. IsPump past (phase_of o base count h k) before later d.reply) h count (λ pass before d later e. let t = place past o pass h k before d later f e in is_pump_of past o base count pass h k before d later t lawful d.reply (said past o pass h k before d later t));
  sum = let a = entries_sum (count_by is_ran) (λ xs ys. sum_by-append (λ (e : Noted). cond (is_ran e) 1 0) xs ys) past o (λ d. ran_in d.reply) (λ g m b d. ran_here past o g m.block b m.pass m.done.op m.done.reply d.says) just_opened h k f in
      let b = over_lanes (sum_by (λ d. ran_in d.reply)) (λ d. ran_in d.reply) refl (λ d ds. lane_sum (λ d. ran_in d.reply) d ds) count h by in omega arith;
  void = let a = entries_most (count_by is_void) (λ xs ys. sum_by-append (λ (e : Noted). cond (is_void e) 1 0) xs ys) past o (λ d. missed_in d.reply) (λ g m b d. void_here past o g m.block b m.pass m.done.op m.done.reply d.says) just_opened h k f in
      let b = over_lanes (sum_by (λ d. missed_in d.reply)) (λ d. missed_in d.reply) refl (λ d ds. lane_sum (λ d. missed_in d.reply) d ds) count h by in omega arith;
}

-- ---- changes

pub differ_append : (o : Opened) (before xs ys : List Noted) → AllDiffer o before xs → AllDiffer o (before ++ xs) ys → AllDiffer o before (xs ++ ys)
differ_append o before [] ys a b = subst (λ (t : List Noted). AllDiffer o t ys) (append_nil before) b
differ_append o before (x ∷ xs) ys a b = (a.0, differ_append o (before ++ x ∷ []) xs ys a.1 (subst (λ (t : List Noted). AllDiffer o t ys) (sym (append_assoc' before (x ∷ []) xs)) b))

differ_all : (past : List Phase) (o : Opened) (g : Going) (ms : List Made) (k : Going) → Follows past o g ms k → AllDiffer o [] g.entries → AllDiffer o [] k.entries
differ_all past o g [] k f a = subst (λ (x : Going). AllDiffer o [] x.entries) f a
differ_all past o g (m ∷ ms) k f a = differ_all past o f.0 ms k f.2 (subst (λ (t : List Noted). AllDiffer o [] t) (sym f.1.goes.entries) (differ_append o [] g.entries m.block a f.1.goes.differ))

pub changes_differ : (past : List Phase) (o : Opened) (base count : ℕ) (h : List Made) (k : Going) → Follows past o just_opened h k → ChangesDiffer (phase_of o base count h k)
changes_differ past o base count h k f = differ_all past o just_opened h k f tt
