-- One caller after another is never refused for another's sake, and nothing is full while numbers are left.
use Rattle.std.proofs.Common.{◌≡◌, ◌⊎◌, ℕ, zero, suc, ◌+◌, ◌<◌, ◌≤◌, true, false, cond, List, [], ◌∷◌, sym, refl, ap, ◌∙◌, subst, inl, inr, ⊎_elim, arith, Option, Some, None}
use Rattle.std.specs.Prelude.{MatchOption, max, nat_eq, map, sum_by, replicate}
use Rattle.std.specs.List.{range_with_len}
use Rattle.std.proofs.lemmas.Bool.{true≢false}
use Rattle.std.proofs.lemmas.List.{length-replicate}
use Rattle.std.proofs.lemmas.List.Sums.{sum_by-cons}
use Rattle.values.specs.declared.plan.Kind.TheVariants as kind
use Rattle.values.specs.declared.plan.Left.{Left}
use Rattle.values.specs.declared.plan.Left.TheVariants as left
use Rattle.values.specs.declared.plan.Noted.{Noted}
use Rattle.script_items.specs.declared.operation.ScriptOp.{ScriptOp}
use Rattle.run_items.specs.declared.answer.Reply.{Reply}
use Rattle.run_items.specs.declared.answer.Reply.TheVariants as reply
use Rattle.run_items.specs.declared.limits.TheConstants.{LAST_NUMBER}
use Rattle.run_items.specs.Journal.{PassCounts}
use Rattle.run_meaning.specs.Words.{In}
use Rattle.run_meaning.specs.Opened.{Opened, IsKind}
use Rattle.run_meaning.specs.Lane.{Done}
use Rattle.run_meaning.specs.Entries.{fact_at}
use Rattle.run_meaning.specs.Phase.{Phase, IsJournal, entry_numbers}
use Rattle.run_meaning.specs.Causes.{busy_in, again_in, left_in, refused_in, LaneCounted, EachCounted, RefusalsCounted}
use Rattle.run_history.specs.Going.{Going, just_opened}
use Rattle.run_history.specs.Calls.{LeftFull}
use Rattle.run_history.specs.History.{Made, Says, Does, Follows, done_by, phase_of}
use Rattle.run_history.proofs.Journal.{journal_of_history}
use Rattle.run_history.proofs.Cut.{is_yes, none_some, drawn_more}
use Rattle.run_history.proofs.Causes.{length_lanes}

-- ---- what holds of each operation of a history

-- where it was made
made_at : (past : List Phase) (o : Opened) (g : Going) (ms : List Made) (k : Going) → Follows past o g ms k → (m : Made) → In m ms → (a : Going) × (b : Going) × Does past o a m b × (b.drawn ≤ k.drawn)
made_at past o g [] k f m i = absurd i
made_at past o g (x ∷ ms) k f m i = ⊎_elim
    (λ (q : x ≡ m). (g, f.0, subst (λ (y : Made). Does past o g y f.0) q f.1, drawn_more past o f.0 ms k f.2))
    (λ (t : In m ms). made_at past o f.0 ms k f.2 m t) i

-- a sum over a lane is 0 where it is at each operation of the history
lane_zero : (F : Done → ℕ) (pass : ℕ) (h : List Made) → ((m : Made) → In m h → F m.done ≡ 0) → sum_by F (done_by pass h) ≡ 0
lane_zero F pass [] all = refl
lane_zero F pass (m ∷ h) all = let i = lane_zero F pass h (λ x j. all x (inr j)) in elim (nat_eq pass m.pass) as (λ b. sum_by F (cond b (m.done ∷ done_by pass h) (done_by pass h)) ≡ 0) [
  | true ↦ (let c = sum_by-cons F m.done (done_by pass h) in let z = all m (inl refl) in omega arith)
  | false ↦ i
]

-- ---- no refusals

never_busy : (past : List Phase) (o : Opened) (g : Going) (block : List Noted) (h : Going) (pass : ℕ) (x : ScriptOp) (r : Reply) → Says past o g block h pass x r → busy_in r ≡ 0
never_busy past o g block h pass x (reply.Set n) s = refl
never_busy past o g block h pass x (reply.Got v n) s = refl
never_busy past o g block h pass x (reply.Pumped y) s = refl
never_busy past o g block h pass x (reply.Disposal y) s = refl
never_busy past o g block h pass x (reply.Edited n v) s = refl
never_busy past o g block h pass x reply.NoRow s = refl
never_busy past o g block h pass x (reply.Busy n) s = absurd s
never_busy past o g block h pass x (reply.Again n) s = refl
never_busy past o g block h pass x (reply.Disposed n) s = refl
never_busy past o g block h pass x (reply.Full n) s = refl

never_again : (past : List Phase) (o : Opened) (g : Going) (block : List Noted) (h : Going) (pass : ℕ) (x : ScriptOp) (r : Reply) → Says past o g block h pass x r → again_in r ≡ 0
never_again past o g block h pass x (reply.Set n) s = refl
never_again past o g block h pass x (reply.Got v n) s = refl
never_again past o g block h pass x (reply.Pumped y) s = refl
never_again past o g block h pass x (reply.Disposal y) s = refl
never_again past o g block h pass x (reply.Edited n v) s = refl
never_again past o g block h pass x reply.NoRow s = refl
never_again past o g block h pass x (reply.Busy n) s = refl
never_again past o g block h pass x (reply.Again n) s = absurd s
never_again past o g block h pass x (reply.Disposed n) s = refl
never_again past o g block h pass x (reply.Full n) s = refl

pub is_full : (why : Left) (drawn : ℕ) → LeftFull why drawn → LAST_NUMBER < drawn
is_full (left.Busy n) drawn s = absurd s
is_full (left.Again n) drawn s = absurd s
is_full (left.Full n) drawn s = let a = s.0 in let b = s.1 in omega arith

-- an effect is left only where all numbers were drawn
left_full : (past : List Phase) (o : Opened) (g : Going) (block : List Noted) (h : Going) (pass : ℕ) (x : ScriptOp) (r : Reply) → Says past o g block h pass x r → (left_in r ≡ 0) ⊎ (LAST_NUMBER < h.drawn)
left_full past o g block h pass x (reply.Set n) s = inl refl
left_full past o g block h pass x (reply.Got v n) s = inl refl
left_full past o g block h pass x (reply.Pumped y) s = by y.first_left s.first
  where
    by : (r : Option (ℕ × Left)) → MatchOption r (y.left ≡ 0) (λ f. (0 < y.left) × IsKind o f.0 kind.Effect × LeftFull f.1 h.drawn) → (y.left ≡ 0) ⊎ (LAST_NUMBER < h.drawn)
    by None m = inl m
    by (Some f) m = inr (is_full f.1 h.drawn m.2)
left_full past o g block h pass x (reply.Disposal y) s = inl refl
left_full past o g block h pass x (reply.Edited n v) s = inl refl
left_full past o g block h pass x reply.NoRow s = inl refl
left_full past o g block h pass x (reply.Busy n) s = inl refl
left_full past o g block h pass x (reply.Again n) s = inl refl
left_full past o g block h pass x (reply.Disposed n) s = inl refl
left_full past o g block h pass x (reply.Full n) s = inl refl

none_noted : (n : ℕ) (es : List Noted) → In n (entry_numbers es) → fact_at n es ≡ None → ⊥
none_noted n [] i e = absurd i
none_noted n (x ∷ es) i e = elim (nat_eq n x.number) as (λ b. (nat_eq n x.number ≡ b) → cond b (Some x.fact) (fact_at n es) ≡ None → ⊥) [
  | true ↦ λ q h. none_some x.fact (sym h)
  | false ↦ λ q h. ⊎_elim (λ (s : x.number ≡ n). true≢false (sym (is_yes n x.number (sym s)) ∙ q)) (λ (t : In n (entry_numbers es)). none_noted n es t h) i
] refl e

module _ (past : List Phase) (o : Opened) (base count : ℕ) (h : List Made) (k : Going) (f : Follows past o just_opened h k) where
  lane_counted : (pass : ℕ) → LaneCounted (phase_of o base count h k) (record { meets = 0; remarks = 0 }) (done_by pass h)
  lane_counted pass = record {
    busy = inl (let z = lane_zero (λ d. busy_in d.reply) pass h (λ m i. let p = made_at past o just_opened h k f m i in never_busy past o p.0 m.block p.1 m.pass m.done.op m.done.reply p.2.says) in omega arith);
    again = inl (let z = lane_zero (λ d. again_in d.reply) pass h (λ m i. let p = made_at past o just_opened h k f m i in never_again past o p.0 m.block p.1 m.pass m.done.op m.done.reply p.2.says) in omega arith);
    together = λ none. inl (let z = lane_zero (λ d. refused_in d.reply) pass h (λ m i.
        let p = made_at past o just_opened h k f m i in
        let a = never_busy past o p.0 m.block p.1 m.pass m.done.op m.done.reply p.2.says in
        let b = never_again past o p.0 m.block p.1 m.pass m.done.op m.done.reply p.2.says in
        let most = p.3 in
        ⊎_elim (λ (c : left_in m.done.reply ≡ 0). let s : refused_in m.done.reply ≡ 0 = omega arith in s)
        (λ (c : LAST_NUMBER < p.1.drawn). let j : IsJournal o k.drawn k.entries = journal_of_history past o h k f in absurd (none_noted LAST_NUMBER k.entries (j.complete LAST_NUMBER (omega arith) (omega arith)) none))
        (left_full past o p.0 m.block p.1 m.pass m.done.op m.done.reply p.2.says)) in omega arith);
  }

  each_counted : (a n m : ℕ) → n ≤ m → EachCounted (phase_of o base count h k) (replicate m (record { meets = 0; remarks = 0 })) (map (λ pass. done_by pass h) (range_with_len a n))
  each_counted a zero zero l = tt
  each_counted a zero (suc m) l = tt
  each_counted a (suc n) zero l = absurd (omega arith)
  each_counted a (suc n) (suc m) l = (lane_counted a, each_counted (a + 1) n m (omega arith))

  pub refusals_counted : RefusalsCounted (phase_of o base count h k)
  refusals_counted = record {
    passes = let a = length-replicate (max 1 count) (let c : PassCounts = record { meets = 0; remarks = 0 } in c) in let b = length_lanes h 1 count in a ∙ ap (λ (n : ℕ). max 1 n) (sym b);
    each = each_counted 1 count (max 1 count) (omega arith);
  }
