-- The numbers of a lane's sets and edits, and what is noted under them.
use Rattle.std.proofs.Common.{◌≡◌, ℕ, zero, suc, ◌+◌, ◌<◌, ◌≤◌, Bool, true, false, cond, List, [], ◌∷◌, ◌++◌, length, sym, refl, ap, ◌∙◌, subst, inl, inr, ⊎_elim, arith, Option, Some, None}
use Rattle.std.specs.Prelude.{◌&&◌, nat_eq, nat_lt, map}
use Rattle.std.specs.List.{AllByRecursion, list_all, cons_option, range_with_len}
use Rattle.std.proofs.lemmas.Bool.{true≢false}
use Rattle.std.proofs.lemmas.Bool.Decides.{nat_tests}
use Rattle.std.proofs.lemmas.List.Sums.{sum_by-cons, sum_by-append}
use Rattle.std.proofs.lemmas.List.Elements.{filter_map-append}
use Rattle.values.specs.declared.plan.Noted.{Noted}
use Rattle.values.specs.declared.plan.Fact.{Fact}
use Rattle.values.specs.declared.plan.Fact.TheVariants as fact
use Rattle.store_fields.specs.declared.edit.Edit.{Edit}
use Rattle.store_fields.specs.declared.edit.Verdict.{Verdict}
use Rattle.script_items.specs.declared.operation.ScriptOp.{ScriptOp}
use Rattle.script_items.specs.declared.operation.ScriptOp.TheVariants as op
use Rattle.run_items.specs.declared.answer.Reply.{Reply}
use Rattle.run_items.specs.declared.answer.Reply.TheVariants as reply
use Rattle.run_meaning.specs.Words.{In, GrowsFrom, times}
use Rattle.run_meaning.specs.Opened.{Opened}
use Rattle.run_meaning.specs.Lane.{Done, number_in, numbers, set_row, set_number, if_of, sets_of, edits_in, accepted, edit_number}
use Rattle.run_meaning.specs.Entries.{fact_at, own_number, own_numbers}
use Rattle.run_meaning.specs.Phase.{Phase, IsJournal, entry_numbers}
use Rattle.run_meaning.specs.Merge.{Answered, NotedAs, NotedInOrder, NotedOnce, is_answer, is_between}
use Rattle.run_history.specs.Going.{Going, just_opened, note, Numbered, write_of, writes_of, is_edit_by, edits_by}
use Rattle.run_history.specs.History.{Made, Says, Does, Follows, done_by, phase_of, ByPasses, VerdictFits, VerdictsFit}
use Rattle.run_history.proofs.Lists.{in_left, in_right, grows_weak, grows_above, append_assoc'}
use Rattle.run_history.proofs.Journal.{numbered_least, numbered_grows, numbered_within, all_more, nothing_yet}
use Rattle.run_history.proofs.Cut.{none_some, some_same, in_cons_option, in_option_here, number_of, fact_here, fact_skip, rest_of, drawn_more, Place, place, said, whole_of}
use Rattle.run_history.proofs.Totals.{everywhere_from, over_lanes, entries_sum}
use Rattle.run_history.proofs.Facts.{own_here, changes_no_edit, pumps_no_edit, disposals_no_edit}

-- ---- one: each operation has an answer of its kind

answered_lane : (past : List Phase) (o : Opened) (pass : ℕ) (g : Going) (ms : List Made) (k : Going) → Follows past o g ms k → list_all (λ d. is_answer d.op d.reply) (done_by pass ms) ≡ true
answered_lane past o pass g [] k f = refl
answered_lane past o pass g (m ∷ ms) k f = let i = answered_lane past o pass f.0 ms k f.2 in elim (nat_eq pass m.pass) as (λ b. list_all (λ d. is_answer d.op d.reply) (cond b (m.done ∷ done_by pass ms) (done_by pass ms)) ≡ true) [
  | true ↦ (λ j. f.1.answers j && i j)
  | false ↦ i
]

all_lanes : (test : List Done → Bool) (h : List Made) → ((pass : ℕ) → test (done_by pass h) ≡ true) → (a n : ℕ) → list_all test (map (λ pass. done_by pass h) (range_with_len a n)) ≡ true
all_lanes test h all a zero = refl
all_lanes test h all a (suc n) = (λ j. all a j && all_lanes test h all (a + 1) n j)

pub answered : (past : List Phase) (o : Opened) (base count : ℕ) (h : List Made) (k : Going) → Follows past o just_opened h k → Answered (phase_of o base count h k)
answered past o base count h k f = all_lanes (list_all (λ d. is_answer d.op d.reply)) h (λ pass. answered_lane past o pass just_opened h k f) 1 count

-- ---- two: numbers grow along a lane

-- an accepted set or edit notes its number alone
module _ (past : List Phase) (o : Opened) (g : Going) (block : List Noted) (h : Going) (pass : ℕ) (x : ScriptOp) where
  noted_here : (r : Reply) (n : ℕ) → number_in r ≡ Some n → Says past o g block h pass x r → (f : Fact) × (block ≡ note n f ∷ [])
  noted_here (reply.Set m) n e s = (fact.Write s.0 s.1, s.4.block_is ∙ ap (λ (k : ℕ). note k (fact.Write s.0 s.1) ∷ []) (some_same m n e))
  noted_here (reply.Edited m v) n e s = (_, s.block_is ∙ ap (λ (k : ℕ). note k (fact.Edit pass (edits_by pass g.entries)) ∷ []) (some_same m n e))
  noted_here (reply.Got v m) n e s = absurd (none_some n e)
  noted_here (reply.Pumped y) n e s = absurd (none_some n e)
  noted_here (reply.Disposal y) n e s = absurd (none_some n e)
  noted_here reply.NoRow n e s = absurd (none_some n e)
  noted_here (reply.Busy y) n e s = absurd (none_some n e)
  noted_here (reply.Again y) n e s = absurd (none_some n e)
  noted_here (reply.Disposed y) n e s = absurd (none_some n e)
  noted_here (reply.Full y) n e s = absurd (none_some n e)

number_here : (past : List Phase) (o : Opened) (g : Going) (m : Made) (h : Going) (n : ℕ) → Does past o g m h → number_in m.done.reply ≡ Some n → (g.drawn < n) × (n ≤ h.drawn)
number_here past o g m h n d e =
    let f = noted_here past o g m.block h m.pass m.done.op m.done.reply n e d.says in
    let num : Numbered g.drawn (note n f.0 ∷ []) h.drawn = subst (λ (b : List Noted). Numbered g.drawn b h.drawn) f.1 d.goes.numbered in (num.0, num.3.0)

-- the numbers of a lane's sets and edits, between the counts drawn before and after
pub numbers_between : (past : List Phase) (o : Opened) (pass : ℕ) (g : Going) (ms : List Made) (k : Going) → Follows past o g ms k → (n : ℕ) → In n (numbers (done_by pass ms)) → (g.drawn < n) × (n ≤ k.drawn)
numbers_between past o pass g [] k f n i = absurd i
numbers_between past o pass g (m ∷ ms) k f n i =
    let least = numbered_least g.drawn m.block f.0.drawn f.1.goes.numbered in
    let most = drawn_more past o f.0 ms k f.2 in
    let later : In n (numbers (done_by pass ms)) → (g.drawn < n) × (n ≤ k.drawn) = λ t. let r = numbers_between past o pass f.0 ms k f.2 n t in (omega arith, r.1) in
    elim (nat_eq pass m.pass) as (λ b. In n (numbers (cond b (m.done ∷ done_by pass ms) (done_by pass ms))) → (g.drawn < n) × (n ≤ k.drawn)) [
      | true ↦ λ t. ⊎_elim (λ (e : number_in m.done.reply ≡ Some n). let r = number_here past o g m f.0 n f.1 e in (r.0, omega arith)) later (in_cons_option (number_in m.done.reply) (numbers (done_by pass ms)) n t)
      | false ↦ later
    ] i

grows_lane : (past : List Phase) (o : Opened) (pass : ℕ) (g : Going) (ms : List Made) (k : Going) → Follows past o g ms k → GrowsFrom g.drawn (numbers (done_by pass ms))
grows_lane past o pass g [] k f = tt
grows_lane past o pass g (m ∷ ms) k f =
    let least = numbered_least g.drawn m.block f.0.drawn f.1.goes.numbered in
    let later : GrowsFrom f.0.drawn (numbers (done_by pass ms)) = grows_lane past o pass f.0 ms k f.2 in
    elim (nat_eq pass m.pass) as (λ b. GrowsFrom g.drawn (numbers (cond b (m.done ∷ done_by pass ms) (done_by pass ms)))) [
      | true ↦ one (number_in m.done.reply) refl later
      | false ↦ grows_weak g.drawn f.0.drawn (numbers (done_by pass ms)) least later
    ]
  where
    one : (r : Option ℕ) → number_in m.done.reply ≡ r → GrowsFrom f.0.drawn (numbers (done_by pass ms)) → GrowsFrom g.drawn (cons_option r (numbers (done_by pass ms)))
    one None e later = grows_weak g.drawn f.0.drawn (numbers (done_by pass ms)) (numbered_least g.drawn m.block f.0.drawn f.1.goes.numbered) later
    one (Some n) e later =
        let f' = noted_here past o g m.block f.0 m.pass m.done.op m.done.reply n e f.1.says in
        let num : Numbered g.drawn (note n f'.0 ∷ []) f.0.drawn = subst (λ (b : List Noted). Numbered g.drawn b f.0.drawn) f'.1 f.1.goes.numbered in
        (num.0, grows_weak n f.0.drawn (numbers (done_by pass ms)) num.3.0 later)

each_of : (P : List Done → Type 0) (h : List Made) → ((pass : ℕ) → P (done_by pass h)) → (a n : ℕ) → AllByRecursion P (map (λ pass. done_by pass h) (range_with_len a n))
each_of P h all a zero = tt
each_of P h all a (suc n) = (all a, each_of P h all (a + 1) n)

-- ---- two: edits are counted by pass

edited_is : (x : ScriptOp) (n : ℕ) (v : Verdict) → is_answer x (reply.Edited n v) ≡ true → length (cons_option (accepted x (Some n)) []) ≡ 1
edited_is (op.Set i k c) n v e = absurd (true≢false (sym e))
edited_is (op.Get i k) n v e = absurd (true≢false (sym e))
edited_is op.Pump n v e = absurd (true≢false (sym e))
edited_is (op.Dispose o) n v e = absurd (true≢false (sym e))
edited_is (op.Change x) n v e = refl

no_edits : (b : Bool) (x : ScriptOp) → cond b (length (cons_option (accepted x None) [])) 0 ≡ 0
no_edits true x = refl
no_edits false x = refl

-- the edits that an operation notes, of a pass: one, where it is this pass's accepted edit
module _ (past : List Phase) (o : Opened) (g : Going) (block : List Noted) (h : Going) (by pass : ℕ) (x : ScriptOp) where
  edit_here : (r : Reply) → is_answer x r ≡ true → Says past o g block h by x r → edits_by pass block ≡ cond (nat_eq pass by) (length (cons_option (accepted x (edit_number r)) [])) 0
  edit_here (reply.Set n) a s = ap (edits_by pass) s.4.block_is ∙ sym (no_edits (nat_eq pass by) x)
  edit_here (reply.Edited n v) a s = ap (edits_by pass) s.block_is ∙ one (nat_eq pass by)
    where
      one : (b : Bool) → 0 + cond b 1 0 ≡ cond b (length (cons_option (accepted x (Some n)) [])) 0
      one true = sym (edited_is x n v a)
      one false = refl
  edit_here (reply.Got v n) a s = changes_no_edit pass block s.2.changes ∙ sym (no_edits (nat_eq pass by) x)
  edit_here (reply.Pumped y) a s = pumps_no_edit pass block s.of_pump ∙ sym (no_edits (nat_eq pass by) x)
  edit_here (reply.Disposal y) a s = disposals_no_edit pass block s.2.disposals ∙ sym (no_edits (nat_eq pass by) x)
  edit_here reply.NoRow a s = ap (edits_by pass) s.0.0 ∙ sym (no_edits (nat_eq pass by) x)
  edit_here (reply.Busy n) a s = absurd s
  edit_here (reply.Again n) a s = absurd s
  edit_here (reply.Disposed n) a s = ap (edits_by pass) s.0.0 ∙ sym (no_edits (nat_eq pass by) x)
  edit_here (reply.Full n) a s = changes_no_edit pass block s.changes ∙ sym (no_edits (nat_eq pass by) x)

length_option : {A : Type 0} (r : Option A) (xs : List A) → length (cons_option r xs) ≡ length (cons_option r []) + length xs
length_option None xs = omega arith
length_option (Some x) xs = omega arith

edits_lane : (past : List Phase) (o : Opened) (pass : ℕ) (g : Going) (ms : List Made) (k : Going) → Follows past o g ms k → edits_by pass k.entries ≡ edits_by pass g.entries + length (edits_in (done_by pass ms))
edits_lane past o pass g [] k f = let e : edits_by pass g.entries ≡ edits_by pass k.entries = ap (λ (x : Going). edits_by pass x.entries) f in omega arith
edits_lane past o pass g (m ∷ ms) k f =
    let i = edits_lane past o pass f.0 ms k f.2 in
    let e : edits_by pass f.0.entries ≡ edits_by pass (g.entries ++ m.block) = ap (edits_by pass) f.1.goes.entries in
    let a : edits_by pass (g.entries ++ m.block) ≡ edits_by pass g.entries + edits_by pass m.block = sum_by-append (λ (x : Noted). cond (is_edit_by pass x.fact) 1 0) g.entries m.block in
    let b = edit_here past o g m.block f.0 m.pass pass m.done.op m.done.reply f.1.answers f.1.says in
    let r : Option Edit = accepted m.done.op (edit_number m.done.reply) in
    let c : length (edits_in (done_by pass (m ∷ ms))) ≡ cond (nat_eq pass m.pass) (length (cons_option r [])) 0 + length (edits_in (done_by pass ms)) = lane (nat_eq pass m.pass) in
    omega arith
  where
    lane : (b : Bool) → length (edits_in (cond b (m.done ∷ done_by pass ms) (done_by pass ms))) ≡ cond b (length (cons_option (accepted m.done.op (edit_number m.done.reply)) [])) 0 + length (edits_in (done_by pass ms))
    lane true = length_option (accepted m.done.op (edit_number m.done.reply)) (edits_in (done_by pass ms))
    lane false = omega arith

-- ---- two: what is noted of a set or an edit

module _ (past : List Phase) (o : Opened) (base count pass : ℕ) (h : List Made) (k : Going) (before : List Done) (d : Done) (later : List Done) (t : Place past o pass h k before d later) where
  -- the fact that is noted alone stands under its number
  noted_at : (n : ℕ) (x : Fact) → t.there.made.block ≡ note n x ∷ [] → fact_at n k.entries ≡ Some x
  noted_at n x e =
      let w = whole_of past o pass h k before d later t in
      let a : Going = t.start in
      let num : Numbered a.drawn (note n x ∷ []) t.end.drawn = subst (λ (b : List Noted). Numbered a.drawn b t.end.drawn) e t.does.goes.numbered in
      let j : IsJournal o a.drawn a.entries = all_more past o just_opened t.there.front a t.first (nothing_yet o) in
      ap (fact_at n) (w.1 ∙ (ap (λ (b : List Noted). (a.entries ++ b) ++ w.0) e ∙ append_assoc' a.entries (note n x ∷ []) w.0))
      ∙ (fact_skip n a.entries ((note n x ∷ []) ++ w.0) (λ i. let l = j.drawn_all n i in let m = num.0 in omega arith) ∙ fact_here n x w.0)

  -- of an accepted edit, the edit of the place behind the lane's earlier ones
  edit_of_place : (n : ℕ) (v : Verdict) → Says past o t.start t.there.made.block t.end pass d.op (reply.Edited n v) → fact_at n k.entries ≡ Some (fact.Edit pass (length (edits_in before)))
  edit_of_place n v s =
      let all : edits_by pass t.start.entries ≡ 0 + length (edits_in (done_by pass t.there.front)) = edits_lane past o pass just_opened t.there.front t.start t.first in
      let some : length (edits_in (done_by pass t.there.front)) ≡ length (edits_in before) = ap (λ (x : List Done). length (edits_in x)) t.there.earlier in
      let index : edits_by pass t.start.entries ≡ length (edits_in before) = omega arith in
      noted_at n (fact.Edit pass (edits_by pass t.start.entries)) s.block_is ∙ ap (λ (i : ℕ). Some (fact.Edit pass i)) index

  pub edit_noted : (n : ℕ) (v : Verdict) → d.reply ≡ reply.Edited n v → fact_at n k.entries ≡ Some (fact.Edit pass (length (edits_in before)))
  edit_noted n v e = edit_of_place n v (subst (λ (r : Reply). Says past o t.start t.there.made.block t.end pass d.op r) e (said past o pass h k before d later t))

  noted_as : (r : Reply) → VerdictFits (phase_of o base count h k) r → Says past o t.start t.there.made.block t.end pass d.op r → NotedAs (phase_of o base count h k) pass before d.op r
  noted_as (reply.Set n) v s = (s.0, s.1, s.2, s.3, noted_at n (fact.Write s.0 s.1) s.4.block_is)
  noted_as (reply.Edited n w) v s = (edit_of_place n w s, v)
  noted_as (reply.Got x n) v s = tt
  noted_as (reply.Disposal x) v s = tt
  noted_as (reply.Pumped x) v s = tt
  noted_as reply.NoRow v s = tt
  noted_as (reply.Busy x) v s = tt
  noted_as (reply.Again x) v s = tt
  noted_as (reply.Disposed x) v s = tt
  noted_as (reply.Full x) v s = tt

pub noted_in_order : (past : List Phase) (o : Opened) (base count : ℕ) (h : List Made) (k : Going) → Follows past o just_opened h k → VerdictsFit (phase_of o base count h k) → NotedInOrder (phase_of o base count h k)
noted_in_order past o base count h k f v = record {
  grow = each_of (λ lane. GrowsFrom 0 (numbers lane)) h (λ pass. grows_lane past o pass just_opened h k f) 1 count;
  noted = everywhere_from h (λ pass before d later. VerdictFits (phase_of o base count h k) d.reply) (λ pass before d later. NotedAs (phase_of o base count h k) pass before d.op d.reply)
      (λ pass before d later e v'. let t = place past o pass h k before d later f e in noted_as past o base count pass h k before d later t d.reply v' (said past o pass h k before d later t)) count v;
}

-- ---- three: each own number once

times_append : (n : ℕ) (xs ys : List ℕ) → times n (xs ++ ys) ≡ times n xs + times n ys
times_append n xs ys = sum_by-append (λ (x : ℕ). cond (nat_eq n x) 1 0) xs ys

times_option : (n : ℕ) (r : Option ℕ) (xs : List ℕ) → times n (cons_option r xs) ≡ times n (cons_option r []) + times n xs
times_option n None xs = omega arith
times_option n (Some m) xs = let a = sum_by-cons (λ (x : ℕ). cond (nat_eq n x) 1 0) m xs in let b = sum_by-cons (λ (x : ℕ). cond (nat_eq n x) 1 0) m [] in omega arith

pub noted_once : (past : List Phase) (o : Opened) (base count : ℕ) (h : List Made) (k : Going) → Follows past o just_opened h k → ByPasses count h → NotedOnce (phase_of o base count h k)
noted_once past o base count h k f by n =
    let total = entries_sum (λ es. times n (own_numbers es)) (λ xs ys. ap (times n) (filter_map-append own_number xs ys) ∙ times_append n (own_numbers xs) (own_numbers ys)) past o (λ d. times n (cons_option (number_in d.reply) []))
    (λ g m b d. ap (times n) (own_here past o g m.block b m.pass m.done.op m.done.reply d.says)) just_opened h k f in
    let lanes = over_lanes (λ lane. times n (numbers lane)) (λ d. times n (cons_option (number_in d.reply) [])) refl (λ d ds. times_option n (number_in d.reply) (numbers ds)) count h by in
    omega arith

-- ---- own writes are among the writes

cond_none : (b : Bool) (j : ℕ) → cond b None None ≡ Some j → ⊥
cond_none true j e = none_some j e
cond_none false j e = none_some j e

no_number : (n : ℕ) (s : Option ℕ) (j : ℕ) → if_of n s None ≡ Some j → ⊥
no_number n None j e = none_some j e
no_number n (Some m) j e = cond_none (nat_eq n m) j e

module _ (past : List Phase) (o : Opened) (g : Going) (block : List Noted) (h : Going) (pass : ℕ) (x : ScriptOp) where
  set_here : (r : Reply) (n j : ℕ) → if_of n (set_row o x) (set_number r) ≡ Some j → Says past o g block h pass x r → In j (writes_of n block)
  set_here (reply.Set k) n j e s =
      let eq : cond (nat_eq n s.0) (Some k) None ≡ Some j = ap (λ (t : Option ℕ). if_of n t (Some k)) (sym s.2) ∙ e in
      subst (λ (b : List Noted). In j (writes_of n b)) (sym s.4.block_is) (in_option_here (cond (nat_eq n s.0) (Some k) None) [] j eq)
  set_here (reply.Edited m v) n j e s = absurd (no_number n (set_row o x) j e)
  set_here (reply.Got v m) n j e s = absurd (no_number n (set_row o x) j e)
  set_here (reply.Pumped y) n j e s = absurd (no_number n (set_row o x) j e)
  set_here (reply.Disposal y) n j e s = absurd (no_number n (set_row o x) j e)
  set_here reply.NoRow n j e s = absurd (no_number n (set_row o x) j e)
  set_here (reply.Busy y) n j e s = absurd (no_number n (set_row o x) j e)
  set_here (reply.Again y) n j e s = absurd (no_number n (set_row o x) j e)
  set_here (reply.Disposed y) n j e s = absurd (no_number n (set_row o x) j e)
  set_here (reply.Full y) n j e s = absurd (no_number n (set_row o x) j e)

pub writes_left : (n : ℕ) (xs ys : List Noted) (j : ℕ) → In j (writes_of n xs) → In j (writes_of n (xs ++ ys))
writes_left n xs ys j i = subst (λ (t : List ℕ). In j t) (sym (filter_map-append (λ (e : Noted). write_of n e.fact e.number) xs ys)) (in_left (writes_of n xs) (writes_of n ys) j i)

writes_right : (n : ℕ) (xs ys : List Noted) (j : ℕ) → In j (writes_of n ys) → In j (writes_of n (xs ++ ys))
writes_right n xs ys j i = subst (λ (t : List ℕ). In j t) (sym (filter_map-append (λ (e : Noted). write_of n e.fact e.number) xs ys)) (in_right (writes_of n xs) (writes_of n ys) j i)

pub own_written : (past : List Phase) (o : Opened) (pass : ℕ) (g : Going) (ms : List Made) (k : Going) → Follows past o g ms k → (n j : ℕ) → In j (sets_of o n (done_by pass ms)) → In j (writes_of n k.entries)
own_written past o pass g [] k f n j i = absurd i
own_written past o pass g (m ∷ ms) k f n j i =
    let later : In j (sets_of o n (done_by pass ms)) → In j (writes_of n k.entries) = own_written past o pass f.0 ms k f.2 n j in
    let r = rest_of past o f.0 ms k f.2 in
    let mine : if_of n (set_row o m.done.op) (set_number m.done.reply) ≡ Some j → In j (writes_of n k.entries) = λ e.
    subst (λ (t : List Noted). In j (writes_of n t)) (sym r.1) (writes_left n f.0.entries r.0 j (subst (λ (t : List Noted). In j (writes_of n t)) (sym f.1.goes.entries)
    (writes_right n g.entries m.block j (set_here past o g m.block f.0 m.pass m.done.op m.done.reply n j e f.1.says)))) in
    elim (nat_eq pass m.pass) as (λ b. In j (sets_of o n (cond b (m.done ∷ done_by pass ms) (done_by pass ms))) → In j (writes_of n k.entries)) [
      | true ↦ λ t. ⊎_elim mine later (in_cons_option (if_of n (set_row o m.done.op) (set_number m.done.reply)) (sets_of o n (done_by pass ms)) j t)
      | false ↦ later
    ] i

-- ---- what was noted lies between the lane's sets and edits

all_below : (n : ℕ) (ks : List ℕ) → ((k : ℕ) → In k ks → k < n) → list_all (λ k. nat_lt k n) ks ≡ true
all_below n [] all = refl
all_below n (k ∷ ks) all = (λ i. is_less k n (all k (inl refl)) i && all_below n ks (λ j t. all j (inr t)) i)
  where
    is_less : (x y : ℕ) → x < y → nat_lt x y ≡ true
    is_less x y l = grind (arith, nat_tests)

all_above : (n : ℕ) (ks : List ℕ) → ((k : ℕ) → In k ks → n < k) → list_all (λ k. nat_lt n k) ks ≡ true
all_above n [] all = refl
all_above n (k ∷ ks) all = (λ i. is_less n k (all k (inl refl)) i && all_above n ks (λ j t. all j (inr t)) i)
  where
    is_less : (x y : ℕ) → x < y → nat_lt x y ≡ true
    is_less x y l = grind (arith, nat_tests)

-- each entry of an operation lies between what the lane did before and what it did later
pub block_between : (past : List Phase) (o : Opened) (pass : ℕ) (h : List Made) (k : Going) (before : List Done) (d : Done) (later : List Done) (t : Place past o pass h k before d later)
    → (e : Noted) → In e t.there.made.block → is_between before later e.number ≡ true
block_between past o pass h k before d later t e i =
    let n : ℕ = e.number in
    let at : In n (entry_numbers t.there.made.block) = number_of e t.there.made.block i in
    let above : t.start.drawn < n = grows_above t.start.drawn (entry_numbers t.there.made.block) n (numbered_grows t.start.drawn t.there.made.block t.end.drawn t.does.goes.numbered) at in
    let below : n ≤ t.end.drawn = numbered_within t.start.drawn t.there.made.block t.end.drawn t.does.goes.numbered n at in
    let early : list_all (λ k. nat_lt k n) (numbers (done_by pass t.there.front)) ≡ true = all_below n (numbers (done_by pass t.there.front)) (λ j t'. let r = numbers_between past o pass just_opened t.there.front t.start t.first j t' in let l : j < n = omega arith in l) in
    let late : list_all (λ k. nat_lt n k) (numbers (done_by pass t.there.back)) ≡ true = all_above n (numbers (done_by pass t.there.back)) (λ j t'. let r = numbers_between past o pass t.end t.there.back k t.rest j t' in let l : n < j = omega arith in l) in
    subst (λ (p : List Done × List Done). is_between p.0 p.1 n ≡ true) (λ j. (t.there.earlier j, t.there.behind j)) (λ j. early j && late j)
