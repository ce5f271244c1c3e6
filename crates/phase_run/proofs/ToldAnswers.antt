-- Edits are told what came of them.
use Rattle.std.proofs.Common.{◌≡◌, ℕ, zero, suc, ◌+◌, ◌<◌, ◌≤◌, Bool, true, false, cond, List, [], ◌∷◌, ◌++◌, length, map, take, drop, Option, Some, None, refl, sym, ap, ◌∙◌, arith, append_assoc, length-append, lit≤}
use Rattle.std.specs.Prelude.{slice_get, slice_set, unwrap_or, IsSome}
use Rattle.std.specs.List.{cons_option}
use Rattle.std.proofs.Math.Seq.{set-append_seam, take-append_seam, drop-append_seam}
use Rattle.std.proofs.lemmas.List.{append-nil, take-append-drop, length-take-le, length-map}
use Rattle.std.proofs.lemmas.List.Sums.{count_by-le-length}
use Rattle.store_fields.specs.declared.edit.Verdict.{Verdict}
use Rattle.store_fields.specs.declared.edit.Verdict.TheVariants.{Absent}
use Rattle.script_items.specs.declared.operation.ScriptOp.{ScriptOp}
use Rattle.script_items.specs.Script.{numbered}
use Rattle.run_items.specs.declared.answer.Answer.{Answer}
use Rattle.run_items.specs.declared.answer.Reply.{Reply}
use Rattle.run_items.specs.declared.answer.Reply.TheVariants as reply
use Rattle.run_meaning.specs.Edits.{Ordered, held_written, verdict_in}
use Rattle.run_meaning.specs.Lane.{Done, edit_number}
use Rattle.run_meaning.specs.Phase.{Phase}
use Rattle.run_meaning.specs.Run.{answers_of_lane, answers_of_lanes}
use Rattle.run_weave.specs.Lanes.{lane_of, told_reply, told_lane, verdict_of, told}
use Rattle.phase_edits.specs.Told.{edit_numbers, AreTold}
use Rattle.lane_run.specs.Lanes.{edits_told}
use Rattle.lane_run.specs.Today.{LanesRun, most_ops}
use Rattle.lane_run.proofs.Lists.{count_cons}
use Rattle.lane_run.proofs.Noted.{same_edits_of}
use Rattle.phase_run.specs.Told.{is_accepted, answer_told, first_verdicts, verdict_at, answers_told, accepted_among}

-- ---- answer by answer

-- the first of the answers that came are told
pub record AreToldTo (verdicts : List Verdict) (before came : List Answer) (index place : ℕ) (now : List Answer) : Type 0 where
  pub done : List Answer
  pub rest : List Answer
  pub all : came ≡ done ++ rest
  pub at : place ≡ length before + length done
  pub index_is : index ≡ accepted_among done
  pub now_is : now ≡ before ++ (answers_told verdicts 0 done ++ rest)

told_last : (verdicts : List Verdict) (n : ℕ) (done : List Answer) (a : Answer) (k : ℕ) → k ≡ n + accepted_among done → answers_told verdicts n (done ++ a ∷ []) ≡ answers_told verdicts n done ++ answer_told (verdict_at verdicts k) a ∷ []
told_last verdicts n [] a k e = let f : n ≡ k = omega arith in ap (λ (m : ℕ). answer_told (verdict_at verdicts m) a ∷ []) f
told_last verdicts n (b ∷ done) a k e = ap (λ (t : List Answer). answer_told (verdict_at verdicts n) b ∷ t) (told_last verdicts (cond (is_accepted b) (suc n) n) done a k (by (is_accepted b) (e ∙ ap (λ (m : ℕ). n + m) (count_cons is_accepted b done))))
  where
    by : (c : Bool) → k ≡ n + (cond c 1 0 + accepted_among done) → k ≡ cond c (suc n) n + accepted_among done
    by true e = omega arith
    by false e = omega arith

told_long : (verdicts : List Verdict) (n : ℕ) (done : List Answer) → length (answers_told verdicts n done) ≡ length done
told_long verdicts n [] = refl
told_long verdicts n (a ∷ done) = ap (λ (k : ℕ). suc k) (told_long verdicts (cond (is_accepted a) (suc n) n) done)

accepted_last : (done : List Answer) (a : Answer) → accepted_among (done ++ a ∷ []) ≡ accepted_among done + cond (is_accepted a) 1 0
accepted_last [] a = omega arith
accepted_last (b ∷ done) a = let e = accepted_last done a in let f = count_cons is_accepted b (done ++ a ∷ []) in let g = count_cons is_accepted b done in omega arith

pub none_told : (verdicts : List Verdict) (answers : List Answer) (first : ℕ) → first ≤ length answers → AreToldTo verdicts (take first answers) (drop first answers) 0 first answers
none_told verdicts answers first within = record {
  done = [];
  rest = drop first answers;
  all = refl;
  at = (let l = length-take-le first answers within in omega arith);
  index_is = refl;
  now_is = sym (take-append-drop first answers);
}

at_seam : {X : Type 0} (xs ys : List X) (k : ℕ) → k ≡ length xs → slice_get (xs ++ ys) k ≡ slice_get ys 0
at_seam [] ys zero e = refl
at_seam [] ys (suc k) e = absurd (omega arith)
at_seam (x ∷ xs) ys zero e = absurd (omega arith)
at_seam (x ∷ xs) ys (suc k) e = at_seam xs ys k (omega arith)

module _ (verdicts : List Verdict) (before came now new : List Answer) (index place : ℕ) (a : Answer) (t : AreToldTo verdicts before came index place now) (at : slice_get now place ≡ Some a) (is : new ≡ slice_set now place (answer_told (verdict_at verdicts index) a)) where
  made : List Answer
  made = before ++ answers_told verdicts 0 t.done

  made_long : place ≡ length made
  unfolding made
  made_long = let e = told_long verdicts 0 t.done in let f = length-append before (answers_told verdicts 0 t.done) in let g = t.at in omega arith

  now_made : now ≡ made ++ t.rest
  unfolding made
  now_made = t.now_is ∙ sym (append_assoc before (answers_told verdicts 0 t.done) t.rest)

  next : (rest : List Answer) → t.rest ≡ rest → AreToldTo verdicts before came (index + cond (is_accepted a) 1 0) (place + 1) new
  unfolding made
  next [] e =
      let none : slice_get now place ≡ None = ap (λ (xs : List Answer). slice_get xs place) now_made ∙ at_seam made t.rest place made_long ∙ ap (λ (xs : List Answer). slice_get xs 0) e in
      absurd (let f : Some a ≡ None = sym at ∙ none in cc)
  next (b ∷ rest) e =
      let here : slice_get now place ≡ Some b = ap (λ (xs : List Answer). slice_get xs place) now_made ∙ at_seam made t.rest place made_long ∙ ap (λ (xs : List Answer). slice_get xs 0) e in
      let same : a ≡ b = (let f : Some a ≡ Some b = sym at ∙ here in cc) in
      let next_one : Answer = answer_told (verdict_at verdicts index) a in
      let told_one = answers_told verdicts 0 t.done ++ next_one ∷ [] in
      let set_there : new ≡ made ++ next_one ∷ rest =
      is ∙ (λ i. slice_set ((now_made ∙ ap (λ (xs : List Answer). made ++ xs) e) i) (made_long i) next_one) ∙ set-append_seam made b rest next_one in
      let split_there : made ++ next_one ∷ rest ≡ before ++ (told_one ++ rest) =
      append_assoc before (answers_told verdicts 0 t.done) (next_one ∷ rest) ∙ ap (λ (xs : List Answer). before ++ xs) (sym (append_assoc (answers_told verdicts 0 t.done) (next_one ∷ []) rest)) in record {
        done = t.done ++ a ∷ [];
        rest = rest;
        all = t.all ∙ ap (λ (xs : List Answer). t.done ++ xs) e ∙ ap (λ (x : Answer). t.done ++ x ∷ rest) (sym same) ∙ sym (append_assoc t.done (a ∷ []) rest);
        at = (let f = length-append t.done (a ∷ []) in let g = t.at in omega arith);
        index_is = ap (λ (k : ℕ). k + cond (is_accepted a) 1 0) t.index_is ∙ sym (accepted_last t.done a);
        now_is = set_there ∙ split_there ∙ ap (λ (xs : List Answer). before ++ (xs ++ rest)) (sym (told_last verdicts 0 t.done a index (let q = t.index_is in omega arith)));
      }

  pub one_told : AreToldTo verdicts before came (index + cond (is_accepted a) 1 0) (place + 1) new
  one_told = next t.rest refl

-- all are told
pub all_told : (verdicts : List Verdict) (answers : List Answer) (first index place : ℕ) (now : List Answer) → first ≤ length answers → AreToldTo verdicts (take first answers) (drop first answers) index place now → length answers ≤ place
    → now ≡ take first answers ++ answers_told verdicts 0 (drop first answers)
all_told verdicts answers first index place now within t past = by t.rest refl
  where
    by : (rest : List Answer) → t.rest ≡ rest → now ≡ take first answers ++ answers_told verdicts 0 (drop first answers)
    by [] e =
        let whole : drop first answers ≡ t.done = t.all ∙ ap (λ (xs : List Answer). t.done ++ xs) e ∙ append-nil t.done in
        t.now_is ∙ ap (λ (xs : List Answer). take first answers ++ (answers_told verdicts 0 t.done ++ xs)) e ∙ ap (λ (xs : List Answer). take first answers ++ xs) (append-nil (answers_told verdicts 0 t.done))
        ∙ ap (λ (xs : List Answer). take first answers ++ answers_told verdicts 0 xs) (sym whole)
    by (b ∷ rest) e =
        let l = length-take-le first answers within in
        let m : length (drop first answers) ≡ length t.done + length (b ∷ rest) = ap length (t.all ∙ ap (λ (xs : List Answer). t.done ++ xs) e) ∙ length-append t.done (b ∷ rest) in
        let n : length answers ≡ length (take first answers) + length (drop first answers) = ap length (sym (take-append-drop first answers)) ∙ length-append (take first answers) (drop first answers) in
        let p = t.at in
        absurd (omega arith)

-- the place is among them, and the number of the edit has 32 bits
pub told_within : (verdicts : List Verdict) (answers : List Answer) (first index place : ℕ) (now : List Answer) → first ≤ length answers → AreToldTo verdicts (take first answers) (drop first answers) index place now → (length now ≡ length answers) × (index + first ≤ place)
told_within verdicts answers first index place now within t =
    let l = length-take-le first answers within in
    let all : length (drop first answers) ≡ length t.done + length t.rest = ap length t.all ∙ length-append t.done t.rest in
    let n : length answers ≡ length (take first answers) + length (drop first answers) = ap length (sym (take-append-drop first answers)) ∙ length-append (take first answers) (drop first answers) in
    let m : length now ≡ length (take first answers) + length (answers_told verdicts 0 t.done ++ t.rest) = ap length t.now_is ∙ length-append (take first answers) (answers_told verdicts 0 t.done ++ t.rest) in
    let o = length-append (answers_told verdicts 0 t.done) t.rest in
    let q = told_long verdicts 0 t.done in
    let p = t.at in
    let r = count_by-le-length is_accepted t.done in
    let i = t.index_is in
    (omega arith, omega arith)

-- ---- the answers of a lane

dropped : (vs : List Verdict) (n : ℕ) (x : Verdict) (xs : List Verdict) → drop n vs ≡ x ∷ xs → (slice_get vs n ≡ Some x) × (drop (suc n) vs ≡ xs)
dropped [] zero x xs e = absurd cc
dropped [] (suc n) x xs e = absurd cc
dropped (y ∷ vs) zero x xs e = (let f : y ≡ x = cc in ap (λ (v : Verdict). Some v) f, let f : vs ≡ xs = cc in f)
dropped (y ∷ vs) (suc n) x xs e = dropped vs n x xs e

module _ (phase lane : ℕ) (v : ℕ → Verdict) (vs : List Verdict) where
  abbrev Tells : ℕ → List Done → Type 0
  Tells k ds = (n : ℕ) → drop n vs ≡ map v (edits_told ds) → answers_told vs n (answers_of_lane phase lane k ds) ≡ answers_of_lane phase lane k (told_lane v ds)

  abbrev made_answer : ℕ → Reply → Answer
  made_answer k r = record { phase = phase; lane = lane; op = k; reply = r }

  first_told : (k : ℕ) (ds : List Done) (r : Reply) → Tells (suc k) ds → (n : ℕ) → drop n vs ≡ map v (cons_option (edit_number r) (edits_told ds))
      → answers_told vs n (made_answer k r ∷ answers_of_lane phase lane (suc k) ds) ≡ made_answer k (told_reply v r) ∷ answers_of_lane phase lane (suc k) (told_lane v ds)
  first_told k ds (reply.Set m) tells n e = ap (λ (t : List Answer). made_answer k (reply.Set m) ∷ t) (tells n e)
  first_told k ds (reply.Got c m) tells n e = ap (λ (t : List Answer). made_answer k (reply.Got c m) ∷ t) (tells n e)
  first_told k ds (reply.Pumped y) tells n e = ap (λ (t : List Answer). made_answer k (reply.Pumped y) ∷ t) (tells n e)
  first_told k ds (reply.Disposal y) tells n e = ap (λ (t : List Answer). made_answer k (reply.Disposal y) ∷ t) (tells n e)
  first_told k ds (reply.Edited m w) tells n e =
      let d = dropped vs n (v m) (map v (edits_told ds)) e in
      let is : verdict_at vs n ≡ v m = ap (λ (o : Option Verdict). unwrap_or o Absent) d.0 in
      λ i. made_answer k (reply.Edited m (is i)) ∷ tells (suc n) d.1 i
  first_told k ds reply.NoRow tells n e = ap (λ (t : List Answer). made_answer k reply.NoRow ∷ t) (tells n e)
  first_told k ds (reply.Busy m) tells n e = ap (λ (t : List Answer). made_answer k (reply.Busy m) ∷ t) (tells n e)
  first_told k ds (reply.Again m) tells n e = ap (λ (t : List Answer). made_answer k (reply.Again m) ∷ t) (tells n e)
  first_told k ds (reply.Disposed m) tells n e = ap (λ (t : List Answer). made_answer k (reply.Disposed m) ∷ t) (tells n e)
  first_told k ds (reply.Full m) tells n e = ap (λ (t : List Answer). made_answer k (reply.Full m) ∷ t) (tells n e)

  lane_answers : (k : ℕ) (ds : List Done) → Tells k ds
  lane_answers k [] n e = refl
  lane_answers k (d ∷ ds) n e = first_told k ds d.reply (lane_answers (suc k) ds) n e

-- ---- the answers of a phase

verdicts_stay : (p : Phase) → (n : ℕ) → verdict_of (told p) n ≡ verdict_of p n
verdicts_stay p n = ap (λ (xs : List Ordered). unwrap_or (verdict_in xs (held_written p.opened p.entries) n) Absent) (same_edits_of (verdict_of p) p.lanes p.entries)

lanes_answers : (phase : ℕ) (v : ℕ → Verdict) (vs : List Verdict) (lanes : List (List Done)) → length lanes ≤ 1 → (IsSome (numbered lanes 1) → vs ≡ map v (edits_told (lane_of lanes 1))) → answers_told vs 0 (answers_of_lanes phase 1 lanes) ≡ answers_of_lanes phase 1 (map (told_lane v) lanes)
lanes_answers phase v vs [] one is = refl
lanes_answers phase v vs (lane ∷ []) one is =
    ap (answers_told vs 0) (append-nil (answers_of_lane phase 1 1 lane)) ∙ lane_answers phase 1 v vs 1 lane 0 (is refl) ∙ sym (append-nil (answers_of_lane phase 1 1 (told_lane v lane)))
lanes_answers phase v vs (lane ∷ more ∷ lanes) one is = absurd (omega arith)

pub answers_are_told : (phase : ℕ) (p : Phase) (verdicts : List (List Verdict)) → length p.lanes ≤ 1 → edits_told (lane_of p.lanes 1) ≡ edit_numbers 1 p.entries → AreTold (told p) verdicts
    → answers_told (first_verdicts verdicts) 0 (answers_of_lanes phase 1 p.lanes) ≡ answers_of_lanes phase 1 (told p).lanes
answers_are_told phase p verdicts one numbers are = lanes_answers phase (verdict_of p) (first_verdicts verdicts) p.lanes one (λ some.
    are.each 1 (told_some p.lanes some) ∙ (λ i. map (λ (n : ℕ). verdicts_stay p n i) (edit_numbers 1 p.entries)) ∙ ap (map (verdict_of p)) (sym numbers))
  where
    told_some : (lanes : List (List Done)) → IsSome (numbered lanes 1) → IsSome (numbered (map (told_lane (verdict_of p)) lanes) 1)
    told_some [] s = s
    told_some (lane ∷ lanes) s = refl

-- ---- behind what stood before

-- what came behind the answers that stood is told
pub told_behind : (old new came told_now : List Answer) (verdicts : List Verdict) (first : ℕ) → first ≡ length old → new ≡ old ++ came → told_now ≡ take first new ++ answers_told verdicts 0 (drop first new) → told_now ≡ old ++ answers_told verdicts 0 came
told_behind old new came told_now verdicts first long grown is =
    is ∙ (λ i. take (long i) (grown i) ++ answers_told verdicts 0 (drop (long i) (grown i)))
    ∙ (λ i. take-append_seam old came i ++ answers_told verdicts 0 (drop-append_seam old came i))

-- ---- how many there are

lane_long : (phase lane k : ℕ) (ds : List Done) → length (answers_of_lane phase lane k ds) ≡ length ds
lane_long phase lane k [] = refl
lane_long phase lane k (d ∷ ds) = ap (λ (n : ℕ). suc n) (lane_long phase lane (suc k) ds)

-- a phase has no more answers than can be numbered
pub few_answers : (phase : ℕ) (lanes : List (List Done)) (ops : List (List ScriptOp)) → map (map (λ (d : Done). d.op)) lanes ≡ ops → LanesRun ops → length (answers_of_lanes phase 1 lanes) ≤ most_ops
few_answers phase [] ops are run = lit≤ tt
few_answers phase (lane ∷ []) [] are run = absurd cc
few_answers phase (lane ∷ []) (asked ∷ more) are run =
    let same : map (λ (d : Done). d.op) lane ≡ asked = cc in
    let few = (run.each 0 [] (let l : 0 < length (asked ∷ more) = omega arith in l)).few in
    let long : length lane ≡ length asked = sym (length-map lane (λ (d : Done). d.op)) ∙ ap length same in
    let one = lane_long phase 1 1 lane in
    let all : length (answers_of_lanes phase 1 (lane ∷ [])) ≡ length (answers_of_lane phase 1 1 lane) = ap length (append-nil (answers_of_lane phase 1 1 lane)) in
    omega arith
few_answers phase (lane ∷ next ∷ lanes) ops are run =
    let many : length (lane ∷ next ∷ lanes) ≡ length ops = sym (length-map (lane ∷ next ∷ lanes) (map (λ (d : Done). d.op))) ∙ ap length are in
    let one = run.one in absurd (omega arith)
