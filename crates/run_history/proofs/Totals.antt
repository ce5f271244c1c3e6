-- Sums over lanes and over entries.
use Rattle.std.proofs.Common.{◌≡◌, ℕ, zero, suc, ◌+◌, ◌<◌, ◌≤◌, Bool, true, false, cond, List, [], ◌∷◌, ◌++◌, sym, refl, ap, ◌∙◌, subst, inl, inr, arith, Option, None}
use Rattle.std.specs.Prelude.{◌&&◌, nat_eq, map, sum_by, count_by, filter_map}
use Rattle.std.specs.List.{range_with_len, cons_option}
use Rattle.std.proofs.lemmas.List.Sums.{sum_by-cons}
use Rattle.std.proofs.lemmas.Bool.{true≢false}
use Rattle.std.proofs.lemmas.Bool.Decides.{nat_tests}
use Rattle.values.specs.declared.plan.Noted.{Noted}
use Rattle.values.specs.declared.plan.Fact.{Fact}
use Rattle.run_meaning.specs.Words.{In}
use Rattle.run_meaning.specs.Opened.{Opened}
use Rattle.run_meaning.specs.Lane.{Done, EachFrom, EachLane, Everywhere}
use Rattle.run_meaning.specs.Phase.{Phase}
use Rattle.run_history.specs.Going.{Going, all_are}
use Rattle.run_history.specs.History.{Made, Does, Follows, done_by, lanes_of, ByPasses}
use Rattle.run_history.proofs.Lists.{append_assoc'}
use Rattle.run_history.proofs.Cut.{is_yes}

-- ---- at each operation of each lane

module _ (h : List Made) (J K : ℕ → List Done → Done → List Done → Type 0) (all : (pass : ℕ) (before : List Done) (d : Done) (later : List Done) → done_by pass h ≡ before ++ d ∷ later → J pass before d later → K pass before d later) where
  each_from : (pass : ℕ) (before rest : List Done) → done_by pass h ≡ before ++ rest → EachFrom (J pass) before rest → EachFrom (K pass) before rest
  each_from pass before [] e j = tt
  each_from pass before (d ∷ later) e j = (all pass before d later e j.0, each_from pass (before ++ d ∷ []) later (e ∙ sym (append_assoc' before (d ∷ []) later)) j.1)

  each_lane : (a n : ℕ) → EachLane J a (map (λ pass. done_by pass h) (range_with_len a n)) → EachLane K a (map (λ pass. done_by pass h) (range_with_len a n))
  each_lane a zero j = tt
  each_lane a (suc n) j = (each_from a [] (done_by a h) refl j.0, subst (λ (b : ℕ). EachLane K b (map (λ pass. done_by pass h) (range_with_len (a + 1) n))) next (each_lane (a + 1) n (subst (λ (b : ℕ). EachLane J b (map (λ pass. done_by pass h) (range_with_len (a + 1) n))) (sym next) j.1)))
    where
      next : a + 1 ≡ suc a
      next = omega arith

  -- where one is known of each operation, another is
  pub everywhere_from : (count : ℕ) → Everywhere J (lanes_of count h) → Everywhere K (lanes_of count h)
  everywhere_from count j = each_lane 1 count j

any_from : (before rest : List Done) → EachFrom (λ before d later. Unit {0}) before rest
any_from before [] = tt
any_from before (d ∷ later) = (tt, any_from (before ++ d ∷ []) later)

any_lane : (pass : ℕ) (lanes : List (List Done)) → EachLane (λ pass before d later. Unit {0}) pass lanes
any_lane pass [] = tt
any_lane pass (lane ∷ lanes) = (any_from [] lane, any_lane (suc pass) lanes)

pub everywhere : (K : ℕ → List Done → Done → List Done → Type 0) (h : List Made) (count : ℕ) → ((pass : ℕ) (before : List Done) (d : Done) (later : List Done) → done_by pass h ≡ before ++ d ∷ later → K pass before d later) → Everywhere K (lanes_of count h)
everywhere K h count all = everywhere_from h (λ pass before d later. Unit {0}) K (λ pass before d later e u. all pass before d later e) count (any_lane 1 (lanes_of count h))

-- ---- sums over lanes

abbrev over : (List Done → ℕ) → ℕ → ℕ → List Made → ℕ
over F a n h = sum_by F (map (λ pass. done_by pass h) (range_with_len a n))

module _ (F : List Done → ℕ) (f : Done → ℕ) (none : F [] ≡ 0) (more : (d : Done) (ds : List Done) → F (d ∷ ds) ≡ f d + F ds) where
  over_step : (a n : ℕ) (h : List Made) → over F a (suc n) h ≡ F (done_by a h) + over F (a + 1) n h
  over_step a n h = sum_by-cons F (done_by a h) (map (λ pass. done_by pass h) (range_with_len (a + 1) n))

  over_none : (a n : ℕ) → over F a n [] ≡ 0
  over_none a zero = refl
  over_none a (suc n) = let s = over_step a n [] in let i = over_none (a + 1) n in omega (arith, none)

  -- a call of no pass from a on changes nothing
  over_past : (a n : ℕ) (m : Made) (h : List Made) → m.pass < a → over F a n (m ∷ h) ≡ over F a n h
  over_past a zero m h l = refl
  over_past a (suc n) m h l =
      let no : nat_eq a m.pass ≡ false = elim (nat_eq a m.pass) as (λ b. (nat_eq a m.pass ≡ b) → b ≡ false) [ true ↦ λ q. let e : a ≡ m.pass = grind (arith, nat_tests) in absurd (omega arith) | false ↦ λ q. refl ] refl in
      let same : F (done_by a (m ∷ h)) ≡ F (done_by a h) = ap (λ (b : Bool). F (cond b (m.done ∷ done_by a h) (done_by a h))) no in
      let s = over_step a n (m ∷ h) in let t = over_step a n h in let i = over_past (a + 1) n m h (omega arith) in omega arith

  over_more : (a n : ℕ) (m : Made) (h : List Made) → a ≤ m.pass → m.pass < a + n → over F a n (m ∷ h) ≡ f m.done + over F a n h
  over_more a zero m h l u = absurd (omega arith)
  over_more a (suc n) m h l u =
      let s = over_step a n (m ∷ h) in let t = over_step a n h in
      elim (nat_eq a m.pass) as (λ b. (nat_eq a m.pass ≡ b) → over F a (suc n) (m ∷ h) ≡ f m.done + over F a (suc n) h) [
        | true ↦ λ q. let e : a ≡ m.pass = grind (arith, nat_tests) in
            let same : F (done_by a (m ∷ h)) ≡ f m.done + F (done_by a h) = ap (λ (b : Bool). F (cond b (m.done ∷ done_by a h) (done_by a h))) q ∙ more m.done (done_by a h) in
            let i = over_past (a + 1) n m h (omega arith) in omega arith
        | false ↦ λ q. let ne : a ≡ m.pass → ⊥ = λ e. true≢false (sym (is_yes a m.pass e) ∙ q) in
            let same : F (done_by a (m ∷ h)) ≡ F (done_by a h) = ap (λ (b : Bool). F (cond b (m.done ∷ done_by a h) (done_by a h))) q in
            let low : a + 1 ≤ m.pass = grind arith in
            let i = over_more (a + 1) n m h low (omega arith) in omega arith
      ] refl

  pub over_lanes : (count : ℕ) (h : List Made) → ByPasses count h → sum_by F (lanes_of count h) ≡ sum_by (λ m. f m.done) h
  over_lanes count [] all = over_none 1 count
  over_lanes count (m ∷ h) all = let a = over_more 1 count m h (let p = all.0.0 in omega arith) (let p = all.0.1 in omega arith) in let i = over_lanes count h all.1 in let c = sum_by-cons (λ (x : Made). f x.done) m h in omega arith

-- ---- sums over entries

module _ (G : List Noted → ℕ) (append : (xs ys : List Noted) → G (xs ++ ys) ≡ G xs + G ys) where
  pub entries_sum : (past : List Phase) (o : Opened) (f : Done → ℕ) → ((g : Going) (m : Made) (h : Going) → Does past o g m h → G m.block ≡ f m.done) → (g : Going) (ms : List Made) (k : Going) → Follows past o g ms k → G k.entries ≡ G g.entries + sum_by (λ m. f m.done) ms
  entries_sum past o f each g [] k t = let e : G g.entries ≡ G k.entries = ap (λ (x : Going). G x.entries) t in omega arith
  entries_sum past o f each g (m ∷ ms) k t = let i = entries_sum past o f each t.0 ms k t.2 in let e : G t.0.entries ≡ G (g.entries ++ m.block) = ap G t.1.goes.entries in let a = append g.entries m.block in let b = each g m t.0 t.1 in let c = sum_by-cons (λ (x : Made). f x.done) m ms in omega arith

  pub entries_most : (past : List Phase) (o : Opened) (f : Done → ℕ) → ((g : Going) (m : Made) (h : Going) → Does past o g m h → G m.block ≤ f m.done) → (g : Going) (ms : List Made) (k : Going) → Follows past o g ms k → G k.entries ≤ G g.entries + sum_by (λ m. f m.done) ms
  entries_most past o f each g [] k t = let e : G g.entries ≡ G k.entries = ap (λ (x : Going). G x.entries) t in omega arith
  entries_most past o f each g (m ∷ ms) k t = let i = entries_most past o f each t.0 ms k t.2 in let e : G t.0.entries ≡ G (g.entries ++ m.block) = ap G t.1.goes.entries in let a = append g.entries m.block in let b = each g m t.0 t.1 in let c = sum_by-cons (λ (x : Made). f x.done) m ms in omega arith

-- ---- entries of one kind

pub and_left : (a b : Bool) → (a && b) ≡ true → a ≡ true
and_left true b e = refl
and_left false b e = absurd (true≢false (sym e))

pub and_right : (a b : Bool) → (a && b) ≡ true → b ≡ true
and_right true b e = e
and_right false b e = absurd (true≢false (sym e))

pub none_of : {X : Type 0} (test : Fact → Bool) (h : Noted → Option X) → ((e : Noted) → test e.fact ≡ true → h e ≡ None) → (es : List Noted) → all_are test es ≡ true → filter_map h es ≡ []
none_of test h skip [] a = refl
none_of test h skip (e ∷ es) a = (λ i. cons_option (skip e (and_left (test e.fact) (all_are test es) a) i) (filter_map h es)) ∙ none_of test h skip es (and_right (test e.fact) (all_are test es) a)

pub no_count : (test : Fact → Bool) (p : Noted → Bool) → ((e : Noted) → test e.fact ≡ true → p e ≡ false) → (es : List Noted) → all_are test es ≡ true → count_by p es ≡ 0
no_count test p skip [] a = refl
no_count test p skip (e ∷ es) a = let c = sum_by-cons (λ (x : Noted). cond (p x) 1 0) e es in let z : cond {A = ℕ} (p e) 1 0 ≡ 0 = ap (λ (b : Bool). cond {A = ℕ} b 1 0) (skip e (and_left (test e.fact) (all_are test es) a)) in let i = no_count test p skip es (and_right (test e.fact) (all_are test es) a) in omega arith

pub count_within : (p q : Noted → Bool) (es : List Noted) → ((e : Noted) → In e es → p e ≡ true → q e ≡ true) → count_by p es ≤ count_by q es
count_within p q [] all = omega arith
count_within p q (e ∷ es) all = let c = sum_by-cons (λ (x : Noted). cond (p x) 1 0) e es in let d = sum_by-cons (λ (x : Noted). cond (q x) 1 0) e es in let i = count_within p q es (λ x j. all x (inr j)) in
    let one : cond (p e) 1 0 ≤ cond (q e) 1 0 = step (p e) (q e) (all e (inl refl)) in omega arith
  where
    step : (a b : Bool) → (a ≡ true → b ≡ true) → cond a 1 0 ≤ cond b 1 0
    step true true t = omega arith
    step true false t = absurd (true≢false (sym (t refl)))
    step false true t = omega arith
    step false false t = omega arith
