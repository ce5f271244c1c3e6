-- A history that is cut at an operation of a lane, and what is noted under a number.
use Rattle.std.proofs.Common.{◌≡◌, ◌⊎◌, ℕ, ◌<◌, ◌≤◌, Bool, true, false, cond, List, [], ◌∷◌, ◌++◌, length, sym, refl, ap, ◌∙◌, subst, inl, inr, ⊎_elim, arith, Option, Some, None, length-append}
use Rattle.std.specs.Prelude.{nat_eq}
use Rattle.std.specs.List.{cons_option}
use Rattle.std.proofs.lemmas.Bool.{true≢false}
use Rattle.std.proofs.lemmas.Bool.Decides.{nat_tests}
use Rattle.values.specs.declared.plan.Noted.{Noted}
use Rattle.values.specs.declared.plan.Fact.{Fact}
use Rattle.run_meaning.specs.Words.{In, GrowsFrom}
use Rattle.run_meaning.specs.Opened.{Opened}
use Rattle.run_meaning.specs.Lane.{Done}
use Rattle.run_meaning.specs.Entries.{fact_at}
use Rattle.run_meaning.specs.Phase.{Phase, entry_numbers}
use Rattle.run_history.specs.Going.{Going, just_opened, note}
use Rattle.run_history.specs.History.{Made, Says, Does, Follows, done_by}
use Rattle.run_history.proofs.Lists.{in_append, head_or, tail_of, append_nil, append_assoc', folds_split, grows_above}
use Rattle.run_history.proofs.Journal.{numbered_least, numbered_grows}

pub is_yes : (x y : ℕ) → x ≡ y → nat_eq x y ≡ true
is_yes x y e = grind (arith, nat_tests)

pub is_no : (x y : ℕ) → (x ≡ y → ⊥) → nat_eq x y ≡ false
is_no x y ne = elim (nat_eq x y) as (λ b. (nat_eq x y ≡ b) → b ≡ false) [ true ↦ λ q. absurd (ne (grind (arith, nat_tests))) | false ↦ λ q. refl ] refl

-- ---- options

abbrev is_there : {A : Type 0} → Option A → Bool
is_there None = false
is_there (Some x) = true

pub none_some : {A : Type 0} (x : A) → None ≡ Some x → ⊥
none_some x e = true≢false (sym (ap is_there e))

abbrev some_or : {A : Type 0} → A → Option A → A
some_or d None = d
some_or d (Some x) = x

pub some_same : {A : Type 0} (x y : A) → Some x ≡ Some y → x ≡ y
some_same x y e = ap (some_or x) e

pub in_cons_option : {A : Type 0} (r : Option A) (xs : List A) (x : A) → In x (cons_option r xs) → (r ≡ Some x) ⊎ In x xs
in_cons_option None xs x i = inr i
in_cons_option (Some y) xs x i = ⊎_elim (λ (e : y ≡ x). inl (ap (λ (z : _). Some z) e)) (λ t. inr t) i

pub in_option_here : {A : Type 0} (r : Option A) (xs : List A) (x : A) → r ≡ Some x → In x (cons_option r xs)
in_option_here r xs x e = subst (λ (s : Option _). In x (cons_option s xs)) (sym e) (inl refl)

pub in_option_there : {A : Type 0} (r : Option A) (xs : List A) (x : A) → In x xs → In x (cons_option r xs)
in_option_there None xs x i = i
in_option_there (Some y) xs x i = inr i

-- ---- facts under numbers

cond_more : (b : Bool) (f : Fact) (x y z : Option Fact) → (y ≡ Some f → z ≡ Some f) → cond b x y ≡ Some f → cond b x z ≡ Some f
cond_more true f x y z go e = e
cond_more false f x y z go e = go e

pub fact_at_more : (k : ℕ) (es rest : List Noted) (f : Fact) → fact_at k es ≡ Some f → fact_at k (es ++ rest) ≡ Some f
fact_at_more k [] rest f e = absurd (none_some f e)
fact_at_more k (x ∷ es) rest f e = cond_more (nat_eq k x.number) f (Some x.fact) (fact_at k es) (fact_at k (es ++ rest)) (fact_at_more k es rest f) e

pub fact_at_in : (k : ℕ) (es : List Noted) (f : Fact) → fact_at k es ≡ Some f → In k (entry_numbers es)
fact_at_in k [] f e = absurd (none_some f e)
fact_at_in k (x ∷ es) f e = elim (nat_eq k x.number) as (λ b. (nat_eq k x.number ≡ b) → cond b (Some x.fact) (fact_at k es) ≡ Some f → (x.number ≡ k) ⊎ In k (entry_numbers es)) [
  | true ↦ λ q h. inl (grind (arith, nat_tests))
  | false ↦ λ q h. inr (fact_at_in k es f h)
] refl e

pub noted_in : (n : ℕ) (es : List Noted) (f : Fact) → fact_at n es ≡ Some f → In (note n f) es
noted_in n [] f e = absurd (none_some f e)
noted_in n (x ∷ es) f e = elim (nat_eq n x.number) as (λ b. (nat_eq n x.number ≡ b) → cond b (Some x.fact) (fact_at n es) ≡ Some f → (x ≡ note n f) ⊎ In (note n f) es) [
  | true ↦ λ q h. let same : x.number ≡ n = grind (arith, nat_tests) in let is : x.fact ≡ f = some_same x.fact f h in inl (λ i. record { number = same i; fact = is i })
  | false ↦ λ q h. inr (noted_in n es f h)
] refl e

pub number_of : (e : Noted) (es : List Noted) → In e es → In e.number (entry_numbers es)
number_of e [] i = absurd i
number_of e (x ∷ es) i = ⊎_elim (λ (q : x ≡ e). inl (ap (λ (y : Noted). y.number) q)) (λ t. inr (number_of e es t)) i

pub fact_here : (n : ℕ) (f : Fact) (es : List Noted) → fact_at n (note n f ∷ es) ≡ Some f
fact_here n f es = ap (λ (b : Bool). cond b (Some f) (fact_at n es)) (is_yes n n refl)

pub fact_skip : (n : ℕ) (xs ys : List Noted) → (In n (entry_numbers xs) → ⊥) → fact_at n (xs ++ ys) ≡ fact_at n ys
fact_skip n [] ys away = refl
fact_skip n (x ∷ xs) ys away = ap (λ (b : Bool). cond b (Some x.fact) (fact_at n (xs ++ ys))) (is_no n x.number (λ e. away (inl (sym e)))) ∙ fact_skip n xs ys (λ i. away (inr i))

-- where numbers grow, an entry is found under its own
pub fact_of : (low : ℕ) (es : List Noted) (e : Noted) → GrowsFrom low (entry_numbers es) → In e es → fact_at e.number es ≡ Some e.fact
fact_of low [] e g i = absurd i
fact_of low (x ∷ es) e g i = ⊎_elim
    (λ (q : x ≡ e). subst (λ (y : Noted). fact_at y.number (x ∷ es) ≡ Some y.fact) q (ap (λ (b : Bool). cond b (Some x.fact) (fact_at x.number es)) (is_yes x.number x.number refl)))
    (λ (t : In e es). let l = grows_above x.number (entry_numbers es) e.number g.1 (number_of e es t) in
    ap (λ (b : Bool). cond b (Some x.fact) (fact_at e.number es)) (is_no e.number x.number (λ q. absurd (omega arith))) ∙ fact_of x.number es e g.1 t) i

-- ---- a lane is cut where the history is

abbrev pub step_yes : (pass : ℕ) (m : Made) (ms : List Made) → nat_eq pass m.pass ≡ true → done_by pass (m ∷ ms) ≡ m.done ∷ done_by pass ms
step_yes pass m ms q = ap (λ (c : Bool). cond c (m.done ∷ done_by pass ms) (done_by pass ms)) q

abbrev pub step_no : (pass : ℕ) (m : Made) (ms : List Made) → nat_eq pass m.pass ≡ false → done_by pass (m ∷ ms) ≡ done_by pass ms
step_no pass m ms q = ap (λ (c : Bool). cond c (m.done ∷ done_by pass ms) (done_by pass ms)) q

-- the history has the operation there, and the lane's earlier and later ones before and behind it
pub record Cut (pass : ℕ) (h : List Made) (before : List Done) (d : Done) (later : List Done) : Type 0 where
  pub front : List Made
  pub made : Made
  pub back : List Made
  pub whole : h ≡ front ++ made ∷ back
  pub done : made.done ≡ d
  pub by : made.pass ≡ pass
  pub earlier : done_by pass front ≡ before
  pub behind : done_by pass back ≡ later

pub cut : (pass : ℕ) (h : List Made) (before : List Done) (d : Done) (later : List Done) → done_by pass h ≡ before ++ d ∷ later → Cut pass h before d later
cut pass [] before d later e = let n : length (before ++ d ∷ later) ≡ 0 = ap (λ (t : List Done). length t) (sym e) in absurd (omega (arith, length-append before (d ∷ later)))
cut pass (m ∷ ms) before d later e = elim (nat_eq pass m.pass) as (λ b. (nat_eq pass m.pass ≡ b) → Cut pass (m ∷ ms) before d later) [
  | true ↦ λ q. here (λ bs t. cut pass ms bs d later t) before (sym (step_yes pass m ms q) ∙ e) q
  | false ↦ λ q. let c = cut pass ms before d later (sym (step_no pass m ms q) ∙ e) in record {
    front = m ∷ c.front;
    made = c.made;
    back = c.back;
    whole = ap (λ (t : List Made). m ∷ t) c.whole;
    done = c.done;
    by = c.by;
    earlier = step_no pass m c.front q ∙ c.earlier;
    behind = c.behind;
  }
] refl
  where
    here : ((bs : List Done) → done_by pass ms ≡ bs ++ d ∷ later → Cut pass ms bs d later) → (before : List Done) → m.done ∷ done_by pass ms ≡ before ++ d ∷ later → nat_eq pass m.pass ≡ true → Cut pass (m ∷ ms) before d later
    here go [] e q = record {
      front = [];
      made = m;
      back = ms;
      whole = refl;
      done = ap (head_or d) e;
      by = grind (arith, nat_tests);
      earlier = refl;
      behind = ap tail_of e;
    }
    here go (b ∷ bs) e q = let c = go bs (ap tail_of e) in record {
      front = m ∷ c.front;
      made = c.made;
      back = c.back;
      whole = ap (λ (t : List Made). m ∷ t) c.whole;
      done = c.done;
      by = c.by;
      earlier = step_yes pass m c.front q ∙ (λ i. ap (head_or d) e i ∷ c.earlier i);
      behind = c.behind;
    }

-- ---- what an operation leaves to those behind it

pub rest_of : (past : List Phase) (o : Opened) (g : Going) (ms : List Made) (k : Going) → Follows past o g ms k → (rest : List Noted) × (k.entries ≡ g.entries ++ rest)
rest_of past o g [] k f = ([], ap (λ (x : Going). x.entries) (sym f) ∙ sym (append_nil g.entries))
rest_of past o g (m ∷ ms) k f = let r = rest_of past o f.0 ms k f.2 in (m.block ++ r.0, r.1 ∙ (ap (λ (x : List Noted). x ++ r.0) f.1.goes.entries ∙ append_assoc' g.entries m.block r.0))

pub drawn_more : (past : List Phase) (o : Opened) (g : Going) (ms : List Made) (k : Going) → Follows past o g ms k → g.drawn ≤ k.drawn
drawn_more past o g [] k f = let e = ap (λ (x : Going). x.drawn) f in omega arith
drawn_more past o g (m ∷ ms) k f = let a = numbered_least g.drawn m.block f.0.drawn f.1.goes.numbered in let b = drawn_more past o f.0 ms k f.2 in omega arith

-- ---- where an operation of a lane stands

pub record Place (past : List Phase) (o : Opened) (pass : ℕ) (h : List Made) (k : Going) (before : List Done) (d : Done) (later : List Done) : Type 0 where
  pub start : Going
  pub end : Going
  pub there : Cut pass h before d later
  pub first : Follows past o just_opened there.front start
  pub does : Does past o start there.made end
  pub rest : Follows past o end there.back k

pub place : (past : List Phase) (o : Opened) (pass : ℕ) (h : List Made) (k : Going) (before : List Done) (d : Done) (later : List Done) → Follows past o just_opened h k → done_by pass h ≡ before ++ d ∷ later → Place past o pass h k before d later
place past o pass h k before d later f e =
    let c = cut pass h before d later e in
    let s = folds_split (Does past o) just_opened c.front c.made c.back k (subst (λ (t : List Made). Follows past o just_opened t k) c.whole f) in record { start = s.0; end = s.1; there = c; first = s.2; does = s.3; rest = s.4 }

-- what was said, of the lane's operation
pub said : (past : List Phase) (o : Opened) (pass : ℕ) (h : List Made) (k : Going) (before : List Done) (d : Done) (later : List Done) (t : Place past o pass h k before d later)
    → Says past o t.start t.there.made.block t.end pass d.op d.reply
said past o pass h k before d later t =
    subst (λ (n : ℕ). Says past o t.start t.there.made.block t.end n d.op d.reply) t.there.by
    (subst (λ (x : Done). Says past o t.start t.there.made.block t.end t.there.made.pass x.op x.reply) t.there.done t.does.says)

pub whole_of : (past : List Phase) (o : Opened) (pass : ℕ) (h : List Made) (k : Going) (before : List Done) (d : Done) (later : List Done) (t : Place past o pass h k before d later) → (rest : List Noted) × (k.entries ≡ (t.start.entries ++ t.there.made.block) ++ rest)
whole_of past o pass h k before d later t = let r = rest_of past o t.end t.there.back k t.rest in (r.0, r.1 ∙ ap (λ (x : List Noted). x ++ r.0) t.does.goes.entries)

-- ---- where an entry was noted

pub record Origin (past : List Phase) (o : Opened) (g : Going) (ms : List Made) (k : Going) (e : Noted) : Type 0 where
  pub front : List Made
  pub made : Made
  pub back : List Made
  pub start : Going
  pub end : Going
  pub whole : ms ≡ front ++ made ∷ back
  pub before : Follows past o g front start
  pub does : Does past o start made end
  pub after : Follows past o end back k
  pub here : In e made.block

pub origin : (past : List Phase) (o : Opened) (g : Going) (ms : List Made) (k : Going) (e : Noted) → Follows past o g ms k → In e k.entries → In e g.entries ⊎ Origin past o g ms k e
origin past o g [] k e f i = inl (subst (λ (x : Going). In e x.entries) (sym f) i)
origin past o g (m ∷ ms) k e f i = ⊎_elim
    (λ (a : In e f.0.entries). ⊎_elim (λ (b : In e g.entries). inl b)
    (λ (b : In e m.block). inr (record { front = []; made = m; back = ms; start = g; end = f.0; whole = refl; before = refl; does = f.1; after = f.2; here = b }))
    (in_append g.entries m.block e (subst (λ (t : List Noted). In e t) f.1.goes.entries a)))
    (λ (x : Origin past o f.0 ms k e). inr (record { front = m ∷ x.front; made = x.made; back = x.back; start = x.start; end = x.end; whole = ap (λ (t : List Made). m ∷ t) x.whole; before = (f.0, f.1, x.before); does = x.does; after = x.after; here = x.here }))
    (origin past o f.0 ms k e f.2 i)

-- what is noted later has greater numbers
pub rest_above : (past : List Phase) (o : Opened) (g : Going) (ms : List Made) (k : Going) (e : Noted) → Follows past o g ms k → In e k.entries → In e g.entries ⊎ (g.drawn < e.number)
rest_above past o g ms k e f i = ⊎_elim (λ (a : In e g.entries). inl a) (λ (x : Origin past o g ms k e).
    let a = drawn_more past o g x.front x.start x.before in
    let b = grows_above x.start.drawn (entry_numbers x.made.block) e.number (numbered_grows x.start.drawn x.made.block x.end.drawn x.does.goes.numbered) (number_of e x.made.block x.here) in
    let l : g.drawn < e.number = omega arith in inr l) (origin past o g ms k e f i)
