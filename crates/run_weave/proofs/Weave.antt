-- Operations are woven into a history of calls.
use Rattle.std.proofs.Common.{◌≡◌, ◌⊎◌, ℕ, zero, suc, ◌<◌, ◌≤◌, Bool, true, false, cond, List, [], ◌∷◌, ◌++◌, length, sym, refl, ap, ◌∙◌, subst, inl, inr, ⊎_elim, arith}
use Rattle.std.specs.Prelude.{nat_eq, nat_le}
use Rattle.std.proofs.lemmas.Bool.{true≢false}
use Rattle.std.proofs.lemmas.Bool.Decides.{nat_tests}
use Rattle.values.specs.declared.plan.Noted.{Noted}
use Rattle.run_meaning.specs.Words.{In}
use Rattle.run_meaning.specs.Opened.{Opened}
use Rattle.run_meaning.specs.Lane.{Done}
use Rattle.run_meaning.specs.Phase.{Phase}
use Rattle.run_history.specs.Going.{start_of, Going}
use Rattle.run_history.specs.Calls.{Call, MadeCall, Makes, CallsLead, calls_by}
use Rattle.run_history.specs.History.{Made, Does, Follows, done_by, ByPasses}
use Rattle.run_history.proofs.Cut.{is_yes, is_no}
use Rattle.run_history.proofs.Lists.{append_nil, head_or, tail_of}
use Rattle.run_weave.specs.Lanes.{IsQuietly, Speaks, LaneSpeaks, ended, rests, speaks}

-- ---- what is done by a pass

pub done_append : (p : ℕ) (xs ys : List Made) → done_by p (xs ++ ys) ≡ done_by p xs ++ done_by p ys
done_append p [] ys = refl
done_append p (x ∷ xs) ys = elim (nat_eq p x.pass) as (λ b. cond b (x.done ∷ done_by p (xs ++ ys)) (done_by p (xs ++ ys)) ≡ cond b (x.done ∷ done_by p xs) (done_by p xs) ++ done_by p ys) [
  | true ↦ ap (λ (t : List Done). x.done ∷ t) (done_append p xs ys)
  | false ↦ done_append p xs ys
]

abbrev pub quietly : ℕ → Done → Made
quietly p d = record { pass = p; done = d; block = [] }

-- operations of one pass that note nothing
abbrev pub rest_by : ℕ → List Done → List Made
rest_by p [] = []
rest_by p (d ∷ ds) = quietly p d ∷ rest_by p ds

by_rest : (p : ℕ) (ds : List Done) → done_by p (rest_by p ds) ≡ ds
by_rest p [] = refl
by_rest p (d ∷ ds) = ap (λ (c : Bool). cond c (d ∷ done_by p (rest_by p ds)) (done_by p (rest_by p ds))) (is_yes p p refl) ∙ ap (λ (t : List Done). d ∷ t) (by_rest p ds)

by_other : (p q : ℕ) (ds : List Done) → (p ≡ q → ⊥) → done_by p (rest_by q ds) ≡ []
by_other p q [] ne = refl
by_other p q (d ∷ ds) ne = ap (λ (c : Bool). cond c (d ∷ done_by p (rest_by q ds)) (done_by p (rest_by q ds))) (is_no p q ne) ∙ by_other p q ds ne

-- all that is left, pass by pass
abbrev pub all_rest : ℕ → (ℕ → List Done) → List Made
all_rest zero lanes = rest_by 0 (lanes 0)
all_rest (suc n) lanes = rest_by (suc n) (lanes (suc n)) ++ all_rest n lanes

above_rest : (n p : ℕ) (lanes : ℕ → List Done) → n < p → done_by p (all_rest n lanes) ≡ []
above_rest zero p lanes l = by_other p 0 (lanes 0) (λ e. absurd (omega arith))
above_rest (suc n) p lanes l = done_append p (rest_by (suc n) (lanes (suc n))) (all_rest n lanes) ∙ ((λ i. by_other p (suc n) (lanes (suc n)) (λ e. absurd (omega arith)) i ++ above_rest n p lanes (omega arith) i))

by_all_rest : (n p : ℕ) (lanes : ℕ → List Done) → p ≤ n → done_by p (all_rest n lanes) ≡ lanes p
by_all_rest zero p lanes l = let z : p ≡ 0 = omega arith in subst (λ (q : ℕ). done_by q (rest_by 0 (lanes 0)) ≡ lanes q) (sym z) (by_rest 0 (lanes 0))
by_all_rest (suc n) p lanes l = elim (nat_eq p (suc n)) as (λ b. (nat_eq p (suc n) ≡ b) → done_by p (rest_by (suc n) (lanes (suc n)) ++ all_rest n lanes) ≡ lanes p) [
  | true ↦ λ q. let e : p ≡ suc n = grind (arith, nat_tests) in subst (λ (k : ℕ). done_by k (rest_by (suc n) (lanes (suc n)) ++ all_rest n lanes) ≡ lanes k) (sym e)
      (done_append (suc n) (rest_by (suc n) (lanes (suc n))) (all_rest n lanes) ∙ ((λ i. by_rest (suc n) (lanes (suc n)) i ++ above_rest n (suc n) lanes (omega arith) i) ∙ append_nil (lanes (suc n))))
  | false ↦ λ q. let ne : p ≡ suc n → ⊥ = λ e. true≢false (sym (is_yes p (suc n) e) ∙ q) in let low : p ≤ n = grind arith in
      done_append p (rest_by (suc n) (lanes (suc n))) (all_rest n lanes) ∙ (λ i. by_other p (suc n) (lanes (suc n)) ne i ++ by_all_rest n p lanes low i)
] refl

-- ---- the quiet operations of a lane before a call, the one that makes it, and the others

pub record Next (o : Opened) (call : Call) (calls : List Call) (lane : List Done) : Type 0 where
  pub front : List Done
  pub op : Done
  pub back : List Done
  pub whole : lane ≡ front ++ op ∷ back
  pub quiets : LaneSpeaks o [] front
  pub fits : Speaks o call op.op op.reply
  pub more : LaneSpeaks o calls back

next_of : (o : Opened) (lane : List Done) {all : List Call} → LaneSpeaks o all lane → (call : Call) (calls : List Call) → all ≡ call ∷ calls → Next o call calls lane
next_of o lane ended call calls e = let n : 0 ≡ length (call ∷ calls) = ap length e in absurd (omega arith)
next_of o lane (rests d q s) call calls e = let n = next_of o _ s call calls e in record { front = d ∷ n.front; op = n.op; back = n.back; whole = ap (λ (t : List Done). d ∷ t) n.whole; quiets = rests d q n.quiets; fits = n.fits; more = n.more }
next_of o lane (speaks {lane = rest} made d q s) call calls e = record { front = []; op = d; back = rest; whole = refl; quiets = ended; fits = subst (λ (x : Call). Speaks o x d.op d.reply) (ap (head_or call) e) q; more = subst (λ (t : List Call). LaneSpeaks o t rest) (ap tail_of e) s }

-- what each pass did, where one pass had these first
by_each : (lanes : ℕ → List Done) (p : ℕ) (front : List Done) (op : Done) (back : List Done) (block : List Noted) (h : List Made) → lanes p ≡ front ++ op ∷ back → ((q : ℕ) → done_by q h ≡ cond (nat_eq q p) back (lanes q))
    → (q : ℕ) → done_by q (rest_by p front ++ record { pass = p; done = op; block = block } ∷ h) ≡ lanes q
by_each lanes p front op back block h whole others q = done_append q (rest_by p front) (record { pass = p; done = op; block = block } ∷ h) ∙ each
  where
    mine : done_by p h ≡ back
    mine = others p ∙ ap (λ (b : Bool). cond b back (lanes p)) (is_yes p p refl)

    here : done_by p (rest_by p front) ++ op ∷ done_by p h ≡ lanes p
    here = (λ i. by_rest p front i ++ op ∷ mine i) ∙ sym whole

    each : done_by q (rest_by p front) ++ cond (nat_eq q p) (op ∷ done_by q h) (done_by q h) ≡ lanes q
    each = elim (nat_eq q p) as (λ b. (nat_eq q p ≡ b) → done_by q (rest_by p front) ++ cond b (op ∷ done_by q h) (done_by q h) ≡ lanes q) [
      | true ↦ λ e. let same : q ≡ p = grind (arith, nat_tests) in subst (λ (x : ℕ). done_by x (rest_by p front) ++ op ∷ done_by x h ≡ lanes x) (sym same) here
      | false ↦ λ e. let ne : q ≡ p → ⊥ = λ s. true≢false (sym (is_yes q p s) ∙ e) in (λ i. by_other q p front ne i ++ (others q ∙ ap (λ (b : Bool). cond b back (lanes q)) e) i)
    ] refl

-- ---- each step is made

module _ (past : List Phase) (o : Opened)
    (stays : (g : Going) (p : ℕ) (d : Done) → IsQuietly o d.op d.reply → Does past o g (quietly p d) g)
    (goes : (g : Going) (m : MadeCall) (h : Going) (d : Done) (t : Makes (start_of past o) g m h) → Speaks o m.call d.op d.reply → Does past o g (record { pass = m.pass; done = d; block = t.0 }) h) where
  -- quiet operations before a history
  rests_first : (p : ℕ) (ds : List Done) (g : Going) (h : List Made) (k : Going) → LaneSpeaks o [] ds → Follows past o g h k → Follows past o g (rest_by p ds ++ h) k
  rests_first p ds g h k s f = go ds s refl
    where
      go : (ds : List Done) {cs : List Call} → LaneSpeaks o cs ds → cs ≡ [] → Follows past o g (rest_by p ds ++ h) k
      go ds ended e = f
      go ds (rests d q s) e = (g, stays g p d q, go _ s e)
      go ds (speaks call d q s) e = let n : length (call ∷ _) ≡ 0 = ap length e in absurd (omega arith)

  rests_all : (n : ℕ) (lanes : ℕ → List Done) (g : Going) → ((p : ℕ) → LaneSpeaks o [] (lanes p)) → Follows past o g (all_rest n lanes) g
  rests_all zero lanes g all = subst (λ (h : List Made). Follows past o g h g) (append_nil (rest_by 0 (lanes 0))) (rests_first 0 (lanes 0) g [] g (all 0) refl)
  rests_all (suc n) lanes g all = rests_first (suc n) (lanes (suc n)) g (all_rest n lanes) g (all (suc n)) (rests_all n lanes g all)

  abbrev changed : (ℕ → List Done) → ℕ → List Done → ℕ → List Done
  changed lanes p ds q = cond (nat_eq q p) ds (lanes q)

  pub weaves : (count : ℕ) (calls : List MadeCall) (g k : Going) (lanes : ℕ → List Done) → CallsLead (start_of past o) g calls k → ((p : ℕ) → LaneSpeaks o (calls_by p calls) (lanes p)) → ((p : ℕ) → count < p → lanes p ≡ [])
      → (h : List Made) × Follows past o g h k × ((p : ℕ) → done_by p h ≡ lanes p)
  weaves count [] g k lanes lead all none = (all_rest count lanes, subst (λ (x : Going). Follows past o g (all_rest count lanes) x) lead (rests_all count lanes g all), λ p. ⊎_elim (λ (l : p ≤ count). by_all_rest count p lanes l) (λ (l : count < p). above_rest count p lanes l ∙ sym (none p l)) (either p))
    where
      either : (p : ℕ) → (p ≤ count) ⊎ (count < p)
      either p = elim (nat_le p count) as (λ b. (nat_le p count ≡ b) → (p ≤ count) ⊎ (count < p)) [ true ↦ λ q. inl (grind (arith, nat_tests)) | false ↦ λ q. inr (grind (arith, nat_tests)) ] refl
  weaves count (m ∷ calls) g k lanes lead all none =
      let p : ℕ = m.pass in
      let n : Next o m.call (calls_by p calls) (lanes p) = next_of o (lanes p) (all p) m.call (calls_by p calls) (ap (λ (b : Bool). cond b (m.call ∷ calls_by p calls) (calls_by p calls)) (is_yes p p refl)) in
      let others : (q : ℕ) → (q ≡ p → ⊥) → calls_by q (m ∷ calls) ≡ calls_by q calls = λ q ne. ap (λ (b : Bool). cond b (m.call ∷ calls_by q calls) (calls_by q calls)) (is_no q p ne) in
      let speak : (q : ℕ) → LaneSpeaks o (calls_by q calls) (changed lanes p n.back q) = λ q. elim (nat_eq q p) as (λ b. (nat_eq q p ≡ b) → LaneSpeaks o (calls_by q calls) (cond b n.back (lanes q))) [
        | true ↦ λ e. let same : q ≡ p = grind (arith, nat_tests) in subst (λ (x : ℕ). LaneSpeaks o (calls_by x calls) n.back) (sym same) n.more
        | false ↦ λ e. subst (λ (t : List Call). LaneSpeaks o t (lanes q)) (others q (λ s. true≢false (sym (is_yes q p s) ∙ e))) (all q)
      ] refl in
      let r = weaves count calls lead.0 k (changed lanes p n.back) lead.2 speak (λ q l. elim (nat_eq q p) as (λ b. (nat_eq q p ≡ b) → cond b n.back (lanes q) ≡ []) [
        | true ↦ λ e. let same : q ≡ p = grind (arith, nat_tests) in back_nil n.front n.op n.back (sym n.whole ∙ subst (λ (x : ℕ). lanes x ≡ []) same (none q l))
        | false ↦ λ e. none q l
      ] refl) in
      let made : Made = record { pass = p; done = n.op; block = lead.1.0 } in (
        rest_by p n.front ++ made ∷ r.0,
        rests_first p n.front g (made ∷ r.0) k n.quiets (lead.0, goes g m lead.0 n.op lead.1 n.fits, r.1),
        by_each lanes p n.front n.op n.back lead.1.0 r.0 n.whole r.2,
      )
    where
      back_nil : (xs : List Done) (y : Done) (ys : List Done) → xs ++ y ∷ ys ≡ [] → ys ≡ []
      back_nil [] y ys e = let n : length (y ∷ ys) ≡ 0 = ap length e in absurd (omega arith)
      back_nil (x ∷ xs) y ys e = let n : length (x ∷ (xs ++ y ∷ ys)) ≡ 0 = ap length e in absurd (omega arith)

-- ---- by whom

no_cons : (d : Done) (ds : List Done) → d ∷ ds ≡ [] → ⊥
no_cons d ds e = let n : length (d ∷ ds) ≡ 0 = ap length e in absurd (omega arith)

done_there : (h : List Made) (m : Made) → In m h → done_by m.pass h ≡ [] → ⊥
done_there [] m i e = absurd i
done_there (x ∷ h) m i e = ⊎_elim
    (λ (q : x ≡ m). let yes = is_yes m.pass x.pass (sym (ap (λ (y : Made). y.pass) q)) in
    no_cons x.done (done_by m.pass h) (ap (λ (b : Bool). cond b (x.done ∷ done_by m.pass h) (done_by m.pass h)) (sym yes) ∙ e))
    (λ (t : In m h). (elim (nat_eq m.pass x.pass) as (λ b. cond b (x.done ∷ done_by m.pass h) (done_by m.pass h) ≡ [] → ⊥) [
      | true ↦ no_cons x.done (done_by m.pass h)
      | false ↦ done_there h m t
    ]) e) i

pub by_lanes : (count : ℕ) (all h : List Made) → ((m : Made) → In m h → In m all) → ((p : ℕ) → p ≡ 0 → done_by p all ≡ []) → ((p : ℕ) → count < p → done_by p all ≡ []) → ByPasses count h
by_lanes count all [] inside zero_none none = tt
by_lanes count all (m ∷ h) inside zero_none none = (
  (
    either m.pass (zero_none m.pass),
    most m.pass (none m.pass),
  ),
  by_lanes count all h (λ x i. inside x (inr i)) zero_none none,
)
  where
    there : done_by m.pass all ≡ [] → ⊥
    there e = done_there all m (inside m (inl refl)) e

    either : (p : ℕ) → (p ≡ 0 → done_by m.pass all ≡ []) → 0 < p
    either zero z = absurd (there (z refl))
    either (suc p) z = omega arith

    most : (p : ℕ) → (count < p → done_by m.pass all ≡ []) → p ≤ count
    most p z = elim (nat_le p count) as (λ b. (nat_le p count ≡ b) → p ≤ count) [ true ↦ λ q. grind (arith, nat_tests) | false ↦ λ q. let l : count < p = grind (arith, nat_tests) in absurd (there (z l)) ] refl
