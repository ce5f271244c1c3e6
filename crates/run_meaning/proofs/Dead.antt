-- The owners that are dead behind a phase are those that were disposed in it or before.
use Rattle.std.proofs.Common.{◌≡◌, ◌⊎◌, ℕ, zero, suc, ◌+◌, ◌<◌, ◌≤◌, ◌==◌, if◌then◌else◌, not, Bool, true, false, Option, Some, List, [], ◌∷◌, ◌++◌, map, length, inl, inr, refl, sym, ap, subst, ⊎_elim, ◌∙◌, arith, append_assoc}
use Rattle.std.specs.Prelude.{slice_index_or, unwrap_or, IfSome}
use Rattle.std.specs.List.{list_any, list_all, cons_option, range_with_len}
use Rattle.std.proofs.lemmas.Bool.{true≢false}
use Rattle.std.proofs.lemmas.List.{append-nil, length-set, length-map}
use Rattle.std.proofs.lemmas.List.Sums.{sum_by-append}
use Rattle.values.specs.declared.code.Code.{Code}
use Rattle.values.specs.declared.plan.Disposal.{Disposal}
use Rattle.values.specs.declared.plan.Fact.{Fact}
use Rattle.values.specs.declared.plan.Fact.TheVariants as fact
use Rattle.values.specs.declared.plan.Noted.{Noted}
use Rattle.component_items.specs.declared.component.Component.{Component}
use Rattle.component_items.specs.Ids.{owners_in}
use Rattle.component_items.specs.Kept.{IsKept}
use Rattle.script_items.specs.declared.operation.ScriptOp.{ScriptOp}
use Rattle.script_items.specs.declared.operation.ScriptOp.TheVariants as op
use Rattle.run_items.specs.declared.answer.Reply.{Reply}
use Rattle.run_items.specs.declared.answer.Reply.TheVariants as reply
use Rattle.plain_evaluation.specs.Held.{Held, is_live, first_held}
use Rattle.plain_evaluation.specs.Killed.{going_with, with_each, killed}
use Rattle.plain_evaluation.proofs.Goings.{has_number}
use Rattle.plain_evaluation.proofs.Nesting.{live_left}
use Rattle.plain_evaluation.proofs.Places.{and_cases}
use Rattle.plan_meaning.specs.Owners.{plan_owners}
use Rattle.run_meaning.specs.Words.{In, times}
use Rattle.run_meaning.specs.Opened.{Opened, dead_owners, is_inside, area_of, opened_of}
use Rattle.run_meaning.specs.Lane.{Done, EachFrom, EachLane, disposal_in}
use Rattle.run_meaning.specs.Entries.{owner_in, disposed_in}
use Rattle.run_meaning.specs.Edits.{Ordered, held_written, held_changed, held_edited, edits_of}
use Rattle.run_meaning.specs.Phase.{Phase, IsOfPlan, disposed_before}
use Rattle.run_meaning.specs.Merge.{is_answer, names_area, IsDisposal, DisposesAs}
use Rattle.run_meaning.specs.Run.{held_arrived, held_disposed, after, IsPhase, Settled, phases_of, Runs, none, more}
use Rattle.run_meaning.proofs.Areas.{around_at, around_all, holds, in_filter, filter_in, whole_grows, owners_long, has_owner, itself_equal, or_left}
use Rattle.run_meaning.proofs.Around.{or_cases, holds_through}
use Rattle.run_meaning.proofs.Bounds.{one_if, number_in, in_range}

-- ---- lists

in_left : (n : ℕ) (xs ys : List ℕ) → In n xs → In n (xs ++ ys)
in_left n [] ys i = absurd i
in_left n (x ∷ xs) ys i = ⊎_elim (λ (e : x ≡ n). inl e) (λ j. inr (in_left n xs ys j)) i

in_right : (n : ℕ) (xs ys : List ℕ) → In n ys → In n (xs ++ ys)
in_right n [] ys i = i
in_right n (x ∷ xs) ys i = inr (in_right n xs ys i)

in_either : (n : ℕ) (xs ys : List ℕ) → In n (xs ++ ys) → In n xs ⊎ In n ys
in_either n [] ys i = inr i
in_either n (x ∷ xs) ys i = ⊎_elim (λ (e : x ≡ n). inl (inl e)) (λ j. ⊎_elim (λ a. inl (inr a)) (λ b. inr b) (in_either n xs ys j)) i

pub disposed_before-append : (past : List Phase) (p : Phase) → disposed_before (past ++ p ∷ []) ≡ disposed_before past ++ disposed_in p.entries
disposed_before-append [] p = append-nil (disposed_in p.entries)
disposed_before-append (q ∷ past) p = ap (λ ns. disposed_in q.entries ++ ns) (disposed_before-append past p) ∙ sym (append_assoc (disposed_in q.entries) (disposed_before past) (disposed_in p.entries))

times-append : (n : ℕ) (xs ys : List ℕ) → times n (xs ++ ys) ≡ times n xs + times n ys
times-append n xs ys = sum_by-append (λ (k : ℕ). one_if (n == k)) xs ys

-- ---- what is live behind disposals

if_false : (b c : Bool) → c ≡ false → (if b then false else c) ≡ false
if_false true c e = refl
if_false false c e = e

live_stays : (component : Component) (owners : List ℕ) (held : Held) (n : ℕ) → is_live held n ≡ false → is_live (held_disposed component owners held) n ≡ false
live_stays component [] held n f = f
live_stays component (x ∷ owners) held n f = live_stays component owners (killed component x held) n (live_left (going_with component x) held n ∙ if_false (has_number (going_with component x).owners n) (is_live held n) f)

goes_dead : (component : Component) (owners : List ℕ) (held : Held) (d n : ℕ) → In d owners → has_number (going_with component d).owners n ≡ true → is_live (held_disposed component owners held) n ≡ false
goes_dead component [] held d n i g = absurd i
goes_dead component (x ∷ owners) held d n i g = ⊎_elim
    (λ (e : x ≡ d). live_stays component owners (killed component x held) n (live_left (going_with component x) held n ∙ ap (λ (b : Bool). if b then false else is_live held n) (ap (λ (k : ℕ). has_number (going_with component k).owners n) e ∙ g)))
    (λ j. goes_dead component owners (killed component x held) d n j g) i

-- an owner that went with one of these
abbrev Went : Component → List ℕ → ℕ → Type 0
Went component owners n = (d : ℕ) × In d owners × (has_number (going_with component d).owners n ≡ true)

why_dead : (component : Component) (owners : List ℕ) (held : Held) (n : ℕ) → is_live (held_disposed component owners held) n ≡ false → (is_live held n ≡ false) ⊎ Went component owners n
why_dead component [] held n f = inl f
why_dead component (x ∷ owners) held n f = ⊎_elim
    (λ (e : is_live (killed component x held) n ≡ false). here (has_number (going_with component x).owners n) refl (sym (live_left (going_with component x) held n) ∙ e))
    (λ (w : Went component owners n). inr (w.0, inr w.1, w.2))
    (why_dead component owners (killed component x held) n f)
  where
    here : (b : Bool) → has_number (going_with component x).owners n ≡ b → (if b then false else is_live held n) ≡ false → (is_live held n ≡ false) ⊎ Went component (x ∷ owners) n
    here true is e = inr (x, inl refl, is)
    here false is e = inl e

each_long : (places : List ℕ) (list : List Bool) → length (with_each false places list) ≡ length list
each_long [] list = refl
each_long (place ∷ places) list = each_long places _ ∙ length-set list place false

live_long : (component : Component) (owners : List ℕ) (held : Held) → length (held_disposed component owners held).live ≡ length held.live
live_long component [] held = refl
live_long component (x ∷ owners) held = live_long component owners (killed component x held) ∙ each_long (going_with component x).owners held.live

live_edited : (xs : List Ordered) (held : Held) → (held_edited xs held).live ≡ held.live
live_edited [] held = refl
live_edited (x ∷ xs) held = live_edited xs (held_changed x.edit held)

-- ---- dead owners

not_true : (b : Bool) → not b ≡ true → b ≡ false
not_true true e = absurd cc
not_true false e = refl

pub in_dead : (held : Held) (n : ℕ) → In n (dead_owners held) → (n < length held.live) × (is_live held n ≡ false)
in_dead held n i =
    let r = in_filter (λ m. not (is_live held m)) (range_with_len 0 (length held.live)) n i in
    let l = in_range 0 (length held.live) n r.0 in
    (omega arith, not_true (is_live held n) r.1)

pub dead_in : (held : Held) (n : ℕ) → n < length held.live → is_live held n ≡ false → In n (dead_owners held)
dead_in held n l f = filter_in (λ m. not (is_live held m)) (range_with_len 0 (length held.live)) n (number_in 0 (length held.live) n (omega arith) (omega arith)) (ap not f)

-- ---- the operation that disposes an owner

pub record Found (K : ℕ → List Done → Done → List Done → Type 0) (answered asked : Done → Bool) : Type 0 where
  pub pass : ℕ
  pub before : List Done
  pub done : Done
  pub later : List Done
  pub holds : K pass before done later
  pub has : answered done ≡ true
  pub asks : asked done ≡ true

find_in_lane : (K : ℕ → List Done → Done → List Done → Type 0) (answered asked : Done → Bool) (pass : ℕ) (before lane : List Done) → EachFrom (K pass) before lane → list_all answered lane ≡ true → list_any asked lane ≡ true → Found K answered asked
find_in_lane K answered asked pass before [] each all any = absurd cc
find_in_lane K answered asked pass before (d ∷ lane) each all any =
    let both = and_cases (answered d) (list_all answered lane) all in
    ⊎_elim (λ (e : asked d ≡ true). record { pass = pass; before = before; done = d; later = lane; holds = each.0; has = both.0; asks = e })
    (λ (e : list_any asked lane ≡ true). find_in_lane K answered asked pass (before ++ d ∷ []) lane each.1 both.1 e) (or_cases (asked d) (list_any asked lane) any)

find_in_lanes : (K : ℕ → List Done → Done → List Done → Type 0) (answered asked : Done → Bool) (pass : ℕ) (lanes : List (List Done)) → EachLane K pass lanes → list_all (list_all answered) lanes ≡ true → list_any (list_any asked) lanes ≡ true → Found K answered asked
find_in_lanes K answered asked pass [] each all any = absurd cc
find_in_lanes K answered asked pass (lane ∷ lanes) each all any =
    let both = and_cases (list_all answered lane) (list_all (list_all answered) lanes) all in
    ⊎_elim (λ (e : list_any asked lane ≡ true). find_in_lane K answered asked pass [] lane each.0 both.0 e)
    (λ (e : list_any (list_any asked) lanes ≡ true). find_in_lanes K answered asked (suc pass) lanes each.1 both.1 e) (or_cases (list_any asked lane) (list_any (list_any asked) lanes) any)

-- a disposal is answered by one
disposal_of : (owner : ℕ) (r : Reply) → is_answer (op.Dispose owner) r ≡ true → (x : Disposal) × (disposal_in r ≡ Some x)
disposal_of owner (reply.Set n) h = absurd cc
disposal_of owner (reply.Got v n) h = absurd cc
disposal_of owner (reply.Pumped x) h = absurd cc
disposal_of owner (reply.Disposal x) h = (x, refl)
disposal_of owner (reply.Edited n v) h = absurd cc
disposal_of owner reply.NoRow h = absurd cc
disposal_of owner (reply.Busy n) h = absurd cc
disposal_of owner (reply.Again n) h = absurd cc
disposal_of owner (reply.Disposed n) h = absurd cc
disposal_of owner (reply.Full n) h = absurd cc

-- what is disposed lies in an area, all owners of which are disposed
abbrev AllGone : List Phase → Phase → ℕ → Type 0
AllGone past p d = (area : ℕ) × (is_inside p.opened area d ≡ true) × ((n : ℕ) → In n (area_of p.opened area) → In n (disposed_in p.entries) ⊎ In n (disposed_before past))

all_gone : (past : List Phase) (p : Phase) (d : ℕ) (x : ScriptOp) (r : Reply) (before later : List Done) → IsDisposal past p before later x r → is_answer x r ≡ true → names_area p.opened d (record { op = x; reply = r }) ≡ true → AllGone past p d
all_gone past p d (op.Set id key code) r before later is has asks = absurd cc
all_gone past p d (op.Get id key) r before later is has asks = absurd cc
all_gone past p d op.Pump r before later is has asks = absurd cc
all_gone past p d (op.Dispose area) r before later is has asks =
    let x = disposal_of area r has in
    let whole : DisposesAs past p before later area x.0 = subst (λ (o : Option Disposal). IfSome o (λ y. DisposesAs past p before later area y)) x.1 is in
    (area, asks, whole.1)
all_gone past p d (op.Change edit) r before later is has asks = absurd cc

-- ---- entries are of the plan

disposed_within : (o : Opened) (es : List Noted) → ((e : Noted) → In e es → IsOfPlan o e.fact) → (n : ℕ) → In n (disposed_in es) → n < length o.plan.owners
disposed_within o [] of_plan n i = absurd i
disposed_within o (e ∷ es) of_plan n i = at e.fact (of_plan e (inl refl)) i (disposed_within o es (λ x j. of_plan x (inr j)) n)
  where
    at : (f : Fact) → IsOfPlan o f → In n (cons_option (owner_in f) (disposed_in es)) → (In n (disposed_in es) → n < length o.plan.owners) → n < length o.plan.owners
    at (fact.Write row code) is i later = later i
    at (fact.Change row code) is i later = later i
    at (fact.Ran row code) is i later = later i
    at (fact.Void row) is i later = later i
    at (fact.Disposed owner) is i later = ⊎_elim (λ (e : owner ≡ n). subst (λ (k : ℕ). k < length o.plan.owners) e is) (λ j. later j) i
    at (fact.Edit pass index) is i later = later i

-- ---- a phase

-- the dead are those that were disposed, each once
pub record DeadFit (component : Component) (held : Held) (past : List Phase) : Type 0 where
  pub long : length held.live ≡ length (plan_owners component)
  pub was : (n : ℕ) → In n (dead_owners held) → In n (disposed_before past)
  pub now : (n : ℕ) → In n (disposed_before past) → In n (dead_owners held)
  pub once : (n : ℕ) → times n (disposed_before past) ≤ 1

module _ (component : Component) (kept : IsKept component) (held : Held) (past : List Phase) (p : Phase) (keys : ℕ → Option Code) (opens : p.opened ≡ opened_of component held) (is : IsPhase past p) (fit : DeadFit component held past) where
  -- what is held before the disposals
  abbrev edited : Held
  edited = held_edited (edits_of p.lanes p.entries) (held_written p.opened p.entries)

  same_live : edited.live ≡ held.live
  same_live = live_edited (edits_of p.lanes p.entries) (held_written p.opened p.entries) ∙ ap (λ (o : Opened). o.held.live) opens

  live_is : (n : ℕ) → is_live edited n ≡ is_live held n
  live_is n = ap (λ (live : List Bool). slice_index_or live n false) same_live

  abbrev behind : Held
  behind = after component p keys

  long : length behind.live ≡ length (plan_owners component)
  long = live_long component (disposed_in p.entries) edited ∙ ap (λ (live : List Bool). length live) same_live ∙ fit.long

  is_owner : (n : ℕ) → n < length (plan_owners component) → has_number (0 ∷ owners_in component.items) n ≡ true
  is_owner n l = has_owner component kept n (number_in 0 (length (plan_owners component)) n (omega arith) (omega arith))

  inside_is : (area n : ℕ) → is_inside p.opened area n ≡ holds area (around_at (around_all component) n)
  inside_is area n = ap (λ (o : Opened). is_inside o area n) opens

  -- an owner that went with one that was disposed has an entry too
  went_disposed : (n : ℕ) → n < length (plan_owners component) → Went component (disposed_in p.entries) n → In n (disposed_in p.entries) ⊎ In n (disposed_before past)
  went_disposed n l w =
      let found = find_in_lanes (λ pass before d later. IsDisposal past p before later d.op d.reply) (λ d. is_answer d.op d.reply) (names_area p.opened w.0) 1 p.lanes is.merge.disposals.each is.merge.answered (is.merge.disposals.asked w.0 w.1) in
      let gone = all_gone past p w.0 found.done.op found.done.reply found.before found.later found.holds found.has found.asks in
      let d_in_n : holds w.0 (around_at (around_all component) n) ≡ true = (whole_grows component kept w.0).inside n (is_owner n l) ∙ w.2 in
      let area_in_d : holds gone.0 (around_at (around_all component) w.0) ≡ true = sym (inside_is gone.0 w.0) ∙ gone.1 in
      let within : n < length (around_all component) = omega (arith, (whole_grows component kept 0).long, owners_long component kept) in
      let area_in_n = holds_through (plan_owners component) gone.0 w.0 n within d_in_n area_in_d in
      gone.2 n (filter_in (is_inside p.opened gone.0) (range_with_len 0 (length p.opened.plan.owners)) n
      (subst (λ (k : ℕ). In n (range_with_len 0 k)) (sym (ap (λ (o : Opened). length o.plan.owners) opens)) (number_in 0 (length (plan_owners component)) n (omega arith) (omega arith)))
      (inside_is gone.0 n ∙ area_in_n))

  was : (n : ℕ) → In n (dead_owners behind) → In n (disposed_before (past ++ p ∷ []))
  was n i =
      let d = in_dead behind n i in
      let l : n < length (plan_owners component) = omega (arith, d.0, long) in
      subst (In n) (sym (disposed_before-append past p)) (⊎_elim
      (λ (f : is_live edited n ≡ false). in_left n (disposed_before past) (disposed_in p.entries) (fit.was n (dead_in held n (omega (arith, l, fit.long)) (sym (live_is n) ∙ f))))
      (λ (w : Went component (disposed_in p.entries) n). ⊎_elim (λ j. in_right n (disposed_before past) (disposed_in p.entries) j) (λ j. in_left n (disposed_before past) (disposed_in p.entries) j) (went_disposed n l w))
      (why_dead component (disposed_in p.entries) edited n d.1))

  goes_itself : (n : ℕ) → n < length (plan_owners component) → has_number (going_with component n).owners n ≡ true
  goes_itself n l =
      let g = whole_grows component kept n in
      let own = g.itself n (is_owner n l) in
      sym (g.inside n (is_owner n l)) ∙ ap (λ (o : Option (List ℕ)). holds n (unwrap_or o [])) own.1 ∙ or_left (n == n) (holds n own.0) (itself_equal n)

  now : (n : ℕ) → In n (disposed_before (past ++ p ∷ [])) → In n (dead_owners behind)
  now n i = ⊎_elim
      (λ j. let d = in_dead held n (fit.now n j) in
      dead_in behind n (omega (arith, d.0, long, fit.long)) (live_stays component (disposed_in p.entries) edited n (live_is n ∙ d.1)))
      (λ j. let l : n < length (plan_owners component) = subst (λ (k : ℕ). n < k) (ap (λ (o : Opened). length o.plan.owners) opens) (disposed_within p.opened p.entries is.journal.of_plan n j) in
      dead_in behind n (omega (arith, l, long)) (goes_dead component (disposed_in p.entries) edited n n j (goes_itself n l)))
      (in_either n (disposed_before past) (disposed_in p.entries) (subst (In n) (disposed_before-append past p) i))

  once : (n : ℕ) → times n (disposed_before (past ++ p ∷ [])) ≤ 1
  once n =
      let two = is.merge.disposals.once n in
      let left = times-append n (disposed_in p.entries) (disposed_before past) in
      let right = times-append n (disposed_before past) (disposed_in p.entries) in
      let e = ap (times n) (disposed_before-append past p) in
      omega arith

  pub dead_behind : DeadFit component behind (past ++ p ∷ [])
  dead_behind = record { long = long; was = was; now = now; once = once }

-- ---- a run

none_dead : (owners : List ℕ) (n : ℕ) → n < length (true ∷ map (λ owner. true) owners) → slice_index_or (true ∷ map (λ (owner : ℕ). true) owners) n false ≡ true
none_dead owners zero l = refl
none_dead [] (suc n) l = absurd (omega arith)
none_dead (x ∷ owners) (suc n) l = none_dead owners n (omega arith)

pub first_dead : (component : Component) → IsKept component → (keys : ℕ → Option Code) → DeadFit component (held_arrived keys (first_held component)) []
first_dead component kept keys = record {
  long = ap suc (length-map (owners_in component.items) (λ (owner : ℕ). true)) ∙ owners_long component kept;
  was = λ n i. (let d = in_dead (held_arrived keys (first_held component)) n i in absurd (true≢false (sym (none_dead (owners_in component.items) n d.0) ∙ d.1)));
  now = λ n i. absurd i;
  once = λ n. omega arith;
}

phases-append : (steps : List Settled) (s : Settled) → phases_of (steps ++ s ∷ []) ≡ phases_of steps ++ s.phase ∷ []
phases-append [] s = refl
phases-append (x ∷ steps) s = ap (λ (ps : List Phase). x.phase ∷ ps) (phases-append steps s)

pub run_dead : (component : Component) → IsKept component → (first last : Held) (steps : List Settled) → DeadFit component first [] → Runs component first steps last → DeadFit component last (phases_of steps)
run_dead component kept first last steps fit none = fit
run_dead component kept first last steps fit (more {past} {held} s keys r opens is e) =
    let before = run_dead component kept first held past fit r in
    let behind = dead_behind component kept held (phases_of past) s.phase keys opens is before in
    subst (λ (h : Held). DeadFit component h (phases_of (past ++ s ∷ []))) (sym e) (subst (DeadFit component (after component s.phase keys)) (sym (phases-append past s)) behind)
