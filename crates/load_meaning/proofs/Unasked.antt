-- Where nothing is pending, nothing is asked, and all stays as it is.
use Rattle.std.proofs.Common.{◌≡◌, ℕ, zero, suc, inl, inr, ◌&&◌, not, if◌then◌else◌, Bool, true, false, List, [], ◌∷◌, ◌++◌, map, length, get_or, set, slice_get, Option, Some, refl, sym, ap, subst, ◌∙◌, append_assoc, arith, length-append}
use Rattle.std.specs.List.{filter}
use Rattle.std.proofs.lemmas.List.{append-nil}
use Rattle.values.specs.declared.code.Code.{Code}
use Rattle.component_items.specs.declared.component.Component.{Component}
use Rattle.component_items.specs.Kept.{IsKept}
use Rattle.outside.specs.Asks.{Ask}
use Rattle.outside.specs.declared.traits.Arrival.{Arrival}
use Rattle.async_derived.specs.declared.loading.Loading.{Loading}
use Rattle.async_derived.specs.declared.loading.Polled.{Polled}
use Rattle.async_derived.specs.declared.loading.Polled.TheVariants.{Arrived}
use Rattle.plain_evaluation.specs.Changed.{with_arrived}
use Rattle.plain_evaluation.specs.Held.{Holding, nothing, arrived, Held, holding_of, arrived_held}
use Rattle.plain_evaluation.specs.Scratch.{has_arrived, pending}
use Rattle.plain_evaluation.specs.Written.{state_of}
use Rattle.load_table.specs.Loads.{LoadOf, loads_in, is_live_load, is_pending, pending_among}
use Rattle.load_table.proofs.Pending.{pending_is}
use Rattle.held_state.specs.State.{HeldState, IsOf, with_held}
use Rattle.load_meaning.specs.declared.late.Late.{Late}
use Rattle.load_meaning.specs.Polls.{Progress, key_of, late_as, IsPolled, ArePolled, none, passed, polled, AllPolled, AreInStep}
use Rattle.load_meaning.proofs.Keys.{AmongLoads}
use Rattle.load_meaning.proofs.Live.{holds_key}
use Rattle.load_meaning.proofs.Loadings.{key_is, arrived_key, poll_stays}
use Rattle.load_meaning.proofs.Polls.{seam}

put_same : (list : List Holding) (id : ℕ) (key : Option Code) → get_or list id nothing ≡ arrived key → set list id (arrived key) ≡ list
put_same [] id key is = refl
put_same (x ∷ list) zero key is = ap (λ (h : Holding). h ∷ list) (sym is)
put_same (x ∷ list) (suc id) key is = ap (λ (more : List Holding). x ∷ more) (put_same list id key is)

-- what stands behind a first part
next_is : {A : Type 0} (xs ys : List A) (n : ℕ) (x : A) → n ≡ length xs → slice_get (xs ++ ys) n ≡ Some x → (more : List A) × (ys ≡ x ∷ more)
next_is [] [] n x e is = cc
next_is [] (y ∷ ys) zero x e is = let here : y ≡ x = cc in (ys, λ i. here i ∷ ys)
next_is [] (y ∷ ys) (suc n) x e is = absurd (omega (arith, e))
next_is (z ∷ xs) ys zero x e is = absurd (omega (arith, e))
next_is (z ∷ xs) ys (suc n) x e is = next_is xs ys n x (omega (arith, e)) is

none_left : {A : Type 0} (xs ys : List A) → length (xs ++ ys) ≡ length xs → ys ≡ []
none_left xs [] same = refl
none_left xs (y ∷ ys) same = let long = length-append xs (y ∷ ys) in absurd (omega (arith, long, same))

not_pending : (live has : Bool) → (live && not has) ≡ false → live ≡ true → has ≡ true
not_pending true true is lives = refl
not_pending true false is lives = cc
not_pending false has is lives = cc

-- a live load that is not pending has its key arrived
none_pending : (component : Component) (held : Held) (loads : List LoadOf) → pending_among component (state_of held) loads ≡ [] → (load : LoadOf) → AmongLoads loads load → is_live_load component (state_of held) load ≡ true → has_arrived (arrived_held held load.id) (key_of component held load) ≡ true
none_pending component held [] empty load among live = absurd among
none_pending component held (x ∷ loads) empty load among live = at (is_pending component (state_of held) x) refl empty among (λ rest there. none_pending component held loads rest load there live)
  where
    at : (b : Bool) → is_pending component (state_of held) x ≡ b → map (λ (l : LoadOf). l.id) (if b then x ∷ filter (is_pending component (state_of held)) loads else filter (is_pending component (state_of held)) loads) ≡ [] → AmongLoads (x ∷ loads) load → (pending_among component (state_of held) loads ≡ [] → AmongLoads loads load → has_arrived (arrived_held held load.id) (key_of component held load) ≡ true) → has_arrived (arrived_held held load.id) (key_of component held load) ≡ true
    at true is empties there later = cc
    at false is empties (inl here) later = not_pending (is_live_load component (state_of held) load) (has_arrived (arrived_held held load.id) (key_of component held load)) (ap (is_pending component (state_of held)) (sym here) ∙ is) live
    at false is empties (inr there) later = later empties there

-- ---- polls where nothing is pending

pub record IsAsBefore {S : Type 0} (first : Progress) (before : S) (loads : List LoadOf) (now : Progress) (late : List (ℕ × Late)) (after : S) : Type 0 where
  pub held : now.held ≡ first.held
  pub rest : List Loading
  pub loadings : first.loadings ≡ now.loadings ++ rest
  pub paired : length now.loadings ≡ length loads
  pub late_none : late ≡ []
  pub same : after ≡ before

module _ {S : Type 0} (answers : S → Ask → Arrival → S → Type 0) (component : Component) (kept : IsKept component) (state : HeldState) (first : Progress) (of : IsOf component (with_held state first.held)) (in_step : AreInStep component first) (empty : pending_among component (state_of first.held) (loads_in component) ≡ []) (before : S) where
  more_paired : (now : Progress) (loads : List LoadOf) (load : LoadOf) (loading : Loading) → length now.loadings ≡ length loads → length (now.loadings ++ loading ∷ []) ≡ length (loads ++ load ∷ [])
  more_paired now loads load loading same = let a = length-append now.loadings (loading ∷ []) in let b = length-append loads (load ∷ []) in omega (arith, a, b, same)

  -- the loading that was next goes over
  one_over : (loads : List LoadOf) (now : Progress) (late : List (ℕ × Late)) (after : S) (load : LoadOf) (old : Loading) → slice_get first.loadings (length loads) ≡ Some old → IsAsBefore first before loads now late after → (rest : List Loading) × (first.loadings ≡ (now.loadings ++ old ∷ []) ++ rest)
  one_over loads now late after load old there is =
      let next = next_is now.loadings is.rest (length loads) old (sym is.paired) (ap (λ (xs : List Loading). slice_get xs (length loads)) (sym is.loadings) ∙ there) in
      (next.0, is.loadings ∙ ap (λ (ys : List Loading). now.loadings ++ ys) next.1 ∙ sym (append_assoc now.loadings (old ∷ []) next.0))

  passed_over : (loads : List LoadOf) (now : Progress) (late : List (ℕ × Late)) (after : S) (load : LoadOf) (old : Loading) → slice_get first.loadings (length loads) ≡ Some old → IsAsBefore first before loads now late after → IsAsBefore first before (loads ++ load ∷ []) (record { held = now.held; loadings = now.loadings ++ old ∷ [] }) late after
  passed_over loads now late after load old there is =
      let over = one_over loads now late after load old there is in
      record { held = is.held; rest = over.0; loadings = over.1; paired = more_paired now loads load old is.paired; late_none = is.late_none; same = is.same }

  polled_over : (loads rest : List LoadOf) (now : Progress) (late : List (ℕ × Late)) (reached : S) (load : LoadOf) (old new : Loading) (came : Polled) (after : S) → loads_in component ≡ loads ++ load ∷ rest → is_live_load component (state_of now.held) load ≡ true → slice_get first.loadings (length loads) ≡ Some old → IsPolled answers load (key_of component now.held load) old new came reached after → IsAsBefore first before loads now late reached → IsAsBefore first before (loads ++ load ∷ []) (record { held = with_arrived now.held load.id new.arrived; loadings = now.loadings ++ new ∷ [] }) (late ++ late_as load.id came) after
  polled_over loads rest now late reached load old new came after parted lives there poll is =
      let over = one_over loads now late reached load old there is in
      record {
        held = (λ i. with_arrived (is.held i) load.id (stays i).arrived) ∙ ap (with_arrived first.held load.id) (sym mine) ∙ (λ i. record { holdings = put_same first.held.holdings load.id (arrived_held first.held load.id) was i; live = first.held.live });
        rest = over.0;
        loadings = over.1 ∙ ap (λ (l : Loading). (now.loadings ++ l ∷ []) ++ over.0) (sym stays);
        paired = more_paired now loads load new is.paired;
        late_none = (λ i. is.late_none i ++ late_as load.id (arrived_now i));
        same = poll.unasked stood ∙ is.same;
      }
    where
      at_place : slice_get (loads_in component) (length loads) ≡ Some load
      at_place = subst (λ (all : List LoadOf). slice_get all (length loads) ≡ Some load) (sym parted) (seam loads load rest)

      among : AmongLoads (loads_in component) load
      among = subst (λ (all : List LoadOf). AmongLoads all load) (sym parted) (at_seam loads)
        where
          at_seam : (xs : List LoadOf) → AmongLoads (xs ++ load ∷ rest) load
          at_seam [] = inl refl
          at_seam (x ∷ xs) = inr (at_seam xs)

      lives_first : is_live_load component (state_of first.held) load ≡ true
      lives_first = ap (λ (h : Held). is_live_load component (state_of h) load) (sym is.held) ∙ lives

      mine : arrived_held first.held load.id ≡ old.arrived
      mine = (in_step.each (length loads) load old at_place there lives_first).arrived

      was : holding_of first.held load.id ≡ arrived (arrived_held first.held load.id)
      was = holds_key component first.held kept of.holds (length loads) load at_place lives_first

      stood : old.arrived ≡ Some (key_of component now.held load)
      stood =
          let has = none_pending component first.held (loads_in component) empty load among lives_first in
          sym mine
          ∙ key_is (arrived_held first.held load.id) (key_of component first.held load) (sym (arrived_key (arrived_held first.held load.id) (key_of component first.held load)) ∙ has)
          ∙ ap (λ (h : Held). Some (key_of component h load)) (sym is.held)

      stays : new ≡ old
      stays = poll.state ∙ poll_stays old (key_of component now.held load) came stood

      arrived_now : came ≡ Arrived
      arrived_now = poll.arrived.1 (ap (λ (l : Loading). l.arrived) stays ∙ stood)

  all_over : (loads : List LoadOf) (now : Progress) (late : List (ℕ × Late)) (after : S) (rest : List LoadOf) → loads_in component ≡ loads ++ rest → ArePolled answers component first before loads now late after → IsAsBefore first before loads now late after
  all_over loads now late after rest parted none = record { held = refl; rest = first.loadings; loadings = refl; paired = refl; late_none = refl; same = refl }
  all_over _ _ _ after rest parted (passed {loads} {now} {late} {state = reached} load loading polls dead there) =
      passed_over loads now late reached load loading there (all_over loads now late reached (load ∷ rest) (parted ∙ append_assoc loads (load ∷ []) rest) polls)
  all_over _ _ _ after rest parted (polled {loads} {now} {late} {state = reached} load old new came last polls lives there poll) =
      let split = parted ∙ append_assoc loads (load ∷ []) rest in
      polled_over loads rest now late reached load old new came last split lives there poll (all_over loads now late reached (load ∷ rest) split polls)

pub nothing_asked : {S : Type 0} (answers : S → Ask → Arrival → S → Type 0) (component : Component) (state : HeldState) (old new : Progress) (late : List (ℕ × Late)) (before after : S) → IsKept component → IsOf component (with_held state old.held) → AreInStep component old → AllPolled answers component old new late before after → pending component old.held ≡ [] → (after ≡ before) × (late ≡ []) × (new ≡ old)
nothing_asked answers component state old new late before after kept of in_step polls empty = (is.same, is.late_none, λ i. record { held = is.held i; loadings = loadings i })
  where
    none_of : pending_among component (state_of old.held) (loads_in component) ≡ []
    none_of = sym (pending_is component (state_of old.held) kept of.owners.areas) ∙ empty

    is : IsAsBefore old before (loads_in component) new late after
    is = all_over answers component kept state old of in_step none_of before (loads_in component) new late after [] (sym (append-nil (loads_in component))) polls

    ends : is.rest ≡ []
    ends = none_left new.loadings is.rest (ap length (sym is.loadings) ∙ in_step.paired ∙ sym is.paired)

    loadings : new.loadings ≡ old.loadings
    loadings = sym (is.loadings ∙ ap (λ (more : List Loading). new.loadings ++ more) ends ∙ append-nil new.loadings)
