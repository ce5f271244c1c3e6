-- What polls of the loads of a component come to.
use Rattle.std.proofs.Common.{◌≡◌, ℕ, zero, suc, ◌+◌, ◌<◌, ◌⊎◌, inl, inr, ◌&&◌, not, if◌then◌else◌, Bool, true, false, List, [], ◌∷◌, ◌++◌, map, length, get_or, set, slice_get, Option, Some, refl, sym, ap, subst, ◌∙◌, append_assoc, arith, length-append}
use Rattle.std.specs.Prelude.{IsSome}
use Rattle.std.specs.List.{filter}
use Rattle.std.proofs.lemmas.List.{append-nil, map-append}
use Rattle.std.proofs.lemmas.List.Elements.{filter-append}
use Rattle.std.proofs.lemmas.Option.{slice_get_within}
use Rattle.values.specs.declared.code.Code.{Code}
use Rattle.component_items.specs.declared.component.Component.{Component}
use Rattle.component_items.specs.Kept.{IsKept}
use Rattle.outside.specs.Asks.{Ask}
use Rattle.outside.specs.declared.traits.Arrival.{Arrival}
use Rattle.async_derived.specs.declared.loading.Loading.{Loading}
use Rattle.async_derived.specs.declared.loading.Polled.{Polled}
use Rattle.plain_evaluation.specs.Changed.{with_arrived}
use Rattle.plain_evaluation.specs.Fits.{RowsFit}
use Rattle.plain_evaluation.specs.Held.{Holding, nothing, arrived, Held, holding_of, arrived_in, arrived_held}
use Rattle.plain_evaluation.specs.Place.{outside}
use Rattle.plain_evaluation.specs.Scratch.{scratch_in, has_arrived}
use Rattle.plain_evaluation.specs.Written.{State, state_of}
use Rattle.plain_evaluation.proofs.Fitting.{rows_of_held}
use Rattle.plain_evaluation.proofs.Most.{changed}
use Rattle.plan_meaning.proofs.Rows.{append_at}
use Rattle.load_table.specs.Loads.{LoadOf, loads_in, is_live_load, is_pending, pending_among}
use Rattle.held_state.specs.State.{HeldState, IsOf, with_held}
use Rattle.held_state.proofs.OfComponent.{key_is_of}
use Rattle.load_meaning.specs.declared.late.Late.{Late}
use Rattle.load_meaning.specs.Polls.{Progress, key_of, late_as, IsPolled, ArePolled, none, passed, polled}
use Rattle.load_meaning.proofs.Arrives.{Arrives, arrives_itself, arrives_on, arrives_one, asked_alike}
use Rattle.load_meaning.proofs.Keys.{AmongLoads, ids_apart, key_stays, at_among}
use Rattle.load_meaning.proofs.Live.{holds_key, can_arrive}
use Rattle.load_meaning.proofs.Loadings.{late_ids}

-- ---- lists

pub seam : {A : Type 0} (xs : List A) (y : A) (ys : List A) → slice_get (xs ++ y ∷ ys) (length xs) ≡ Some y
seam [] y ys = refl
seam (x ∷ xs) y ys = seam xs y ys

before_seam : {A : Type 0} (xs ys : List A) (place : ℕ) (x : A) → slice_get (xs ++ ys) place ≡ Some x → place < length xs → slice_get xs place ≡ Some x
before_seam [] ys place x is within = absurd (omega arith)
before_seam (y ∷ xs) ys zero x is within = is
before_seam (y ∷ xs) ys (suc place) x is within = before_seam xs ys place x is (omega arith)

pub some_at : {A : Type 0} (xs : List A) (place : ℕ) → place < length xs → (x : A) × (slice_get xs place ≡ Some x)
some_at [] place within = absurd (omega arith)
some_at (x ∷ xs) zero within = (x, refl)
some_at (x ∷ xs) (suc place) within = some_at xs place (omega arith)

put_there : (list : List Holding) (id : ℕ) (before key : Option Code) → get_or list id nothing ≡ arrived before → get_or (set list id (arrived key)) id nothing ≡ arrived key
put_there [] id before key is = cc
put_there (x ∷ list) zero before key is = refl
put_there (x ∷ list) (suc id) before key is = put_there list id before key is

among_parts : (loads : List LoadOf) (load : LoadOf) → AmongLoads loads load → (before : List LoadOf) × (after : List LoadOf) × (loads ≡ before ++ load ∷ after) × ((other : LoadOf) → AmongLoads before other → AmongLoads loads other)
among_parts [] load among = absurd among
among_parts (x ∷ loads) load (inl here) = ([], loads, (λ i. here i ∷ loads), λ other among. absurd among)
among_parts (x ∷ loads) load (inr there) = let one = among_parts loads load there in (x ∷ one.0, one.1, (λ i. x ∷ one.2 i), deeper one.0 one.3)
  where
    deeper : (before : List LoadOf) → ((other : LoadOf) → AmongLoads before other → AmongLoads loads other) → (other : LoadOf) → AmongLoads (x ∷ before) other → AmongLoads (x ∷ loads) other
    deeper before later other (inl same) = inl same
    deeper before later other (inr more) = inr (later other more)

-- ---- pending loads

pub pending-append : (component : Component) (state : State) (loads others : List LoadOf) → pending_among component state (loads ++ others) ≡ pending_among component state loads ++ pending_among component state others
pending-append component state loads others =
    ap (map (λ (load : LoadOf). load.id)) (filter-append (is_pending component state) loads others)
    ∙ map-append (λ (load : LoadOf). load.id) (filter (is_pending component state) loads) (filter (is_pending component state) others)

pending_one : (component : Component) (state : State) (load : LoadOf) (b : Bool) → is_pending component state load ≡ b → pending_among component state (load ∷ []) ≡ (if b then load.id ∷ [] else [])
pending_one component state load b is = ap (λ (c : Bool). map (λ (l : LoadOf). l.id) (if c then load ∷ [] else [])) is ∙ at b
  where
    at : (b : Bool) → map (λ (l : LoadOf). l.id) (if b then load ∷ [] else []) ≡ (if b then load.id ∷ [] else [])
    at true = refl
    at false = refl

pending_alike : (component : Component) (one other : State) (loads : List LoadOf) → ((load : LoadOf) → AmongLoads loads load → is_pending component one load ≡ is_pending component other load) → pending_among component one loads ≡ pending_among component other loads
pending_alike component one other [] same = refl
pending_alike component one other (load ∷ loads) same =
    pending-append component one (load ∷ []) loads
    ∙ (λ i. both i ++ pending_alike component one other loads (λ l among. same l (inr among)) i)
    ∙ sym (pending-append component other (load ∷ []) loads)
  where
    both : pending_among component one (load ∷ []) ≡ pending_among component other (load ∷ [])
    both = pending_one component one load (is_pending component other load) (same load (inl refl)) ∙ sym (pending_one component other load (is_pending component other load) refl)

-- ---- one arrival

module _ (component : Component) (kept : IsKept component) (state : HeldState) (held : Held) (of : IsOf component (with_held state held)) (before after : List LoadOf) (load : LoadOf) (parted : loads_in component ≡ before ++ load ∷ after) (lives : is_live_load component (state_of held) load ≡ true) (key : Option Code) where
  abbrev later : Held
  later = with_arrived held load.id key

  at_place : slice_get (loads_in component) (length before) ≡ Some load
  at_place = subst (λ (loads : List LoadOf). slice_get loads (length before) ≡ Some load) (sym parted) (seam before load after)

  pub was : holding_of held load.id ≡ arrived (arrived_held held load.id)
  was = holds_key component held kept of.holds (length before) load at_place lives

  pub arrives : Arrives held later
  arrives = arrives_one held held load.id (arrived_held held load.id) key was (arrives_itself held)

  pub here : arrived_held later load.id ≡ key
  here = ap arrived_in (put_there held.holdings load.id (arrived_held held load.id) key was)

  pub still_of : IsOf component (with_held state later)
  still_of = key_is_of component (with_held state held) load.id key (subst IsSome (sym (can_arrive component held kept of.holds (length before) load at_place lives)) refl) of

  fits : RowsFit component (state_of held)
  fits = rows_of_held component held of.fits

  pub others_stay : (other : LoadOf) → AmongLoads before other → is_live_load component (state_of held) other ≡ true → arrived_held later other.id ≡ arrived_held held other.id
  others_stay other among live = at (changed held load.id (arrived key) other.id)
    where
      at : (holding_of later other.id ≡ holding_of held other.id) ⊎ ((other.id ≡ load.id) × (holding_of later other.id ≡ arrived key)) → arrived_held later other.id ≡ arrived_held held other.id
      at (inl same) = ap arrived_in same
      at (inr both) = absurd (ids_apart component (state_of held) kept fits of.owners.areas before after load parted lives other among live both.0)

  -- the key of a load stays where those before it are before this one
  key_same_of : (other : LoadOf) (first rest : List LoadOf) → loads_in component ≡ first ++ other ∷ rest → ((l : LoadOf) → AmongLoads first l → AmongLoads before l) → is_live_load component (state_of held) other ≡ true → key_of component later other ≡ key_of component held other
  key_same_of other first rest split inside live =
      ap (λ (s : State). scratch_in component s (outside (suc other.id))) (asked_alike held later arrives)
      ∙ key_stays component (state_of held) kept fits of.owners.areas first rest other split live (arrived_held later) (λ l among is. others_stay l (inside l among) is)

  pub own_key_same : key_of component later load ≡ key_of component held load
  own_key_same = key_same_of load before after parted (λ l among. among) lives

  pub keys_same : (other : LoadOf) → AmongLoads before other → is_live_load component (state_of held) other ≡ true → key_of component later other ≡ key_of component held other
  keys_same other among live =
      let one = among_parts before other among in
      let split : loads_in component ≡ one.0 ++ other ∷ (one.1 ++ load ∷ after) = parted ∙ ap (λ (loads : List LoadOf). loads ++ load ∷ after) one.2 ∙ append_assoc one.0 (other ∷ one.1) (load ∷ after) in
      key_same_of other one.0 (one.1 ++ load ∷ after) split one.3 live

  pub pending_same : pending_among component (state_of later) before ≡ pending_among component (state_of held) before
  pending_same = pending_alike component (state_of later) (state_of held) before (λ other among. at other among (is_live_load component (state_of held) other) refl)
    where
      at : (other : LoadOf) → AmongLoads before other → (b : Bool) → is_live_load component (state_of held) other ≡ b → is_pending component (state_of later) other ≡ is_pending component (state_of held) other
      at other among true live = λ i. is_live_load component (state_of held) other && not (has_arrived (others_stay other among live i) (keys_same other among live i))
      at other among false live =
          ap (λ (b : Bool). b && not (has_arrived (arrived_held later other.id) (key_of component later other))) live
          ∙ sym (ap (λ (b : Bool). b && not (has_arrived (arrived_held held other.id) (key_of component held other))) live)

  pub own_pending : (b : Bool) → not (has_arrived key (key_of component held load)) ≡ b → pending_among component (state_of later) (load ∷ []) ≡ (if b then load.id ∷ [] else [])
  own_pending b is = pending_one component (state_of later) load b (
      ap (λ (live : Bool). live && not (has_arrived (arrived_held later load.id) (key_of component later load))) lives
      ∙ (λ i. not (has_arrived (here i) (own_key_same i)))
      ∙ is)

-- ---- all polls

-- what became of one load
pub record WasPolled {S : Type 0} (answers : S → Ask → Arrival → S → Type 0) (component : Component) (held : Held) (load : LoadOf) (old new : Loading) : Type 0 where
  pub came : Polled
  pub before : S
  pub after : S
  pub polled : IsPolled answers load (key_of component held load) old new came before after
  pub arrived : arrived_held held load.id ≡ new.arrived

-- what became of these loads, the first of the component
pub record AreDone {S : Type 0} (answers : S → Ask → Arrival → S → Type 0) (component : Component) (state : HeldState) (first : Progress) (loads : List LoadOf) (now : Progress) (late : List (ℕ × Late)) : Type 0 where
  pub arrives : Arrives first.held now.held
  pub of : IsOf component (with_held state now.held)
  pub paired : length now.loadings ≡ length loads
  pub each : (place : ℕ) (load : LoadOf) (old new : Loading) → slice_get loads place ≡ Some load → slice_get first.loadings place ≡ Some old → slice_get now.loadings place ≡ Some new → is_live_load component (state_of now.held) load ≡ true → WasPolled answers component now.held load old new
  pub late_are : map (λ l. l.0) late ≡ pending_among component (state_of now.held) loads

module _ {S : Type 0} (answers : S → Ask → Arrival → S → Type 0) (component : Component) (kept : IsKept component) (state : HeldState) (first : Progress) where
  one_more : (now : Progress) (loads : List LoadOf) (load : LoadOf) (loading : Loading) → length now.loadings ≡ length loads → length (now.loadings ++ loading ∷ []) ≡ length (loads ++ load ∷ [])
  one_more now loads load loading same = let a = length-append now.loadings (loading ∷ []) in let b = length-append loads (load ∷ []) in omega (arith, a, b, same)

  -- of each load, where it is known of those before and of the last
  each_more : (loads : List LoadOf) (load : LoadOf) (loadings : List Loading) (loading : Loading) (P : ℕ → LoadOf → Loading → Type 0) → length loadings ≡ length loads
      → ((place : ℕ) (l : LoadOf) (new : Loading) → slice_get loads place ≡ Some l → slice_get loadings place ≡ Some new → P place l new) → P (length loads) load loading
      → (place : ℕ) (l : LoadOf) (new : Loading) → slice_get (loads ++ load ∷ []) place ≡ Some l → slice_get (loadings ++ loading ∷ []) place ≡ Some new → P place l new
  each_more loads load loadings loading P paired before last place l new is at_new = at (append_at loads (load ∷ []) place l is)
    where
      at_last : (j : ℕ) → place ≡ length loads + j → slice_get (load ∷ []) j ≡ Some l → P place l new
      at_last zero e found =
          let here : load ≡ l = cc in
          let mine : place ≡ length loads = omega (arith, e) in
          let got : slice_get (loadings ++ loading ∷ []) (length loadings) ≡ Some new = ap (slice_get (loadings ++ loading ∷ [])) {x = length loadings} {y = place} (omega (arith, mine, paired)) ∙ at_new in
          let there : Some loading ≡ Some new = sym (seam loadings loading []) ∙ got in
          let same : loading ≡ new = cc in
          subst (λ (n : ℕ). P n l new) (sym mine) (subst (λ (x : LoadOf). P (length loads) x new) here (subst (λ (x : Loading). P (length loads) load x) same last))
      at_last (suc j) e found = cc

      at : (slice_get loads place ≡ Some l) ⊎ ((j : ℕ) × (place ≡ length loads + j) × (slice_get (load ∷ []) j ≡ Some l)) → P place l new
      at (inl found) =
          let within = slice_get_within loads place l found in
          before place l new found (before_seam loadings (loading ∷ []) place new at_new (omega (arith, within, paired)))
      at (inr there) = at_last there.0 there.1 there.2

  pass_step : (loads : List LoadOf) (now : Progress) (late : List (ℕ × Late)) (load : LoadOf) (loading : Loading) → is_live_load component (state_of now.held) load ≡ false → AreDone answers component state first loads now late → AreDone answers component state first (loads ++ load ∷ []) (record { held = now.held; loadings = now.loadings ++ loading ∷ [] }) late
  pass_step loads now late load loading dead done = record {
    arrives = done.arrives;
    of = done.of;
    paired = one_more now loads load loading done.paired;
    each = λ place l old new is at_old at_new live.
        each_more loads load now.loadings loading (λ (p : ℕ) (x : LoadOf) (y : Loading). slice_get first.loadings p ≡ Some old → is_live_load component (state_of now.held) x ≡ true → WasPolled answers component now.held x old y) done.paired
        (λ p x y found got was lives. done.each p x old y found was got lives)
        (λ was lives. cc)
        place l new is at_new at_old live;
    late_are =
        done.late_are
        ∙ sym (append-nil (pending_among component (state_of now.held) loads))
        ∙ ap (λ (more : List ℕ). pending_among component (state_of now.held) loads ++ more) (sym (pending_one component (state_of now.held) load false (ap (λ (live : Bool). live && not (has_arrived (arrived_held now.held load.id) (key_of component now.held load))) dead)))
        ∙ sym (pending-append component (state_of now.held) loads (load ∷ []));
  }

  poll_step : (loads rest : List LoadOf) (now : Progress) (late : List (ℕ × Late)) (load : LoadOf) (old new : Loading) (came : Polled) (before after : S) → loads_in component ≡ loads ++ load ∷ rest → is_live_load component (state_of now.held) load ≡ true → slice_get first.loadings (length loads) ≡ Some old → IsPolled answers load (key_of component now.held load) old new came before after → AreDone answers component state first loads now late → AreDone answers component state first (loads ++ load ∷ []) (record { held = with_arrived now.held load.id new.arrived; loadings = now.loadings ++ new ∷ [] }) (late ++ late_as load.id came)
  poll_step loads rest now late load old new came before after parted lives at_old poll done = record {
    arrives = arrives_on first.held now.held last done.arrives (arrives component kept state now.held done.of loads rest load parted lives new.arrived);
    of = still_of component kept state now.held done.of loads rest load parted lives new.arrived;
    paired = one_more now loads load new done.paired;
    each = λ place l was got is at_was at_got live.
        each_more loads load now.loadings new (λ (p : ℕ) (x : LoadOf) (y : Loading). slice_get first.loadings p ≡ Some was → is_live_load component (state_of now.held) x ≡ true → WasPolled answers component last x was y) done.paired
        (λ p x y found here before_it live_x. moved x was y (at_among loads p x found) live_x (done.each p x was y found before_it here live_x))
        (λ there live_x. (let same : old ≡ was = cc in subst (λ (o : Loading). WasPolled answers component last load o new) same mine))
        place l got is at_got at_was live;
    late_are =
        map-append (λ (l : ℕ × Late). l.0) late (late_as load.id came)
        ∙ (λ i. (done.late_are ∙ sym (pending_same component kept state now.held done.of loads rest load parted lives new.arrived)) i ++ own i)
        ∙ sym (pending-append component (state_of last) loads (load ∷ []));
  }
    where
      last : Held
      last = with_arrived now.held load.id new.arrived

      mine : WasPolled answers component (with_arrived now.held load.id new.arrived) load old new
      mine = record {
        came = came;
        before = before;
        after = after;
        polled = subst (λ (key : Code). IsPolled answers load key old new came before after) (sym (own_key_same component kept state now.held done.of loads rest load parted lives new.arrived)) poll;
        arrived = here component kept state now.held done.of loads rest load parted lives new.arrived;
      }

      moved : (x : LoadOf) (was y : Loading) → AmongLoads loads x → is_live_load component (state_of now.held) x ≡ true → WasPolled answers component now.held x was y → WasPolled answers component (with_arrived now.held load.id new.arrived) x was y
      moved x was y among live one = record {
        came = one.came;
        before = one.before;
        after = one.after;
        polled = subst (λ (key : Code). IsPolled answers x key was y one.came one.before one.after) (sym (keys_same component kept state now.held done.of loads rest load parted lives new.arrived x among live)) one.polled;
        arrived = others_stay component kept state now.held done.of loads rest load parted lives new.arrived x among live ∙ one.arrived;
      }

      own : map (λ (l : ℕ × Late). l.0) (late_as load.id came) ≡ pending_among component (state_of (with_arrived now.held load.id new.arrived)) (load ∷ [])
      own =
          late_ids load.id came new.arrived (key_of component now.held load) poll.arrived
          ∙ sym (own_pending component kept state now.held done.of loads rest load parted lives new.arrived (not (has_arrived new.arrived (key_of component now.held load))) refl)

  pub all_done : (before : S) (loads : List LoadOf) (now : Progress) (late : List (ℕ × Late)) (after : S) (rest : List LoadOf) → IsOf component (with_held state first.held) → loads_in component ≡ loads ++ rest → ArePolled answers component first before loads now late after → AreDone answers component state first loads now late
  all_done before loads now late after rest of parted none = record {
    arrives = arrives_itself first.held;
    of = of;
    paired = refl;
    each = λ place load old new is at_old at_new live. cc;
    late_are = refl;
  }
  all_done before _ _ _ after rest of parted (passed {loads} {now} {late} {state = reached} load loading polls dead there) =
      pass_step loads now late load loading dead (all_done before loads now late reached (load ∷ rest) of (parted ∙ append_assoc loads (load ∷ []) rest) polls)
  all_done before _ _ _ after rest of parted (polled {loads} {now} {late} {state = reached} load old new came last polls lives there poll) =
      let split = parted ∙ append_assoc loads (load ∷ []) rest in
      poll_step loads rest now late load old new came reached last split lives there poll (all_done before loads now late reached (load ∷ rest) of split polls)
