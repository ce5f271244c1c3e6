-- One poll: what is asked before it, and what holds behind it.
use Rattle.std.proofs.Common.{◌≡◌, ◌≢◌, ◌⊎◌, ℕ, zero, suc, ◌+◌, ◌-◌, ◌^◌, ◌<◌, ◌≤◌, inl, inr, true, false, List, [], ◌∷◌, ◌++◌, length, set, get_or, slice_get, Contains, Option, Some, None, refl, sym, ap, subst, ◌∙◌, arith, length-set}
use Rattle.values.specs.declared.code.Code.{Code}
use Rattle.values.specs.declared.plan.Kind.{Kind}
use Rattle.values.specs.declared.plan.Kind.TheVariants as kind
use Rattle.values.specs.declared.plan.PlanNode.{PlanNode}
use Rattle.values.specs.Packing.{unpacked}
use Rattle.values.specs.Plan.{rows_in}
use Rattle.values.specs.PlanValues.{is_derived, plan_value}
use Rattle.sources.specs.declared.opening.Opened.{Opened}
use Rattle.sources.specs.Colours.{is_clean}
use Rattle.sources.specs.Rows.{value_in}
use Rattle.component_items.specs.declared.component.Component.{Component}
use Rattle.component_items.specs.Kept.{IsKept}
use Rattle.async_derived.specs.declared.loading.Loading.{Loading}
use Rattle.async_derived.specs.declared.loading.Polled.{Polled}
use Rattle.async_derived.specs.Loads.{after_poll}
use Rattle.plain_evaluation.specs.Changed.{load_of, with_arrived}
use Rattle.plain_evaluation.specs.Fits.{RowsFit}
use Rattle.plain_evaluation.specs.Held.{Holding, nothing, arrived, arrived_in, Held, holding_of, arrived_held}
use Rattle.plain_evaluation.specs.Keyed.{is_keyed}
use Rattle.plain_evaluation.specs.Place.{Place, outside}
use Rattle.plain_evaluation.specs.Sound.{Among}
use Rattle.plain_evaluation.specs.Written.{state_of, written, Says, given, loaded, derived, kind_said, Written}
use Rattle.plain_evaluation.proofs.Fitting.{rows_of_held}
use Rattle.plain_evaluation.proofs.Most.{changed}
use Rattle.plan_meaning.specs.Layout.{is_computed, rows_of, places_of, row_of, node_of, plan_of}
use Rattle.plan_meaning.specs.There.{AreNested}
use Rattle.plan_meaning.proofs.Lines.{are_proper}
use Rattle.plan_meaning.proofs.Rows.{row_among, at_map, map_at}
use Rattle.held_state.specs.State.{HeldState, IsOf, with_held}
use Rattle.load_table.specs.Loads.{LoadOf, loads_in, is_live_load}
use Rattle.load_meaning.specs.Arrivals.{says_arrived, line_arrived}
use Rattle.load_meaning.specs.Polls.{key_of, IsInStep, AreInStep}
use Rattle.load_meaning.proofs.Arrives.{Arrives}
use Rattle.load_meaning.proofs.Texts.{text_alike, rows_arrived, places_alike, plan_alike}
use Rattle.load_meaning.proofs.Keys.{parts_at, at_among}
use Rattle.load_meaning.proofs.Live.{holds_key, can_arrive}
use Rattle.load_meaning.proofs.Loadings.{poll_stands}
use Rattle.load_meaning.proofs.Polls.{arrives, here, still_of, own_key_same, keys_same}
use Rattle.phase_graph.specs.Graph.{GraphState}
use Rattle.load_polls.specs.Shown.{load_code, SourcesShow}
use Rattle.load_polls.specs.Stands.{HasOwnKey}
use Rattle.load_polls.proofs.Lists.{set_here, set_other}
use Rattle.load_polls.proofs.Rising.{keys_rise}
use Rattle.load_polls.proofs.Values.{three, apart as place_apart, HasRows, load_rows_at, load_line_at}

-- ---- what the calls of the graph leave

-- the memos of the rows from one up to another were brought up to date
pub record IsSpanned (old new : GraphState) (from to : ℕ) : Type 0 where
  pub rest : new ≡ record old { rows = new.rows; drawn = new.drawn }
  pub raised : old.drawn ≤ new.drawn
  pub few : new.drawn ≤ old.drawn + (to - from)
  pub long : length new.rows ≡ length old.rows
  pub memos : (n : ℕ) (node : PlanNode) (row : Opened) → n < to → slice_get old.plan.nodes n ≡ Some node → slice_get new.rows n ≡ Some row → node.kind ≡ kind.Memo → (is_clean row.colour ≡ true) × (unpacked row.code ≡ plan_value old.plan.nodes (value_in old.rows) n)
  pub sources : (n : ℕ) (node : PlanNode) → slice_get old.plan.nodes n ≡ Some node → is_derived node.kind ≡ false → slice_get new.rows n ≡ slice_get old.rows n
  pub effects : (n : ℕ) (node : PlanNode) → slice_get old.plan.nodes n ≡ Some node → node.kind ≡ kind.Effect → slice_get new.rows n ≡ slice_get old.rows n

-- a source was given this value
pub record IsPut (old new : GraphState) (row : ℕ) (code : Code) : Type 0 where
  pub rest : new ≡ record old { rows = new.rows; drawn = new.drawn }
  pub raised : old.drawn ≤ new.drawn
  pub few : new.drawn ≤ old.drawn + 1
  pub long : length new.rows ≡ length old.rows
  pub value : (r : Opened) → slice_get new.rows row ≡ Some r → unpacked r.code ≡ code
  pub others : (n : ℕ) (one two : Opened) → n ≢ row → slice_get old.rows n ≡ Some one → slice_get new.rows n ≡ Some two → two ≡ record one { colour = two.colour }
  pub settled : (bound : ℕ) → ((n : ℕ) (node : PlanNode) → slice_get old.plan.nodes n ≡ Some node → Contains (rows_in node.expr) row → is_derived node.kind ≡ true → bound ≤ n) → (n : ℕ) → n < bound → n ≢ row → slice_get new.rows n ≡ slice_get old.rows n

-- ---- one arrival

first_part : (xs ys : List LoadOf) (place : ℕ) (x : LoadOf) → place < length xs → slice_get (xs ++ ys) place ≡ Some x → slice_get xs place ≡ Some x
first_part [] ys place x within is = absurd (omega arith)
first_part (y ∷ xs) ys zero x within is = is
first_part (y ∷ xs) ys (suc place) x within is = first_part xs ys place x (omega (arith, within)) is

-- only loads have lines that arrivals change
said_given : (keys : ℕ → Option Code) (id : ℕ) (says : Says) (k : Kind) (code : Code) → says_arrived keys id says ≡ given k code → says ≡ given k code
said_given keys id (given k2 code2) k code is = is
said_given keys id (loaded pairs key) k code is = cc
said_given keys id (derived k2 expr) k code is = cc

said_loaded : (keys : ℕ → Option Code) (id : ℕ) (says : Says) (pairs : List (Code × Code)) (key : Option Code) → says_arrived keys id says ≡ loaded pairs key → (before : Option Code) × (says ≡ loaded pairs before) × (keys id ≡ key)
said_loaded keys id (given k code) pairs key is = cc
said_loaded keys id (loaded pairs2 before) pairs key is = let same : pairs2 ≡ pairs = cc in (before, ap (λ (ps : List (Code × Code)). loaded ps before) same, cc)
said_loaded keys id (derived k expr) pairs key is = cc

module _ (component : Component) (kept : IsKept component) (state : HeldState) (of : IsOf component state) (place : ℕ) (load : LoadOf) (at : slice_get (loads_in component) place ≡ Some load) (live : is_live_load component (state_of state.held) load ≡ true) where
  abbrev held : Held
  held = state.held

  pub fits : RowsFit component (state_of held)
  fits = rows_of_held component held of.fits

  pub nested : AreNested component (state_of held)
  nested = of.owners.areas

  pub rows_here : HasRows component (state_of held) kept fits nested load
  rows_here = load_rows_at component (state_of held) kept fits nested place load at live

  pub holds : load_of held load.id ≡ Some (arrived_held held load.id)
  holds = can_arrive component held kept of.holds place load at live

  -- its id is that of something held
  pub id_below : load.id < length held.holdings
  id_below = below held.holdings load.id (holds_key component held kept of.holds place load at live)
    where
      below : (list : List Holding) (id : ℕ) → get_or list id nothing ≡ arrived (arrived_held held load.id) → id < length list
      below [] id is = cc
      below (x ∷ list) zero is = omega arith
      below (x ∷ list) (suc id) is = let lt = below list id is in omega (arith, lt)

  pub id_few : load.id + 1 < 2 ^ 32
  id_few = let lt = id_below in let long = of.holds.long in let few = kept.few_ids in omega (arith, lt, long, few)

  -- another live load has another id
  pub ids_apart : (j : ℕ) (other : LoadOf) → slice_get (loads_in component) j ≡ Some other → is_live_load component (state_of held) other ≡ true → j ≢ place → other.id ≢ load.id
  ids_apart j other at_other live_other apart same =
      let one = load_rows_at component (state_of held) kept fits nested j other at_other live_other in
      let keys : Some one.key ≡ Some rows_here.key = sym one.key_found ∙ ap (λ (n : ℕ). row_of (places_of (written component held)) (outside (suc n))) same ∙ rows_here.key_found in
      let k : one.key ≡ rows_here.key = cc in
      elim (three j place) [
        | inl before ↦ (let up = keys_rise component (state_of held) kept fits nested j place other load before at_other at live_other live one.key rows_here.key one.key_found rows_here.key_found in absurd (omega (arith, up, k)))
        | inr (inl is) ↦ absurd (apart is)
        | inr (inr after) ↦ (let up = keys_rise component (state_of held) kept fits nested place j load other after at at_other live live_other rows_here.key one.key rows_here.key_found one.key_found in absurd (omega (arith, up, k)))
      ]

  module _ (key : Option Code) where
    abbrev later : Held
    later = with_arrived held load.id key

    parts : (before : List LoadOf) × (after : List LoadOf) × (loads_in component ≡ before ++ load ∷ after) × (length before ≡ place)
    parts = parts_at (loads_in component) place load at

    pub arrival : Arrives held later
    arrival = arrives component kept state held of parts.0 parts.1 load parts.2 live key

    pub of_later : IsOf component (with_held state later)
    of_later = still_of component kept state held of parts.0 parts.1 load parts.2 live key

    pub arrived_here : arrived_held later load.id ≡ key
    arrived_here = here component kept state held of parts.0 parts.1 load parts.2 live key

    -- what has arrived for others stays
    pub arrived_stays : (id : ℕ) → id ≢ load.id → arrived_held later id ≡ arrived_held held id
    arrived_stays id apart = by (changed held load.id (arrived key) id)
      where
        by : (holding_of later id ≡ holding_of held id) ⊎ ((id ≡ load.id) × (holding_of later id ≡ arrived key)) → arrived_held later id ≡ arrived_held held id
        by (inl same) = ap arrived_in same
        by (inr both) = absurd (apart both.0)

    pub lives_on : (other : LoadOf) → is_live_load component (state_of later) other ≡ is_live_load component (state_of held) other
    lives_on other = refl

    pub places_later : places_of (written component later) ≡ places_of (written component held)
    places_later = ap places_of (text_alike component held later arrival) ∙ places_alike (arrived_held later) (written component held)

    pub plan_later : plan_of component (state_of later) ≡ plan_of component (state_of held)
    plan_later = plan_alike component held later arrival

    -- the line of a row
    line_before : (row : ℕ) (w : Written) → slice_get (rows_of (written component later)) row ≡ Some w → (v : Written) × (slice_get (rows_of (written component held)) row ≡ Some v) × (line_arrived (arrived_held later) v ≡ w)
    line_before row w is = map_at (line_arrived (arrived_held later)) (rows_of (written component held)) row w (ap (λ (ws : List Written). slice_get ws row) (sym (ap rows_of (text_alike component held later arrival) ∙ rows_arrived (arrived_held later) (written component held))) ∙ is)

    -- rows show the arrival, where that of the load has its new value, and those of other sources have theirs
    pub shown_later : (old new : List Opened) → SourcesShow component (state_of held) old → value_in new rows_here.row ≡ load_code load.pairs key
        → ((n : ℕ) (node : PlanNode) → slice_get (plan_of component (state_of held)).nodes n ≡ Some node → is_derived node.kind ≡ false → n ≢ rows_here.row → value_in new n ≡ value_in old n)
        → SourcesShow component (state_of later) new
    shown_later old new shown mine others = record {
      given_so = λ row w k code is says. (
          let one = line_before row w is in
          let v = one.0 in
          let said = said_given (arrived_held later) v.id v.says k code (ap (λ (x : Written). x.says) one.2 ∙ says) in
          let apart : row ≢ rows_here.row = λ e. (
          let lines : Some v ≡ Some rows_here.w = sym one.1 ∙ ap (slice_get (rows_of (written component held))) e ∙ rows_here.line in
          let v_is : v ≡ rows_here.w = cc in
          let both : given k code ≡ loaded load.pairs (arrived_held held load.id) = sym said ∙ ap (λ (x : Written). x.says) v_is ∙ rows_here.says in
          cc) in
          others row (node_of (is_keyed component) (places_of (written component held)) v) (node_at row v one.1) (source_of v (row_among (written component held) row v one.1) (ap is_computed said)) apart
          ∙ shown.given_so row v k code one.1 said);
      loaded_so = λ row w pairs got is says. (
          let one = line_before row w is in
          let v = one.0 in
          let said = said_loaded (arrived_held later) v.id v.says pairs got (ap (λ (x : Written). x.says) one.2 ∙ says) in
          by row v pairs got said.0 one.1 said.1 said.2 (three row rows_here.row));
    }
      where
        node_at : (row : ℕ) (v : Written) → slice_get (rows_of (written component held)) row ≡ Some v → slice_get (plan_of component (state_of held)).nodes row ≡ Some (node_of (is_keyed component) (places_of (written component held)) v)
        node_at row v is = at_map (node_of (is_keyed component) (places_of (written component held))) (rows_of (written component held)) row v is

        source_of : (v : Written) → Among (written component held) v → is_computed v.says ≡ false → is_derived (kind_said v.says) ≡ false
        source_of v among is = (are_proper component (state_of held) kept v among).computed ∙ is

        apart_row : (row : ℕ) (v : Written) (pairs : List (Code × Code)) (got before : Option Code) → slice_get (rows_of (written component held)) row ≡ Some v → v.says ≡ loaded pairs before → arrived_held later v.id ≡ got → row ≢ rows_here.row → value_in new row ≡ load_code pairs got
        apart_row row v pairs got before is says told apart =
            let node = node_of (is_keyed component) (places_of (written component held)) v in
            let l = load_line_at component (state_of held) kept fits nested row node v pairs before (node_at row v is) (ap kind_said says) is says in
            let id_apart : l.load.id ≢ load.id = λ e. (
            let rows : Some row ≡ Some rows_here.row = sym (place_apart component (state_of held) kept fits nested row (outside l.load.id) l.here) ∙ ap (λ (n : ℕ). row_of (places_of (written component held)) (outside n)) e ∙ rows_here.found in
            let row_is : row ≡ rows_here.row = cc in
            apart row_is) in
            let same : before ≡ got = sym l.arrived_is ∙ sym (arrived_stays l.load.id id_apart) ∙ ap (arrived_held later) (sym l.id_is) ∙ told in
            others row node (node_at row v is) (source_of v (row_among (written component held) row v is) (ap is_computed says)) apart
            ∙ shown.loaded_so row v pairs before is says
            ∙ ap (load_code pairs) same

        by : (row : ℕ) (v : Written) (pairs : List (Code × Code)) (got before : Option Code) → slice_get (rows_of (written component held)) row ≡ Some v → v.says ≡ loaded pairs before → arrived_held later v.id ≡ got → (row < rows_here.row) ⊎ ((row ≡ rows_here.row) ⊎ (rows_here.row < row)) → value_in new row ≡ load_code pairs got
        by row v pairs got before is says told (inl lt) = apart_row row v pairs got before is says told (λ e. absurd (omega (arith, e, lt)))
        by row v pairs got before is says told (inr (inl e)) =
            let lines : Some v ≡ Some rows_here.w = sym is ∙ ap (slice_get (rows_of (written component held))) e ∙ rows_here.line in
            let v_is : v ≡ rows_here.w = cc in
            let both : loaded pairs before ≡ loaded load.pairs (arrived_held held load.id) = sym says ∙ ap (λ (x : Written). x.says) v_is ∙ rows_here.says in
            let pairs_are : pairs ≡ load.pairs = cc in
            let id_is : v.id ≡ load.id = ap (λ (x : Written). x.id) v_is ∙ ap (λ (p : Place). p.id) rows_here.place_is in
            let got_is : got ≡ key = sym told ∙ ap (arrived_held later) id_is ∙ arrived_here in
            ap (value_in new) e ∙ mine ∙ (λ i. load_code (sym pairs_are i) (sym got_is i))
        by row v pairs got before is says told (inr (inr gt)) = apart_row row v pairs got before is says told (λ e. absurd (omega (arith, e, gt)))

    -- keys of this load and of those before it
    pub own_keys : ((j : ℕ) (other : LoadOf) → j < place → slice_get (loads_in component) j ≡ Some other → is_live_load component (state_of held) other ≡ true → HasOwnKey component held other)
        → (key ≡ None) ⊎ (key ≡ Some (key_of component held load))
        → (j : ℕ) (other : LoadOf) → j < place + 1 → slice_get (loads_in component) j ≡ Some other → is_live_load component (state_of held) other ≡ true → HasOwnKey component later other
    own_keys before mine j other lt at_other live_other = by (three j place)
      where
        last : other ≡ load → HasOwnKey component later other
        last e = subst (HasOwnKey component later) (sym e) (elim mine [
          | inl none ↦ inl (arrived_here ∙ none)
          | inr some ↦ inr (arrived_here ∙ some ∙ ap Some (sym (own_key_same component kept state held of parts.0 parts.1 load parts.2 live key)))
        ])

        by : (j < place) ⊎ ((j ≡ place) ⊎ (place < j)) → HasOwnKey component later other
        by (inl below) =
            let stays = arrived_stays other.id (ids_apart j other at_other live_other (λ e. absurd (omega (arith, e, below)))) in
            let among = at_among parts.0 j other (there below) in
            let same = keys_same component kept state held of parts.0 parts.1 load parts.2 live key other among live_other in
            elim (before j other below at_other live_other) [
              | inl none ↦ inl (stays ∙ none)
              | inr some ↦ inr (stays ∙ some ∙ ap Some (sym same))
            ]
          where
            there : j < place → slice_get parts.0 j ≡ Some other
            there below = first_part parts.0 (load ∷ parts.1) j other (let long = parts.3 in omega (arith, long, below)) (subst (λ (loads : List LoadOf). slice_get loads j ≡ Some other) parts.2 at_other)
        by (inr (inl e)) = let both : Some other ≡ Some load = sym at_other ∙ ap (slice_get (loads_in component)) e ∙ at in last (let one : other ≡ load = cc in one)
        by (inr (inr past)) = absurd (omega (arith, past, lt))

  -- ---- how far loads are

  pub in_step_later : (loadings : List Loading) (was : Loading) (code : Code) (came : Polled) → AreInStep component (record { held = held; loadings = loadings }) → slice_get loadings place ≡ Some was
      → AreInStep component (record { held = with_arrived held load.id (after_poll was code came).arrived; loadings = set loadings place (after_poll was code came) })
  in_step_later loadings was code came step at_was = record {
    paired = length-set loadings place new ∙ step.paired;
    each = λ j other loading at_other at_loading live_other. by j other loading at_other at_loading live_other (three j place);
  }
    where
      new : Loading
      new = after_poll was code came

      mine : IsInStep held load was
      mine = step.each place load was at at_was live

      within : (list : List Loading) (n : ℕ) (x : Loading) → slice_get list n ≡ Some x → n < length list
      within [] n x is = cc
      within (y ∷ list) zero x is = omega arith
      within (y ∷ list) (suc n) x is = let lt = within list n x is in omega (arith, lt)

      apart : (j : ℕ) (other : LoadOf) (loading : Loading) → slice_get (loads_in component) j ≡ Some other → slice_get (set loadings place new) j ≡ Some loading → is_live_load component (state_of held) other ≡ true → j ≢ place → IsInStep (with_arrived held load.id new.arrived) other loading
      apart j other loading at_other at_loading live_other not_here =
          let old = step.each j other loading at_other (sym (set_other loadings place j new not_here) ∙ at_loading) live_other in
          record { arrived = arrived_stays new.arrived other.id (ids_apart j other at_other live_other not_here) ∙ old.arrived; last = old.last }

      by : (j : ℕ) (other : LoadOf) (loading : Loading) → slice_get (loads_in component) j ≡ Some other → slice_get (set loadings place new) j ≡ Some loading → is_live_load component (state_of held) other ≡ true → (j < place) ⊎ ((j ≡ place) ⊎ (place < j)) → IsInStep (with_arrived held load.id new.arrived) other loading
      by j other loading at_other at_loading live_other (inl lt) = apart j other loading at_other at_loading live_other (λ e. absurd (omega (arith, e, lt)))
      by j other loading at_other at_loading live_other (inr (inl e)) =
          let both : Some other ≡ Some load = sym at_other ∙ ap (slice_get (loads_in component)) e ∙ at in
          let other_is : other ≡ load = cc in
          let two : Some loading ≡ Some new = sym at_loading ∙ ap (slice_get (set loadings place new)) e ∙ set_here loadings place new (within loadings place was at_was) in
          let loading_is : loading ≡ new = cc in
          record {
            arrived = ap (λ (l : LoadOf). arrived_held (with_arrived held load.id new.arrived) l.id) other_is ∙ arrived_here new.arrived ∙ ap (λ (l : Loading). l.arrived) (sym loading_is);
            last = λ k is. (ap (λ (l : Loading). l.key) loading_is ∙ poll_stands was code came mine.last k (ap (λ (l : Loading). l.arrived) (sym loading_is) ∙ is));
          }
      by j other loading at_other at_loading live_other (inr (inr gt)) = apart j other loading at_other at_loading live_other (λ e. absurd (omega (arith, e, gt)))
