-- A graph that goes over to the layout of its component in another held state.
use Rattle.std.proofs.Common.{◌≡◌, ◌≢◌, ℕ, ◌<◌, ◌≤◌, false, true, List, [], length, Option, None, Some, slice_get, refl, sym, ap, subst, ◌∙◌, arith}
use Rattle.std.specs.Prelude.{IsSomeAnd}
use Rattle.std.specs.Option.{option_map_or}
use Rattle.std.proofs.lemmas.List.{length-map}
use Rattle.values.specs.declared.code.Code.{Code}
use Rattle.values.specs.declared.code.Code.TheVariants.{Empty}
use Rattle.values.specs.declared.plan.Kind.TheVariants as kind
use Rattle.values.specs.declared.plan.Plan.{Plan}
use Rattle.values.specs.declared.plan.PlanNode.{PlanNode}
use Rattle.values.specs.PlanValues.{is_derived}
use Rattle.component_items.specs.declared.component.Component.{Component}
use Rattle.component_items.specs.Kept.{IsKept}
use Rattle.sources.specs.declared.body.Cause.{Cause}
use Rattle.sources.specs.declared.body.Cause.TheVariants as cause
use Rattle.sources.specs.declared.opening.Opened as rows
use Rattle.sources.specs.Rows.{value_in}
use Rattle.plain_evaluation.specs.Fits.{RowsFit}
use Rattle.plain_evaluation.specs.Held.{Held, arrived_held}
use Rattle.plain_evaluation.specs.Keyed.{is_keyed}
use Rattle.plain_evaluation.specs.Place.{Place, outside}
use Rattle.plain_evaluation.specs.Written.{State, state_of, given, loaded, derived, Says, kind_said, Written, place_of, written, written_in}
use Rattle.plain_evaluation.proofs.Fitting.{rows_of_held}
use Rattle.plan_meaning.specs.Carried.{rows_to, moved_row, AreApart, IsCarried}
use Rattle.plan_meaning.specs.Layout.{is_computed, rows_of, places_of, row_of, node_of, plan_of}
use Rattle.plan_meaning.specs.Told.{owner_of_id}
use Rattle.plan_meaning.proofs.Carried.{carried}
use Rattle.plan_meaning.proofs.Owners.{lawful}
use Rattle.plan_meaning.proofs.Rows.{row_among, row_got, map_at, at_map}
use Rattle.load_table.specs.Loads.{LoadOf, loads_in, is_live_load}
use Rattle.load_table.proofs.Pending.{load_has_row, row_has_load}
use Rattle.carried_rows.specs.Moved.{cause_moved, GoOver}
use Rattle.carried_rows.specs.Named.{AreFresh}
use Rattle.held_state.specs.State.{HeldState}
use Rattle.phase_graph.specs.Graph.{GraphState, ticks_of}
use Rattle.phase_graph.specs.Relaying.{GoesBetween}
use Rattle.next_layout.specs.Next.{NextState, IsLaidOut, IsNext, LoadsStay, HasGone, EffectsStay, RunsStay, HasGoneOver}
use Rattle.next_layout.specs.Sources.{load_shown, code_said, codes_said, ArePut, SourcesAreSaid}
use Rattle.next_layout.proofs.SourceCodes.{source_row, first_row, later_row, codes_few}
use Rattle.next_layout.proofs.HeldLines.{SaysHeld, is_held}
use Rattle.next_layout.proofs.Rows.{fellow, row_value}

some_is : {A : Type 0} {x y : A} → Some x ≡ Some y → x ≡ y
some_is e = cc

-- there is one place for each node
pub places_long : (component : Component) (state : State) → length (places_of (written_in component state)) ≡ length (plan_of component state).nodes
places_long component state = length-map (rows_of (written_in component state)) place_of ∙ sym (length-map (rows_of (written_in component state)) (node_of (is_keyed component) (places_of (written_in component state))))

-- what is computed is derived, and nothing else
derived_so : (state : State) (w : Written) (says : Says) → SaysHeld state w says → is_derived (kind_said says) ≡ is_computed says
derived_so state w (given kind.Signal code) is = refl
derived_so state w (given kind.Field code) is = refl
derived_so state w (given kind.Load code) is = absurd is
derived_so state w (given kind.Memo code) is = absurd is
derived_so state w (given kind.Effect code) is = absurd is
derived_so state w (loaded pairs arrived) is = refl
derived_so state w (derived k expr) is = is

had_cause : (number : ℕ → ℕ) (cause : Option Cause) → cause_moved number cause ≢ None → cause ≢ None
had_cause number None did = λ e. did refl
had_cause number (Some c) did = λ e. cc

keeps_cause : (number : ℕ → ℕ) (cause : Option Cause) → cause ≢ None → cause_moved number cause ≢ None
keeps_cause number None did = λ e. did refl
keeps_cause number (Some cause.First) did = λ e. cc
keeps_cause number (Some (cause.Changed source old new)) did = λ e. cc

-- ---- the values of the sources of a layout

module _ (component : Component) (held : Held) (kept : IsKept component) (fits : RowsFit component (state_of held)) (loads : ℕ → Code) (codes : List Code) (codes_are : codes ≡ codes_said loads (written component held)) where
  abbrev ws : List Written
  ws = written component held

  abbrev nodes : List PlanNode
  nodes = (plan_of component (state_of held)).nodes

  line_says : (n : ℕ) (w : Written) → slice_get (rows_of ws) n ≡ Some w → SaysHeld (state_of held) w w.says
  line_says n w at = is_held component (state_of held) w (row_among ws n w at)

  line_derived : (n : ℕ) (w : Written) → slice_get (rows_of ws) n ≡ Some w → is_derived (kind_said w.says) ≡ is_computed w.says
  line_derived n w at = derived_so (state_of held) w w.says (line_says n w at)

  count : length codes ≡ length (codes_said loads ws)
  count = ap (λ (cs : List Code). length cs) codes_are

  -- the first rows are no memos and no effects
  firsts_are_sources : (n : ℕ) → n < length codes → IsSomeAnd (slice_get nodes n) (λ node. is_derived node.kind ≡ false)
  firsts_are_sources n lt =
      let one = first_row loads ws n (let e = count in omega arith) in
      subst (λ (o : Option PlanNode). IsSomeAnd o (λ node. is_derived node.kind ≡ false)) (sym (at_map (node_of (is_keyed component) (places_of ws)) (rows_of ws) n one.0 one.1)) (line_derived n one.0 one.1 ∙ one.2)

  few_codes : length codes ≤ 4096
  few_codes =
      let e = count in
      let few = codes_few loads ws in
      let long : length nodes ≡ length (rows_of ws) = length-map (rows_of ws) (node_of (is_keyed component) (places_of ws)) in
      let most = (lawful component (state_of held) kept fits).few_nodes in
      omega arith

  -- a memo's and an effect's row is behind them
  derived_later : (n : ℕ) (node : PlanNode) → slice_get nodes n ≡ Some node → is_derived node.kind ≡ true → length codes ≤ n
  derived_later n node at is_so =
      let one = map_at (node_of (is_keyed component) (places_of ws)) (rows_of ws) n node at in
      let e = count in
      let later = later_row loads ws n one.0 one.1 (sym (line_derived n one.0 one.1) ∙ ap (λ (m : PlanNode). is_derived m.kind) one.2 ∙ is_so) in
      omega arith

  module _ (old new : GraphState) (put : ArePut codes (length codes) old new) (paired : length new.rows ≡ length nodes) where
    -- a source's row has what is said of it
    value_put : (n : ℕ) (w : Written) → slice_get (rows_of ws) n ≡ Some w → is_computed w.says ≡ false → value_in new.rows n ≡ code_said loads w.id w.says
    value_put n w at source =
        let one = source_row loads ws n w at source in
        let there = fellow new.rows nodes paired n (node_of (is_keyed component) (places_of ws) w) (at_map (node_of (is_keyed component) (places_of ws)) (rows_of ws) n w at) in
        let e = count in
        row_value new.rows n there.0 there.1
        ∙ put.values n (code_said loads w.id w.says) there.0 (let lt = one.0 in omega arith) (ap (λ (cs : List Code). slice_get cs n) codes_are ∙ one.1) there.1

    -- so are signals and fields as the text says
    put_said : SourcesAreSaid component (state_of held) new.rows
    put_said n w k code at says = value_put n w at (ap is_computed says) ∙ ap (code_said loads w.id) says

    -- and a load has the value that it was to have
    put_load : (n : ℕ) (w : Written) (pairs : List (Code × Code)) (arrived : Option Code) → slice_get (rows_of ws) n ≡ Some w → w.says ≡ loaded pairs arrived → value_in new.rows n ≡ loads w.id
    put_load n w pairs arrived at says = value_put n w at (ap is_computed says) ∙ ap (code_said loads w.id) says

-- ---- the graph goes over

module _ (component : Component) (old : HeldState) (places : List Place) (graph : GraphState) (laid : IsLaidOut component old places graph) (next : NextState) (is_next : IsNext component old places graph next) where
  abbrev held : Held
  held = next.state.held

  fits_before : RowsFit component (state_of old.held)
  fits_before = rows_of_held component old.held laid.fits.fits

  fits_later : RowsFit component (state_of held)
  fits_later = rows_of_held component held is_next.fits.fits

  long : length places ≡ length graph.plan.nodes
  long = ap (λ (ps : List Place). length ps) laid.named ∙ places_long component (state_of old.held) ∙ sym (ap (λ (q : Plan). length q.nodes) laid.plan)

  long_later : length next.places ≡ length next.relaid.plan.nodes
  long_later = ap (λ (ps : List Place). length ps) is_next.named ∙ places_long component (state_of held) ∙ sym (ap (λ (q : Plan). length q.nodes) is_next.plan)

  is_carried : IsCarried places next.places graph.plan.nodes next.relaid.plan.nodes
  is_carried =
      subst (λ (ps : List Place). IsCarried ps next.places graph.plan.nodes next.relaid.plan.nodes) (sym laid.named)
      (subst (λ (ps : List Place). IsCarried (places_of (written component old.held)) ps graph.plan.nodes next.relaid.plan.nodes) (sym is_next.named)
      (subst (λ (q : Plan). IsCarried (places_of (written component old.held)) (places_of (written component held)) q.nodes next.relaid.plan.nodes) (sym laid.plan)
      (subst (λ (q : Plan). IsCarried (places_of (written component old.held)) (places_of (written component held)) (plan_of component (state_of old.held)).nodes q.nodes) (sym is_next.plan)
      (carried component (state_of old.held) (state_of held) laid.kept fits_before fits_later))))

  pub goes : GoesBetween graph.plan.nodes next.relaid
  goes = record { old = places; new = next.places; to = is_next.to; carried = is_carried; planned = long; planned_later = long_later }

  pub sources_first : (plan : Plan) → plan ≡ next.relaid.plan → (n : ℕ) → n < length next.codes → IsSomeAnd (slice_get plan.nodes n) (λ node. is_derived node.kind ≡ false)
  sources_first plan same n lt = subst (λ (q : Plan). IsSomeAnd (slice_get q.nodes n) (λ node. is_derived node.kind ≡ false)) (sym (same ∙ is_next.plan)) (firsts_are_sources component held laid.kept fits_later (load_shown places graph) next.codes is_next.codes n lt)

  pub few : length next.codes ≤ 4096
  few = few_codes component held laid.kept fits_later (load_shown places graph) next.codes is_next.codes

  module _ (paired : length graph.rows ≡ length graph.plan.nodes) (relaid : GraphState) (plan_is : relaid.plan ≡ next.relaid.plan) (live_is : relaid.live ≡ next.relaid.live) (closed : relaid.is_open ≡ false) (entries : relaid.entries ≡ []) (edits : relaid.edits ≡ [])
      (base : relaid.base ≡ ticks_of graph) (undrawn : relaid.drawn ≡ 0)
      (over : (one two : List Place) → next.relaid.to ≡ rows_to one two → IsCarried one two graph.plan.nodes next.relaid.plan.nodes → length one ≡ length graph.plan.nodes → length two ≡ length next.relaid.plan.nodes → (fresh : List rows.Opened) × AreFresh next.relaid.plan.nodes fresh × GoOver one two graph.rows fresh relaid.rows)
      (put : GraphState) (is_put : ArePut next.codes (length next.codes) relaid put) where
    went : (fresh : List rows.Opened) × AreFresh next.relaid.plan.nodes fresh × GoOver places next.places graph.rows fresh relaid.rows
    went = over places next.places is_next.to is_carried long long_later

    put_plan : put.plan ≡ next.relaid.plan
    put_plan = ap (λ (g : GraphState). g.plan) is_put.rest ∙ plan_is

    plan_later : put.plan ≡ plan_of component (state_of held)
    plan_later = put_plan ∙ is_next.plan

    put_long : length put.rows ≡ length (plan_of component (state_of held)).nodes
    put_long = is_put.long ∙ went.2.filled ∙ long_later ∙ ap (λ (q : Plan). length q.nodes) is_next.plan

    loads_stay : LoadsStay component (state_of old.held) (state_of held) graph put
    loads_stay n w pairs arrived at says = record {
      row = was.0;
      line = was.2.0;
      at_line = was.2.1;
      place = some_is (sym (at_map place_of (rows_of before) was.0 was.2.0 was.2.1) ∙ was.1) ∙ sym load.4;
      says = was.2.2 ∙ ap (loaded load.1.pairs) (sym (is_next.arrived load.1.id load.3)) ∙ sym says_so;
      value = sym (put_load component held laid.kept fits_later (load_shown places graph) next.codes is_next.codes relaid put is_put put_long n w pairs arrived at says ∙ shown);
    }
      where
        after : List Written
        after = written component held

        before : List Written
        before = written component old.held

        at_node : slice_get (plan_of component (state_of held)).nodes n ≡ Some (node_of (is_keyed component) (places_of after) w)
        at_node = at_map (node_of (is_keyed component) (places_of after)) (rows_of after) n w at

        load : (place : ℕ) × (load : LoadOf) × (slice_get (loads_in component) place ≡ Some load) × (is_live_load component (state_of held) load ≡ true) × (place_of w ≡ outside load.id)
        load = row_has_load component (state_of held) laid.kept is_next.fits.owners.areas n (place_of w) (node_of (is_keyed component) (places_of after) w) (at_map place_of (rows_of after) n w at) at_node (ap kind_said says)

        later : (row : ℕ) × (slice_get (places_of after) row ≡ Some (outside load.1.id)) × ((v : Written) × (slice_get (rows_of after) row ≡ Some v) × (v.says ≡ loaded load.1.pairs (arrived_held held load.1.id)))
        later = load_has_row component (state_of held) laid.kept is_next.fits.owners.areas load.0 load.1 load.2 load.3

        was : (row : ℕ) × (slice_get (places_of before) row ≡ Some (outside load.1.id)) × ((v : Written) × (slice_get (rows_of before) row ≡ Some v) × (v.says ≡ loaded load.1.pairs (arrived_held old.held load.1.id)))
        was = load_has_row component (state_of old.held) laid.kept laid.fits.owners.areas load.0 load.1 load.2 (is_next.lived (owner_of_id component load.1.id) load.3)

        apart : AreApart (places_of after)
        apart = subst AreApart is_next.named is_carried.apart_later

        same_row : later.0 ≡ n
        same_row = some_is (sym (apart later.0 (outside load.1.id) later.1) ∙ apart n (outside load.1.id) (at_map place_of (rows_of after) n w at ∙ ap (λ (p : Place). Some p) load.4))

        says_so : w.says ≡ loaded load.1.pairs (arrived_held held load.1.id)
        says_so = ap (λ (v : Written). v.says) (some_is (sym at ∙ ap (slice_get (rows_of after)) (sym same_row) ∙ later.2.1)) ∙ later.2.2

        found : row_of places (outside w.id) ≡ Some was.0
        found = ap (λ (p : Place). row_of places (outside p.id)) load.4 ∙ is_carried.apart was.0 (outside load.1.id) (ap (λ (ps : List Place). slice_get ps was.0) laid.named ∙ was.1)

        shown : load_shown places graph w.id ≡ value_in graph.rows was.0
        shown = ap (λ (o : Option ℕ). option_map_or (value_in graph.rows) o Empty) found

    effects_stay : EffectsStay places next.places graph put
    effects_stay n node row p at_node row_put at_place effect did = by (row_of places p) refl
      where
        at_new : slice_get next.relaid.plan.nodes n ≡ Some node
        at_new = ap (λ (q : Plan). slice_get q.nodes n) (sym put_plan) ∙ at_node

        one : (r : rows.Opened) × (slice_get relaid.rows n ≡ Some r)
        one = fellow relaid.rows put.rows (sym is_put.long) n row row_put

        later : length next.codes ≤ n
        later = derived_later component held laid.kept fits_later (load_shown places graph) next.codes is_next.codes n node (ap (λ (q : Plan). slice_get q.nodes n) (sym is_next.plan) ∙ at_new) (ap is_derived effect)

        as_before : row ≡ record one.0 { colour = row.colour }
        as_before = is_put.others n one.0 row later one.1 row_put

        ran : one.0.body.cause ≢ None
        ran e = did (ap (λ (r : rows.Opened). r.body.cause) as_before ∙ e)

        by : (o : Option ℕ) → row_of places p ≡ o → HasGone places graph p row
        by None away =
            let fresh_row : slice_get went.0 n ≡ Some one.0 = sym (went.2.fresh n p at_place away) ∙ one.1 in
            absurd (ran ((went.1 n node one.0 at_new fresh_row).unrun (ap is_derived effect)))
        by (Some r) found =
            let at_old : slice_get places r ≡ Some p = row_got places p r found in
            let old_node = fellow graph.plan.nodes places (sym long) r p at_old in
            let old_row = fellow graph.rows graph.plan.nodes paired r old_node.0 old_node.1 in
            let same_kind : node.kind ≡ old_node.0.kind = ap (λ (m : PlanNode). m.kind) (is_carried.node r n p old_node.0 node at_old at_place old_node.1 at_new) in
            let moved = went.2.kept r n p old_row.0 one.0 at_old at_place old_row.1 one.1 in
            record {
              row = r;
              node = old_node.0;
              before = old_row.0;
              at_place = at_old;
              at_node = old_node.1;
              at_row = old_row.1;
              effect = sym same_kind ∙ effect;
              ran = had_cause (moved_row places next.places) old_row.0.body.cause (λ e. ran (moved.cause ∙ e));
              code = ap (λ (x : rows.Opened). x.code) as_before ∙ moved.code;
            }

    runs_stay : RunsStay places next.places graph put
    runs_stay row n node p before after at_old at_place at_node effect at_before at_after ran =
        let new_node = fellow next.relaid.plan.nodes next.places (sym long_later) n p at_place in
        let same_kind : new_node.0.kind ≡ node.kind = ap (λ (m : PlanNode). m.kind) (is_carried.node row n p node new_node.0 at_old at_place at_node new_node.1) in
        let one = fellow relaid.rows put.rows (sym is_put.long) n after at_after in
        let later = derived_later component held laid.kept fits_later (load_shown places graph) next.codes is_next.codes n new_node.0 (ap (λ (q : Plan). slice_get q.nodes n) (sym is_next.plan) ∙ new_node.1) (ap is_derived (same_kind ∙ effect)) in
        let as_before : after ≡ record one.0 { colour = after.colour } = is_put.others n one.0 after later one.1 at_after in
        let moved = went.2.kept row n p before one.0 at_old at_place at_before one.1 in (
          λ e. keeps_cause (moved_row places next.places) before.body.cause ran (sym moved.cause ∙ sym (ap (λ (x : rows.Opened). x.body.cause) as_before) ∙ e),
          ap (λ (x : rows.Opened). x.code) as_before ∙ moved.code,
          ap (λ (x : rows.Opened). x.version) as_before ∙ moved.version,
        )

    pub gone_over : HasGoneOver component old next.state places next.places graph put
    gone_over = record {
      laid = record { kept = laid.kept; fits = is_next.fits; named = is_next.named; plan = plan_later };
      live = ap (λ (g : GraphState). g.live) is_put.rest ∙ live_is ∙ is_next.live;
      closed = ap (λ (g : GraphState). g.is_open) is_put.rest ∙ closed;
      entries = ap (λ (g : GraphState). g.entries) is_put.rest ∙ entries;
      edits = ap (λ (g : GraphState). g.edits) is_put.rest ∙ edits;
      base = ap (λ (g : GraphState). g.base) is_put.rest ∙ base;
      drawn = drawn_few;
      sources = put_said component held laid.kept fits_later (load_shown places graph) next.codes is_next.codes relaid put is_put put_long;
      loads = loads_stay;
      effects = effects_stay;
      runs = runs_stay;
    }
      where
        drawn_few : put.drawn ≤ 4096
        drawn_few = let a = is_put.few in let b = few in let e = undrawn in omega arith
