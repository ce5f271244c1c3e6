-- One poll of a live load, from what held before it.
use Rattle.std.proofs.Common.{◌≡◌, ◌≢◌, ◌↔◌, ℕ, suc, ◌+◌, ◌-◌, ◌*◌, ◌^◌, ◌<◌, ◌≤◌, Bool, true, false, List, [], length, set, slice_get, Contains, Option, Some, refl, sym, ap, subst, ◌∙◌, arith}
use Rattle.std.specs.Prelude.{IsSome, IsSomeAnd}
use Rattle.std.specs.Option.{option_map_or}
use Rattle.std.proofs.lemmas.Option.{slice_get_within}
use Rattle.values.specs.declared.code.Code.{Code}
use Rattle.values.specs.declared.plan.Kind.{Kind}
use Rattle.values.specs.declared.plan.Kind.TheVariants as kind
use Rattle.values.specs.declared.plan.Plan.{Plan}
use Rattle.values.specs.declared.plan.PlanNode.{PlanNode}
use Rattle.values.specs.Plan.{rows_in}
use Rattle.values.specs.PlanValues.{is_derived, plan_value}
use Rattle.sources.specs.Rows.{value_in}
use Rattle.component_items.specs.declared.component.Component.{Component}
use Rattle.component_items.specs.Kept.{IsKept}
use Rattle.async_derived.specs.declared.loading.Loading.{Loading}
use Rattle.outside.specs.Asks.{Ask}
use Rattle.outside.specs.declared.traits.Arrival.{Arrival}
use Rattle.async_derived.specs.declared.loading.Polled.{Polled}
use Rattle.async_derived.specs.declared.loading.Polled.TheVariants.{Arrived}
use Rattle.async_derived.specs.Loads.{after_poll, answer_of, keyed, prompt_poll}
use Rattle.plain_evaluation.specs.Changed.{load_of, with_arrived}
use Rattle.plain_evaluation.specs.Keyed.{is_keyed}
use Rattle.plain_evaluation.specs.Place.{Place, outside}
use Rattle.plain_evaluation.specs.Written.{state_of, written, kind_said}
use Rattle.plan_meaning.specs.Layout.{places_of, row_of, node_of, plan_of}
use Rattle.plan_meaning.proofs.Owners.{lawful}
use Rattle.plan_meaning.proofs.Rows.{row_got}
use Rattle.held_state.specs.State.{HeldState, IsOf, with_held}
use Rattle.load_table.specs.Loads.{LoadOf, loads_in, is_live_load}
use Rattle.load_table.proofs.Keys.{behind_key}
use Rattle.load_table.specs.Table.{pairs_at}
use Rattle.load_meaning.specs.Polls.{key_of, late_as, IsPolled}
use Rattle.load_meaning.proofs.Loadings.{poll_arrived}
use Rattle.phase_graph.specs.Graph.{GraphState, AreSettledTo}
use Rattle.load_polls.specs.Loads.{HasMoved}
use Rattle.load_polls.specs.Shown.{load_code, SourcesShow}
use Rattle.load_polls.specs.Stands.{Sweep, sweep_of, IsReady, IsTaken}
use Rattle.load_polls.proofs.Lists.{fellow, row_value, same_value, coloured_value}
use Rattle.load_polls.proofs.Rising.{keys_rise}
use Rattle.load_polls.proofs.Steps.{IsSpanned, IsPut, fits, nested, rows_here, holds, id_few, of_later, places_later, plan_later, shown_later, own_keys, in_step_later}
use Rattle.load_polls.proofs.Values.{HasRows, key_node, key_settled}

memo_no_load : (a b : Kind) → a ≡ b → a ≡ kind.Memo → b ≡ kind.Load → ⊥
memo_no_load a b same memo load = let e : kind.Memo ≡ kind.Load = sym memo ∙ same ∙ load in cc

effect_no_load : (a b : Kind) → a ≡ b → a ≡ kind.Effect → b ≡ kind.Load → ⊥
effect_no_load a b same effect load = let e : kind.Effect ≡ kind.Load = sym effect ∙ same ∙ load in cc

module _ (component : Component) (kept : IsKept component) (places : List Place) (place from : ℕ) (x : Sweep) (ready : IsReady component places place from x) (load : LoadOf) (at : slice_get (loads_in component) place ≡ Some load) (live : is_live_load component (state_of x.held.held) load ≡ true) where
  abbrev of : IsOf component x.held
  of = ready.fitting.fits

  abbrev plan : Plan
  plan = plan_of component (state_of x.held.held)

  pub rows : HasRows component (state_of x.held.held) kept (fits component kept x.held of place load at live) (nested component kept x.held of place load at live) load
  rows = rows_here component kept x.held of place load at live

  found : row_of places (outside load.id) ≡ Some rows.row
  found = ap (λ (ps : List Place). row_of ps (outside load.id)) ready.fitting.named ∙ rows.found

  key_found : row_of places (outside (suc load.id)) ≡ Some rows.key
  key_found = ap (λ (ps : List Place). row_of ps (outside (suc load.id))) ready.fitting.named ∙ rows.key_found

  -- ---- what the calls ask

  pub has_row : IsSome (row_of places (outside load.id))
  has_row = subst IsSome (sym found) refl

  pub has_key : IsSome (row_of places (outside (suc load.id)))
  has_key = subst IsSome (sym key_found) refl

  pub id_fits : load.id + 1 < 2 ^ 32
  id_fits = id_few component kept x.held of place load at live

  pub can_note : IsSome (load_of x.held.held load.id)
  can_note = subst IsSome (sym (holds component kept x.held of place load at live)) refl

  module _ (row key : ℕ) (row_is : row_of places (outside load.id) ≡ Some row) (key_is : row_of places (outside (suc load.id)) ≡ Some key) where
    same_row : rows.row ≡ row
    same_row = let both : Some rows.row ≡ Some row = sym found ∙ row_is in cc

    same_key : rows.key ≡ key
    same_key = let both : Some rows.key ≡ Some key = sym key_found ∙ key_is in cc

    key_here : row_of (places_of (written component x.held.held)) (outside (suc load.id)) ≡ Some key
    key_here = ap (λ (ps : List Place). row_of ps (outside (suc load.id))) (sym ready.fitting.named) ∙ key_is

    pub from_below : from ≤ key
    from_below = ready.ahead place load key (omega arith) at live key_is

    memo : (m : PlanNode) × (slice_get plan.nodes key ≡ Some m) × (m.kind ≡ kind.Memo)
    memo = key_node component (state_of x.held.held) kept (fits component kept x.held of place load at live) (nested component kept x.held of place load at live) place load at live key key_here

    pub key_within : key < length x.graph.plan.nodes
    key_within = slice_get_within x.graph.plan.nodes key memo.0 (ap (λ (p : Plan). slice_get p.nodes key) ready.fitting.plan ∙ memo.1)

    pub key_few : key + 1 ≤ 4096
    key_few =
        let few = (lawful component (state_of x.held.held) kept (fits component kept x.held of place load at live)).few_nodes in
        let e = ap (λ (p : Plan). length p.nodes) ready.fitting.plan in
        let lt = key_within in
        omega (arith, few, e, lt)

    -- the row of the load is a source's
    load_node : slice_get x.graph.plan.nodes row ≡ Some (node_of (is_keyed component) (places_of (written component x.held.held)) rows.w)
    load_node = (λ i. slice_get (ready.fitting.plan i).nodes (sym same_row i)) ∙ rows.node

    load_kind : kind_said rows.w.says ≡ kind.Load
    load_kind = ap kind_said rows.says

    pub is_source : IsSomeAnd (slice_get x.graph.plan.nodes row) (λ node. is_derived node.kind ≡ false)
    is_source = subst (λ (o : Option PlanNode). IsSomeAnd o (λ node. is_derived node.kind ≡ false)) (sym load_node) (ap is_derived load_kind)

    no_memo_there : (n : ℕ) (node : PlanNode) → slice_get x.graph.plan.nodes n ≡ Some node → node.kind ≡ kind.Memo → n ≢ row
    no_memo_there n node is is_memo e =
        let both : Some node ≡ Some (node_of (is_keyed component) (places_of (written component x.held.held)) rows.w) = sym is ∙ ap (slice_get x.graph.plan.nodes) e ∙ load_node in
        let node_is : node ≡ node_of (is_keyed component) (places_of (written component x.held.held)) rows.w = cc in
        memo_no_load node.kind (kind_said rows.w.says) (ap (λ (m : PlanNode). m.kind) node_is) is_memo load_kind

    no_effect_there : (n : ℕ) (node : PlanNode) → slice_get x.graph.plan.nodes n ≡ Some node → node.kind ≡ kind.Effect → n ≢ row
    no_effect_there n node is is_effect e =
        let both : Some node ≡ Some (node_of (is_keyed component) (places_of (written component x.held.held)) rows.w) = sym is ∙ ap (slice_get x.graph.plan.nodes) e ∙ load_node in
        let node_is : node ≡ node_of (is_keyed component) (places_of (written component x.held.held)) rows.w = cc in
        effect_no_load node.kind (kind_said rows.w.says) (ap (λ (m : PlanNode). m.kind) node_is) is_effect load_kind

    -- ---- the key, once it was brought up to date

    module _ (spanned : GraphState) (span : IsSpanned x.graph spanned from (key + 1)) where
      pub key_value : value_in spanned.rows key ≡ key_of component x.held.held load
      key_value =
          let one = fellow spanned.rows x.graph.plan.nodes (span.long ∙ ready.fitting.paired) key memo.0 (ap (λ (p : Plan). slice_get p.nodes key) ready.fitting.plan ∙ memo.1) in
          row_value spanned.rows key one.0 one.1
          ∙ (span.memos key memo.0 one.0 (omega arith) (ap (λ (p : Plan). slice_get p.nodes key) ready.fitting.plan ∙ memo.1) one.1 memo.2).1
          ∙ ap (λ (p : Plan). plan_value p.nodes (value_in x.graph.rows) key) ready.fitting.plan
          ∙ key_settled component (state_of x.held.held) kept (fits component kept x.held of place load at live) (nested component kept x.held of place load at live) x.graph.rows ready.fitting.shown place load at live ready.polled key key_here

      same_plan : spanned.plan ≡ x.graph.plan
      same_plan = ap (λ (g : GraphState). g.plan) span.rest

      module _ (last : GraphState) (code : Code) (put : IsPut spanned last row code) where
        last_plan : last.plan ≡ x.graph.plan
        last_plan = ap (λ (g : GraphState). g.plan) put.rest ∙ same_plan

        pub moved : HasMoved x.graph last ((key + 1 - from) * 2)
        moved = record {
          rest = put.rest ∙ ap (λ (g : GraphState). record g { rows = last.rows; drawn = last.drawn }) span.rest;
          long = put.long ∙ span.long;
          raised = (let a = put.raised in let b = span.raised in omega (arith, a, b));
          few = (let a = put.few in let b = span.few in let d = from_below in omega (arith, a, b, d));
          effects = λ n node one two at_node is_effect at_one at_two. put.others n one two (no_effect_there n node at_node is_effect) (span.effects n node at_node is_effect ∙ at_one) at_two;
        }

        clean : AreSettledTo last.plan.nodes last.rows (key + 1)
        clean n node r lt at_node at_r is_memo =
            let here : slice_get x.graph.plan.nodes n ≡ Some node = ap (λ (p : Plan). slice_get p.nodes n) (sym last_plan) ∙ at_node in
            let stays = put.settled (key + 1) named n lt (no_memo_there n node here is_memo) in
            (span.memos n node r lt here (sym stays ∙ at_r) is_memo).0
          where
            named : (n : ℕ) (m : PlanNode) → slice_get spanned.plan.nodes n ≡ Some m → Contains (rows_in m.expr) row → is_derived m.kind ≡ true → key + 1 ≤ n
            named n m at_m has d =
                let low = behind_key component (state_of x.held.held) kept (fits component kept x.held of place load at live) n m (ap (λ (p : Plan). slice_get p.nodes n) (sym (same_plan ∙ ready.fitting.plan)) ∙ at_m) row has (outside load.id) (node_of (is_keyed component) (places_of (written component x.held.held)) rows.w) (row_got (places_of (written component x.held.held)) (outside load.id) row (rows.found ∙ ap Some same_row)) (ap (λ (p : Plan). slice_get p.nodes row) (sym ready.fitting.plan) ∙ load_node) load_kind key key_here in
                omega (arith, low)

        module _ (was : Loading) (came : Polled) (at_was : slice_get x.loadings place ≡ Some was) (code_is : code ≡ load_code load.pairs (after_poll was (key_of component x.held.held load) came).arrived) where
          abbrev new : Loading
          new = after_poll was (key_of component x.held.held load) came

          shown : SourcesShow component (state_of (with_arrived x.held.held load.id new.arrived)) last.rows
          unfolding rows
          shown = shown_later component kept x.held of place load at live new.arrived x.graph.rows last.rows ready.fitting.shown mine others
            where
              mine : value_in last.rows rows.row ≡ load_code load.pairs new.arrived
              mine =
                  let one = fellow last.rows x.graph.plan.nodes (put.long ∙ span.long ∙ ready.fitting.paired) row (node_of (is_keyed component) (places_of (written component x.held.held)) rows.w) load_node in
                  ap (value_in last.rows) same_row ∙ row_value last.rows row one.0 one.1 ∙ put.value one.0 one.1 ∙ code_is

              others : (n : ℕ) (node : PlanNode) → slice_get plan.nodes n ≡ Some node → is_derived node.kind ≡ false → n ≢ rows.row → value_in last.rows n ≡ value_in x.graph.rows n
              others n node at_node d apart =
                  coloured_value spanned.rows last.rows n put.long (λ one two at_one at_two. put.others n one two (λ e. apart (e ∙ sym same_row)) at_one at_two)
                  ∙ same_value x.graph.rows spanned.rows n (span.sources n node (ap (λ (p : Plan). slice_get p.nodes n) ready.fitting.plan ∙ at_node) d)

          pub ready_later : IsReady component places (place + 1) (key + 1) (sweep_of (with_held x.held (with_arrived x.held.held load.id new.arrived)) (set x.loadings place new) last)
          ready_later = record {
            fitting = record {
              fits = of_later component kept x.held of place load at live new.arrived;
              named = ready.fitting.named ∙ sym (places_later component kept x.held of place load at live new.arrived);
              plan = last_plan ∙ ready.fitting.plan ∙ sym (plan_later component kept x.held of place load at live new.arrived);
              paired = put.long ∙ span.long ∙ ready.fitting.paired ∙ ap (λ (p : Plan). length p.nodes) (sym last_plan);
              shown = shown;
            };
            closed = ap (λ (g : GraphState). g.is_open) put.rest ∙ ap (λ (g : GraphState). g.is_open) span.rest ∙ ready.closed;
            early = subst (λ (n : ℕ). n < 2 ^ 62) (sym (ap (λ (g : GraphState). g.base) put.rest ∙ ap (λ (g : GraphState). g.base) span.rest)) ready.early;
            in_step = in_step_later component kept x.held of place load at live x.loadings was (key_of component x.held.held load) came ready.in_step at_was;
            polled = own_keys component kept x.held of place load at live new.arrived ready.polled (poll_arrived was (key_of component x.held.held load) came (ready.in_step.each place load was at at_was live).last);
            clean = clean;
            within = (let lt = key_within in let e = ap (λ (p : Plan). length p.nodes) last_plan in omega (arith, lt, e));
            ahead = λ j other low le at_other live_other found_other. (
                let up = keys_rise component (state_of x.held.held) kept (fits component kept x.held of place load at live) (nested component kept x.held of place load at live) place j load other (omega (arith, le)) at at_other live live_other key low key_here (ap (λ (ps : List Place). row_of ps (outside (suc other.id))) (sym ready.fitting.named) ∙ found_other) in
                omega (arith, up));
          }

-- the same, of what the calls gave
pub turn_ready : (component : Component) (kept : IsKept component) (places : List Place) (place from : ℕ) (x : Sweep) (ready : IsReady component places place from x) (load : LoadOf) (at : slice_get (loads_in component) place ≡ Some load) (live : is_live_load component (state_of x.held.held) load ≡ true)
    → (row key : ℕ) → row_of places (outside load.id) ≡ Some row → row_of places (outside (suc load.id)) ≡ Some key
    → (spanned last : GraphState) (code : Code) → IsSpanned x.graph spanned from (key + 1) → IsPut spanned last row code
    → (was new : Loading) (came : Polled) (read : Code) → slice_get x.loadings place ≡ Some was → read ≡ value_in spanned.rows key → new ≡ after_poll was read came
    → code ≡ load_code load.pairs new.arrived → (held : HeldState) → held ≡ with_held x.held (with_arrived x.held.held load.id new.arrived)
    → IsReady component places (place + 1) (key + 1) (sweep_of held (set x.loadings place new) last)
turn_ready component kept places place from x ready load at live row key row_is key_is spanned last code span put was new came read at_was read_is new_is code_is held held_is =
    let key_at : read ≡ key_of component x.held.held load = read_is ∙ key_value component kept places place from x ready load at live row key row_is key_is spanned span in
    let polled : new ≡ after_poll was (key_of component x.held.held load) came = new_is ∙ ap (λ (k : Code). after_poll was k came) key_at in
    subst (λ (h : HeldState). IsReady component places (place + 1) (key + 1) (sweep_of h (set x.loadings place new) last)) (sym held_is)
    (subst (λ (n : Loading). IsReady component places (place + 1) (key + 1) (sweep_of (with_held x.held (with_arrived x.held.held load.id n.arrived)) (set x.loadings place n) last)) (sym polled)
    (ready_later component kept places place from x ready load at live row key row_is key_is spanned span last code put was came at_was (code_is ∙ ap (λ (n : Loading). load_code load.pairs n.arrived) polled)))

pub turn_taken : {S : Type 0} (answers : S → Ask → Arrival → S → Type 0) (is_prompt : Bool) (component : Component) (place : ℕ) (x : Sweep) (load : LoadOf) → is_live_load component (state_of x.held.held) load ≡ true
    → (was new : Loading) (came : Polled) (read : Code) (before after : S) → slice_get x.loadings place ≡ Some was → read ≡ key_of component x.held.held load → new ≡ after_poll was read came
    → (came ≡ Arrived) ↔ (new.arrived ≡ Some read) → (was.arrived ≡ Some read → after ≡ before)
    → (¬ (was.arrived ≡ Some read) → answers before (record { resource = load.resource; key = read; after = load.after; asked = (keyed was read).asked }) (answer_of came) after)
    → (is_prompt ≡ true → came ≡ prompt_poll was read load.after)
    → (held : HeldState) (graph : GraphState) → held ≡ with_held x.held (with_arrived x.held.held load.id new.arrived)
    → IsTaken answers is_prompt component place load x (sweep_of held (set x.loadings place new) graph) (late_as load.id came) before after
turn_taken answers is_prompt component place x load live was new came read before after at_was read_is state arrived unasked asked prompt held graph held_is = record {
  live = live;
  was = was;
  at = at_was;
  is = new;
  came = came;
  polled = subst (λ (k : Code). IsPolled answers load k was new came before after) read_is (record { state = state; arrived = arrived; unasked = unasked; asked = asked });
  prompt = λ e. subst (λ (k : Code). came ≡ prompt_poll was k load.after) read_is (prompt e);
  loadings = refl;
  held = held_is;
  added_is = refl;
}

pub pairs_there : (loads : List LoadOf) (place : ℕ) (load : LoadOf) → slice_get loads place ≡ Some load → pairs_at loads place ≡ load.pairs
pairs_there loads place load at = ap (λ (o : Option LoadOf). option_map_or (λ l. l.pairs) o []) at
