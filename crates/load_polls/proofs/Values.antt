-- Valuations of the rows of a plan: where they agree at what a memo names, they agree at the memo.
use Rattle.std.proofs.Common.{if◌then◌else◌, ◌≡◌, ◌≢◌, ◌⊎◌, ℕ, zero, suc, ◌<◌, inl, inr, Bool, true, false, List, slice_get, Contains, Option, Some, None, refl, sym, ap, subst, ◌∙◌, arith}
use Rattle.std.specs.Prelude.{IsSomeAnd}
use Rattle.values.specs.declared.code.Code.{Code}
use Rattle.values.specs.declared.code.Code.TheVariants.{Empty}
use Rattle.values.specs.declared.plan.Kind.{Kind}
use Rattle.values.specs.declared.plan.Kind.TheVariants as kind
use Rattle.values.specs.declared.plan.Plan.{Plan}
use Rattle.values.specs.declared.plan.PlanNode.{PlanNode}
use Rattle.values.specs.Evaluation.{is_same, value_of}
use Rattle.values.specs.Plan.{rows_in, IsLawful}
use Rattle.values.specs.PlanValues.{is_derived, value_at, plan_value}
use Rattle.values.proofs.PlanLemmas.{reads_named}
use Rattle.values.proofs.PlanValuesLemmas.{plan_value-derived, plan_value-source, lawful_back}
use Rattle.values.proofs.ReadsLemmas.{same_by_reads}
use Rattle.sources.specs.declared.opening.Opened.{Opened}
use Rattle.sources.specs.Rows.{value_in}
use Rattle.component_items.specs.declared.component.Component.{Component}
use Rattle.component_items.specs.Kept.{IsKept}
use Rattle.plain_evaluation.specs.Fits.{RowsFit}
use Rattle.plain_evaluation.specs.Keyed.{is_keyed}
use Rattle.plain_evaluation.specs.Place.{Place, outside}
use Rattle.plain_evaluation.specs.Scratch.{value_by, load_value, scratch_in}
use Rattle.plain_evaluation.specs.Written.{State, Says, given, loaded, derived, kind_said, Written, place_of, written_in}
use Rattle.plain_evaluation.proofs.Makes.{makes_sense}
use Rattle.plain_evaluation.proofs.Places.{code_itself}
use Rattle.plan_meaning.specs.Layout.{is_computed, rows_of, places_of, row_of, node_of, plan_of}
use Rattle.plan_meaning.specs.There.{AreNested}
use Rattle.plan_meaning.specs.Settled.{AreSettled}
use Rattle.plan_meaning.specs.Values.{row_values}
use Rattle.plan_meaning.proofs.Evaluates.{value_of_row}
use Rattle.plan_meaning.proofs.Loads.{load_rows}
use Rattle.plan_meaning.proofs.Owners.{lawful}
use Rattle.plan_meaning.proofs.Lines.{are_proper}
use Rattle.plan_meaning.proofs.Rows.{true_or_false, row_among, are_apart, row_got, at_map, map_at}
use Rattle.plan_meaning.proofs.Settled.{evaluation_settles}
use Rattle.load_table.specs.Loads.{LoadOf, loads_in, is_live_load}
use Rattle.load_table.proofs.Keys.{behind_key}
use Rattle.load_table.proofs.Pending.{load_has_row, row_has_load}
use Rattle.load_polls.specs.Shown.{load_code, SourcesShow}
use Rattle.load_polls.proofs.Rising.{keys_rise}

-- ---- a plan

-- each memo has the value of its expression
abbrev pub MemosHold : List PlanNode → (ℕ → Code) → Type 0
MemosHold nodes values = (row : ℕ) (node : PlanNode) → slice_get nodes row ≡ Some node → node.kind ≡ kind.Memo → values row ≡ value_of node.expr values

abbrev pub AgreeBelow : List PlanNode → (ℕ → Code) → (ℕ → Code) → ℕ → Type 0
AgreeBelow nodes s t bound = (row : ℕ) (node : PlanNode) → row < bound → slice_get nodes row ≡ Some node → node.kind ≡ kind.Memo → s row ≡ t row

memo_of : (k : Kind) → is_derived k ≡ true → k ≢ kind.Effect → k ≡ kind.Memo
memo_of kind.Signal d other = cc
memo_of kind.Field d other = cc
memo_of kind.Load d other = cc
memo_of kind.Memo d other = refl
memo_of kind.Effect d other = absurd (other refl)

module _ (plan : Plan) (is_lawful : IsLawful plan) (s t : ℕ → Code) (memos : MemosHold plan.nodes s) (others : MemosHold plan.nodes t) (bound : ℕ)
    (sources : (row named : ℕ) (node source : PlanNode) → row < bound → slice_get plan.nodes row ≡ Some node → Contains (rows_in node.expr) named → slice_get plan.nodes named ≡ Some source → is_derived source.kind ≡ false → AgreeBelow plan.nodes s t row → s named ≡ t named) where
  below : (n : ℕ) → (row : ℕ) (node : PlanNode) → row < n → row < bound → slice_get plan.nodes row ≡ Some node → node.kind ≡ kind.Memo → s row ≡ t row
  below zero row node lt inside at memo = absurd (omega arith)
  below (suc n) row node lt inside at memo = memos row node at memo ∙ (same_by_reads node.expr s t (λ q read. named (λ k one lower at_one memo_one. below n k one (omega (arith, lower, lt)) (omega (arith, lower, inside)) at_one memo_one) q (reads_named node.expr s q read))).0 ∙ sym (others row node at memo)
    where
      named : AgreeBelow plan.nodes s t row → (q : ℕ) → Contains (rows_in node.expr) q → s q ≡ t q
      named known q has = let may = is_lawful.reads_back row node at q has in by (slice_get plan.nodes q) refl may.0 may.1
        where
          by_kind : (m : PlanNode) → slice_get plan.nodes q ≡ Some m → q < row → m.kind ≢ kind.Effect → (b : Bool) → is_derived m.kind ≡ b → s q ≡ t q
          by_kind m is before other true d = known q m before is (memo_of m.kind d other)
          by_kind m is before other false d = sources row q node m inside at has is d known

          by : (o : Option PlanNode) → slice_get plan.nodes q ≡ o → q < row → IsSomeAnd o (λ m. m.kind ≢ kind.Effect) → s q ≡ t q
          by None is before some = absurd some
          by (Some m) is before other = by_kind m is before other (is_derived m.kind) refl

  pub agree : AgreeBelow plan.nodes s t bound
  agree row node lt at memo = below (suc row) row node (omega arith) lt at memo

-- plan evaluation solves the memos
pub plan_holds : (plan : Plan) → IsLawful plan → (sources : ℕ → Code) → MemosHold plan.nodes (plan_value plan.nodes sources)
plan_holds plan is_lawful sources row node at memo = plan_value-derived plan.nodes sources (lawful_back plan is_lawful) row node at (ap is_derived memo)

pub three : (j n : ℕ) → (j < n) ⊎ ((j ≡ n) ⊎ (n < j))
three j n = grind arith

-- ---- loads of a component

-- the key that arrived is the load's own, or none has: then what is shown is the load's value
pub shown_is_value : (pairs : List (Code × Code)) (arrived : Option Code) (key : Code) → (arrived ≡ None) ⊎ (arrived ≡ Some key) → load_code pairs arrived ≡ load_value pairs arrived key
shown_is_value pairs arrived key (inl is) = ap (load_code pairs) is ∙ sym (ap (λ (o : Option Code). load_value pairs o key) is)
shown_is_value pairs arrived key (inr is) =
    ap (load_code pairs) is ∙ sym (at (is_same key key) (code_itself key)) ∙ sym (ap (λ (o : Option Code). load_value pairs o key) is)
  where
    at : (b : Bool) → b ≡ true → (if b then value_by pairs key else Empty) ≡ value_by pairs key
    at true is = refl
    at false is = cc

module _ (component : Component) (state : State) (kept : IsKept component) (fits : RowsFit component state) (nested : AreNested component state) where
  abbrev ws : List Written
  ws = written_in component state

  abbrev places : List Place
  places = places_of ws

  abbrev nodes : List PlanNode
  nodes = (plan_of component state).nodes

  -- the row of a load, with its line and the row of its key
  pub record HasRows (load : LoadOf) : Type 0 where
    pub row : ℕ
    pub found : row_of places (outside load.id) ≡ Some row
    pub w : Written
    pub line : slice_get (rows_of ws) row ≡ Some w
    pub says : w.says ≡ loaded load.pairs (state.arrived load.id)
    pub place_is : place_of w ≡ outside load.id
    pub node : slice_get nodes row ≡ Some (node_of (is_keyed component) places w)
    pub key : ℕ
    pub key_found : row_of places (outside (suc load.id)) ≡ Some key
    pub before : row < key
    pub memo : IsSomeAnd (slice_get nodes key) (λ n. n.kind ≡ kind.Memo)

  pub apart : (row : ℕ) (p : Place) → slice_get places row ≡ Some p → row_of places p ≡ Some row
  apart = are_apart ws (makes_sense component state kept fits).differ

  pub load_rows_at : (place : ℕ) (load : LoadOf) → slice_get (loads_in component) place ≡ Some load → is_live_load component state load ≡ true → HasRows load
  load_rows_at place load at live =
      let one = load_has_row component state kept nested place load at live in
      let line = one.2 in
      let node = at_map (node_of (is_keyed component) places) (rows_of ws) one.0 line.0 line.1 in
      let kind_is : kind_said line.0.says ≡ kind.Load = ap kind_said line.2 in
      let here : Some (place_of line.0) ≡ Some (outside load.id) = sym (at_map place_of (rows_of ws) one.0 line.0 line.1) ∙ one.1 in
      let key = load_rows component state kept fits one.0 (outside load.id) (node_of (is_keyed component) places line.0) one.1 node kind_is in
      record {
        row = one.0;
        found = apart one.0 (outside load.id) one.1;
        w = line.0;
        line = line.1;
        says = line.2;
        place_is = cc;
        node = node;
        key = key.1.0;
        key_found = key.1.1;
        before = key.1.2;
        memo = key.1.3;
      }

  abbrev values : ℕ → Code
  values = value_at (row_values component state)

  pub settled : AreSettled component state values
  settled = evaluation_settles component state kept fits

  -- the value of the key of a load is that of its row
  pub key_value : (load : LoadOf) (key : ℕ) → row_of places (outside (suc load.id)) ≡ Some key → values key ≡ scratch_in component state (outside (suc load.id))
  key_value load key found = value_of_row (scratch_in component state) places key (outside (suc load.id)) (row_got places (outside (suc load.id)) key found)

  -- what stands in the row of a load
  pub load_in_row : (row : ℕ) (node : PlanNode) (w : Written) → slice_get nodes row ≡ Some node → node.kind ≡ kind.Load → slice_get (rows_of ws) row ≡ Some w → (place : ℕ) × (load : LoadOf) × (slice_get (loads_in component) place ≡ Some load) × (is_live_load component state load ≡ true) × (place_of w ≡ outside load.id)
  load_in_row row node w at is at_line = row_has_load component state kept nested row (place_of w) node (at_map place_of (rows_of ws) row w at_line) at is

  -- that load's rows, and what its line says
  pub record IsLoadLine (row : ℕ) (w : Written) (pairs : List (Code × Code)) (arrived : Option Code) : Type 0 where
    pub place : ℕ
    pub load : LoadOf
    pub at : slice_get (loads_in component) place ≡ Some load
    pub live : is_live_load component state load ≡ true
    pub here : slice_get places row ≡ Some (outside load.id)
    pub id_is : w.id ≡ load.id
    pub arrived_is : state.arrived load.id ≡ arrived
    pub rows : HasRows load

  pub load_line_at : (row : ℕ) (node : PlanNode) (w : Written) (pairs : List (Code × Code)) (arrived : Option Code) → slice_get nodes row ≡ Some node → node.kind ≡ kind.Load → slice_get (rows_of ws) row ≡ Some w → w.says ≡ loaded pairs arrived → IsLoadLine row w pairs arrived
  load_line_at row node w pairs arrived at is line says =
      let one = load_in_row row node w at is line in
      let has = load_rows_at one.0 one.1 one.2 one.3 in
      let here : slice_get places row ≡ Some (outside one.1.id) = at_map place_of (rows_of ws) row w line ∙ ap Some one.4 in
      let found : Some has.row ≡ Some row = sym has.found ∙ apart row (outside one.1.id) here in
      let row_is : has.row ≡ row = cc in
      let lines : Some has.w ≡ Some w = sym has.line ∙ ap (slice_get (rows_of ws)) row_is ∙ line in
      let w_is : has.w ≡ w = cc in
      let said : loaded one.1.pairs (state.arrived one.1.id) ≡ loaded pairs arrived = sym has.says ∙ ap (λ (v : Written). v.says) w_is ∙ says in
      record { place = one.0; load = one.1; at = one.2; live = one.3; here = here; id_is = ap (λ (p : Place). p.id) one.4; arrived_is = cc; rows = has }

  -- the key that arrived for the load is its own, or none has
  abbrev pub IsOwn : LoadOf → Type 0
  IsOwn load = (state.arrived load.id ≡ None) ⊎ (state.arrived load.id ≡ Some (scratch_in component state (outside (suc load.id))))

  -- a source that shows held state has its value, where a load has its own key
  pub source_value : (rows : List Opened) → SourcesShow component state rows → (row : ℕ) (node : PlanNode) → slice_get nodes row ≡ Some node → is_derived node.kind ≡ false
      → ((place : ℕ) (load : LoadOf) → slice_get (loads_in component) place ≡ Some load → is_live_load component state load ≡ true → slice_get places row ≡ Some (outside load.id) → node.kind ≡ kind.Load → IsOwn load) → value_in rows row ≡ values row
  source_value rows shown row node at d own = by one.0.says refl
    where
      one : (w : Written) × (slice_get (rows_of ws) row ≡ Some w) × (node_of (is_keyed component) places w ≡ node)
      one = map_at (node_of (is_keyed component) places) (rows_of ws) row node at

      kind_is : node.kind ≡ kind_said one.0.says
      kind_is = ap (λ (n : PlanNode). n.kind) (sym one.2)

      by : (says : Says) → one.0.says ≡ says → value_in rows row ≡ values row
      by (given k code) says = shown.given_so row one.0 k code one.1 says ∙ sym (settled.sources row one.0 k code one.1 says)
      by (loaded pairs arrived) says =
          let is_load : node.kind ≡ kind.Load = kind_is ∙ ap kind_said says in
          let l = load_line_at row node one.0 pairs arrived at is_load one.1 says in
          let key = l.rows.key in
          let own_key : (arrived ≡ None) ⊎ (arrived ≡ Some (values key)) = elim (own l.place l.load l.at l.live l.here is_load) [
            | inl e ↦ inl (sym l.arrived_is ∙ e)
            | inr e ↦ inr (sym l.arrived_is ∙ e ∙ ap Some (sym (key_value l.load key l.rows.key_found)))
          ] in
          shown.loaded_so row one.0 pairs arrived one.1 says
          ∙ shown_is_value pairs arrived (values key) own_key
          ∙ sym (settled.loads row key one.0 pairs arrived one.1 says (subst (λ (n : ℕ). row_of places (outside (suc n)) ≡ Some key) (sym l.id_is) l.rows.key_found))
      by (derived k e) says =
          let computed = (are_proper component state kept one.0 (row_among ws row one.0 one.1)).computed in
          absurd (true_or_false (is_derived node.kind) (ap is_derived kind_is ∙ computed ∙ ap is_computed says) d)

  is_plan_lawful : IsLawful (plan_of component state)
  is_plan_lawful = lawful component state kept fits

  -- a load whose key stands below that of another load comes before it
  pub earlier : (j place : ℕ) (other load : LoadOf) (key : ℕ) → slice_get (loads_in component) j ≡ Some other → slice_get (loads_in component) place ≡ Some load → is_live_load component state other ≡ true → is_live_load component state load ≡ true → (low : ℕ) → row_of places (outside (suc other.id)) ≡ Some low → row_of places (outside (suc load.id)) ≡ Some key → low < key → j < place
  earlier j place other load key at_other at_load live_other live_load low found_low found lt = elim (three j place) [
    | inl before ↦ before
    | inr (inl same) ↦ (
        let two : Some other ≡ Some load = sym at_other ∙ ap (slice_get (loads_in component)) same ∙ at_load in
        let one : other ≡ load = cc in
        let keys : Some low ≡ Some key = sym found_low ∙ ap (λ (l : LoadOf). row_of places (outside (suc l.id))) one ∙ found in
        let k : low ≡ key = cc in
        absurd (omega (arith, lt, k)))
    | inr (inr later) ↦ (let up = keys_rise component state kept fits nested place j load other later at_load at_other live_load live_other key low found found_low in absurd (omega (arith, lt, up)))
  ]

  memo_at : (o : Option PlanNode) → IsSomeAnd o (λ n. n.kind ≡ kind.Memo) → (m : PlanNode) × (o ≡ Some m) × (m.kind ≡ kind.Memo)
  memo_at None some = absurd some
  memo_at (Some m) some = (m, refl, some)

  -- the row of the key is a memo
  pub key_node : (place : ℕ) (load : LoadOf) → slice_get (loads_in component) place ≡ Some load → is_live_load component state load ≡ true → (key : ℕ) → row_of places (outside (suc load.id)) ≡ Some key → (m : PlanNode) × (slice_get nodes key ≡ Some m) × (m.kind ≡ kind.Memo)
  key_node place load at live key found =
      let has = load_rows_at place load at live in
      let keys : Some has.key ≡ Some key = sym has.key_found ∙ found in
      let k : has.key ≡ key = cc in
      memo_at (slice_get nodes key) (subst (λ (n : ℕ). IsSomeAnd (slice_get nodes n) (λ m. m.kind ≡ kind.Memo)) k has.memo)

  -- the row of the key has the value of the key, where the loads before this one have their own keys
  pub key_settled : (rows : List Opened) → SourcesShow component state rows → (place : ℕ) (load : LoadOf) → slice_get (loads_in component) place ≡ Some load → is_live_load component state load ≡ true
      → ((j : ℕ) (other : LoadOf) → j < place → slice_get (loads_in component) j ≡ Some other → is_live_load component state other ≡ true → IsOwn other)
      → (key : ℕ) → row_of places (outside (suc load.id)) ≡ Some key → plan_value nodes (value_in rows) key ≡ scratch_in component state (outside (suc load.id))
  key_settled rows shown place load at live own key found =
      let m = key_node place load at live key found in
      agree (plan_of component state) is_plan_lawful (plan_value nodes (value_in rows)) values (plan_holds (plan_of component state) is_plan_lawful (value_in rows)) settled.memos (suc key) sources key m.0 (omega arith) m.1 m.2
      ∙ key_value load key found
    where
      sources : (row named : ℕ) (node source : PlanNode) → row < suc key → slice_get nodes row ≡ Some node → Contains (rows_in node.expr) named → slice_get nodes named ≡ Some source → is_derived source.kind ≡ false → AgreeBelow nodes (plan_value nodes (value_in rows)) values row → plan_value nodes (value_in rows) named ≡ values named
      sources row named node source lt at_row has at_source d same =
          plan_value-source nodes (value_in rows) (lawful_back (plan_of component state) is_plan_lawful) named source at_source d
          ∙ source_value rows shown named source at_source d (λ j other at_other live_other here is_load. (
          let one = load_rows_at j other at_other live_other in
          let low = behind_key component state kept fits row node at_row named has (outside other.id) source here at_source is_load one.key one.key_found in
          own j other (earlier j place other load key at_other at live_other live one.key one.key_found found (omega (arith, low, lt))) at_other live_other))
