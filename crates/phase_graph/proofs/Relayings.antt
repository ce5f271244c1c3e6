-- A table that took the rows of another over.
use Rattle.std.proofs.Common.{◌≡◌, ℕ, ◌+◌, ◌<◌, ◌^◌, false, Option, Some, List, [], length, slice_get, sym, ap, subst, ◌∙◌, arith}
use Rattle.values.specs.declared.code.Code.TheVariants.{Empty}
use Rattle.values.specs.declared.plan.Plan.{Plan}
use Rattle.values.specs.declared.plan.PlanNode.{PlanNode}
use Rattle.values.specs.Packing.{packed}
use Rattle.values.specs.Reserved.{Reserve}
use Rattle.values.proofs.PlanValuesLemmas.{lawful_back}
use Rattle.store_fields.specs.declared.edit.Edit.{Edit}
use Rattle.sources.specs.declared.opening.Opened.{Opened}
use Rattle.sources.specs.Colours.{is_clean}
use Rattle.sources.specs.Rows.{IsGood, IsDated, IsRoomy}
use Rattle.plain_evaluation.specs.Place.{Place}
use Rattle.plan_meaning.specs.Carried.{rows_to, IsCarried}
use Rattle.carried_rows.specs.Moved.{GoOver, ArePaired}
use Rattle.carried_rows.specs.Named.{IsFresh, AreFresh, AreNamed}
use Rattle.carried_rows.proofs.Numbers.{by_number}
use Rattle.carried_rows.proofs.Whole.{stay_good, stay_named, stay_dated, stay_roomy}
use Rattle.row_carrying.specs.Target.{AreTargets, IsNoTarget}
use Rattle.row_carrying.proofs.Places.{are_targets}
use Rattle.still_readers.proofs.Lists.{at_within, within_at, not_both}
use Rattle.still_rows.specs.Fresh.{AreFreshRows, IsFreshRow, fresh_colour}
use Rattle.phase_graph.specs.declared.table.Table.{Table}
use Rattle.phase_graph.specs.Graph.{GraphState, ticks_of}
use Rattle.phase_graph.specs.Table.{seen, IsTable, IsFullAt, HaveRoom}
use Rattle.phase_graph.specs.Relaying.{Relaying, GoesBetween, IsLaid, HaveMoved, HaveStayed, IsTakenOver}
use Rattle.phase_graph.proofs.Tables.{true_few, most_above}

-- ---- fresh rows

fresh_row : (node : PlanNode) (row : Opened) → IsFreshRow node row → IsFresh node row
fresh_row node row f = record {
  is_packed = f.is_packed;
  source = λ d. ap is_clean (f.colour ∙ ap fresh_colour d);
  dirty = λ d. f.colour ∙ ap fresh_colour d;
  unrun = λ d. f.cause;
  unread = λ d. f.reads;
}

pub fresh_all : (nodes : List PlanNode) (rows : List Opened) → AreFreshRows nodes (length nodes) rows → AreFresh nodes rows
fresh_all nodes rows f i node row n r = fresh_row node row (f.each i node row n r)

later_dated : (rows : List Opened) (now : ℕ) → IsDated rows 0 → IsDated rows now
later_dated rows now d = record {
  held = λ i row r. let h = d.held i row r in omega (arith, h);
  recorded = λ i row r k x e. let h = d.recorded i row r k x e in omega (arith, h);
}

-- a row where none went is empty
pub stays_empty : (nodes : List PlanNode) (to : List (Option ℕ)) (first rows : List Opened) → AreFreshRows nodes (length nodes) first → HaveStayed to first rows → (later : ℕ) (row : Opened) → IsNoTarget to later → slice_get rows later ≡ Some row → (row.code ≡ packed Empty) × (row.version ≡ 0)
stays_empty nodes to first rows fresh stayed later row none at =
    let here = sym (stayed later none) ∙ at in
    let l = at_within first later row here in
    let n = within_at nodes later (let c = fresh.counted in omega arith) in
    let f = fresh.each later n.0 row n.1 here in
    (f.empty, f.version)

-- ---- rows that went over by number

pub went_over : (old new : List Place) (nodes later : List PlanNode) (to : List (Option ℕ)) (rows first after : List Opened) → to ≡ rows_to old new → IsCarried old new nodes later → length new ≡ length later → length first ≡ length later → length after ≡ length first → HaveMoved to rows after → HaveStayed to first after → GoOver old new rows first after
went_over old new nodes later to rows first after is carried long counted filled moved stayed =
    by_number old new rows first after carried.apart carried.apart_later (filled ∙ counted ∙ sym long)
    (subst (λ (q : List (Option ℕ)). HaveMoved q rows after) is moved)
    (subst (λ (q : List (Option ℕ)). HaveStayed q first after) is stayed)

-- ---- the table

module _ (first old t : Table) (to : List (Option ℕ)) (laid : IsLaid first) (table : IsTable old) (closed : old.clock.in_phase ≡ false) (early : old.clock.base + old.clock.drawn < 2 ^ 62) (goes : GoesBetween old.plan.nodes (record { plan = first.plan; live = first.live.items; to = to })) (taken : IsTakenOver first old to t) where
  over : GoOver goes.old goes.new old.rows.items first.rows.items t.rows.items
  over = went_over goes.old goes.new old.plan.nodes first.plan.nodes to old.rows.items first.rows.items t.rows.items goes.to goes.carried goes.planned_later laid.fresh.counted taken.filled taken.moved taken.stayed

  was : ArePaired goes.old old.plan.nodes old.rows.items
  was = record { planned = sym goes.planned; filled = table.good.paired ∙ sym goes.planned }

  is : ArePaired goes.new first.plan.nodes first.rows.items
  is = record { planned = sym goes.planned_later; filled = laid.fresh.counted ∙ sym goes.planned_later }

  frees : AreFresh first.plan.nodes first.rows.items
  frees = fresh_all first.plan.nodes first.rows.items laid.fresh

  good : IsGood first.plan.nodes t.rows.items
  good = stay_good goes.old goes.new old.plan.nodes first.plan.nodes old.rows.items first.rows.items t.rows.items goes.carried was is over (lawful_back first.plan laid.lawful) frees table.named table.good

  named_later : AreNamed first.plan.nodes t.rows.items
  named_later = stay_named goes.old goes.new old.plan.nodes first.plan.nodes old.rows.items first.rows.items t.rows.items goes.carried was over (lawful_back first.plan laid.lawful) frees table.named

  dated : IsDated t.rows.items (old.clock.base + old.clock.drawn)
  dated = stay_dated goes.old goes.new old.plan.nodes old.rows.items first.rows.items t.rows.items (old.clock.base + old.clock.drawn) was over (table.still (omega arith)).dated (later_dated first.rows.items (old.clock.base + old.clock.drawn) laid.dated)

  roomy : IsRoomy first.plan.nodes t.rows.items
  roomy = stay_roomy goes.old goes.new old.plan.nodes first.plan.nodes old.rows.items first.rows.items t.rows.items goes.carried was over laid.roomy (table.still (omega arith)).roomy

  whole : IsTable (record first { rows = t.rows; readers = t.readers; clock = record first.clock { base = old.clock.base + old.clock.drawn } })
  whole = record {
    lawful = laid.lawful;
    still = (λ b. record {
      lawful = record { few = laid.lawful.few_nodes; reads = laid.lawful.reads_back };
      good = good;
      dated = (let d = laid.drawn in let same : old.clock.base + old.clock.drawn ≡ old.clock.base + old.clock.drawn + first.clock.drawn = omega arith in subst (IsDated t.rows.items) same dated);
      roomy = roomy;
      of_plan = taken.of_plan first.plan.nodes laid.of_plan;
      enrolled = taken.enrolled first.plan.nodes laid.of_plan good;
      ticks = record { base = b; few = (let d = laid.drawn in omega arith); noted = (λ p. absurd (not_both first.clock.in_phase p laid.closed)); short = (λ p. absurd (not_both first.clock.in_phase p laid.closed)); room = (λ p. absurd (not_both first.clock.in_phase p laid.closed)) };
    });
    early = (λ p. absurd (not_both first.clock.in_phase p laid.closed));
    ticks = omega arith;
    good = good;
    named = named_later;
    fits = laid.fits;
    owners = laid.owners;
    is_full = subst (λ (f : Option ℕ). IsFullAt f first.clock.drawn) (sym laid.full) tt;
    few = (let d = laid.drawn in let a = true_few first.live.items in let o = laid.owners in let b = laid.lawful.few_owners in let m = most_above first.full in omega arith);
    spare = (λ p. absurd (not_both first.clock.in_phase p laid.closed));
  }

  pub relayed_table : IsTable t
  relayed_table = subst IsTable (sym taken.same) whole

-- ---- a graph that goes over

pub none_have_room : (lists : List (Reserve Edit)) → lists ≡ [] → HaveRoom lists 0
none_have_room lists none = record { each = λ k list at. omega arith }

module _ (x : GraphState) (r : Relaying) (g l old first t : Table) (lists : List (List Edit)) (room : ℕ) (to slice : List (Option ℕ)) (view : seen g lists room ≡ x) (relaid : record { plan = l.plan; live = l.live.items; to = to } ≡ r) (is_old : old ≡ g) (is_first : first ≡ l) (is_to : slice ≡ to) (laid : IsLaid l) where
  plans : g.plan ≡ x.plan
  plans = ap (λ (q : GraphState). q.plan) view

  laters : l.plan ≡ r.plan
  laters = ap (λ (q : Relaying). q.plan) relaid

  tos : to ≡ r.to
  tos = ap (λ (q : Relaying). q.to) relaid

  -- each row goes to a row of its own
  pub relay_targets : GoesBetween x.plan.nodes r → AreTargets slice (length first.rows.items)
  relay_targets goes =
      let all = are_targets goes.old goes.new goes.carried.apart in
      let long : length goes.new ≡ length first.rows.items = goes.planned_later ∙ ap (λ (q : Plan). length q.nodes) (sym laters) ∙ sym laid.fresh.counted ∙ ap (λ (q : Table). length q.rows.items) (sym is_first) in
      subst (λ (q : List (Option ℕ)). AreTargets q (length first.rows.items)) (sym goes.to ∙ sym tos ∙ sym is_to) (subst (AreTargets (rows_to goes.old goes.new)) long all)

  module _ (taken : IsTakenOver first old slice t) where
    taken_so : IsTakenOver l g to t
    taken_so = subst (λ (q : Table). IsTakenOver q g to t) is_first (subst (λ (q : Table). IsTakenOver first q to t) is_old (subst (λ (q : List (Option ℕ)). IsTakenOver first old q t) is_to taken))

    pub relay_table : IsTable g → x.is_open ≡ false → ticks_of x < 2 ^ 62 → GoesBetween x.plan.nodes r → IsTable t
    relay_table table closed early goes =
        relayed_table l g t to laid table (ap (λ (q : GraphState). q.is_open) view ∙ closed) (subst (λ (q : GraphState). ticks_of q < 2 ^ 62) (sym view) early)
        (subst (λ (q : Relaying). GoesBetween g.plan.nodes q) (sym relaid) (subst (λ (q : Plan). GoesBetween q.nodes r) (sym plans) goes)) taken_so

    pub relay_rows : (places later : List Place) → r.to ≡ rows_to places later → IsCarried places later x.plan.nodes r.plan.nodes → length places ≡ length x.plan.nodes → length later ≡ length r.plan.nodes → (fresh : List Opened) × AreFresh r.plan.nodes fresh × GoOver places later x.rows fresh t.rows.items
    relay_rows places later is carried long long_later = (
      l.rows.items,
      subst (λ (q : Plan). AreFresh q.nodes l.rows.items) laters (fresh_all l.plan.nodes l.rows.items laid.fresh),
      subst (λ (q : List Opened). GoOver places later q l.rows.items t.rows.items) (ap (λ (q : GraphState). q.rows) view)
          (went_over places later x.plan.nodes r.plan.nodes to g.rows.items l.rows.items t.rows.items (tos ∙ is) carried long_later (laid.fresh.counted ∙ ap (λ (q : Plan). length q.nodes) laters) taken_so.filled taken_so.moved taken_so.stayed),
    )

    pub relay_empty : (later : ℕ) (row : Opened) → IsNoTarget r.to later → slice_get t.rows.items later ≡ Some row → (row.code ≡ packed Empty) × (row.version ≡ 0)
    relay_empty later row none at = stays_empty l.plan.nodes to l.rows.items t.rows.items laid.fresh taken_so.stayed later row (subst (λ (q : List (Option ℕ)). IsNoTarget q later) (sym tos) none) at

    pub relay_closed : t.clock.in_phase ≡ false
    relay_closed = ap (λ (q : Table). q.clock.in_phase) taken_so.same ∙ laid.closed

    pub relay_plan : t.plan ≡ l.plan
    relay_plan = ap (λ (q : Table). q.plan) taken_so.same
