-- What is seen of a graph.
use Rattle.std.proofs.Common.{◌≡◌, ℕ, ◌+◌, ◌-◌, ◌^◌, ◌<◌, ◌≤◌, Bool, true, false, Some, List, [], slice_get, length, sym, ap, subst, ◌∙◌, arith, Option, None, get_or, ◌≢◌, refl}
use Rattle.std.specs.Prelude.{if◌then◌else◌, IfSome, IfNone, option_map}
use Rattle.std.proofs.lemmas.Option.{slice_get_read}
use Rattle.values.specs.declared.code.Code.{Code}
use Rattle.values.specs.declared.plan.Kind.TheVariants as kind
use Rattle.values.specs.declared.plan.Noted.{Noted}
use Rattle.values.specs.declared.plan.PlanNode.{PlanNode}
use Rattle.values.specs.Packing.{packed, unpacked, IsValue, IsPacked}
use Rattle.values.specs.PlanValues.{is_derived, plan_value}
use Rattle.store_fields.specs.declared.edit.Edit.{Edit}
use Rattle.sources.specs.declared.opening.Opened.{Opened}
use Rattle.sources.specs.Colours.{is_clean}
use Rattle.sources.specs.Rows.{value_in}
use Rattle.still_readers.proofs.Lists.{at_within, within_at}
use Rattle.run_history.specs.Going.{Start, Going}
use Rattle.run_history.specs.Calls.{Call, Calls}
use Rattle.phase_graph.specs.declared.table.Table.{Table}
use Rattle.phase_graph.specs.Graph.{GraphState}
use Rattle.phase_graph.specs.Table.{seen, open_seen, IsTable, IsStirred, IsSettled, IsSpanSettled, MakesCall, MakesHome}
use Rattle.phase_graph.specs.Way.{IsOnWay, AreHome}
use Rattle.phase_graph.proofs.Changes.{unclean_most}

-- while a phase is open all that was noted is seen
pub seen_open : (t : Table) (lists : List (List Edit)) (room : ℕ) → t.clock.in_phase ≡ true → seen t lists room ≡ open_seen t lists room
seen_open t lists room is = ap (λ (b : Bool). record (open_seen t lists room) { entries = if b then t.clock.entries.list else [] }) is

pub graph_calls : (x : GraphState) (t t' : Table) (lists : List (List Edit)) (room pass : ℕ) (call : Call) → seen t lists room ≡ x → t'.clock.in_phase ≡ t.clock.in_phase → MakesCall t t' pass call → (s : Start) (g : Going) → IsOnWay s g x → (block : List Noted) × (h : Going) × Calls s g block h pass call × IsOnWay s h (seen t' lists room)
graph_calls x t t' lists room pass call view phase makes s g way =
    let on = subst (IsOnWay s g) (sym view) way in
    let r = makes s g lists room (subst (IsOnWay s g) (seen_open t lists room on.is_open) on) in
    (r.0, r.1, r.2, subst (IsOnWay s r.1) (sym (seen_open t' lists room (phase ∙ on.is_open))) r.3)

pub graph_home : (x : GraphState) (t t' : Table) (lists : List (List Edit)) (room pass : ℕ) (call : Call) → seen t lists room ≡ x → t'.clock.in_phase ≡ t.clock.in_phase → MakesHome t t' pass call → (s : Start) (g : Going) → AreHome s → IsOnWay s g x → (block : List Noted) × (h : Going) × Calls s g block h pass call × IsOnWay s h (seen t' lists room)
graph_home x t t' lists room pass call view phase makes s g home way =
    let on = subst (IsOnWay s g) (sym view) way in
    let r = makes s g lists room home (subst (IsOnWay s g) (seen_open t lists room on.is_open) on) in
    (r.0, r.1, r.2, subst (IsOnWay s r.1) (sym (seen_open t' lists room (phase ∙ on.is_open))) r.3)

-- ---- settling

sources_stay : (t t' : Table) → IsTable t → IsStirred t t' → t.clock.base < 2 ^ 62 → (n : ℕ) (node : PlanNode) → slice_get t.plan.nodes n ≡ Some node → is_derived node.kind ≡ false → slice_get t'.rows.items n ≡ slice_get t.rows.items n
sources_stay t t' table stirred early n node at d =
    let w = at_within t.plan.nodes n node at in let p = table.good.paired in let q = stirred.step.since.paired in
    let old = within_at t.rows.items n (omega arith) in
    let new = within_at t'.rows.items n (omega arith) in
    let same = (stirred.step.since.each n old.0 new.0 old.1 new.1).clean (((table.still early).good.each n node old.0 at old.1).source d) in
    new.1 ∙ ap (λ (z : Opened). Some z) same ∙ sym old.1

module _ (x : GraphState) (t t' : Table) (lists : List (List Edit)) (room : ℕ) (view : seen t lists room ≡ x) (table : IsTable t) where
  pub stirred_sources : IsStirred t t' → t.clock.base < 2 ^ 62 → (n : ℕ) (node : PlanNode) → slice_get x.plan.nodes n ≡ Some node → is_derived node.kind ≡ false → slice_get t'.rows.items n ≡ slice_get x.rows n
  stirred_sources stirred early = subst (λ (y : GraphState). (n : ℕ) (node : PlanNode) → slice_get y.plan.nodes n ≡ Some node → is_derived node.kind ≡ false → slice_get t'.rows.items n ≡ slice_get y.rows n) view (sources_stay t t' table stirred early)

  pub settled_ticks : IsSettled t t' → (x.drawn ≤ t'.clock.drawn) × (t'.clock.drawn ≤ x.drawn + length x.plan.nodes)
  settled_ticks settled = subst (λ (y : GraphState). (y.drawn ≤ t'.clock.drawn) × (t'.clock.drawn ≤ y.drawn + length y.plan.nodes)) view (ticks, more)
    where
      ticks : t.clock.drawn ≤ t'.clock.drawn
      ticks = settled.stirred.step.since.drawn

      more : t'.clock.drawn ≤ t.clock.drawn + length t.plan.nodes
      more = let a = settled.stirred.step.spent in let b = unclean_most t.rows.items in let c = table.good.paired in omega arith

  pub settled_memos : IsSettled t t' → (n : ℕ) (node : PlanNode) (row : Opened) → slice_get x.plan.nodes n ≡ Some node → slice_get t'.rows.items n ≡ Some row → node.kind ≡ kind.Memo → (is_clean row.colour ≡ true) × (unpacked row.code ≡ plan_value x.plan.nodes (value_in x.rows) n)
  settled_memos settled = subst (λ (y : GraphState). (n : ℕ) (node : PlanNode) (row : Opened) → slice_get y.plan.nodes n ≡ Some node → slice_get t'.rows.items n ≡ Some row → node.kind ≡ kind.Memo → (is_clean row.colour ≡ true) × (unpacked row.code ≡ plan_value y.plan.nodes (value_in y.rows) n)) view settled.memos

  module _ (from to : ℕ) (settled : IsSpanSettled t t' from to) where
    pub span_ticks : (x.drawn ≤ t'.clock.drawn) × (t'.clock.drawn ≤ x.drawn + (to - from))
    span_ticks = subst (λ (y : GraphState). (y.drawn ≤ t'.clock.drawn) × (t'.clock.drawn ≤ y.drawn + (to - from))) view (settled.stirred.step.since.drawn, settled.drawn)

    pub span_long : length t'.rows.items ≡ length x.rows
    span_long = settled.stirred.step.since.paired ∙ ap (λ (y : GraphState). length y.rows) view

    pub span_memos : (n : ℕ) (node : PlanNode) (row : Opened) → n < to → slice_get x.plan.nodes n ≡ Some node → slice_get t'.rows.items n ≡ Some row → node.kind ≡ kind.Memo → (is_clean row.colour ≡ true) × (unpacked row.code ≡ plan_value x.plan.nodes (value_in x.rows) n)
    span_memos = subst (λ (y : GraphState). (n : ℕ) (node : PlanNode) (row : Opened) → n < to → slice_get y.plan.nodes n ≡ Some node → slice_get t'.rows.items n ≡ Some row → node.kind ≡ kind.Memo → (is_clean row.colour ≡ true) × (unpacked row.code ≡ plan_value y.plan.nodes (value_in y.rows) n)) view settled.memos

    pub span_below : (n : ℕ) → n < from → slice_get t'.rows.items n ≡ slice_get x.rows n
    span_below n l = settled.below n l ∙ ap (λ (y : GraphState). slice_get y.rows n) view

    pub span_past : (n : ℕ) → to ≤ n → slice_get t'.rows.items n ≡ slice_get x.rows n
    span_past n l = settled.past n l ∙ ap (λ (y : GraphState). slice_get y.rows n) view

-- ---- the value of a row

pub row_packed : (t : Table) → IsTable t → (n : ℕ) (row : Opened) → slice_get t.rows.items n ≡ Some row → IsPacked row.code
row_packed t table n row at =
    let w = at_within t.rows.items n row at in let p = table.good.paired in
    let node = within_at t.plan.nodes n (omega arith) in
    (table.good.each n node.0 row node.1 at).is_packed

pub rows_packed : (x : GraphState) (t : Table) (lists : List (List Edit)) (room : ℕ) → seen t lists room ≡ x → IsTable t → (n : ℕ) (row : Opened) → slice_get x.rows n ≡ Some row → IsPacked row.code
rows_packed x t lists room view table = subst (λ (y : GraphState). (n : ℕ) (row : Opened) → slice_get y.rows n ≡ Some row → IsPacked row.code) view (row_packed t table)

pub value_is : (x : GraphState) (t : Table) (lists : List (List Edit)) (room row : ℕ) (kept : Opened) (rs : List Opened) → seen t lists room ≡ x → IsTable t → rs ≡ t.rows.items → row < length rs → kept ≡ get_or rs row kept → (r : Option Code) → IfSome r (λ code. code ≡ unpacked kept.code) → IfNone r ((code : Code) → IsValue code → packed code ≢ kept.code) → r ≡ option_map (λ k. unpacked k.code) (slice_get x.rows row)
value_is x t lists room row kept rs view table same within is r some none = by r some none ∙ sym (ap (option_map (λ k. unpacked k.code)) (ap (λ (q : GraphState). slice_get q.rows row) (sym view) ∙ at))
  where
    at : slice_get t.rows.items row ≡ Some kept
    at = ap (λ (q : List Opened). slice_get q row) (sym same) ∙ slice_get_read rs (length rs) row kept refl within is

    is_packed : IsPacked kept.code
    is_packed = row_packed t table row kept at

    by : (r : Option Code) → IfSome r (λ code. code ≡ unpacked kept.code) → IfNone r ((code : Code) → IsValue code → packed code ≢ kept.code) → r ≡ Some (unpacked kept.code)
    by None some none = let p = is_packed in absurd (none p.code p.value p.packs)
    by (Some code) some none = ap (λ (z : Code). Some z) some
