-- Each call takes a phase from what it was to what it is.
use Rattle.std.proofs.Common.{◌≡◌, ◌≢◌, ◌⊎◌, ⊎_elim, ℕ, ◌+◌, ◌-◌, ◌≤◌, ◌<◌, Bool, true, false, Result, Ok, Err, Option, Some, None, List, [], ◌∷◌, slice_get, length, refl, sym, ap, subst, ◌∙◌, arith}
use Rattle.std.specs.Prelude.{IsSomeAnd, IfOk, IfNone, OnOk, OnErr, slice_set}
use Rattle.values.specs.declared.code.Code.{Code}
use Rattle.values.specs.declared.plan.Kind.{Kind}
use Rattle.values.specs.declared.plan.Kind.TheVariants as kind
use Rattle.values.specs.declared.plan.Noted.{Noted}
use Rattle.values.specs.declared.plan.Fact.TheVariants as fact
use Rattle.values.specs.declared.plan.Plan.{Plan}
use Rattle.values.specs.declared.plan.PlanNode.{PlanNode}
use Rattle.values.specs.declared.plan.Stop.TheVariants as stop
use Rattle.values.specs.Packing.{packed, unpacked}
use Rattle.values.specs.PlanValues.{is_derived, plan_value}
use Rattle.store_fields.specs.declared.edit.Edit.{Edit}
use Rattle.sources.specs.declared.opening.Opened.{Opened}
use Rattle.sources.specs.Colours.{is_clean}
use Rattle.sources.specs.Rows.{value_in}
use Rattle.still_readers.specs.Marking.{IsDarkened, Reached, written_row, IsSource}
use Rattle.still_readers.proofs.Lists.{at_within, within_at}
use Rattle.still_rows.specs.Clock.{IsTicked, now_of}
use Rattle.still_rows.specs.Works.{IsStill, IsWorkOf, unclean_count}
use Rattle.run_meaning.specs.Told.{IsCurrent}
use Rattle.run_history.specs.Going.{Start, Going, opened_at, note, shown_number, Goes, derived_of}
use Rattle.run_history.specs.Calls.{Call, set, get, Calls, IsGot}
use Rattle.run_history.proofs.Lists.{append_nil}
use Rattle.run_history.proofs.Steps.{nothing_goes, goes_on}
use Rattle.phase_graph.specs.declared.table.Table.{Table}
use Rattle.phase_graph.specs.Table.{state_of, open_seen, IsTable, IsFullAt, HasOwner, IsFilled, IsStirred, IsAnswered, IsWrittenIn, IsAsBefore, IsSettled, IsSpanSettled, MakesCall, MakesHome}
use Rattle.phase_graph.specs.Way.{ShowsAs, IsOnWay, AreHome}
use Rattle.phase_graph.proofs.Starts.{at_clock, with_plan, from_here}
use Rattle.phase_graph.proofs.Changes as changes
use Rattle.phase_graph.proofs.Writes as writes
use Rattle.phase_graph.proofs.Stops.{stops_dead, lives, stops_full, was_full, fills, on_filled}
use Rattle.phase_graph.proofs.Tables.{still_open}

pub some_and : {A : Type 0} (o : Option A) (P : A → Type 0) → IsSomeAnd o P → (x : A) × (o ≡ Some x) × P x
some_and None P h = absurd h
some_and (Some x) P h = (x, refl, h)

-- what a call gives, from g of a phase that opened with s
abbrev Gives : Table → List (List Edit) → ℕ → ℕ → Call → Start → Going → Type 0
Gives t edits room pass call s g = (block : List Noted) × (h : Going) × Calls s g block h pass call × IsOnWay s h (open_seen t edits room)

-- it is enough to say it of a phase with the table's plan, from where the table stands
pub makes : (t t' : Table) (pass : ℕ) (call : Call) → ((s : Start) (edits : List (List Edit)) (room : ℕ) → IsOnWay (with_plan s t.plan) (at_clock t.clock) (open_seen t edits room) → Gives t' edits room pass call (with_plan s t.plan) (at_clock t.clock)) → MakesCall t t' pass call
makes t t' pass call f s g edits room way = from_here s g (open_seen t edits room) (Gives t' edits room pass call) way (f s edits room)

-- the same, where no row of the plan is of an owner that was dead when the phase opened
pub makes_home : (t t' : Table) (pass : ℕ) (call : Call) → ((s : Start) (edits : List (List Edit)) (room : ℕ) → AreHome (with_plan s t.plan) → IsOnWay (with_plan s t.plan) (at_clock t.clock) (open_seen t edits room) → Gives t' edits room pass call (with_plan s t.plan) (at_clock t.clock)) → MakesHome t t' pass call
makes_home t t' pass call f s g edits room home way =
    let at_home : AreHome (with_plan s t.plan) = record { homes = λ n node at. home.homes n node (ap (λ (p : Plan). slice_get p.nodes n) (sym way.plan) ∙ at) } in
    from_here s g (open_seen t edits room) (Gives t' edits room pass call) way (f s edits room at_home)

shows_number : (s : Start) (es : List Noted) (base n : ℕ) (row : Opened) (k : Kind) → k ≢ kind.Effect → ShowsAs k s es base n row → row.version - base ≡ shown_number es n
shows_number s es base n row kind.Signal e h = h.number
shows_number s es base n row kind.Field e h = h.number
shows_number s es base n row kind.Load e h = h.number
shows_number s es base n row kind.Memo e h = h.number
shows_number s es base n row kind.Effect e h = absurd (e refl)

-- ---- calls that leave all as it was

module _ (t : Table) (pass row owner : ℕ) (has : HasOwner t.plan.nodes t.live.items row owner false) where
  pub set_dead : (code : Code) → MakesCall t t pass (set row code (Err (stop.Disposed owner)))
  set_dead code = makes t t pass (set row code (Err (stop.Disposed owner))) (λ s edits room way.
      ([], at_clock t.clock, (nothing_goes (with_plan s t.plan) (at_clock t.clock), (stops_dead (with_plan s t.plan) (at_clock t.clock) (open_seen t edits room) 1 row owner way has, refl)), way))

  pub get_dead : MakesCall t t pass (get row (Err (stop.Disposed owner)))
  get_dead = makes t t pass (get row (Err (stop.Disposed owner))) (λ s edits room way.
      ([], at_clock t.clock, (nothing_goes (with_plan s t.plan) (at_clock t.clock), stops_dead (with_plan s t.plan) (at_clock t.clock) (open_seen t edits room) (derived_of (with_plan s t.plan)) row owner way has), way))

pub set_still_full : (t : Table) (pass row owner number : ℕ) (code : Code) → HasOwner t.plan.nodes t.live.items row owner true → 65536 < number → number ≤ t.clock.drawn → MakesCall t t pass (set row code (Err (stop.Full number)))
set_still_full t pass row owner number code has above within = makes t t pass (set row code (Err (stop.Full number))) (λ s edits room way.
    ([], at_clock t.clock, (nothing_goes (with_plan s t.plan) (at_clock t.clock), (stops_full (with_plan s t.plan) (at_clock t.clock) (open_seen t edits room) [] (at_clock t.clock) 1 row owner number way has (was_full (at_clock t.clock) 1 number above within), refl)), way))

-- ---- writes

pub set_ok : (t t' : Table) (pass signal owner number : ℕ) (code : Code) → IsTable t → IsSomeAnd (slice_get t.plan.nodes signal) (λ node. (node.kind ≡ kind.Signal) ⊎ (node.kind ≡ kind.Field)) → HasOwner t.plan.nodes t.live.items signal owner true → IsWrittenIn t t' signal code number → MakesCall t t' pass (set signal code (Ok number))
set_ok t t' pass signal owner number code table row has w = makes t t' pass (set signal code (Ok number)) (λ s edits room way.
    let node = some_and (slice_get t.plan.nodes signal) _ row in
    let start = with_plan s t.plan in
    let goes = writes.goes start t.rows.items t'.rows.items t.clock t'.clock t.live.items edits room signal code node.0 node.1 node.2 table.good.paired w.undone w.ticked w.written way in
    let on = writes.on_way start t.rows.items t'.rows.items t.clock t'.clock t.live.items edits room signal code node.0 node.1 node.2 table.good.paired w.undone w.ticked w.written way in
    let same : number ≡ t.clock.drawn + 1 = w.drawn ∙ w.ticked.drawn in (
      note (t.clock.drawn + 1) (fact.Write signal code) ∷ [],
      at_clock t'.clock,
      (goes, (lives start (at_clock t.clock) (open_seen t edits room) signal owner way has, record { number = same; drawn = sym w.drawn; block_is = ap (λ (n : ℕ). note n (fact.Write signal code) ∷ []) (sym same) })),
      subst (IsOnWay start (at_clock t'.clock)) (λ i. state_of (sym w.plan i) t'.rows.items (sym w.live i).items t'.clock edits room) on,
    ))

pub set_full : (t t' : Table) (pass row owner number : ℕ) (code : Code) → HasOwner t.plan.nodes t.live.items row owner true → IsFilled t t' number → MakesCall t t' pass (set row code (Err (stop.Full number)))
set_full t t' pass row owner number code has filled = makes t t' pass (set row code (Err (stop.Full number))) (λ s edits room way.
    let start = with_plan s t.plan in
    let most : t'.clock.drawn ≤ t.clock.drawn + 1 = drawn in (
      [],
      at_clock t'.clock,
      (fills start t t' number edits room filled, (stops_full start (at_clock t.clock) (open_seen t edits room) [] (at_clock t'.clock) 1 row owner number way has (record { changes = refl; draws = most; above = filled.above; drawn = filled.within }), refl)),
      on_filled start t t' number edits room filled way,
    ))
  where
    drawn : t'.clock.drawn ≤ t.clock.drawn + 1
    drawn = ⊎_elim (λ (e : t'.clock.drawn ≡ t.clock.drawn). let l : t'.clock.drawn ≤ t.clock.drawn + 1 = omega arith in l) (λ (e : t'.clock.drawn ≡ t.clock.drawn + 1). let l : t'.clock.drawn ≤ t.clock.drawn + 1 = omega arith in l) filled.drawn

-- what goes on from a table that is seen as before goes on from there
pub after_before : (t t' t2 : Table) (pass : ℕ) (call : Call) → IsAsBefore t t' → MakesCall t' t2 pass call → MakesCall t t2 pass call
after_before t t' t2 pass call b f s g edits room way = f s g edits room (subst (IsOnWay s g) (λ i. state_of (sym b.plan i) (sym b.rows i) (sym b.live i).items (sym b.clock i) edits room) way)

-- ---- values that are asked for

module _ (t t' : Table) (pass node owner : ℕ) (table : IsTable t) (is_open : t.clock.in_phase ≡ true) (has : HasOwner t.plan.nodes t.live.items node owner true) (st : IsStirred t t') where
  abbrev start_of : Start → Start
  start_of s = with_plan s t.plan

  module _ (s : Start) (edits : List (List Edit)) (room : ℕ) (way : IsOnWay (with_plan s t.plan) (at_clock t.clock) (open_seen t edits room)) where
    abbrev block : List Noted
    block = changes.block (with_plan s t.plan) t.rows.items t'.rows.items t.readers t'.readers t.clock t'.clock t.live.items edits room (still_open t table is_open) st.step way

    goes : Goes (with_plan s t.plan) (at_clock t.clock) block (at_clock t'.clock)
    goes = changes.goes (with_plan s t.plan) t.rows.items t'.rows.items t.readers t'.readers t.clock t'.clock t.live.items edits room (still_open t table is_open) st.step way

    on_parts : IsOnWay (with_plan s t.plan) (at_clock t'.clock) (state_of t.plan t'.rows.items t.live.items t'.clock edits room)
    on_parts = changes.on_way (with_plan s t.plan) t.rows.items t'.rows.items t.readers t'.readers t.clock t'.clock t.live.items edits room (still_open t table is_open) st.step way

    on : IsOnWay (with_plan s t.plan) (at_clock t'.clock) (open_seen t' edits room)
    on = subst (IsOnWay (with_plan s t.plan) (at_clock t'.clock)) (λ i. state_of (sym st.plan i) t'.rows.items (sym st.live i).items t'.clock edits room) on_parts

    draws : t'.clock.drawn + unclean_count t'.rows.items ≤ t.clock.drawn + derived_of (with_plan s t.plan)
    draws = changes.draws (with_plan s t.plan) t.rows.items t'.rows.items t.readers t'.readers t.clock t'.clock t.live.items edits room (still_open t table is_open) st.step way

    got : (answer : Code × ℕ) (n : PlanNode) → slice_get t.plan.nodes node ≡ Some n → n.kind ≢ kind.Effect → IsAnswered t t' node answer → IsGot (with_plan s t.plan) (at_clock t.clock) block (at_clock t'.clock) node answer.0 answer.1
    got answer n at k a = record {
      live = lives (with_plan s t.plan) (at_clock t.clock) (open_seen t edits room) node owner way has;
      changes = changes.are_changes (with_plan s t.plan) t.rows.items t'.rows.items t.readers t'.readers t.clock t'.clock t.live.items edits room (still_open t table is_open) st.step way;
      draws = (let d = draws in omega arith);
      plain = a.value ∙ changes.plain_at (with_plan s t.plan) t.rows.items t'.rows.items t.readers t'.readers t.clock t'.clock t.live.items edits room (still_open t table is_open) st.step way node;
      current = subst (λ (v : Code). IsCurrent (opened_at (with_plan s t.plan)) t'.clock.entries.list node v answer.1) (sym a.shown) (subst (λ (m : ℕ). IsCurrent (opened_at (with_plan s t.plan)) t'.clock.entries.list node (unpacked a.row.code) m) (sym a.number) (on_parts.current node n a.row at a.at k));
      number = a.number ∙ shows_number (with_plan s t.plan) t'.clock.entries.list t'.clock.base node a.row n.kind k (on_parts.shown node n a.row at a.at);
    }

  pub get_ok : (answer : Code × ℕ) → IsSomeAnd (slice_get t.plan.nodes node) (λ n. n.kind ≢ kind.Effect) → IsAnswered t t' node answer → MakesCall t t' pass (get node (Ok answer))
  get_ok answer row a = makes t t' pass (get node (Ok answer)) (λ s edits room way.
      let n = some_and (slice_get t.plan.nodes node) _ row in
      (block s edits room way, at_clock t'.clock, (goes s edits room way, got s edits room way answer n.0 n.1 n.2 a), on s edits room way))

  pub get_full : (t2 : Table) (number : ℕ) → 0 < unclean_count t'.rows.items → IsFilled t' t2 number → MakesCall t t2 pass (get node (Err (stop.Full number)))
  get_full t2 number left filled = makes t t2 pass (get node (Err (stop.Full number))) (λ s edits room way.
      let both = goes_on (with_plan s t.plan) (at_clock t.clock) (block s edits room way) (at_clock t'.clock) [] (at_clock t2.clock) (goes s edits room way) (fills (with_plan s t.plan) t' t2 number edits room filled) refl in
      let one = subst (λ (b : List Noted). Goes (with_plan s t.plan) (at_clock t.clock) b (at_clock t2.clock)) (append_nil (block s edits room way)) both in
      let d = draws s edits room way in
      let f = drawn in (
        block s edits room way,
        at_clock t2.clock,
        (
          one,
          stops_full (with_plan s t.plan) (at_clock t.clock) (open_seen t edits room) (block s edits room way) (at_clock t2.clock) (derived_of (with_plan s t.plan)) node owner number way has
              (record { changes = changes.are_changes (with_plan s t.plan) t.rows.items t'.rows.items t.readers t'.readers t.clock t'.clock t.live.items edits room (still_open t table is_open) st.step way; draws = omega arith; above = filled.above; drawn = filled.within }),
        ),
        on_filled (with_plan s t.plan) t' t2 number edits room filled (on s edits room way),
      ))
    where
      drawn : t2.clock.drawn ≤ t'.clock.drawn + 1
      drawn = ⊎_elim (λ (e : t2.clock.drawn ≡ t'.clock.drawn). let l : t2.clock.drawn ≤ t'.clock.drawn + 1 = omega arith in l) (λ (e : t2.clock.drawn ≡ t'.clock.drawn + 1). let l : t2.clock.drawn ≤ t'.clock.drawn + 1 = omega arith in l) filled.drawn

-- ---- what calls on the rows ensure, of the table

pub row_within : (nodes nodes' : List PlanNode) (row : ℕ) (P : PlanNode → Type 0) → nodes' ≡ nodes → IsSomeAnd (slice_get nodes row) P → row < length nodes'
row_within nodes nodes' row P same h = let x = some_and (slice_get nodes row) P h in let w = at_within nodes row x.0 x.1 in let l = ap length same in omega arith

pub is_source : (nodes nodes' : List PlanNode) (row : ℕ) → nodes' ≡ nodes → IsSomeAnd (slice_get nodes row) (λ node. (node.kind ≡ kind.Signal) ⊎ (node.kind ≡ kind.Field)) → IsSource nodes' row
is_source nodes nodes' row same h =
    let x = some_and (slice_get nodes row) _ h in
    subst (λ (q : List PlanNode). IsSource q row) (sym same) record { node = x.0; at = x.1; given = ⊎_elim (λ (k : x.0.kind ≡ kind.Signal). ap is_derived k) (λ (k : x.0.kind ≡ kind.Field). ap is_derived k) x.2 }

pub answered_of : {E : Type 0} (old new : Table) (node : ℕ) (r : Result (Code × ℕ) E) (nodes : List PlanNode) (rows rows' : List Opened) → nodes ≡ old.plan.nodes → rows ≡ old.rows.items → rows' ≡ new.rows.items → node < length rows' → IfOk r (λ a. a.0 ≡ plan_value nodes (value_in rows) node) → IfOk r (λ a. (row : Opened) → slice_get rows' node ≡ Some row → (a.0 ≡ unpacked row.code) × (a.1 ≡ row.version - new.clock.base)) → IfOk r (IsAnswered old new node)
answered_of old new node (Ok a) nodes rows rows' n o w l value number =
    let row = within_at rows' node l in
    let m = number row.0 row.1 in
    record {
      row = row.0;
      at = ap (λ (q : List Opened). slice_get q node) (sym w) ∙ row.1;
      value = value ∙ (λ i. plan_value (n i) (value_in (o i)) node);
      shown = m.0;
      number = m.1;
    }
answered_of old new node (Err e) nodes rows rows' n o w l value number = tt

pub written_of : {E : Type 0} (old new : Table) (signal : ℕ) (code : Code) (r : Result ℕ E) (nodes : List PlanNode) (rows rows' : List Opened) → nodes ≡ old.plan.nodes → rows ≡ old.rows.items → rows' ≡ new.rows.items → new.plan ≡ old.plan → new.live ≡ old.live → new.full ≡ old.full → IsStill nodes rows' new.readers new.clock → IsWorkOf nodes new.work → OnOk r (IsTicked old.clock new.clock (fact.Write signal code)) → IfOk r (λ n. n ≡ new.clock.drawn) → unpacked (packed code) ≡ code → (was : Opened) → slice_get rows signal ≡ Some was → OnOk r ((row : Opened) → slice_get rows signal ≡ Some row → IsDarkened (slice_set rows signal (written_row row (packed code) (now_of new.clock))) rows') → OnOk r ((i : ℕ) → i ≢ signal → (Reached old.readers signal i → ⊥) → slice_get rows' i ≡ slice_get rows i) → IfOk r (IsWrittenIn old new signal code)
written_of old new signal code (Ok number) nodes rows rows' n o w plan live full still fits ticked drawn undone was at written others = record {
  plan = plan;
  live = live;
  full = full;
  still = subst (λ (q : List PlanNode). IsStill q new.rows.items new.readers new.clock) n (subst (λ (q : List Opened). IsStill nodes q new.readers new.clock) w still);
  fits = subst (λ (q : List PlanNode). IsWorkOf q new.work) n fits;
  ticked = ticked;
  drawn = drawn;
  undone = undone;
  was = was;
  at = ap (λ (q : List Opened). slice_get q signal) (sym o) ∙ at;
  written = subst (λ (q : List Opened). (row : Opened) → slice_get q signal ≡ Some row → IsDarkened (slice_set q signal (written_row row (packed code) (now_of new.clock))) new.rows.items) o
      (subst (λ (q : List Opened). (row : Opened) → slice_get rows signal ≡ Some row → IsDarkened (slice_set rows signal (written_row row (packed code) (now_of new.clock))) q) w written);
  others = (λ i apart none. ap (λ (q : List Opened). slice_get q i) (sym w) ∙ others i apart none ∙ ap (λ (q : List Opened). slice_get q i) o);
}
written_of old new signal code (Err e) nodes rows rows' n o w plan live full still fits ticked drawn undone was at written others = tt

pub owner_after : (t t' : Table) (row owner : ℕ) (b : Bool) → IsAsBefore t t' → HasOwner t.plan.nodes t.live.items row owner b → HasOwner t'.plan.nodes t'.live.items row owner b
owner_after t t' row owner b before has = record { node = has.node; at = ap (λ (q : Plan). slice_get q.nodes row) before.plan ∙ has.at; is_owner = has.is_owner; is_live = ap (λ v. slice_get v.items owner) before.live ∙ has.is_live }

pub full_kept : (f : Option ℕ) (drawn number : ℕ) → f ≡ Some number → IsFullAt f drawn → (65536 < number) × (number ≤ drawn)
full_kept f drawn number is h = subst (λ (q : Option ℕ). IsFullAt q drawn) is h

pub settled_of : {E : Type 0} (old new : Table) (r : Result (Unit {0}) E) (nodes : List PlanNode) (rows rows' : List Opened) → nodes ≡ old.plan.nodes → rows ≡ old.rows.items → rows' ≡ new.rows.items → IsStirred old new → OnOk r ((i : ℕ) (node : PlanNode) (row : Opened) → slice_get nodes i ≡ Some node → slice_get rows' i ≡ Some row → node.kind ≡ kind.Memo → (is_clean row.colour ≡ true) × (unpacked row.code ≡ plan_value nodes (value_in rows) i)) → OnOk r (IsSettled old new)
settled_of old new (Ok u) nodes rows rows' n o w stirred memos = record {
  stirred = stirred;
  memos = (λ i node row a b k.
      let m = memos i node row (ap (λ (q : List PlanNode). slice_get q i) n ∙ a) (ap (λ (q : List Opened). slice_get q i) w ∙ b) k in
      (m.0, m.1 ∙ (λ j. plan_value (n j) (value_in (o j)) i)));
}
settled_of old new (Err e) nodes rows rows' n o w stirred memos = tt

pub span_of : {E : Type 0} (old new : Table) (from to : ℕ) (r : Result (Unit {0}) E) (nodes : List PlanNode) (rows rows' : List Opened) → nodes ≡ old.plan.nodes → rows ≡ old.rows.items → rows' ≡ new.rows.items → IsStirred old new → ((i : ℕ) → i < from → slice_get rows' i ≡ slice_get rows i) → ((i : ℕ) → to ≤ i → slice_get rows' i ≡ slice_get rows i) → new.clock.drawn ≤ old.clock.drawn + (to - from) → OnOk r ((i : ℕ) (node : PlanNode) (row : Opened) → i < to → slice_get nodes i ≡ Some node → slice_get rows' i ≡ Some row → node.kind ≡ kind.Memo → (is_clean row.colour ≡ true) × (unpacked row.code ≡ plan_value nodes (value_in rows) i)) → OnOk r (IsSpanSettled old new from to)
span_of old new from to (Ok u) nodes rows rows' n o w stirred below past drawn memos = record {
  stirred = stirred;
  below = (λ i l. same i (below i l));
  past = (λ i l. same i (past i l));
  drawn = drawn;
  memos = (λ i node row l a b k.
      let m = memos i node row l (ap (λ (q : List PlanNode). slice_get q i) n ∙ a) (ap (λ (q : List Opened). slice_get q i) w ∙ b) k in
      (m.0, m.1 ∙ (λ j. plan_value (n j) (value_in (o j)) i)));
}
  where
    same : (i : ℕ) → slice_get rows' i ≡ slice_get rows i → slice_get new.rows.items i ≡ slice_get old.rows.items i
    same i e = ap (λ (q : List Opened). slice_get q i) (sym w) ∙ e ∙ ap (λ (q : List Opened). slice_get q i) o
span_of old new from to (Err e) nodes rows rows' n o w stirred below past drawn memos = tt

-- where there are numbers for all, all is done
pub all_done : {A E : Type 0} {P : Type 0} (old new : Table) (r : Result A E) → IsTable old → old.clock.drawn ≤ 61440 → IsStirred old new → OnErr r (65536 ≤ new.clock.drawn) → OnErr r (0 < unclean_count new.rows.items) → OnOk r P → P
all_done old new (Ok u) table few stirred full left settled = settled
all_done old new (Err e) table few stirred full left settled =
    let a = stirred.step.spent in
    let b = changes.unclean_most old.rows.items in
    let c = table.good.paired in
    let d = table.lawful.few_nodes in
    absurd (omega arith)

pub if_none : {A P : Type 0} (r : Option A) → r ≡ None → IfNone r P → P
if_none None e h = h
if_none (Some x) e h = cc
