-- One effect is brought up to date, and what is noted on the way.
use Rattle.std.proofs.Common.{◌≡◌, ◌≢◌, inl, inr, ℕ, ◌+◌, ◌-◌, Bool, true, Some, None, List, [], ◌∷◌, ◌++◌, drop, slice_get, set, length, refl, sym, ap, subst, ◌∙◌, arith}
use Rattle.values.specs.declared.code.Code.{Code}
use Rattle.values.specs.declared.plan.Kind.{Kind}
use Rattle.values.specs.declared.plan.Kind.TheVariants as kind
use Rattle.values.specs.declared.plan.Fact.{Fact}
use Rattle.values.specs.declared.plan.Fact.TheVariants as fact
use Rattle.values.specs.declared.plan.Noted.{Noted}
use Rattle.values.specs.declared.plan.PlanNode.{PlanNode}
use Rattle.values.specs.Packing.{unpacked}
use Rattle.store_fields.specs.declared.edit.Edit.{Edit}
use Rattle.sources.specs.declared.opening.Opened.{Opened}
use Rattle.still_readers.specs.declared.readers.Readers.{Readers}
use Rattle.still_readers.proofs.Lists.{which, one_at, length_more}
use Rattle.still_rows.specs.declared.clock.Clock.{Clock}
use Rattle.still_rows.specs.Clock.{IsClock, IsTicked}
use Rattle.still_rows.specs.Works.{IsStill, IsStepped}
use Rattle.still_effects.specs.Effects.{IsEffect, IsSame, IsRan, IsCutOff}
use Rattle.run_meaning.specs.Told.{IsCurrent}
use Rattle.run_meaning.specs.Merge.{changed_to}
use Rattle.run_history.specs.Going.{Start, Going, opened_at, note, Numbered, all_are, latest_code, plain_code, shown_number, last_value, IsDead, edits_by, Goes}
use Rattle.run_history.specs.Calls.{is_change}
use Rattle.run_history.proofs.Lists.{append_assoc'}
use Rattle.run_history.proofs.Steps.{one_goes, plain_same}
use Rattle.phase_graph.specs.Table.{state_of, HasOwner}
use Rattle.phase_graph.specs.Way.{ShowsAs, IsOnWay}
use Rattle.phase_graph.proofs.Blocks.{numbered_append, edits_more}
use Rattle.phase_graph.proofs.Changes as changes
use Rattle.phase_graph.proofs.Filling as filling
use Rattle.phase_graph.proofs.Pumpings.{IsPumping, pumping_changes, pumping_void, pumping_on}
use Rattle.phase_graph.proofs.Quiet.{IsQuiet, quiet_shown, quiet_current}
use Rattle.phase_graph.proofs.Starts.{at_clock, plain_is, dead_more, dead_same, shows_on}
use Rattle.phase_graph.proofs.Stops.{lives}
use Rattle.phase_graph.proofs.Turns.{later_still}

void_quiet : (row : ℕ) → IsQuiet (fact.Void row)
void_quiet row = record { writes = (λ n. refl); changes = (λ n. refl); runs = (λ n. refl); numbers = (λ n k. refl) }

pub ticked_clock : (c c' : Clock) (f : Fact) → c.in_phase ≡ true → IsClock c → IsTicked c c' f → IsClock c'
ticked_clock c c' f open' clock tick =
    let more = ap length (tick.noted open') ∙ length_more c.entries.list (note (c.drawn + 1) f) in
    let drawn = tick.drawn in
    let few = tick.few in
    let base = tick.base in
    let room = tick.room in
    record {
      base = (let b = clock.base in omega arith);
      few = omega arith;
      noted = (λ p l. let n = clock.noted open' (omega arith) in omega arith);
      short = (λ p. let n = clock.short open' in omega arith);
      room = (λ p. let r = clock.room open' in omega arith);
    }

shows_effect : (s : Start) (es : List Noted) (base n : ℕ) (row : Opened) (k : Kind) → k ≡ kind.Effect → last_value s es n ≡ Some (unpacked row.code) → ShowsAs k s es base n row
shows_effect s es base n row kind.Signal e h = cc
shows_effect s es base n row kind.Field e h = cc
shows_effect s es base n row kind.Load e h = cc
shows_effect s es base n row kind.Memo e h = cc
shows_effect s es base n row kind.Effect e h = λ ran. h

pub effect_shows : (s : Start) (es : List Noted) (base n : ℕ) (row : Opened) (k : Kind) → k ≡ kind.Effect → ShowsAs k s es base n row → row.body.cause ≢ None → last_value s es n ≡ Some (unpacked row.code)
effect_shows s es base n row kind.Signal e h = cc
effect_shows s es base n row kind.Field e h = cc
effect_shows s es base n row kind.Load e h = cc
effect_shows s es base n row kind.Memo e h = cc
effect_shows s es base n row kind.Effect e h = h

module _ (s : Start) (live : List Bool) (edits : List (List Edit)) (room i : ℕ) (effect : IsEffect s.plan.nodes i) where
  abbrev pub On : Clock → List Opened → Type 0
  On c rows = IsOnWay s (at_clock c) (state_of s.plan rows live c edits room)

  is_kind : (n : ℕ) (node : PlanNode) → n ≡ i → slice_get s.plan.nodes n ≡ Some node → node.kind ≡ kind.Effect
  is_kind n node same at = ap (λ (z : PlanNode). z.kind) (one_at node effect.node at (ap (slice_get s.plan.nodes) same ∙ effect.at)) ∙ effect.is

  -- the effect's row is put
  put_on : (c : Clock) (rows rows' : List Opened) (old new : Opened) → slice_get rows i ≡ Some old → rows' ≡ set rows i new → last_value s c.entries.list i ≡ Some (unpacked new.code) → On c rows → On c rows'
  put_on c rows rows' old new was put value way = record {
    plan = way.plan;
    is_open = way.is_open;
    drawn = way.drawn;
    entries = way.entries;
    numbered_so = way.numbered_so;
    shown = (λ n node row at w. elim (which rows i old new n row was (ap (λ (q : List Opened). slice_get q n) (sym put) ∙ w)) [
      | inl h ↦ shows_effect s c.entries.list c.base n row node.kind (is_kind n node h.0 at) (ap (last_value s c.entries.list) h.0 ∙ value ∙ ap (λ (z : Opened). Some (unpacked z.code)) (sym h.1))
      | inr h ↦ way.shown n node row at h.1
    ]);
    current = (λ n node row at w k. elim (which rows i old new n row was (ap (λ (q : List Opened). slice_get q n) (sym put) ∙ w)) [
      | inl h ↦ absurd (k (is_kind n node h.0 at))
      | inr h ↦ way.current n node row at h.1 k
    ]);
    dead = way.dead;
    alive = way.alive;
    noted_edits = way.noted_edits;
  }

  -- a number is held for the run
  module _ (c c' : Clock) (rows : List Opened) (tick : IsTicked c c' (fact.Void i)) (way : On c rows) where
    abbrev entry : List Noted
    entry = note (c.drawn + 1) (fact.Void i) ∷ []

    entries : c'.entries.list ≡ c.entries.list ++ entry
    entries = tick.noted way.is_open

    pub held_goes : Goes s (at_clock c) (note (c.drawn + 1) (fact.Void i) ∷ []) (at_clock c')
    held_goes = subst (Goes s (at_clock c) entry) (λ j. record { drawn = sym tick.drawn j; entries = sym entries j })
        (one_goes s (at_clock c) (fact.Void i) (inl (let a = tick.drawn in let b = tick.few in omega arith)) (effect.node, effect.at, effect.is) tt tt)

    pub held_on : On c' rows
    held_on = record {
      plan = refl;
      is_open = tick.in_phase ∙ way.is_open;
      drawn = refl;
      entries = refl;
      numbered_so = subst (λ (q : List Noted). Numbered 0 q c'.drawn) (sym entries) (numbered_append 0 c.drawn c'.drawn c.entries.list entry way.numbered_so held_goes.numbered);
      shown = (λ n node row a w. subst (λ (q : List Noted). ShowsAs node.kind s q c'.base n row) (sym entries) (subst (λ (b : ℕ). ShowsAs node.kind s (c.entries.list ++ entry) b n row) (sym tick.base) (quiet_shown s rows c live edits room (fact.Void i) (void_quiet i) way n node row a w)));
      current = (λ n node row a w k. subst (λ (q : List Noted). IsCurrent (opened_at s) q n (unpacked row.code) (row.version - c'.base)) (sym entries) (subst (λ (b : ℕ). IsCurrent (opened_at s) (c.entries.list ++ entry) n (unpacked row.code) (row.version - b)) (sym tick.base) (quiet_current s rows c live edits room (fact.Void i) (void_quiet i) way n node row a w k)));
      dead = (λ n l. subst (λ (q : List Noted). IsDead s q n) (sym entries) (dead_more s c.entries.list entry n (way.dead n l)));
      alive = (λ n l d. way.alive n l (dead_same s c.entries.list entry n refl (subst (λ (q : List Noted). IsDead s q n) entries d)));
      noted_edits = (λ pass list l. way.noted_edits pass list l ∙ sym (ap (edits_by pass) entries ∙ edits_more pass c.entries.list entry refl));
    }

  -- the entry says that the effect ran, and its row is put
  ran_on : (c c' : Clock) (rows rows' : List Opened) (old new : Opened) (front later : List Noted) (k : ℕ) (code : Code) → c.entries.list ≡ front ++ note k (fact.Void i) ∷ later → c'.entries.list ≡ front ++ note k (fact.Ran i code) ∷ later → c'.base ≡ c.base → c'.in_phase ≡ c.in_phase → all_are is_change later ≡ true → Numbered 0 c'.entries.list c'.drawn → slice_get rows i ≡ Some old → rows' ≡ set rows i new → unpacked new.code ≡ code → On c rows → On c' rows'
  ran_on c c' rows rows' old new front later k code held ran base phase changed numbers was put value way = record {
    plan = refl;
    is_open = phase ∙ way.is_open;
    drawn = refl;
    entries = refl;
    numbered_so = numbers;
    shown = (λ n node row at w. elim (which rows i old new n row was (ap (λ (q : List Opened). slice_get q n) (sym put) ∙ w)) [
      | inl h ↦ shows_effect s c'.entries.list c'.base n row node.kind (is_kind n node h.0 at)
          (ap (λ (q : List Noted). last_value s q n) ran ∙ ap (last_value s (filling.ran s front later k i code)) h.0 ∙ filling.last_of s front later k i code changed ∙ ap Some (sym value) ∙ ap (λ (z : Opened). Some (unpacked z.code)) (sym h.1))
      | inr h ↦ shows_on s c.entries.list c'.entries.list c.base c'.base n row row refl (ap (λ (b : ℕ). row.version - b) base)
          (over (λ q. latest_code s q n) (filling.same_latest s front later k i code n))
          (over (λ q. changed_to (opened_at s) n q) (filling.same_changed s front later k i code n))
          (over (λ q. shown_number q n) (filling.same_number s front later k i code n))
          (over (λ q. last_value s q n) (filling.same_runs s front later k i code n h.0)) node.kind (λ e. refl) (way.shown n node row at h.1)
    ]);
    current = (λ n node row at w e. elim (which rows i old new n row was (ap (λ (q : List Opened). slice_get q n) (sym put) ∙ w)) [
      | inl h ↦ absurd (e (is_kind n node h.0 at))
      | inr h ↦ subst (λ (q : List Noted). IsCurrent (opened_at s) q n (unpacked row.code) (row.version - c'.base)) (sym ran)
          (filling.same_current s front later k i code n (unpacked row.code) (row.version - c'.base)
          (subst (λ (q : List Noted). IsCurrent (opened_at s) q n (unpacked row.code) (row.version - c'.base)) held
          (subst (λ (b : ℕ). IsCurrent (opened_at s) c.entries.list n (unpacked row.code) (row.version - b)) (sym base) (way.current n node row at h.1 e))))
    ]);
    dead = (λ n l. subst (λ (q : List Noted). IsDead s q n) (sym ran) (filling.dead_still s front later k i code n (subst (λ (q : List Noted). IsDead s q n) held (way.dead n l))));
    alive = (λ n l d. way.alive n l (subst (λ (q : List Noted). IsDead s q n) (sym held) (filling.same_dead s front later k i code n (subst (λ (q : List Noted). IsDead s q n) ran d))));
    noted_edits = (λ pass list l. way.noted_edits pass list l ∙ sym (over (edits_by pass) (filling.same_edits s front later k i code pass)));
  }
    where
      over : {X : Type 0} (f : List Noted → X) → f (front ++ note k (fact.Ran i code) ∷ later) ≡ f (front ++ note k (fact.Void i) ∷ later) → f c'.entries.list ≡ f c.entries.list
      over f same = ap f ran ∙ same ∙ ap f (sym held)

  -- ---- the call, from where the graph stands

  module _ (rows : List Opened) (readers : Readers) (c : Clock) (still : IsStill s.plan.nodes rows readers c) (way : On c rows) where
    -- what was noted on the way to these rows
    abbrev pub Noting : List Opened → Clock → ℕ → ℕ → Type 0
    Noting rows' c' ran void = (block : List Noted) × IsPumping s (at_clock c) block (at_clock c') ran void × On c' rows'

    pub steps : (rows' : List Opened) (readers' : Readers) (c' : Clock) → IsStepped s.plan.nodes rows rows' readers readers' c c' → Noting rows' c' 0 0
    steps rows' readers' c' step = (
      changes.block s rows rows' readers readers' c c' live edits room still step way,
      pumping_changes s (at_clock c) (changes.block s rows rows' readers readers' c c' live edits room still step way) (at_clock c') (changes.goes s rows rows' readers readers' c c' live edits room still step way)
          (changes.are_changes s rows rows' readers readers' c c' live edits room still step way),
      changes.on_way s rows rows' readers readers' c c' live edits room still step way,
    )

    pub same : (rows' : List Opened) (readers' : Readers) (c' : Clock) → IsSame s.plan.nodes rows rows' readers readers' c c' i → Noting rows' c' 0 0
    same rows' readers' c' h =
        let r = steps h.sourced readers' c' h.stepped in (
          r.0,
          r.1,
          put_on c' h.sourced rows' h.row _ h.was h.put (effect_shows s c'.entries.list c'.base i h.row effect.node.kind effect.is (r.2.shown i effect.node h.row effect.at h.was) h.kept.0) r.2,
        )

    -- what was noted up to the number that was drawn
    module _ (found : List Opened) (found_readers : Readers) (before drawn : Clock) (step : IsStepped s.plan.nodes rows found readers found_readers c before) (tick : IsTicked before drawn (fact.Void i)) where
      on_found : On before found
      on_found = (steps found found_readers before step).2

      on_drawn : On drawn found
      on_drawn = held_on before drawn found tick on_found

      drawn_still : IsStill s.plan.nodes found found_readers drawn
      drawn_still = later_still s.plan.nodes found found_readers before drawn step.still (ticked_clock before drawn (fact.Void i) on_found.is_open step.still.ticks tick) tick.base (let d = tick.drawn in omega arith)

      module _ (rows' : List Opened) (readers' : Readers) (after : Clock) (more : IsStepped s.plan.nodes found rows' found_readers readers' drawn after) where
        abbrev later : List Noted
        later = changes.block s found rows' found_readers readers' drawn after live edits room drawn_still more on_drawn

        later_goes : Goes s (at_clock drawn) later (at_clock after)
        later_goes = changes.goes s found rows' found_readers readers' drawn after live edits room drawn_still more on_drawn

        later_changes : all_are is_change later ≡ true
        later_changes = changes.are_changes s found rows' found_readers readers' drawn after live edits room drawn_still more on_drawn

        on_after : On after rows'
        on_after = changes.on_way s found rows' found_readers readers' drawn after live edits room drawn_still more on_drawn

        cut : Noting rows' after 0 1
        cut =
            let first = steps found found_readers before step in
            let held = pumping_void s (at_clock before) (at_clock drawn) (before.drawn + 1) i (held_goes before drawn found tick on_found) in
            let two = pumping_on s (at_clock c) first.0 (at_clock before) (note (before.drawn + 1) (fact.Void i) ∷ []) (at_clock drawn) 0 0 0 1 first.1 held in
            let rest = pumping_changes s (at_clock drawn) later (at_clock after) later_goes later_changes in
            ((first.0 ++ note (before.drawn + 1) (fact.Void i) ∷ []) ++ later, pumping_on s (at_clock c) (first.0 ++ note (before.drawn + 1) (fact.Void i) ∷ []) (at_clock drawn) later (at_clock after) 0 0 1 0 two rest, on_after)

    pub cut_off : (rows' : List Opened) (readers' : Readers) (c' : Clock) → IsCutOff s.plan.nodes rows rows' readers readers' c c' i → Noting rows' c' 0 1
    cut_off rows' readers' c' h = cut h.found_rows h.found_readers h.found_clock h.drawn h.found h.ticked rows' readers' c' h.stepped

    module _ (rows' : List Opened) (readers' : Readers) (c' : Clock) (code : Code) (owner : ℕ) (has : HasOwner s.plan.nodes live i owner true) (h : IsRan s.plan.nodes rows rows' readers readers' c c' i code) where
      abbrev front : List Noted
      front = h.found_clock.entries.list

      abbrev number : ℕ
      number = h.found_clock.drawn + 1

      found_way : On h.found_clock h.found_rows
      found_way = on_found h.found_rows h.found_readers h.found_clock h.drawn h.found h.ticked

      drawn_way : On h.drawn h.found_rows
      drawn_way = on_drawn h.found_rows h.found_readers h.found_clock h.drawn h.found h.ticked

      noted_way : On h.noted h.run.sourced
      noted_way = on_after h.found_rows h.found_readers h.found_clock h.drawn h.found h.ticked h.run.sourced h.run.enrolled h.noted h.run.stepped

      drawn_entries : h.drawn.entries.list ≡ front ++ note number (fact.Void i) ∷ []
      drawn_entries = h.ticked.noted found_way.is_open

      is_later : later h.found_rows h.found_readers h.found_clock h.drawn h.found h.ticked h.run.sourced h.run.enrolled h.noted h.run.stepped ≡ h.later
      is_later = (λ j. drop (length (drawn_entries j)) (h.held j)) ∙ filling.drop_front front (note number (fact.Void i)) h.later

      changed : all_are is_change h.later ≡ true
      changed = subst (λ (q : List Noted). all_are is_change q ≡ true) is_later (later_changes h.found_rows h.found_readers h.found_clock h.drawn h.found h.ticked h.run.sourced h.run.enrolled h.noted h.run.stepped)

      goes_held : Goes s (record { drawn = h.drawn.drawn; entries = front ++ note number (fact.Void i) ∷ [] }) h.later (record { drawn = h.noted.drawn; entries = front ++ note number (fact.Void i) ∷ h.later })
      goes_held = subst (λ (q : List Noted). Goes s (record { drawn = h.drawn.drawn; entries = front ++ note number (fact.Void i) ∷ [] }) q (record { drawn = h.noted.drawn; entries = front ++ note number (fact.Void i) ∷ h.later })) is_later
          (subst (λ (q : List Noted). Goes s (record { drawn = h.drawn.drawn; entries = q }) (later h.found_rows h.found_readers h.found_clock h.drawn h.found h.ticked h.run.sourced h.run.enrolled h.noted h.run.stepped) (record { drawn = h.noted.drawn; entries = front ++ note number (fact.Void i) ∷ h.later })) drawn_entries
          (subst (λ (q : List Noted). Goes s (at_clock h.drawn) (later h.found_rows h.found_readers h.found_clock h.drawn h.found h.ticked h.run.sourced h.run.enrolled h.noted h.run.stepped) (record { drawn = h.noted.drawn; entries = q })) h.held
          (later_goes h.found_rows h.found_readers h.found_clock h.drawn h.found h.ticked h.run.sourced h.run.enrolled h.noted h.run.stepped)))

      goes_ran : Goes s (record { drawn = h.drawn.drawn; entries = front ++ note number (fact.Ran i code) ∷ [] }) h.later (record { drawn = h.noted.drawn; entries = front ++ note number (fact.Ran i code) ∷ h.later })
      goes_ran = filling.swap_goes s h.drawn.drawn h.noted.drawn (front ++ note number (fact.Void i) ∷ []) (front ++ note number (fact.Ran i code) ∷ []) (front ++ note number (fact.Void i) ∷ h.later) (front ++ note number (fact.Ran i code) ∷ h.later) h.later goes_held changed
          (sym (append_assoc' front (note number (fact.Ran i code) ∷ []) h.later)) (filling.same_memos s front [] number i code) (filling.same_plain s front h.later number i code)

      -- the run gave the value by plain evaluation
      plain : code ≡ plain_code s (front ++ note number (fact.Ran i code) ∷ []) i
      plain = h.run.plan ∙ plain_is s front h.found_clock.base h.found_rows h.found.still.good.paired found_way.shown i ∙ sym (plain_same s front (note number (fact.Ran i code) ∷ []) refl i)

      goes_one : Goes s (at_clock h.found_clock) (note number (fact.Ran i code) ∷ []) (record { drawn = h.drawn.drawn; entries = front ++ note number (fact.Ran i code) ∷ [] })
      goes_one = subst (λ (d : ℕ). Goes s (at_clock h.found_clock) (note number (fact.Ran i code) ∷ []) (record { drawn = d; entries = front ++ note number (fact.Ran i code) ∷ [] })) (sym h.ticked.drawn)
          (one_goes s (at_clock h.found_clock) (fact.Ran i code) (inl (let a = h.ticked.drawn in let b = h.ticked.few in omega arith)) (effect.node, effect.at, effect.is) tt (plain, lives s (at_clock h.found_clock) (state_of s.plan h.found_rows live h.found_clock edits room) i owner found_way has))

      drawn_same : c'.drawn ≡ h.noted.drawn
      drawn_same = ap (λ (q : Clock). q.drawn) h.after_is

      pumping : IsPumping s (at_clock c) (((steps h.found_rows h.found_readers h.found_clock h.found).0 ++ note number (fact.Ran i code) ∷ []) ++ h.later) (at_clock c') 1 0
      pumping =
          let first = steps h.found_rows h.found_readers h.found_clock h.found in
          let one : IsPumping s (at_clock h.found_clock) (note number (fact.Ran i code) ∷ []) (record { drawn = h.drawn.drawn; entries = front ++ note number (fact.Ran i code) ∷ [] }) 1 0 = record { goes = goes_one; of_pump = refl; runs = refl; voids = omega arith } in
          let two = pumping_on s (at_clock c) first.0 (at_clock h.found_clock) (note number (fact.Ran i code) ∷ []) (record { drawn = h.drawn.drawn; entries = front ++ note number (fact.Ran i code) ∷ [] }) 0 1 0 0 first.1 one in
          let rest = pumping_changes s (record { drawn = h.drawn.drawn; entries = front ++ note number (fact.Ran i code) ∷ [] }) h.later (record { drawn = h.noted.drawn; entries = front ++ note number (fact.Ran i code) ∷ h.later }) goes_ran changed in
          subst (λ (q : Going). IsPumping s (at_clock c) ((first.0 ++ note number (fact.Ran i code) ∷ []) ++ h.later) q 1 0) (λ j. record { drawn = sym drawn_same j; entries = sym h.entries j })
          (pumping_on s (at_clock c) (first.0 ++ note number (fact.Ran i code) ∷ []) (record { drawn = h.drawn.drawn; entries = front ++ note number (fact.Ran i code) ∷ [] }) h.later (record { drawn = h.noted.drawn; entries = front ++ note number (fact.Ran i code) ∷ h.later }) 1 0 0 0 two rest)

      pub ran : Noting rows' c' 1 0
      ran = (
        ((steps h.found_rows h.found_readers h.found_clock h.found).0 ++ note number (fact.Ran i code) ∷ []) ++ h.later,
        pumping,
        ran_on h.noted c' h.run.sourced rows' h.run.old h.run.new front h.later number code h.held h.entries (ap (λ (q : Clock). q.base) h.after_is) (ap (λ (q : Clock). q.in_phase) h.after_is) changed
            (subst (λ (q : List Noted). Numbered 0 q c'.drawn) (sym pumping.goes.entries) (numbered_append 0 c.drawn c'.drawn c.entries.list (((steps h.found_rows h.found_readers h.found_clock h.found).0 ++ note number (fact.Ran i code) ∷ []) ++ h.later) way.numbered_so pumping.goes.numbered))
            h.run.was h.run.put h.run.row.value noted_way,
      )
