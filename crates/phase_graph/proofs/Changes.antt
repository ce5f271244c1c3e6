-- A call on the rows that writes nothing: what it notes are changes of memos.
use Rattle.std.proofs.Common.{◌≡◌, ◌≢◌, ◌⊎◌, inl, inr, ⊎_elim, ℕ, ◌+◌, ◌-◌, ◌≤◌, ◌<◌, zero, suc, cond, Bool, true, false, Option, Some, None, List, [], ◌∷◌, ◌++◌, drop, slice_get, length, length-append, refl, sym, ap, subst, ◌∙◌, arith}
use Rattle.std.specs.Prelude.{if◌then◌else◌, count_by, unwrap_or}
use Rattle.std.specs.Option.{option_or}
use Rattle.std.proofs.lemmas.List.Sums.{sum_by-cons}
use Rattle.values.specs.declared.code.Code.{Code}
use Rattle.values.specs.declared.plan.Kind.{Kind}
use Rattle.values.specs.declared.plan.Kind.TheVariants as kind
use Rattle.values.specs.declared.plan.Fact.{Fact}
use Rattle.values.specs.declared.plan.Fact.TheVariants as fact
use Rattle.values.specs.declared.plan.Noted.{Noted}
use Rattle.values.specs.declared.plan.PlanNode.{PlanNode}
use Rattle.values.specs.Packing.{unpacked}
use Rattle.values.specs.PlanValues.{is_derived, plan_value}
use Rattle.store_fields.specs.declared.edit.Edit.{Edit}
use Rattle.sources.specs.declared.opening.Opened.{Opened}
use Rattle.sources.specs.Colours.{is_clean}
use Rattle.sources.specs.Rows.{value_in}
use Rattle.sources.proofs.RowLemmas.{clean_at}
use Rattle.still_readers.specs.declared.readers.Readers.{Readers}
use Rattle.still_readers.proofs.Lists.{at_within, within_at, one_at, either}
use Rattle.still_rows.specs.declared.clock.Clock.{Clock}
use Rattle.still_rows.specs.Clock.{entry_at}
use Rattle.still_rows.specs.Since.{IsNews, IsChanged}
use Rattle.still_rows.specs.Works.{IsStill, IsStepped, unclean_count}
use Rattle.still_rows.proofs.FramesLemmas.{reads_back}
use Rattle.run_meaning.specs.Words.{In}
use Rattle.run_meaning.specs.Opened.{IsKind, opening_code}
use Rattle.run_meaning.specs.Entries.{written_of, changed_of, ran_of, disposed_in, fact_at}
use Rattle.run_meaning.specs.Phase.{IsOfPlan}
use Rattle.run_meaning.specs.Told.{IsCurrent}
use Rattle.run_meaning.specs.Merge.{changed_to, DiffersFrom, AllDiffer}
use Rattle.run_history.specs.Going.{Start, opened_at, Numbered, all_are, new_value_of, latest_code, plain_code, shown_number, last_value, IsDead, edits_by, EntryFits, Goes, writes_nothing, derived_of}
use Rattle.run_history.specs.Calls.{is_change}
use Rattle.run_history.proofs.Lists.{in_append, in_right, append_nil, append_assoc'}
use Rattle.run_history.proofs.Cut.{is_yes, is_no, fact_of}
use Rattle.run_history.proofs.Journal.{numbered_grows}
use Rattle.run_history.proofs.Facts.{changes_no_owner, changes_no_edit}
use Rattle.run_history.proofs.Steps.{plain_same}
use Rattle.phase_graph.specs.Table.{state_of}
use Rattle.phase_graph.specs.Way.{ShowsAs, IsOnWay}
use Rattle.phase_graph.proofs.Blocks.{front_and_rest, in_rest, rest_in, rest_at, none_in, numbered_block, numbered_append, last_same, last_is, all_from_in, edits_more}
use Rattle.phase_graph.proofs.Tables.{drawn_few}
use Rattle.phase_graph.proofs.Starts.{at_clock, plain_is, current_more, dead_more, dead_same, shows_on}

-- ---- how many rows are not clean

none_more : (x a b c : ℕ) → x ≡ 0 → a ≤ b → c ≡ 0 + b → x + a ≤ c
none_more x a b c none l e = omega arith

-- no more rows are unclean than are derived
pub unclean_few : (nodes : List PlanNode) (rows : List Opened) → length rows ≡ length nodes → ((i : ℕ) (node : PlanNode) (row : Opened) → slice_get nodes i ≡ Some node → slice_get rows i ≡ Some row → is_derived node.kind ≡ false → is_clean row.colour ≡ true) → unclean_count rows ≤ count_by (λ n. is_derived n.kind) nodes
unfolding unclean_count
unclean_few [] [] e clean = omega arith
unclean_few [] (r ∷ rs) e clean = absurd (omega arith)
unclean_few (n ∷ ns) [] e clean = absurd (omega arith)
unclean_few (n ∷ ns) (r ∷ rs) e clean = by (is_derived n.kind) refl (unclean_few ns rs (omega arith) (λ i node row. clean (suc i) node row))
  where
    counted : count_by (λ m. is_derived m.kind) (n ∷ ns) ≡ cond (is_derived n.kind) 1 0 + count_by (λ m. is_derived m.kind) ns
    counted = sum_by-cons (λ (m : PlanNode). cond (is_derived m.kind) 1 0) n ns

    one_most : (b : Bool) → (if b then 0 else 1) ≤ 1
    one_most true = omega arith
    one_most false = omega arith

    by : (d : Bool) → is_derived n.kind ≡ d → unclean_count rs ≤ count_by (λ m. is_derived m.kind) ns → (if is_clean r.colour then 0 else 1) + unclean_count rs ≤ count_by (λ m. is_derived m.kind) (n ∷ ns)
    by true d rest = let small = one_most (is_clean r.colour) in let c : count_by (λ m. is_derived m.kind) (n ∷ ns) ≡ 1 + count_by (λ m. is_derived m.kind) ns = counted ∙ ap (λ (b : Bool). cond b 1 0 + count_by (λ m. is_derived m.kind) ns) d in omega arith
    by false d rest =
        let none : (if is_clean r.colour then 0 else 1) ≡ 0 = ap (λ (b : Bool). if b then 0 else 1) (clean zero n r refl refl d) in
        let c : count_by (λ m. is_derived m.kind) (n ∷ ns) ≡ 0 + count_by (λ m. is_derived m.kind) ns = counted ∙ ap (λ (b : Bool). cond b 1 0 + count_by (λ m. is_derived m.kind) ns) d in
        none_more (if is_clean r.colour then 0 else 1) (unclean_count rs) (count_by (λ m. is_derived m.kind) ns) (count_by (λ m. is_derived m.kind) (n ∷ ns)) none rest c

pub unclean_most : (rows : List Opened) → unclean_count rows ≤ length rows
unfolding unclean_count
unclean_most [] = omega arith
unclean_most (r ∷ rs) = by (is_clean r.colour) (unclean_most rs)
  where
    by : (b : Bool) → unclean_count rs ≤ length rs → (if b then 0 else 1) + unclean_count rs ≤ length (r ∷ rs)
    by true rest = omega arith
    by false rest = omega arith

-- ---- facts of changes

change_elsewhere : (n r : ℕ) (code : Code) → (n ≡ r → ⊥) → changed_of n (fact.Change r code) ≡ None
change_elsewhere n r code other = ap (λ (b : Bool). cond b (Some code) None) (is_no n r other)

change_here : (n : ℕ) (code : Code) → changed_of n (fact.Change n code) ≡ Some code
change_here n code = ap (λ (b : Bool). cond b (Some code) None) (is_yes n n refl)

number_elsewhere : (n r : ℕ) (code : Code) (k : ℕ) → (n ≡ r → ⊥) → new_value_of n (fact.Change r code) k ≡ None
number_elsewhere n r code k other = ap (λ (b : Bool). cond b (Some k) None) (is_no n r other)

number_here : (n : ℕ) (code : Code) (k : ℕ) → new_value_of n (fact.Change n code) k ≡ Some k
number_here n code k = ap (λ (b : Bool). cond b (Some k) None) (is_yes n n refl)

is_writing_nothing : (f : Fact) → is_change f ≡ true → writes_nothing f ≡ true
is_writing_nothing (fact.Write row code) e = cc
is_writing_nothing (fact.Change row code) e = refl
is_writing_nothing (fact.Ran row code) e = refl
is_writing_nothing (fact.Void row) e = refl
is_writing_nothing (fact.Disposed owner) e = refl
is_writing_nothing (fact.Edit pass index) e = refl

-- ---- changes that differ

-- a change of a memo, with another value than these entries give it, under a number of its own
pub record IsNewChange (s : Start) (es : List Noted) (Num : ℕ → ℕ → Type 0) (e : Noted) : Type 0 where
  pub row : ℕ
  pub code : Code
  pub is : e.fact ≡ fact.Change row code
  pub memo : IsKind (opened_at s) row kind.Memo
  pub other : changed_to (opened_at s) row es ≢ code
  pub number : Num row e.number

module _ (s : Start) (es : List Noted) (Num : ℕ → ℕ → Type 0) (one : (r j k : ℕ) → Num r j → Num r k → j ≡ k) where
  untouched : (done : List Noted) (low n : ℕ) → ((d : Noted) → In d done → IsNewChange s es Num d × (d.number ≤ low)) → ((k : ℕ) → Num n k → low < k) → (d : Noted) → In d done → changed_of n d.fact ≡ None
  untouched done low n each above d i =
      let c = each d i in let q = c.0 in let l = c.1 in
      ap (changed_of n) q.is ∙ change_elsewhere n q.row q.code (λ same. let h = above d.number (subst (λ (r : ℕ). Num r d.number) (sym same) q.number) in absurd (omega arith))

  pub all_differ : (done rest : List Noted) (low high : ℕ) → ((d : Noted) → In d done → IsNewChange s es Num d × (d.number ≤ low)) → ((e : Noted) → In e rest → IsNewChange s es Num e) → Numbered low rest high → AllDiffer (opened_at s) (es ++ done) rest
  all_differ done [] low high before after numbers = tt
  all_differ done (e ∷ rest) low high before after numbers =
      let q = after e (inl refl) in (
        subst (DiffersFrom (opened_at s) (es ++ done)) (sym q.is) (q.memo, (λ same. q.other (sym (stays q.row q.number) ∙ same))),
        subst (λ (t : List Noted). AllDiffer (opened_at s) t rest) (sym (append_assoc' es done (e ∷ []))) (all_differ (done ++ e ∷ []) rest e.number high next (λ d i. after d (inr i)) numbers.3),
      )
    where
      stays : (n : ℕ) → Num n e.number → changed_to (opened_at s) n (es ++ done) ≡ changed_to (opened_at s) n es
      stays n at = ap (λ (o : Option Code). unwrap_or o (opening_code (opened_at s) n)) (last_same (λ d. changed_of n d.fact) es done (λ d i. untouched done low n before (λ k num. let same = one n k e.number num at in let l = numbers.0 in omega arith) d i))

      next : (d : Noted) → In d (done ++ e ∷ []) → IsNewChange s es Num d × (d.number ≤ e.number)
      next d i = ⊎_elim
          (λ (a : In d done). let b = before d a in let l = b.1 in let m = numbers.0 in (b.0, (omega arith)))
          (λ a. ⊎_elim (λ (same : e ≡ d). (after d (inl same), (let k = ap (λ (z : Noted). z.number) same in omega arith))) (λ z. absurd z) a)
          (in_append done (e ∷ []) d i)

-- ---- the call

module _ (s : Start) (rows rows' : List Opened) (readers readers' : Readers) (c c' : Clock) (live : List Bool) (edits : List (List Edit)) (room : ℕ) (still : IsStill s.plan.nodes rows readers c) (step : IsStepped s.plan.nodes rows rows' readers readers' c c') (way : IsOnWay s (at_clock c) (state_of s.plan rows live c edits room)) where
  abbrev pub block : List Noted
  block = drop (length c.entries.list) c'.entries.list

  entries : c'.entries.list ≡ c.entries.list ++ block
  entries = front_and_rest c.entries.list c'.entries.list step.since.entries

  -- the row of a number that has any: it had one before, and a node
  old_at : (n : ℕ) (new : Opened) → slice_get rows' n ≡ Some new → (old : Opened) × (slice_get rows n ≡ Some old)
  old_at n new at = let w = at_within rows' n new at in let p = step.since.paired in within_at rows n (omega arith)

  node_at : (n : ℕ) (old : Opened) → slice_get rows n ≡ Some old → (node : PlanNode) × (slice_get s.plan.nodes n ≡ Some node)
  node_at n old at = let w = at_within rows n old at in let p = still.good.paired in within_at s.plan.nodes n (omega arith)

  -- only memos get another value
  given_stays : (n : ℕ) (old new : Opened) (node : PlanNode) → slice_get rows n ≡ Some old → slice_get rows' n ≡ Some new → slice_get s.plan.nodes n ≡ Some node → is_derived node.kind ≡ false → new ≡ old
  given_stays n old new node o w at d = (step.since.each n old new o w).clean ((still.good.each n node old at o).source d)

  effect_stays : (n : ℕ) (old new : Opened) (node : PlanNode) → slice_get rows n ≡ Some old → slice_get rows' n ≡ Some new → slice_get s.plan.nodes n ≡ Some node → node.kind ≡ kind.Effect → new ≡ old
  effect_stays n old new node o w at k = one_at new old w (step.effects n node at k ∙ o)

  is_memo : (n : ℕ) (old new : Opened) (node : PlanNode) → slice_get rows n ≡ Some old → slice_get rows' n ≡ Some new → slice_get s.plan.nodes n ≡ Some node → unpacked new.code ≢ unpacked old.code → node.kind ≡ kind.Memo
  is_memo n old new node o w at other = by node.kind refl
    where
      given : is_derived node.kind ≡ false → node.kind ≡ kind.Memo
      given d = absurd (other (ap (λ (z : Opened). unpacked z.code) (given_stays n old new node o w at d)))

      by : (k : Kind) → node.kind ≡ k → node.kind ≡ kind.Memo
      by kind.Signal e = given (ap is_derived e)
      by kind.Field e = given (ap is_derived e)
      by kind.Load e = given (ap is_derived e)
      by kind.Memo e = e
      by kind.Effect e = absurd (other (ap (λ (z : Opened). unpacked z.code) (effect_stays n old new node o w at e)))

  -- what is new in the list
  news_of : (e : Noted) → In e block → (k : ℕ) × (length c.entries.list ≤ k) × IsNews rows rows' c k e
  news_of e i = let r = in_rest (length c.entries.list) c'.entries.list e i in (r.0, r.1, step.since.news r.0 e r.1 r.2)

  changed : (n : ℕ) (old new : Opened) → slice_get rows n ≡ Some old → slice_get rows' n ≡ Some new → unpacked new.code ≢ unpacked old.code → IsChanged c c' n old new
  changed n old new o w other = elim (step.since.each n old new o w).value [ inl h ↦ absurd (other (ap unpacked h.0)) | inr h ↦ h ]

  phase' : c'.in_phase ≡ true
  phase' = step.since.in_phase ∙ way.is_open

  nothing_new : c'.drawn ≡ c.drawn → block ≡ []
  nothing_new same = none_in block (λ e i.
      let q = (news_of e i).2 in
      let h = changed q.row q.old q.new q.was q.is q.other in
      let a = h.from_on in let b = h.below in
      absurd (omega arith))

  counted : c'.drawn ≤ 65536 → Numbered c.drawn block c'.drawn
  counted few =
      let d = step.since.drawn in
      let a = still.ticks.noted way.is_open (omega arith) in
      let b = step.still.ticks.noted phase' few in
      let l = ap length entries ∙ length-append c.entries.list block in
      numbered_block c.drawn block c'.drawn (omega arith) few (λ j e at.
      let there : slice_get c'.entries.list (length c.entries.list + j) ≡ Some e = sym (rest_at (length c.entries.list) c'.entries.list j (length c.entries.list + j) refl) ∙ at in
      let q = step.since.news (length c.entries.list + j) e (omega arith) there in
      let n = ap (λ (z : Noted). z.number) q.entry in
      omega arith)

  pub numbers : Numbered c.drawn block c'.drawn
  numbers = ⊎_elim counted (λ same. subst (λ (t : List Noted). Numbered c.drawn t c'.drawn) (sym (nothing_new same)) (omega arith, λ l. absurd (omega arith))) (drawn_few rows rows' c c' step.since)

  all_numbers : Numbered 0 c'.entries.list c'.drawn
  all_numbers = subst (λ (t : List Noted). Numbered 0 t c'.drawn) (sym entries) (numbered_append 0 c.drawn c'.drawn c.entries.list block way.numbered_so numbers)

  pub are_changes : all_are is_change block ≡ true
  are_changes = all_from_in is_change block (λ e i. ap (λ (z : Noted). is_change z.fact) ((news_of e i).2).entry)

  are_silent : all_are writes_nothing block ≡ true
  are_silent = all_from_in writes_nothing block (λ e i. ap (λ (z : Noted). writes_nothing z.fact) ((news_of e i).2).entry)

  -- what an entry says of a row
  record IsOf (n : ℕ) (old new : Opened) (e : Noted) : Type 0 where
    is : e.fact ≡ fact.Change n (unpacked new.code)
    version : new.version ≡ c.base + e.number
    other : unpacked new.code ≢ unpacked old.code

  record IsElsewhere (n : ℕ) (e : Noted) : Type 0 where
    changes : changed_of n e.fact ≡ None
    numbers : new_value_of n e.fact e.number ≡ None

  of_row : (n : ℕ) (old new : Opened) → slice_get rows n ≡ Some old → slice_get rows' n ≡ Some new → (e : Noted) → In e block → IsElsewhere n e ⊎ IsOf n old new e
  of_row n old new o w e i = either n q.row _ here there
    where
      k : ℕ
      k = (news_of e i).0

      q : IsNews rows rows' c k e
      q = (news_of e i).2

      here : n ≡ q.row → IsElsewhere n e ⊎ IsOf n old new e
      here same =
          let new_same : q.new ≡ new = one_at q.new new q.is (rw (← same) w) in
          let old_same : q.old ≡ old = one_at q.old old q.was (rw (← same) o) in
          let number = ap (λ (z : Noted). z.number) q.entry in
          let version = ap (λ (z : Opened). z.version) new_same in
          let v = q.version in
          inr record {
            is = ap (λ (z : Noted). z.fact) q.entry ∙ (λ j. fact.Change (sym same j) (unpacked (new_same j).code));
            version = omega arith;
            other = subst (λ (z : Opened). unpacked new.code ≢ unpacked z.code) old_same (subst (λ (z : Opened). unpacked z.code ≢ unpacked q.old.code) new_same q.other);
          }

      there : (n ≡ q.row → ⊥) → IsElsewhere n e ⊎ IsOf n old new e
      there other = inl record {
        changes = ap (λ (z : Noted). changed_of n z.fact) q.entry ∙ change_elsewhere n q.row (unpacked q.new.code) other;
        numbers = ap (λ (z : Noted). new_value_of n z.fact z.number) q.entry ∙ number_elsewhere n q.row (unpacked q.new.code) (k + 1) other;
      }

  no_writes : (n : ℕ) → (e : Noted) → In e block → written_of n e.fact ≡ None
  no_writes n e i = ap (λ (z : Noted). written_of n z.fact) ((news_of e i).2).entry

  no_runs : (n : ℕ) → (e : Noted) → In e block → ran_of n e.fact ≡ None
  no_runs n e i = ap (λ (z : Noted). ran_of n z.fact) ((news_of e i).2).entry

  same_latest : (n : ℕ) → latest_code s (c.entries.list ++ block) n ≡ latest_code s c.entries.list n
  same_latest n = ap (λ (o : Option Code). unwrap_or o (opening_code (opened_at s) n)) (last_same (λ e. written_of n e.fact) c.entries.list block (no_writes n))

  same_runs : (n : ℕ) → last_value s (c.entries.list ++ block) n ≡ last_value s c.entries.list n
  same_runs n = ap (λ (o : Option Code). option_or o (s.ran n)) (last_same (λ e. ran_of n e.fact) c.entries.list block (no_runs n))

  -- ---- what rows show

  module _ (n : ℕ) (old new : Opened) (node : PlanNode) (o : slice_get rows n ≡ Some old) (w : slice_get rows' n ≡ Some new) (at : slice_get s.plan.nodes n ≡ Some node) where
    same_base : c'.base ≡ c.base
    same_base = step.since.base

    -- a row with the value that it had
    module _ (code : new.code ≡ old.code) (version : new.version ≡ old.version) where
      elsewhere : (e : Noted) → In e block → IsElsewhere n e
      elsewhere e i = elim (of_row n old new o w e i) [ inl h ↦ h | inr h ↦ absurd (h.other (ap unpacked code)) ]

      same_changes : changed_to (opened_at s) n (c.entries.list ++ block) ≡ changed_to (opened_at s) n c.entries.list
      same_changes = ap (λ (x : Option Code). unwrap_or x (opening_code (opened_at s) n)) (last_same (λ e. changed_of n e.fact) c.entries.list block (λ e i. (elsewhere e i).changes))

      same_number : shown_number (c.entries.list ++ block) n ≡ shown_number c.entries.list n
      same_number = ap (λ (x : Option ℕ). unwrap_or x 0) (last_same (λ e. new_value_of n e.fact e.number) c.entries.list block (λ e i. (elsewhere e i).numbers))

      same_version : new.version - c'.base ≡ old.version - c.base
      same_version = (λ i. version i - same_base i)

      kept_as : ShowsAs node.kind s (c.entries.list ++ block) c'.base n new
      kept_as = shows_on s c.entries.list (c.entries.list ++ block) c.base c'.base n old new code same_version (same_latest n) same_changes same_number (same_runs n) node.kind (λ k. ap (λ (z : Opened). z.body.cause) (effect_stays n old new node o w at k)) (way.shown n node old at o)

    -- a row with another value
    module _ (h : IsChanged c c' n old new) where
      abbrev entry : Noted
      entry = entry_at h.place (fact.Change n (unpacked new.code))

      there : In entry block
      there = rest_in (length c.entries.list) c'.entries.list h.place entry (let a = still.ticks.short way.is_open in let b = h.from_on in omega arith) (h.noted way.is_open)

      new_changes : changed_to (opened_at s) n (c.entries.list ++ block) ≡ unpacked new.code
      new_changes = ap (λ (x : Option Code). unwrap_or x (opening_code (opened_at s) n)) (last_is (λ e. changed_of n e.fact) c.entries.list block entry (unpacked new.code) there (change_here n (unpacked new.code)) all)
        where
          all : (e : Noted) → In e block → (changed_of n e.fact ≡ None) ⊎ (changed_of n e.fact ≡ Some (unpacked new.code))
          all e i = elim (of_row n old new o w e i) [ inl q ↦ inl q.changes | inr q ↦ inr (ap (changed_of n) q.is ∙ change_here n (unpacked new.code)) ]

      new_number : shown_number (c.entries.list ++ block) n ≡ h.place + 1
      new_number = ap (λ (x : Option ℕ). unwrap_or x 0) (last_is (λ e. new_value_of n e.fact e.number) c.entries.list block entry (h.place + 1) there (number_here n (unpacked new.code) (h.place + 1)) all)
        where
          all : (e : Noted) → In e block → (new_value_of n e.fact e.number ≡ None) ⊎ (new_value_of n e.fact e.number ≡ Some (h.place + 1))
          all e i = elim (of_row n old new o w e i) [
            | inl q ↦ inl q.numbers
            | inr q ↦ (let a = q.version in let b = h.version in let same : e.number ≡ h.place + 1 = omega arith in inr (ap (λ (f : Fact). new_value_of n f e.number) q.is ∙ number_here n (unpacked new.code) e.number ∙ ap (λ (z : ℕ). Some z) same))
          ]

      new_version : new.version - c'.base ≡ h.place + 1
      new_version = let a = h.version in let b = same_base in omega arith

      new_as : (k : Kind) → k ≡ kind.Memo → ShowsAs k s (c.entries.list ++ block) c'.base n new
      new_as kind.Signal e = cc
      new_as kind.Field e = cc
      new_as kind.Load e = cc
      new_as kind.Memo e = record { value = sym new_changes; number = new_version ∙ sym new_number }
      new_as kind.Effect e = cc

      new_current : IsCurrent (opened_at s) (c.entries.list ++ block) n (unpacked new.code) (new.version - c'.base)
      new_current = inr (inr (subst (λ (k : ℕ). fact_at k (c.entries.list ++ block) ≡ Some (fact.Change n (unpacked new.code))) (sym new_version)
          (fact_of 0 (c.entries.list ++ block) entry (numbered_grows 0 (c.entries.list ++ block) c'.drawn (subst (λ (t : List Noted). Numbered 0 t c'.drawn) entries all_numbers)) (in_right c.entries.list block entry there))))

    shown_at : ShowsAs node.kind s (c.entries.list ++ block) c'.base n new
    shown_at = elim (step.since.each n old new o w).value [
      | inl h ↦ kept_as h.0 h.1
      | inr h ↦ new_as h node.kind (is_memo n old new node o w at h.other)
    ]

    current_at : node.kind ≢ kind.Effect → IsCurrent (opened_at s) (c.entries.list ++ block) n (unpacked new.code) (new.version - c'.base)
    current_at k = elim (step.since.each n old new o w).value [
      | inl h ↦ subst (λ (x : ℕ). IsCurrent (opened_at s) (c.entries.list ++ block) n (unpacked new.code) x) (sym (same_version h.0 h.1))
          (subst (λ (x : ℕ). IsCurrent (opened_at s) (c.entries.list ++ block) n (unpacked x) (old.version - c.base)) (sym h.0) (current_more s c.entries.list block n (unpacked old.code) (old.version - c.base) (way.current n node old at o k)))
      | inr h ↦ new_current h
    ]

  -- ---- values by plain evaluation

  pub plain_at : (n : ℕ) → plan_value s.plan.nodes (value_in rows) n ≡ plain_code s c'.entries.list n
  plain_at n = plain_is s c.entries.list c.base rows still.good.paired way.shown n ∙ sym (plain_same s c.entries.list block are_silent n) ∙ ap (λ (t : List Noted). plain_code s t n) (sym entries)

  clean_value : (n : ℕ) (new : Opened) → slice_get rows' n ≡ Some new → is_clean new.colour ≡ true → unpacked new.code ≡ plain_code s c'.entries.list n
  clean_value n new w clean = sym (clean_at s.plan.nodes rows' (reads_back s.plan.nodes still.lawful) step.still.good n new w clean) ∙ ap (λ (f : ℕ → Code). f n) step.values ∙ plain_at n

  -- ---- what was noted

  abbrev Num : ℕ → ℕ → Type 0
  Num n k = (new : Opened) × (slice_get rows' n ≡ Some new) × (new.version ≡ c.base + k)

  one_number : (n j k : ℕ) → Num n j → Num n k → j ≡ k
  one_number n j k a b = let same = one_at a.0 b.0 a.1 b.1 in let v = ap (λ (z : Opened). z.version) same in let x = a.2 in let y = b.2 in omega arith

  new_change : (e : Noted) → In e block → IsNewChange s c.entries.list Num e
  new_change e i =
      let r = news_of e i in let q = r.2 in
      let node = node_at q.row q.old q.was in
      let memo = is_memo q.row q.old q.new node.0 q.was q.is node.1 q.other in
      record {
        row = q.row;
        code = unpacked q.new.code;
        is = ap (λ (z : Noted). z.fact) q.entry;
        memo = (node.0, node.1, memo);
        other = (λ same. q.other (sym same ∙ sym (memo_value q.row q.old node.0 memo (way.shown q.row node.0 q.old node.1 q.was))));
        number = (q.new, q.is, (let v = q.version in let n = ap (λ (z : Noted). z.number) q.entry in omega arith));
      }
    where
      by_kind : (n : ℕ) (old : Opened) (k : Kind) → k ≡ kind.Memo → ShowsAs k s c.entries.list c.base n old → unpacked old.code ≡ changed_to (opened_at s) n c.entries.list
      by_kind n old kind.Signal m h = cc
      by_kind n old kind.Field m h = cc
      by_kind n old kind.Load m h = cc
      by_kind n old kind.Memo m h = h.value
      by_kind n old kind.Effect m h = cc

      memo_value : (n : ℕ) (old : Opened) (node : PlanNode) → node.kind ≡ kind.Memo → ShowsAs node.kind s c.entries.list c.base n old → unpacked old.code ≡ changed_to (opened_at s) n c.entries.list
      memo_value n old node m h = by_kind n old node.kind m h

  pub goes : Goes s (at_clock c) block (at_clock c')
  goes = record {
    entries = entries;
    numbered = numbers;
    of_plan = (λ e i. let q = new_change e i in subst (IsOfPlan (opened_at s)) (sym q.is) q.memo);
    differ = subst (λ (t : List Noted). AllDiffer (opened_at s) t block) (append_nil c.entries.list) (all_differ s c.entries.list Num one_number [] block c.drawn c'.drawn (λ d i. absurd i) new_change numbers);
    fit = (λ e i.
        let q = (news_of e i).2 in
        subst (EntryFits s c.entries.list c'.entries.list) (sym (ap (λ (z : Noted). z.fact) q.entry)) (clean_value q.row q.new q.is q.clean));
  }

  no_owner : disposed_in block ≡ []
  no_owner = changes_no_owner block are_changes

  pub on_way : IsOnWay s (at_clock c') (state_of s.plan rows' live c' edits room)
  on_way = record {
    plan = refl;
    is_open = phase';
    drawn = refl;
    entries = refl;
    numbered_so = all_numbers;
    shown = (λ n node new at w. let old = old_at n new w in subst (λ (t : List Noted). ShowsAs node.kind s t c'.base n new) (sym entries) (shown_at n old.0 new node old.1 w at));
    current = (λ n node new at w k. let old = old_at n new w in subst (λ (t : List Noted). IsCurrent (opened_at s) t n (unpacked new.code) (new.version - c'.base)) (sym entries) (current_at n old.0 new node old.1 w at k));
    dead = (λ owner l. subst (λ (t : List Noted). IsDead s t owner) (sym entries) (dead_more s c.entries.list block owner (way.dead owner l)));
    alive = (λ owner l d. way.alive owner l (dead_same s c.entries.list block owner no_owner (subst (λ (t : List Noted). IsDead s t owner) entries d)));
    noted_edits = (λ pass list at. way.noted_edits pass list at ∙ sym (ap (edits_by pass) entries ∙ edits_more pass c.entries.list block (changes_no_edit pass block are_changes)));
  }

  pub draws : c'.drawn + unclean_count rows' ≤ c.drawn + derived_of s
  draws = let a = step.spent in let b = unclean_few s.plan.nodes rows still.good.paired (λ i node row n r d. (still.good.each i node row n r).source d) in omega arith
