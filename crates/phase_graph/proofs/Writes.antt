-- A write leaves a phase on its way.
use Rattle.std.proofs.Common.{◌≡◌, ◌≢◌, ◌⊎◌, inl, inr, ⊎_elim, ℕ, ◌+◌, ◌-◌, cond, Bool, Option, Some, None, List, [], ◌∷◌, ◌++◌, slice_get, set, length, refl, sym, ap, subst, ◌∙◌, arith}
use Rattle.std.specs.Prelude.{unwrap_or}
use Rattle.std.specs.Option.{option_or}
use Rattle.values.specs.declared.code.Code.{Code}
use Rattle.values.specs.declared.plan.Kind.{Kind}
use Rattle.values.specs.declared.plan.Kind.TheVariants as kind
use Rattle.values.specs.declared.plan.Fact.TheVariants as fact
use Rattle.values.specs.declared.plan.Noted.{Noted}
use Rattle.values.specs.declared.plan.PlanNode.{PlanNode}
use Rattle.values.specs.Packing.{packed, unpacked}
use Rattle.store_fields.specs.declared.edit.Edit.{Edit}
use Rattle.sources.specs.declared.opening.Opened.{Opened}
use Rattle.still_readers.specs.Marking.{IsDarkened, IsDarker, written_row}
use Rattle.still_readers.proofs.Lists.{at_within, within_at, one_at, which}
use Rattle.still_readers.proofs.MarkingLemmas.{before}
use Rattle.still_rows.specs.declared.clock.Clock.{Clock}
use Rattle.still_rows.specs.Clock.{IsTicked, now_of}
use Rattle.run_meaning.specs.Opened.{opening_code}
use Rattle.run_meaning.specs.Entries.{written_of, changed_of, ran_of}
use Rattle.run_meaning.specs.Explained.{IsWritten}
use Rattle.run_meaning.specs.Told.{IsCurrent}
use Rattle.run_meaning.specs.Merge.{changed_to}
use Rattle.run_history.specs.Going.{Start, opened_at, note, Numbered, new_value_of, latest_code, shown_number, last_value, IsDead, edits_by, Goes}
use Rattle.run_history.proofs.Lists.{in_right}
use Rattle.run_history.proofs.Cut.{is_yes, is_no, fact_of}
use Rattle.run_history.proofs.Journal.{numbered_grows}
use Rattle.run_history.proofs.Steps.{one_goes}
use Rattle.phase_graph.specs.Table.{state_of}
use Rattle.phase_graph.specs.Way.{Shows, ShowsAs, IsOnWay}
use Rattle.phase_graph.proofs.Blocks.{numbered_append, last_same, last_is, edits_more}
use Rattle.phase_graph.proofs.Starts.{at_clock, current_more, dead_more, dead_same, shows_on}

abbrev IsGiven : PlanNode → Type 0
IsGiven node = (node.kind ≡ kind.Signal) ⊎ (node.kind ≡ kind.Field)

write_elsewhere : (n r : ℕ) (code : Code) → (n ≡ r → ⊥) → written_of n (fact.Write r code) ≡ None
write_elsewhere n r code other = ap (λ (b : Bool). cond b (Some code) None) (is_no n r other)

write_here : (n : ℕ) (code : Code) → written_of n (fact.Write n code) ≡ Some code
write_here n code = ap (λ (b : Bool). cond b (Some code) None) (is_yes n n refl)

number_elsewhere : (n r : ℕ) (code : Code) (k : ℕ) → (n ≡ r → ⊥) → new_value_of n (fact.Write r code) k ≡ None
number_elsewhere n r code k other = ap (λ (b : Bool). cond b (Some k) None) (is_no n r other)

number_here : (n : ℕ) (code : Code) (k : ℕ) → new_value_of n (fact.Write n code) k ≡ Some k
number_here n code k = ap (λ (b : Bool). cond b (Some k) None) (is_yes n n refl)

module _ (s : Start) (rows rows' : List Opened) (c c' : Clock) (live : List Bool) (edits : List (List Edit)) (room signal : ℕ) (code : Code) (node : PlanNode) (at : slice_get s.plan.nodes signal ≡ Some node) (given : IsGiven node) (paired : length rows ≡ length s.plan.nodes) (undone : unpacked (packed code) ≡ code) (tick : IsTicked c c' (fact.Write signal code)) (written : (row : Opened) → slice_get rows signal ≡ Some row → IsDarkened (set rows signal (written_row row (packed code) (now_of c'))) rows') (way : IsOnWay s (at_clock c) (state_of s.plan rows live c edits room)) where
  abbrev entry : Noted
  entry = note (c.drawn + 1) (fact.Write signal code)

  abbrev pub block : List Noted
  block = note (c.drawn + 1) (fact.Write signal code) ∷ []

  entries : c'.entries.list ≡ c.entries.list ++ block
  entries = tick.noted way.is_open

  of_plan : IsWritten (opened_at s) signal
  of_plan = ⊎_elim (λ (k : node.kind ≡ kind.Signal). inl (node, at, k)) (λ (k : node.kind ≡ kind.Field). inr (node, at, k)) given

  pub goes : Goes s (at_clock c) block (at_clock c')
  goes = subst (Goes s (at_clock c) block) (λ i. record { drawn = sym tick.drawn i; entries = sym entries i })
      (one_goes s (at_clock c) (fact.Write signal code) (inl (let a = tick.drawn in let b = tick.few in omega arith)) of_plan tt tt)

  numbers : Numbered 0 (c.entries.list ++ block) c'.drawn
  numbers = numbered_append 0 c.drawn c'.drawn c.entries.list block way.numbered_so goes.numbered

  first : (x : Opened) × (slice_get rows signal ≡ Some x)
  first = let w = at_within s.plan.nodes signal node at in within_at rows signal (omega arith)

  -- a row of another number
  module _ (n : ℕ) (other : n ≡ signal → ⊥) where
    same_latest : latest_code s (c.entries.list ++ block) n ≡ latest_code s c.entries.list n
    same_latest = ap (λ (o : Option Code). unwrap_or o (opening_code (opened_at s) n)) (last_same (λ e. written_of n e.fact) c.entries.list block (λ e i. ⊎_elim (λ (q : entry ≡ e). sym (ap (λ (z : Noted). written_of n z.fact) q) ∙ write_elsewhere n signal code other) (λ z. absurd z) i))

    same_number : shown_number (c.entries.list ++ block) n ≡ shown_number c.entries.list n
    same_number = ap (λ (o : Option ℕ). unwrap_or o 0) (last_same (λ e. new_value_of n e.fact e.number) c.entries.list block (λ e i. ⊎_elim (λ (q : entry ≡ e). sym (ap (λ (z : Noted). new_value_of n z.fact z.number) q) ∙ number_elsewhere n signal code (c.drawn + 1) other) (λ z. absurd z) i))

    same_changes : changed_to (opened_at s) n (c.entries.list ++ block) ≡ changed_to (opened_at s) n c.entries.list
    same_changes = ap (λ (o : Option Code). unwrap_or o (opening_code (opened_at s) n)) (last_same (λ e. changed_of n e.fact) c.entries.list block (λ e i. ⊎_elim (λ (q : entry ≡ e). sym (ap (λ (z : Noted). changed_of n z.fact) q)) (λ z. absurd z) i))

    same_runs : last_value s (c.entries.list ++ block) n ≡ last_value s c.entries.list n
    same_runs = ap (λ (o : Option Code). option_or o (s.ran n)) (last_same (λ e. ran_of n e.fact) c.entries.list block (λ e i. ⊎_elim (λ (q : entry ≡ e). sym (ap (λ (z : Noted). ran_of n z.fact) q)) (λ z. absurd z) i))

  new_latest : latest_code s (c.entries.list ++ block) signal ≡ code
  new_latest = ap (λ (o : Option Code). unwrap_or o (opening_code (opened_at s) signal)) (last_is (λ e. written_of signal e.fact) c.entries.list block entry code (inl refl) (write_here signal code) (λ e i. ⊎_elim (λ (q : entry ≡ e). inr (sym (ap (λ (z : Noted). written_of signal z.fact) q) ∙ write_here signal code)) (λ z. absurd z) i))

  new_number : shown_number (c.entries.list ++ block) signal ≡ c.drawn + 1
  new_number = ap (λ (o : Option ℕ). unwrap_or o 0) (last_is (λ e. new_value_of signal e.fact e.number) c.entries.list block entry (c.drawn + 1) (inl refl) (number_here signal code (c.drawn + 1)) (λ e i. ⊎_elim (λ (q : entry ≡ e). inr (sym (ap (λ (z : Noted). new_value_of signal z.fact z.number) q) ∙ number_here signal code (c.drawn + 1))) (λ z. absurd z) i))

  -- ---- what rows show

  module _ (n : ℕ) (new y : Opened) (there : PlanNode) (is : slice_get s.plan.nodes n ≡ Some there) (darker : IsDarker y new) where
    same_code : new.code ≡ y.code
    same_code = ap (λ (z : Opened). z.code) darker.same

    same_version : new.version ≡ y.version
    same_version = ap (λ (z : Opened). z.version) darker.same

    module _ (mine : n ≡ signal) (row : y ≡ written_row first.0 (packed code) (now_of c')) where
      value : unpacked new.code ≡ code
      value = ap unpacked (same_code ∙ ap (λ (z : Opened). z.code) row) ∙ undone

      version : new.version - c'.base ≡ c.drawn + 1
      version = let a = same_version in let b = ap (λ (z : Opened). z.version) row in let d = tick.drawn in omega arith

      written_shows : Shows (c.entries.list ++ block) c'.base n new (latest_code s (c.entries.list ++ block) n)
      written_shows = subst (λ (k : ℕ). Shows (c.entries.list ++ block) c'.base k new (latest_code s (c.entries.list ++ block) k)) (sym mine) record { value = value ∙ sym new_latest; number = version ∙ sym new_number }

      written_as : ShowsAs there.kind s (c.entries.list ++ block) c'.base n new
      written_as =
          let same : there ≡ node = one_at there node is (subst (λ (k : ℕ). slice_get s.plan.nodes k ≡ Some node) (sym mine) at) in
          ⊎_elim (λ (k : node.kind ≡ kind.Signal). subst (λ (q : Kind). ShowsAs q s (c.entries.list ++ block) c'.base n new) (sym (ap (λ (z : PlanNode). z.kind) same ∙ k)) written_shows)
          (λ (k : node.kind ≡ kind.Field). subst (λ (q : Kind). ShowsAs q s (c.entries.list ++ block) c'.base n new) (sym (ap (λ (z : PlanNode). z.kind) same ∙ k)) written_shows) given

      written_current : IsCurrent (opened_at s) (c.entries.list ++ block) n (unpacked new.code) (new.version - c'.base)
      written_current = subst (λ (k : ℕ). IsCurrent (opened_at s) (c.entries.list ++ block) k (unpacked new.code) (new.version - c'.base)) (sym mine)
          (subst (λ (v : Code). IsCurrent (opened_at s) (c.entries.list ++ block) signal v (new.version - c'.base)) (sym value)
          (subst (λ (k : ℕ). IsCurrent (opened_at s) (c.entries.list ++ block) signal code k) (sym version)
          (inr (inl (fact_of 0 (c.entries.list ++ block) entry (numbered_grows 0 (c.entries.list ++ block) c'.drawn numbers) (in_right c.entries.list block entry (inl refl)))))))

    module _ (other : n ≡ signal → ⊥) (was : slice_get rows n ≡ Some y) where
      kept_version : new.version - c'.base ≡ y.version - c.base
      kept_version = (λ i. same_version i - tick.base i)

      kept_as : ShowsAs there.kind s (c.entries.list ++ block) c'.base n new
      kept_as = shows_on s c.entries.list (c.entries.list ++ block) c.base c'.base n y new same_code kept_version (same_latest n other) (same_changes n other) (same_number n other) (same_runs n other) there.kind (λ k. ap (λ (z : Opened). z.body.cause) darker.same) (way.shown n there y is was)

      kept_current : there.kind ≢ kind.Effect → IsCurrent (opened_at s) (c.entries.list ++ block) n (unpacked new.code) (new.version - c'.base)
      kept_current k = subst (λ (x : ℕ). IsCurrent (opened_at s) (c.entries.list ++ block) n (unpacked new.code) x) (sym kept_version)
          (subst (λ (x : ℕ). IsCurrent (opened_at s) (c.entries.list ++ block) n (unpacked x) (y.version - c.base)) (sym same_code) (current_more s c.entries.list block n (unpacked y.code) (y.version - c.base) (way.current n there y is was k)))

  pub on_way : IsOnWay s (at_clock c') (state_of s.plan rows' live c' edits room)
  on_way = record {
    plan = refl;
    is_open = tick.in_phase ∙ way.is_open;
    drawn = refl;
    entries = refl;
    numbered_so = subst (λ (t : List Noted). Numbered 0 t c'.drawn) (sym entries) numbers;
    shown = (λ n there new is w.
        let y = before _ rows' (written first.0 first.1) n new w in
        subst (λ (t : List Noted). ShowsAs there.kind s t c'.base n new) (sym entries)
        (elim (which rows signal first.0 (written_row first.0 (packed code) (now_of c')) n y.0 first.1 y.1) [ inl p ↦ written_as n new y.0 there is y.2 p.0 p.1 | inr p ↦ kept_as n new y.0 there is y.2 p.0 p.1 ]));
    current = (λ n there new is w k.
        let y = before _ rows' (written first.0 first.1) n new w in
        subst (λ (t : List Noted). IsCurrent (opened_at s) t n (unpacked new.code) (new.version - c'.base)) (sym entries)
        (elim (which rows signal first.0 (written_row first.0 (packed code) (now_of c')) n y.0 first.1 y.1) [ inl p ↦ written_current n new y.0 there is y.2 p.0 p.1 | inr p ↦ kept_current n new y.0 there is y.2 p.0 p.1 k ]));
    dead = (λ owner l. subst (λ (t : List Noted). IsDead s t owner) (sym entries) (dead_more s c.entries.list block owner (way.dead owner l)));
    alive = (λ owner l d. way.alive owner l (dead_same s c.entries.list block owner refl (subst (λ (t : List Noted). IsDead s t owner) entries d)));
    noted_edits = (λ pass list l. way.noted_edits pass list l ∙ sym (ap (edits_by pass) entries ∙ edits_more pass c.entries.list block refl));
  }
