-- An entry that gives no row a value leaves what rows show.
use Rattle.std.proofs.Common.{◌≡◌, ◌≢◌, ⊎_elim, ℕ, ◌+◌, ◌-◌, Bool, Option, Some, None, List, [], ◌∷◌, ◌++◌, slice_get, refl, sym, ap, ◌∙◌}
use Rattle.std.specs.Prelude.{unwrap_or}
use Rattle.std.specs.Option.{option_or}
use Rattle.values.specs.declared.code.Code.{Code}
use Rattle.values.specs.declared.plan.Kind.TheVariants as kind
use Rattle.values.specs.declared.plan.Fact.{Fact}
use Rattle.values.specs.declared.plan.Noted.{Noted}
use Rattle.values.specs.declared.plan.PlanNode.{PlanNode}
use Rattle.values.specs.Packing.{unpacked}
use Rattle.store_fields.specs.declared.edit.Edit.{Edit}
use Rattle.sources.specs.declared.opening.Opened.{Opened}
use Rattle.still_rows.specs.declared.clock.Clock.{Clock}
use Rattle.run_meaning.specs.Opened.{opening_code}
use Rattle.run_meaning.specs.Entries.{written_of, changed_of, ran_of}
use Rattle.run_meaning.specs.Told.{IsCurrent}
use Rattle.run_meaning.specs.Merge.{changed_to}
use Rattle.run_history.specs.Going.{Start, opened_at, note, new_value_of, latest_code, shown_number, last_value}
use Rattle.phase_graph.specs.Table.{state_of}
use Rattle.phase_graph.specs.Way.{ShowsAs, IsOnWay}
use Rattle.phase_graph.proofs.Blocks.{last_same}
use Rattle.phase_graph.proofs.Starts.{at_clock, current_more, shows_on}

-- the fact is of no row's value
pub record IsQuiet (f : Fact) : Type 0 where
  pub writes : (n : ℕ) → written_of n f ≡ None
  pub changes : (n : ℕ) → changed_of n f ≡ None
  pub runs : (n : ℕ) → ran_of n f ≡ None
  pub numbers : (n k : ℕ) → new_value_of n f k ≡ None

module _ (s : Start) (rows : List Opened) (c : Clock) (live : List Bool) (edits : List (List Edit)) (room : ℕ) (f : Fact) (quiet : IsQuiet f) (way : IsOnWay s (at_clock c) (state_of s.plan rows live c edits room)) where
  abbrev entry : Noted
  entry = note (c.drawn + 1) f

  abbrev block : List Noted
  block = note (c.drawn + 1) f ∷ []

  same_latest : (n : ℕ) → latest_code s (c.entries.list ++ block) n ≡ latest_code s c.entries.list n
  same_latest n = ap (λ (o : Option Code). unwrap_or o (opening_code (opened_at s) n)) (last_same (λ e. written_of n e.fact) c.entries.list block (λ e i. ⊎_elim (λ (q : entry ≡ e). sym (ap (λ (z : Noted). written_of n z.fact) q) ∙ quiet.writes n) (λ z. absurd z) i))

  same_number : (n : ℕ) → shown_number (c.entries.list ++ block) n ≡ shown_number c.entries.list n
  same_number n = ap (λ (o : Option ℕ). unwrap_or o 0) (last_same (λ e. new_value_of n e.fact e.number) c.entries.list block (λ e i. ⊎_elim (λ (q : entry ≡ e). sym (ap (λ (z : Noted). new_value_of n z.fact z.number) q) ∙ quiet.numbers n (c.drawn + 1)) (λ z. absurd z) i))

  same_changes : (n : ℕ) → changed_to (opened_at s) n (c.entries.list ++ block) ≡ changed_to (opened_at s) n c.entries.list
  same_changes n = ap (λ (o : Option Code). unwrap_or o (opening_code (opened_at s) n)) (last_same (λ e. changed_of n e.fact) c.entries.list block (λ e i. ⊎_elim (λ (q : entry ≡ e). sym (ap (λ (z : Noted). changed_of n z.fact) q) ∙ quiet.changes n) (λ z. absurd z) i))

  same_runs : (n : ℕ) → last_value s (c.entries.list ++ block) n ≡ last_value s c.entries.list n
  same_runs n = ap (λ (o : Option Code). option_or o (s.ran n)) (last_same (λ e. ran_of n e.fact) c.entries.list block (λ e i. ⊎_elim (λ (q : entry ≡ e). sym (ap (λ (z : Noted). ran_of n z.fact) q) ∙ quiet.runs n) (λ z. absurd z) i))

  pub quiet_shown : (n : ℕ) (node : PlanNode) (row : Opened) → slice_get s.plan.nodes n ≡ Some node → slice_get rows n ≡ Some row → ShowsAs node.kind s (c.entries.list ++ block) c.base n row
  quiet_shown n node row at w = shows_on s c.entries.list (c.entries.list ++ block) c.base c.base n row row refl refl (same_latest n) (same_changes n) (same_number n) (same_runs n) node.kind (λ k. refl) (way.shown n node row at w)

  pub quiet_current : (n : ℕ) (node : PlanNode) (row : Opened) → slice_get s.plan.nodes n ≡ Some node → slice_get rows n ≡ Some row → node.kind ≢ kind.Effect → IsCurrent (opened_at s) (c.entries.list ++ block) n (unpacked row.code) (row.version - c.base)
  quiet_current n node row at w k = current_more s c.entries.list block n (unpacked row.code) (row.version - c.base) (way.current n node row at w k)
