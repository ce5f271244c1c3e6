-- The phase that has ended: what its rows show, and what it adds to the phases before it.
use Rattle.std.proofs.Common.{◌≡◌, ◌≢◌, ◌⊎◌, ℕ, suc, ◌==◌, ◌<◌, if◌then◌else◌, Bool, true, false, List, [], ◌∷◌, ◌++◌, length, Option, Some, None, inl, inr, slice_get, slice_index_or, refl, sym, ap, subst, ◌∙◌, arith}
use Rattle.std.specs.Prelude.{unwrap_or, filter_map}
use Rattle.std.specs.List.{last_or}
use Rattle.std.proofs.lemmas.Bool.{eqb-true}
use Rattle.std.proofs.lemmas.Option.{slice_get_within}
use Rattle.values.specs.declared.code.Code.{Code}
use Rattle.values.specs.declared.code.Code.TheVariants.{Empty}
use Rattle.values.specs.declared.plan.Fact.{Fact}
use Rattle.values.specs.declared.plan.Fact.TheVariants as fact
use Rattle.values.specs.declared.plan.Kind.TheVariants as kind
use Rattle.values.specs.declared.plan.Noted.{Noted}
use Rattle.values.specs.declared.plan.Plan.{Plan}
use Rattle.values.specs.declared.plan.PlanNode.{PlanNode}
use Rattle.values.specs.Packing.{unpacked}
use Rattle.sources.specs.declared.opening.Opened as rows
use Rattle.sources.specs.Rows.{value_in}
use Rattle.plain_evaluation.specs.Fits.{RowsFit}
use Rattle.plain_evaluation.specs.Held.{is_live}
use Rattle.plain_evaluation.specs.Keyed.{is_keyed}
use Rattle.plain_evaluation.specs.Place.{Place}
use Rattle.plain_evaluation.specs.Scratch.{scratch_in}
use Rattle.plain_evaluation.specs.Written.{loaded, kind_said, Written, place_of, state_of, written}
use Rattle.plain_evaluation.proofs.Differ.{places_are_apart}
use Rattle.plain_evaluation.proofs.Fitting.{rows_of_held}
use Rattle.plan_meaning.specs.Carried.{AreApart}
use Rattle.plan_meaning.proofs.Owners.{lawful}
use Rattle.plan_meaning.specs.Layout.{rows_of, places_of, node_of}
use Rattle.plan_meaning.proofs.Rows.{are_apart, at_map}
use Rattle.run_items.specs.Journal.{JournalPhase}
use Rattle.run_meaning.specs.Edits.{held_written}
use Rattle.run_meaning.proofs.Dead.{in_dead, dead_in}
use Rattle.run_meaning.specs.Entries.{written_of, last_write, disposed_in}
use Rattle.run_meaning.specs.Opened.{Opened, opening_code}
use Rattle.run_meaning.specs.Merge.{last_run}
use Rattle.run_meaning.specs.Phase.{Phase, IsOfPlan}
use Rattle.run_meaning.specs.Words.{In}
use Rattle.run_history.specs.Going.{opened_at}
use Rattle.load_polls.specs.Shown.{load_code}
use Rattle.phase_graph.specs.Graph.{GraphState}
use Rattle.phase_graph.specs.Way.{ShowsAs}
use Rattle.next_layout.proofs.Rows.{fellow, row_value}
use Rattle.held_rows.specs.Shown.{held_shown}
use Rattle.still_graph.specs.Still.{StillState, opened_in, HasEnded}
use Rattle.still_graph.specs.Stands.{start_with, IsLast, IsStill}
use Rattle.still_graph.specs.declared.still.Stage.TheVariants.{Ended}
use Rattle.still_graph.specs.Settling.{all_keep_rows}
use Rattle.settled_rows.proofs.LoadRows.{plain_load}
use Rattle.still_graph.proofs.Notes.{none_disposed}
use Rattle.still_graph.proofs.Past.{last_entries, ran_on}
use Rattle.still_graph.proofs.Stays.{stands}
use Rattle.held_rows.proofs.Shows.{shows_written}

pub fits_of : (x : StillState) (room : ℕ) → IsStill x room → RowsFit x.component (state_of x.state.held)
fits_of x room still = rows_of_held x.component x.state.held still.fits.fits

pub places_apart : (x : StillState) (room : ℕ) → IsStill x room → AreApart x.places
places_apart x room still = subst AreApart (sym still.places) (are_apart (written x.component x.state.held) (places_are_apart x.component (state_of x.state.held) still.kept (fits_of x room still)))

-- ---- a row that is no signal and no field is not written

no_fact : (o : Opened) (n : ℕ) (node : PlanNode) → slice_get o.plan.nodes n ≡ Some node → node.kind ≡ kind.Load → (f : Fact) → IsOfPlan o f → written_of n f ≡ None
no_fact o n node at_node load (fact.Write row code) is = at (n == row) refl
  where
    other : (m : PlanNode) → n ≡ row → slice_get o.plan.nodes row ≡ Some m → node.kind ≡ m.kind
    other m same at_m = let e : Some node ≡ Some m = sym at_node ∙ ap (λ (k : ℕ). slice_get o.plan.nodes k) same ∙ at_m in let f : node ≡ m = cc in ap (λ (p : PlanNode). p.kind) f

    at : (b : Bool) → (n == row) ≡ b → (if b then Some code else None) ≡ None
    at false is_other = refl
    at true same = elim is [
      | inl signal ↦ (let e : kind.Load ≡ kind.Signal = sym load ∙ other signal.0 (eqb-true n row same) signal.1 ∙ signal.2 in cc)
      | inr field ↦ (let e : kind.Load ≡ kind.Field = sym load ∙ other field.0 (eqb-true n row same) field.1 ∙ field.2 in cc)
    ]
no_fact o n node at_node load (fact.Change row code) is = refl
no_fact o n node at_node load (fact.Ran row code) is = refl
no_fact o n node at_node load (fact.Void row) is = refl
no_fact o n node at_node load (fact.Disposed owner) is = refl
no_fact o n node at_node load (fact.Edit pass index) is = refl

none_written : (o : Opened) (n : ℕ) (node : PlanNode) → slice_get o.plan.nodes n ≡ Some node → node.kind ≡ kind.Load → (es : List Noted) → ((e : Noted) → In e es → IsOfPlan o e.fact) → filter_map (λ (e : Noted). written_of n e.fact) es ≡ []
none_written o n node at_node load [] of_plan = refl
none_written o n node at_node load (e ∷ es) of_plan = simp (no_fact o n node at_node load e.fact (of_plan e (inl refl)), none_written o n node at_node load es (λ f later. of_plan f (inr later)))

no_write : (o : Opened) (n : ℕ) (node : PlanNode) → slice_get o.plan.nodes n ≡ Some node → node.kind ≡ kind.Load → (es : List Noted) → ((e : Noted) → In e es → IsOfPlan o e.fact) → last_write es n ≡ None
no_write o n node at_node load es of_plan = ap (last_or None) (none_written o n node at_node load es of_plan)

same_flags : (xs ys : List Bool) → length xs ≡ length ys → ((n : ℕ) (b : Bool) → slice_get xs n ≡ Some b → slice_index_or ys n false ≡ b) → xs ≡ ys
same_flags [] [] long each = refl
same_flags [] (y ∷ ys) long each = absurd (omega arith)
same_flags (x ∷ xs) [] long each = absurd (omega arith)
same_flags (x ∷ xs) (y ∷ ys) long each = λ i. sym (each 0 x refl) i ∷ same_flags xs ys (omega arith) (λ n b at. each (suc n) b at) i

module _ (x : StillState) (room : ℕ) (still : IsStill x room) (is : x.stage ≡ Ended) where
  abbrev o : Opened
  o = opened_in x

  last : IsLast o x.graph x.journal
  last = stands x room Ended still is

  pub es : List Noted
  es = last.runs.going.entries

  -- the entries are those of the journal's last phase
  pub last_of : (earlier : List JournalPhase) × (phase : JournalPhase) × (x.journal ≡ earlier ++ phase ∷ []) × (phase.entries ≡ es)
  unfolding es
  last_of = (last.earlier, last.phase, last.journal_is, last.entries)

  abbrev Keep : Type 0
  Keep = (earlier : List JournalPhase) (phase : JournalPhase) → x.journal ≡ earlier ++ phase ∷ [] → all_keep_rows phase.entries ≡ true

  pub keep_es : Keep → all_keep_rows es ≡ true
  unfolding es
  keep_es keep = ap all_keep_rows (sym last.entries) ∙ keep last.earlier last.phase last.journal_is

  -- where none was disposed, the owners are live that were
  pub live_still : Keep → length x.graph.live ≡ length x.state.held.live → x.graph.live ≡ x.state.held.live
  live_still keep long = same_flags x.graph.live x.state.held.live long (λ n b at. each n b (ap (λ (g : GraphState). slice_get g.live n) (sym last.graph_is) ∙ at) (slice_get_within x.graph.live n b at))
    where
      none : disposed_in last.runs.going.entries ≡ []
      none = none_disposed last.runs.going.entries (ap all_keep_rows (sym last.entries) ∙ keep last.earlier last.phase last.journal_is)

      each : (n : ℕ) (b : Bool) → slice_get last.before.live n ≡ Some b → n < length x.graph.live → is_live x.state.held n ≡ b
      each n false at lt = elim (last.runs.way.dead n at) [
        | inl was ↦ (in_dead x.state.held n was).1
        | inr now ↦ (let i : In n [] = subst (In n) none now in absurd i)
      ]
      each n true at lt = lives (is_live x.state.held n) refl
        where
          lives : (l : Bool) → is_live x.state.held n ≡ l → l ≡ true
          lives true is = refl
          lives false is = absurd (last.runs.way.alive n at (inl (dead_in x.state.held n (omega arith) is)))

  pub closed : x.graph.is_open ≡ false
  closed = ap (λ (g : GraphState). g.is_open) last.graph_is

  module _ (paired : length x.graph.rows ≡ length x.graph.plan.nodes) where
    -- what the phase shows of a row that may be written
    shown : (n : ℕ) (node : PlanNode) → slice_get o.plan.nodes n ≡ Some node → (node.kind ≡ kind.Signal) ⊎ (node.kind ≡ kind.Field) → value_in x.graph.rows n ≡ unwrap_or (last_write es n) (opening_code o n)
    unfolding es
    shown n node at_node which =
        let one = fellow x.graph.rows x.graph.plan.nodes paired n node (ap (λ (q : Plan). slice_get q.nodes n) still.plan ∙ at_node) in
        let before : slice_get last.before.rows n ≡ Some one.0 = ap (λ (g : GraphState). slice_get g.rows n) (sym last.graph_is) ∙ one.1 in
        let shows = last.runs.way.shown n node one.0 at_node before in
        row_value x.graph.rows n one.0 one.1 ∙ elim which [
          | inl signal ↦ (subst (λ k. ShowsAs k (start_with last.runs.ran o) es last.before.base n one.0) signal shows).value
          | inr field ↦ (subst (λ k. ShowsAs k (start_with last.runs.ran o) es last.before.base n one.0) field shows).value
        ]

    -- no load is written, so its row shows what it opened with
    pub loads_shown : (n : ℕ) (w : Written) (pairs : List (Code × Code)) (key : Option Code) → slice_get (rows_of (written x.component x.state.held)) n ≡ Some w → w.says ≡ loaded pairs key → value_in x.graph.rows n ≡ load_code pairs key
    loads_shown n w pairs key at says =
        let component = x.component in
        let ws = written x.component x.state.held in
        let node : PlanNode = node_of (is_keyed x.component) (places_of (written x.component x.state.held)) w in
        let at_node : slice_get o.plan.nodes n ≡ Some node = at_map (node_of (is_keyed x.component) (places_of (written x.component x.state.held))) (rows_of (written x.component x.state.held)) n w at in
        let load : node.kind ≡ kind.Load = ap kind_said says in
        let one = fellow x.graph.rows x.graph.plan.nodes paired n node (ap (λ (q : Plan). slice_get q.nodes n) still.plan ∙ at_node) in
        let before : slice_get last.before.rows n ≡ Some one.0 = ap (λ (g : GraphState). slice_get g.rows n) (sym last.graph_is) ∙ one.1 in
        let shows = subst (λ k. ShowsAs k (start_with last.runs.ran o) last.runs.going.entries last.before.base n one.0) load (last.runs.way.shown n node one.0 at_node before) in
        let value : slice_get o.values n ≡ Some (scratch_in x.component (state_of x.state.held) (place_of w)) = at_map (scratch_in x.component (state_of x.state.held)) (places_of (written x.component x.state.held)) n (place_of w) (at_map place_of (rows_of (written x.component x.state.held)) n w at) in
        row_value x.graph.rows n one.0 one.1
        ∙ shows.value
        ∙ ap (λ (written : Option Code). unwrap_or written (opening_code o n)) (no_write (opened_at (start_with last.runs.ran o)) n node at_node load last.runs.going.entries last.runs.of_plan)
        ∙ ap (λ (got : Option Code). unwrap_or got Empty) value
        ∙ plain_load x.component x.state.held still.kept (fits_of x room still) still.fits.owners.areas still.keys n w pairs key at says

    written_so : held_shown x.places (value_in x.graph.rows) x.state.held ≡ held_written o es
    written_so = ap (λ (ps : List Place). held_shown ps (value_in x.graph.rows) x.state.held) still.places ∙ shows_written x.component x.state still.kept still.fits (value_in x.graph.rows) es shown

    module _ (past : List Phase) (p : Phase) (end : HasEnded past p x) where
      pub entries_are : p.entries ≡ es
      unfolding es
      entries_are = last_entries past p x.journal last.earlier last.phase end.journal last.journal_is ∙ last.entries

      pub written_is : held_shown x.places (value_in x.graph.rows) x.state.held ≡ held_written p.opened p.entries
      written_is = written_so ∙ (λ i. held_written (sym end.opened i) (sym entries_are i))

      same_places : x.places ≡ p.opened.places
      same_places = still.places ∙ ap (λ (q : Opened). q.places) (sym end.opened)

      same_nodes : x.graph.plan.nodes ≡ p.opened.plan.nodes
      same_nodes = ap (λ (q : Plan). q.nodes) (still.plan ∙ ap (λ (q : Opened). q.plan) (sym end.opened))

      -- an effect that ran has the value of its last run, this phase among them
      pub ran_before : (n : ℕ) (node : PlanNode) (row : rows.Opened) (place : Place) → slice_get x.graph.plan.nodes n ≡ Some node → slice_get x.graph.rows n ≡ Some row → slice_get x.places n ≡ Some place
          → node.kind ≡ kind.Effect → row.body.cause ≢ None → last_run (past ++ p ∷ []) place ≡ Some (unpacked row.code)
      ran_before n node row place at_node at_row at_place effect did =
          ran_on past p (record { drawn = p.drawn; entries = p.entries }) end.before (subst AreApart same_places (places_apart x room still)) refl end.way n node row place
          (ap (λ (ns : List PlanNode). slice_get ns n) (sym same_nodes) ∙ at_node)
          (ap (λ (g : GraphState). slice_get g.rows n) (sym end.graph_is) ∙ at_row)
          (ap (λ (ps : List Place). slice_get ps n) (sym same_places) ∙ at_place) effect did
