-- What a phase that ended adds to those before it.
use Rattle.std.proofs.Common.{◌≡◌, ◌≢◌, ℕ, List, [], ◌∷◌, ◌++◌, Option, Some, None, slice_get, refl, sym, ap, subst, ◌∙◌}
use Rattle.std.specs.Option.{option_and_then, option_or}
use Rattle.std.proofs.lemmas.List.{map-append}
use Rattle.values.specs.declared.code.Code.{Code}
use Rattle.values.specs.declared.plan.Kind.TheVariants as kind
use Rattle.values.specs.declared.plan.PlanNode.{PlanNode}
use Rattle.values.specs.declared.plan.Noted.{Noted}
use Rattle.values.specs.Packing.{unpacked}
use Rattle.sources.specs.declared.opening.Opened as rows
use Rattle.plain_evaluation.specs.Place.{Place}
use Rattle.plan_meaning.specs.Carried.{AreApart}
use Rattle.run_items.specs.Journal.{JournalPhase}
use Rattle.run_meaning.specs.Entries.{last_ran}
use Rattle.run_meaning.specs.Merge.{last_run_in, last_run}
use Rattle.run_meaning.specs.Phase.{Phase}
use Rattle.run_meaning.specs.Run.{journal_of}
use Rattle.run_history.specs.Going.{Going, start_of}
use Rattle.phase_graph.specs.Graph.{GraphState}
use Rattle.phase_graph.specs.Way.{IsOnWay, ShowsAs}

-- ---- the last of a list

abbrev final : {A : Type 0} → A → List A → A
final d [] = d
final d (x ∷ xs) = final x xs

final_is : {A : Type 0} (xs : List A) (x d : A) → final d (xs ++ x ∷ []) ≡ x
final_is [] x d = refl
final_is (y ∷ xs) x d = final_is xs x y

pub last_same : {A : Type 0} (xs ys : List A) (x y : A) → xs ++ x ∷ [] ≡ ys ++ y ∷ [] → x ≡ y
last_same xs ys x y e = sym (final_is xs x x) ∙ ap (final x) e ∙ final_is ys y x

abbrev pub noted_in : Phase → JournalPhase
noted_in p = record { base = p.base; entries = p.entries; counts = p.counts }

pub journal_more : (past : List Phase) (p : Phase) → journal_of (past ++ p ∷ []) ≡ journal_of past ++ noted_in p ∷ []
journal_more past p = map-append noted_in past (p ∷ [])

-- the last phase of the journal is the one that ended
pub last_entries : (past : List Phase) (p : Phase) (journal earlier : List JournalPhase) (phase : JournalPhase) → journal ≡ journal_of (past ++ p ∷ []) → journal ≡ earlier ++ phase ∷ [] → p.entries ≡ phase.entries
last_entries past p journal earlier phase of is = ap (λ (j : JournalPhase). j.entries) (last_same (journal_of past) earlier (noted_in p) phase (sym (journal_more past p) ∙ sym of ∙ is))

-- ---- runs of effects

or_none : {A : Type 0} (x : Option A) → option_or x None ≡ x
or_none None = refl
or_none (Some x) = refl

none_or : {A : Type 0} (x : Option A) → option_or None x ≡ x
none_or x = refl

or_assoc : {A : Type 0} (x y z : Option A) → option_or (option_or x y) z ≡ option_or x (option_or y z)
or_assoc None y z = refl
or_assoc (Some x) y z = refl

last_run_more : (past : List Phase) (p : Phase) (place : Place) → last_run (past ++ p ∷ []) place ≡ option_or (last_run_in p place) (last_run past place)
last_run_more [] p place = sym (or_none (last_run_in p place))
last_run_more (q ∷ past) p place = ap (λ (x : Option Code). option_or x (last_run_in q place)) (last_run_more past p place) ∙ or_assoc (last_run_in p place) (last_run past place) (last_run_in q place)

-- an effect that ran has the value of its last run, this phase among them
pub ran_on : (past : List Phase) (p : Phase) (g : Going) (before : GraphState) → AreApart p.opened.places → g.entries ≡ p.entries → IsOnWay (start_of past p.opened) g before
    → (n : ℕ) (node : PlanNode) (row : rows.Opened) (place : Place) → slice_get p.opened.plan.nodes n ≡ Some node → slice_get before.rows n ≡ Some row → slice_get p.opened.places n ≡ Some place
    → node.kind ≡ kind.Effect → row.body.cause ≢ None → last_run (past ++ p ∷ []) place ≡ Some (unpacked row.code)
ran_on past p g before apart entries way n node row place at_node at_row at_place effect ran =
    let shows = subst (λ k. ShowsAs k (start_of past p.opened) g.entries before.base n row) effect (way.shown n node row at_node at_row) in
    last_run_more past p place
    ∙ (λ i. option_or (here i) (earlier i))
    ∙ shows ran
  where
    here : last_run_in p place ≡ last_ran g.entries n
    here = ap (option_and_then (last_ran p.entries)) (apart n place at_place) ∙ ap (λ (es : List Noted). last_ran es n) (sym entries)

    earlier : last_run past place ≡ option_and_then (last_run past) (slice_get p.opened.places n)
    earlier = sym (ap (option_and_then (last_run past)) at_place)
