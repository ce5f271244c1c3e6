use Rattle.std.proofs.Common.{◌≡◌, ℕ, true, Option, None, List, [], ◌∷◌, ◌++◌, codes, refl, sym, ap, ◌∙◌, subst}
use Rattle.std.specs.Fmt.{digits}
use Rattle.component_items.specs.Ids.{item_owners}
use Rattle.values.specs.declared.code.Code.{Code}
use Rattle.values.specs.declared.plan.Plan.{Plan}
use Rattle.plain_evaluation.specs.Held.{Held, item_first, first_held}
use Rattle.plain_evaluation.specs.Keyed.{item_keyed}
use Rattle.plain_evaluation.specs.Killed.{item_ids_going, item_owners_going}
use Rattle.plain_evaluation.specs.Page.{item_bytes, page_of}
use Rattle.plain_evaluation.specs.Place.{outside}
use Rattle.plain_evaluation.specs.Rows.{side, side_dead}
use Rattle.plain_evaluation.specs.Scratch.{pending}
use Rattle.plain_evaluation.specs.Written.{write_item, written, state_of}
use Rattle.plain_evaluation.proofs.Computes.{computes}
use Rattle.plan_meaning.specs.Layout.{places_of, plan_of}
use Rattle.plan_meaning.specs.Owners.{item_owning}
use Rattle.plan_meaning.specs.Told.{owner_of_id}
use Rattle.plan_meaning.specs.Values.{row_values}
use Rattle.plan_meaning.proofs.Computes.{lays_out}
use Rattle.run_meaning.specs.Opened.{at_row, target_in, opened_of}
use Rattle.run_meaning.specs.Ending.{EndsWithPage}
use Rattle.run_meaning.specs.Phase.{Phase}
use Rattle.run_meaning.specs.Report.{report}
use Rattle.run_meaning.specs.Run.{IsPhase, Settled, Runs, none, more, held_arrived, after}
use Rattle.run_rows.specs.Rows.{area, area_opened}
use Rattle.run_rows.proofs.Area.{phase_in, disposed_twice}
use Rattle.run_rows.proofs.Laid.{side_owner, target_by}
use Rattle.run_rows.proofs.whole.run_of_one_phase.Goals as goal

abbrev no_keys : ℕ → Option Code
no_keys load = None

abbrev first : Held
first = held_arrived no_keys (first_held side)

first_places : places_of (written side first) ≡ outside 1 ∷ outside 2 ∷ []
unfolding item_first write_item item_owners item_keyed
first_places = simp (computes, lays_out)

first_plan : plan_of side (state_of first) ≡ area_opened.plan
unfolding item_first write_item item_owners item_keyed item_owning
first_plan = simp (computes, lays_out)

-- the signal has the first row
first_target : target_in side first (places_of (written side first)) 1 None ≡ at_row 0
unfolding item_first item_owners
first_target = target_by side first _ _ 1 None 1 side_owner first_places ∙ simp computes

abbrev phase : Phase
phase = phase_in (opened_of side first)

is_phase : IsPhase [] phase
is_phase = subst (λ (plan : Plan). IsPhase [] (phase_in (record (opened_of side first) { plan = plan }))) (sym first_plan)
    (disposed_twice first (places_of (written side first)) (row_values side (state_of first)) (target_in side first (places_of (written side first))) (owner_of_id side) first_target side_owner)

abbrev step : Settled
step = record { phase = phase; held = after side phase no_keys }

runs : Runs side first (step ∷ []) step.held
runs = more step no_keys none refl is_phase refl

last_is : step.held ≡ side_dead
unfolding item_first item_owners item_ids_going item_owners_going
last_is = simp computes

page_dead : page_of side side_dead ≡ codes "<b>end</b>"
unfolding write_item item_bytes item_owners item_keyed
page_dead = simp computes

none_pending : pending side side_dead ≡ []
unfolding write_item item_owners item_keyed
none_pending = simp computes

report_is : report side.texts (phase ∷ []) ≡ report side.texts (area ∷ [])
report_is = ap (λ (plan : Plan). report side.texts (phase_in (record (opened_of side first) { plan = plan }) ∷ [])) first_plan

abbrev text : List ℕ
text = codes "1.1.1 dispose now 1 before 0\n1.1.2 dispose now 0 before 1\n1.1.3 disposed 1\njournal 1.1 disposed 1\ncleanup \"bye\"\n<b>end</b>"

text_is : text ≡ report side.texts (phase ∷ []) ++ page_of side side_dead
unfolding digits
text_is = ap (λ (bytes : List ℕ). report side.texts (area ∷ []) ++ bytes) (sym page_dead) ∙ ap (λ (lines : List ℕ). lines ++ page_of side side_dead) (sym report_is)

ends : EndsWithPage side (phase ∷ []) step.held true text
ends = subst (λ (held : Held). EndsWithPage side (phase ∷ []) held true text) (sym last_is) (record { none_pending = none_pending; text_is = text_is })

pub returns : goal.returns
returns c = (record { keys = no_keys; steps = step ∷ []; last = step.held; runs = runs; script_is = refl; answers_are = refl; journal_is = refl }, ends)
