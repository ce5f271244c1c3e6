-- Rows that go over from one layout of a component to another.
use Rattle.std.proofs.Common.{◌≡◌, List, length, sym, ◌∙◌}
use Rattle.std.proofs.lemmas.List.{length-map}
use Rattle.values.specs.PlanValues.{ReadsBack}
use Rattle.values.proofs.PlanValuesLemmas.{lawful_back}
use Rattle.component_items.specs.declared.component.Component.{Component}
use Rattle.component_items.specs.Kept.{IsKept}
use Rattle.sources.specs.declared.opening.Opened.{Opened}
use Rattle.sources.specs.Rows.{IsGood, IsRoomy}
use Rattle.plain_evaluation.specs.Fits.{RowsFit}
use Rattle.plain_evaluation.specs.Keyed.{is_keyed}
use Rattle.plain_evaluation.specs.Written.{State, place_of, written_in}
use Rattle.plan_meaning.specs.Layout.{rows_of, places_of, node_of, plan_of}
use Rattle.plan_meaning.proofs.Carried.{carried}
use Rattle.plan_meaning.proofs.Owners.{lawful}
use Rattle.carried_rows.specs.Moved.{GoOver, ArePaired}
use Rattle.carried_rows.specs.Named.{AreNamed, AreFresh}
use Rattle.carried_rows.proofs.Whole.{stay_good, stay_named, stay_roomy}

as_many : (component : Component) (state : State) → length (plan_of component state).nodes ≡ length (places_of (written_in component state))
as_many component state = length-map (rows_of (written_in component state)) (node_of (is_keyed component) (places_of (written_in component state))) ∙ sym (length-map (rows_of (written_in component state)) place_of)

paired : (component : Component) (state : State) (rows : List Opened) → length rows ≡ length (plan_of component state).nodes → ArePaired (places_of (written_in component state)) (plan_of component state).nodes rows
paired component state rows long = record { planned = as_many component state; filled = long ∙ as_many component state }

backward : (component : Component) (state : State) → IsKept component → RowsFit component state → ReadsBack (plan_of component state).nodes
backward component state kept fits = lawful_back (plan_of component state) (lawful component state kept fits)

pub keep_good : (component : Component) (state later : State) (rows first after : List Opened) → IsKept component → RowsFit component state → RowsFit component later → length first ≡ length (plan_of component later).nodes → GoOver (places_of (written_in component state)) (places_of (written_in component later)) rows first after → AreFresh (plan_of component later).nodes first → AreNamed (plan_of component state).nodes rows → IsGood (plan_of component state).nodes rows → IsGood (plan_of component later).nodes after
keep_good component state later rows first after kept fits fits_later long over frees named good =
    stay_good (places_of (written_in component state)) (places_of (written_in component later)) (plan_of component state).nodes (plan_of component later).nodes rows first after
    (carried component state later kept fits fits_later) (paired component state rows good.paired) (paired component later first long) over (backward component later kept fits_later) frees named good

pub keep_named : (component : Component) (state later : State) (rows first after : List Opened) → IsKept component → RowsFit component state → RowsFit component later → length rows ≡ length (plan_of component state).nodes → GoOver (places_of (written_in component state)) (places_of (written_in component later)) rows first after → AreFresh (plan_of component later).nodes first → AreNamed (plan_of component state).nodes rows → AreNamed (plan_of component later).nodes after
keep_named component state later rows first after kept fits fits_later long over frees named =
    stay_named (places_of (written_in component state)) (places_of (written_in component later)) (plan_of component state).nodes (plan_of component later).nodes rows first after
    (carried component state later kept fits fits_later) (paired component state rows long) over (backward component later kept fits_later) frees named

pub keep_roomy : (component : Component) (state later : State) (rows first after : List Opened) → IsKept component → RowsFit component state → RowsFit component later → length rows ≡ length (plan_of component state).nodes → GoOver (places_of (written_in component state)) (places_of (written_in component later)) rows first after → IsRoomy (plan_of component later).nodes first → IsRoomy (plan_of component state).nodes rows → IsRoomy (plan_of component later).nodes after
keep_roomy component state later rows first after kept fits fits_later long over fresh roomy =
    stay_roomy (places_of (written_in component state)) (places_of (written_in component later)) (plan_of component state).nodes (plan_of component later).nodes rows first after
    (carried component state later kept fits fits_later) (paired component state rows long) over fresh roomy
