-- One edit, if there is one, and what is told of it; one disposal, if there is one.
use Rattle.std.specs.Prelude.{ℕ, zero, suc, Option, Some, None, List, [], ◌∷◌, ◌++◌, slice_set, slice_index_or}
use Rattle.values.specs.declared.plan.Fact.{Fact}
use Rattle.values.specs.declared.plan.Fact.TheVariants as fact
use Rattle.values.specs.declared.plan.Noted.{Noted}
use Rattle.store_fields.specs.declared.edit.Edit.{Edit}
use Rattle.store_fields.specs.declared.edit.Verdict.{Verdict}
use Rattle.store_fields.specs.declared.edit.Verdict.TheVariants.{Absent}
use Rattle.component_items.specs.declared.component.Component.{Component}
use Rattle.plain_evaluation.specs.Held.{Held}
use Rattle.plain_evaluation.specs.Killed.{killed}
use Rattle.run_meaning.specs.Edits.{change, held_changed}
use Rattle.phase_edits.specs.Posts.{edit_made, verdict_made, held_made}

-- what the edit leaves, and what comes of it; none is absent
abbrev pub held_with : Option Edit → Held → Held
held_with None held = held
held_with (Some e) held = held_changed e held

abbrev pub verdict_with : Option Edit → Held → Verdict
verdict_with None held = Absent
verdict_with (Some e) held = (change e held).verdict

-- one more behind what the pass was told; passes count from 1
abbrev pub with_told : List (List Verdict) → ℕ → Verdict → List (List Verdict)
with_told verdicts zero verdict = verdicts
with_told verdicts (suc place) verdict = slice_set verdicts place (slice_index_or verdicts place [] ++ verdict ∷ [])

-- where the fact is an edit, its pass is told
abbrev pub told_of : List (List Verdict) → Fact → Verdict → List (List Verdict)
told_of verdicts (fact.Write row code) verdict = verdicts
told_of verdicts (fact.Change row code) verdict = verdicts
told_of verdicts (fact.Ran row code) verdict = verdicts
told_of verdicts (fact.Void row) verdict = verdicts
told_of verdicts (fact.Disposed owner) verdict = verdicts
told_of verdicts (fact.Edit pass index) verdict = with_told verdicts pass verdict

-- what all passes are told of these entries, one after another
abbrev pub all_told : List (List Edit) → List Noted → Held → List (List Verdict) → List (List Verdict)
all_told posts [] held verdicts = verdicts
all_told posts (e ∷ es) held verdicts =
    all_told posts es (held_made (edit_made posts e) held) (told_of verdicts e.fact (verdict_made (edit_made posts e) held))

-- the state after the disposal, if there is one
abbrev pub held_left : Component → Option ℕ → Held → Held
held_left component None held = held
held_left component (Some owner) held = killed component owner held
