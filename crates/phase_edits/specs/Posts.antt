-- The edits that the passes of a phase noted, and what is made of them.
use Rattle.std.specs.Prelude.{◌≡◌, ◌≤◌, ℕ, if◌then◌else◌, Option, Some, None, unwrap_or, List, [], ◌∷◌, ◌++◌, length, slice_get, filter_map}
use Rattle.std.specs.Option.{option_map, option_and_then}
use Rattle.values.specs.declared.plan.Fact.{Fact}
use Rattle.values.specs.declared.plan.Fact.TheVariants as fact
use Rattle.values.specs.declared.plan.Noted.{Noted}
use Rattle.store_fields.specs.declared.edit.Edit.{Edit}
use Rattle.store_fields.specs.declared.edit.Verdict.{Verdict}
use Rattle.store_fields.specs.declared.edit.Verdict.TheVariants.{Absent}
use Rattle.script_items.specs.Script.{numbered}
use Rattle.plain_evaluation.specs.Held.{Held}
use Rattle.run_meaning.specs.Lane.{Done, edits_in}
use Rattle.run_meaning.specs.Edits.{Ordered, ordered, change, held_changed}
use Rattle.run_history.specs.Going.{is_edit_by}

-- the edit at this place of the list of this pass; passes count from 1, places from 0
abbrev pub posted : List (List Edit) → ℕ → ℕ → Option Edit
posted posts pass index = option_and_then (λ edits. slice_get edits index) (numbered posts pass)

abbrev pub posted_by : List (List Edit) → Fact → ℕ → Option Ordered
posted_by posts (fact.Write row code) n = None
posted_by posts (fact.Change row code) n = None
posted_by posts (fact.Ran row code) n = None
posted_by posts (fact.Void row) n = None
posted_by posts (fact.Disposed owner) n = None
posted_by posts (fact.Edit pass index) n = option_map (ordered n) (posted posts pass index)

-- the edit that an entry notes
abbrev pub edit_made : List (List Edit) → Noted → Option Ordered
edit_made posts e = posted_by posts e.fact e.number

-- the edits of a phase, in order of number
abbrev pub posted_edits : List (List Edit) → List Noted → List Ordered
posted_edits posts es = filter_map (edit_made posts) es

-- the accepted edits of each lane are those of its pass, and no other pass has any
pub record ArePosted (lanes : List (List Done)) (posts : List (List Edit)) : Type 0 where
  pub passes : length lanes ≤ length posts
  pub each : (pass : ℕ) (edits : List Edit) → numbered posts pass ≡ Some edits → edits ≡ edits_in (unwrap_or (numbered lanes pass) [])

-- ---- what comes of the edits, as they are made one after another

abbrev pub verdict_made : Option Ordered → Held → Verdict
verdict_made None held = Absent
verdict_made (Some x) held = (change x.edit held).verdict

abbrev pub held_made : Option Ordered → Held → Held
held_made None held = held
held_made (Some x) held = held_changed x.edit held

-- what comes of the edits of this pass, in their order
abbrev pub verdicts_by : List (List Edit) → ℕ → List Noted → Held → List Verdict
verdicts_by posts pass [] held = []
verdicts_by posts pass (e ∷ es) held =
    (if is_edit_by pass e.fact then verdict_made (edit_made posts e) held ∷ [] else []) ++ verdicts_by posts pass es (held_made (edit_made posts e) held)
