-- What each edit of a phase is told when the phase is settled.
use Rattle.std.specs.Prelude.{◌≡◌, ℕ, if◌then◌else◌, IsSome, Some, None, unwrap_or, List, [], map, filter_map}
use Rattle.values.specs.declared.plan.Noted.{Noted}
use Rattle.store_fields.specs.declared.edit.Verdict.{Verdict}
use Rattle.script_items.specs.Script.{numbered}
use Rattle.run_meaning.specs.Phase.{Phase}
use Rattle.run_history.specs.Going.{is_edit_by}
use Rattle.run_weave.specs.Lanes.{verdict_of}

-- the numbers under which the pass noted its edits, in order
abbrev pub edit_numbers : ℕ → List Noted → List ℕ
edit_numbers pass es = filter_map (λ e. if is_edit_by pass e.fact then Some e.number else None) es

-- for each pass that had a lane what came of its edits, in their order
pub record AreTold (p : Phase) (verdicts : List (List Verdict)) : Type 0 where
  pub each : (pass : ℕ) → IsSome (numbered p.lanes pass) → unwrap_or (numbered verdicts pass) [] ≡ map (verdict_of p) (edit_numbers pass p.entries)
