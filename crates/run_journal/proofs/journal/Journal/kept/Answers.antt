use Rattle.std.proofs.Common.{List, slice_get, ap, ◌∙◌}
use Rattle.std.specs.Option.{option_copied}
use Rattle.script_items.specs.Script.{numbered}
use Rattle.run_journal.specs.Journal.{JournalState, phase_kept}
use Rattle.run_journal.specs.declared.journal.Kept.{Kept}
use Rattle.run_journal.proofs.Kept.{kept_is}
use Rattle.run_journal.proofs.journal.Journal.kept.Goals as goal

pub returns : goal.returns
returns c =
    kept_is phase_kept c.self.inside.phases.items c.in_ok-place.place c.args.phase (option_copied c.at.result) c.in_ok-place.ensures.0 c.in_ok-place.ensures.1 (c.at.ensures ∙ ap (λ (kept : List Kept). slice_get kept c.in_ok-place.place) c.as_slice.ensures.value)
    ∙ ap (λ (j : JournalState). numbered j.phases c.args.phase) c.self.view_is
