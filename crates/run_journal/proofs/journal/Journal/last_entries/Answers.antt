use Rattle.std.proofs.Common.{◌≡◌, ◌-◌, List, length, Some, None, slice_get, sym, ap, ◌∙◌}
use Rattle.std.specs.Option.{option_copied}
use Rattle.run_items.specs.Journal.{JournalPhase}
use Rattle.run_journal.specs.Journal.{JournalState, phase_kept}
use Rattle.run_journal.specs.declared.journal.Kept.{Kept}
use Rattle.run_journal.proofs.Kept.{last_is}
use Rattle.run_journal.proofs.journal.Journal.last_entries.Goals as goal

pub returns-in-Some : goal.returns-in-Some
returns-in-Some c = λ earlier phase is.
    let one = last_is phase_kept c.self.inside.phases.items (option_copied c.last.result) earlier phase (ap (λ (j : JournalState). j.phases) c.self.view_is ∙ is) (c.last.ensures ∙ ap (λ (xs : List Kept). slice_get xs (length xs - 1)) c.as_slice.ensures.value) in
    let same : Some c.in-Some.kept.now ≡ Some one.0 = ap option_copied (sym c.in-Some.is) ∙ one.1 in
    let here : c.in-Some.kept.now ≡ one.0 = cc in
    let e : c.in-Some.kept.now.entries ≡ phase.entries = ap (λ (k : Kept). k.entries) here ∙ ap (λ (p : JournalPhase). p.entries) one.2 in
    cc

pub returns-in-None : goal.returns-in-None
returns-in-None c = λ earlier phase is.
    let one = last_is phase_kept c.self.inside.phases.items (option_copied c.last.result) earlier phase (ap (λ (j : JournalState). j.phases) c.self.view_is ∙ is) (c.last.ensures ∙ ap (λ (xs : List Kept). slice_get xs (length xs - 1)) c.as_slice.ensures.value) in
    let same : None ≡ Some one.0 = ap option_copied (sym c.in-None.is) ∙ one.1 in
    cc
