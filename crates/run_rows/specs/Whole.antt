-- A whole run: its script, its journal and its answers.
use Rattle.std.specs.Prelude.{ℕ, List, [], ◌∷◌}
use Rattle.values.specs.declared.plan.Fact.TheVariants as fact
use Rattle.script_items.specs.declared.operation.ScriptOp.{ScriptOp}
use Rattle.script_items.specs.declared.operation.ScriptOp.TheVariants as op
use Rattle.run_items.specs.declared.answer.Answer.{Answer}
use Rattle.run_items.specs.declared.answer.Reply.{Reply}
use Rattle.run_items.specs.declared.answer.Reply.TheVariants as reply
use Rattle.run_items.specs.Journal.{JournalPhase}
use Rattle.run_rows.specs.Parts.{number, set, note, no_counts}

-- component 1|area side {|signal x = 1|cleanup "bye"|<i>{x}</i>|}|<b>"end"</b>|---|phase lane dispose side dispose side set side.x = 2
abbrev pub side_script : List (List (List ScriptOp))
side_script = ((op.Dispose 1 ∷ op.Dispose 1 ∷ set 1 (number 2) ∷ []) ∷ []) ∷ []

abbrev pub side_journal : List JournalPhase
side_journal = record { base = 0; entries = note 1 (fact.Disposed 1) ∷ []; counts = no_counts ∷ [] } ∷ []

abbrev pub answered : ℕ → Reply → Answer
answered n r = record { phase = 1; lane = 1; op = n; reply = r }

abbrev pub side_answers : List Answer
side_answers =
    answered 1 (reply.Disposal (record { now = 1; before = 0 }))
    ∷ answered 2 (reply.Disposal (record { now = 0; before = 1 }))
    ∷ answered 3 (reply.Disposed 1) ∷ []
