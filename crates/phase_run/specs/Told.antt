-- Answers that are told what came of edits.
use Rattle.std.specs.Prelude.{ℕ, suc, if◌then◌else◌, Bool, is_some, unwrap_or, List, [], ◌∷◌, slice_get, count_by}
use Rattle.store_fields.specs.declared.edit.Verdict.{Verdict}
use Rattle.store_fields.specs.declared.edit.Verdict.TheVariants.{Absent}
use Rattle.script_items.specs.Script.{numbered}
use Rattle.run_items.specs.declared.answer.Answer.{Answer}
use Rattle.run_meaning.specs.Lane.{edit_number}
use Rattle.run_weave.specs.Lanes.{told_reply}

-- the answer is that of an accepted edit
abbrev pub is_accepted : Answer → Bool
is_accepted answer = is_some (edit_number answer.reply)

-- the answer, where its edit came to this
abbrev pub answer_told : Verdict → Answer → Answer
answer_told verdict answer = record answer { reply = told_reply (λ n. verdict) answer.reply }

-- what came of the edits of the first pass
abbrev pub first_verdicts : List (List Verdict) → List Verdict
first_verdicts verdicts = unwrap_or (numbered verdicts 1) []

abbrev pub verdict_at : List Verdict → ℕ → Verdict
verdict_at verdicts n = unwrap_or (slice_get verdicts n) Absent

-- the answers, where the accepted edits among them came to these, from this place on
abbrev pub answers_told : List Verdict → ℕ → List Answer → List Answer
answers_told verdicts n [] = []
answers_told verdicts n (answer ∷ answers) =
    answer_told (verdict_at verdicts n) answer ∷ answers_told verdicts (if is_accepted answer then suc n else n) answers

-- how many accepted edits there are among these
abbrev pub accepted_among : List Answer → ℕ
accepted_among answers = count_by is_accepted answers
