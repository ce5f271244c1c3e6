-- The report of a run: its answers and its journal, as lines of text.
use Rattle.std.specs.Prelude.{ℕ, suc, ◌==◌, if◌then◌else◌, codes, slice_get, List, [], ◌∷◌, ◌++◌}
use Rattle.std.specs.List.{flat_map}
use Rattle.std.specs.Fmt.{decimal, signed_decimal}
use Rattle.std.specs.Option.{option_map_or}
use Rattle.values.specs.declared.code.Code.{Code}
use Rattle.values.specs.declared.code.Code.TheVariants.{Empty, Number, Word}
use Rattle.values.specs.declared.plan.PlanOwner.{PlanOwner}
use Rattle.values.specs.declared.plan.Noted.{Noted}
use Rattle.values.specs.declared.plan.Fact.{Fact}
use Rattle.values.specs.declared.plan.Fact.TheVariants as fact
use Rattle.store_fields.specs.declared.edit.Verdict.{Verdict}
use Rattle.store_fields.specs.declared.edit.Verdict.TheVariants as verdict
use Rattle.html_out.specs.Shown.{text_at}
use Rattle.run_items.specs.declared.answer.Reply.{Reply}
use Rattle.run_items.specs.declared.answer.Reply.TheVariants as reply
use Rattle.run_meaning.specs.Lane.{Done}
use Rattle.run_meaning.specs.Entries.{owner_in}
use Rattle.run_meaning.specs.Phase.{Phase}

-- a byte between quotation marks
abbrev pub quoted_byte : ℕ → List ℕ
quoted_byte b = if b == 34 then codes "\\\"" else (if b == 92 then codes "\\\\" else (if b == 10 then codes "\\n" else (if b == 9 then codes "\\t" else b ∷ [])))

abbrev pub code_text : List (List ℕ) → Code → List ℕ
code_text texts Empty = codes "empty"
code_text texts (Number n) = signed_decimal n
code_text texts (Word index) = codes "\"" ++ flat_map quoted_byte (text_at texts index) ++ codes "\""

abbrev pub verdict_text : Verdict → List ℕ
verdict_text verdict.Done = codes "done"
verdict_text verdict.Present = codes "present"
verdict_text verdict.Absent = codes "absent"
verdict_text verdict.AtMax = codes "max"

-- ---- answers

abbrev pub reply_text : List (List ℕ) → Reply → List ℕ
reply_text texts (reply.Set n) = codes "set " ++ decimal n
reply_text texts (reply.Got v n) = codes "get " ++ code_text texts v ++ codes " at " ++ decimal n
reply_text texts (reply.Pumped x) = codes "pump ran " ++ decimal x.ran ++ codes " same " ++ decimal x.same ++ codes " gone " ++ decimal x.gone ++ codes " left " ++ decimal x.left
reply_text texts (reply.Disposal x) = codes "dispose now " ++ decimal x.now ++ codes " before " ++ decimal x.before
reply_text texts (reply.Edited n v) = codes "edit " ++ decimal n ++ codes " " ++ verdict_text v
reply_text texts reply.NoRow = codes "norow"
reply_text texts (reply.Busy n) = codes "busy " ++ decimal n
reply_text texts (reply.Again n) = codes "again " ++ decimal n
reply_text texts (reply.Disposed n) = codes "disposed " ++ decimal n
reply_text texts (reply.Full n) = codes "full " ++ decimal n

abbrev pub answer_line : List (List ℕ) → ℕ → ℕ → ℕ → Reply → List ℕ
answer_line texts phase lane n r = decimal phase ++ codes "." ++ decimal lane ++ codes "." ++ decimal n ++ codes " " ++ reply_text texts r ++ codes "\n"

abbrev pub lane_lines : List (List ℕ) → ℕ → ℕ → ℕ → List Done → List ℕ
lane_lines texts phase lane n [] = []
lane_lines texts phase lane n (d ∷ ds) = answer_line texts phase lane n d.reply ++ lane_lines texts phase lane (suc n) ds

abbrev pub answer_lines : List (List ℕ) → ℕ → ℕ → List (List Done) → List ℕ
answer_lines texts phase lane [] = []
answer_lines texts phase lane (l ∷ ls) = lane_lines texts phase lane 1 l ++ answer_lines texts phase (suc lane) ls

-- ---- the journal

abbrev pub fact_text : List (List ℕ) → Fact → List ℕ
fact_text texts (fact.Write row code) = codes "write " ++ decimal row ++ codes " " ++ code_text texts code
fact_text texts (fact.Change row code) = codes "change " ++ decimal row ++ codes " " ++ code_text texts code
fact_text texts (fact.Ran row code) = codes "ran " ++ decimal row ++ codes " " ++ code_text texts code
fact_text texts (fact.Void row) = codes "void " ++ decimal row
fact_text texts (fact.Disposed owner) = codes "disposed " ++ decimal owner
fact_text texts (fact.Edit pass index) = codes "edit " ++ decimal pass ++ codes " " ++ decimal index

-- the cleanups that stand in an owner directly, in text order
abbrev pub cleanups_of : List PlanOwner → ℕ → List ℕ
cleanups_of owners n = option_map_or (λ o. o.cleanups) (slice_get owners n) []

abbrev pub cleanup_line : List (List ℕ) → ℕ → List ℕ
cleanup_line texts text = codes "cleanup " ++ code_text texts (Word text) ++ codes "\n"

-- behind the line of a disposal stand those of the owner's cleanups
abbrev pub cleanup_lines : List (List ℕ) → List PlanOwner → Fact → List ℕ
cleanup_lines texts owners f = option_map_or (λ n. flat_map (cleanup_line texts) (cleanups_of owners n)) (owner_in f) []

abbrev pub entry_line : List (List ℕ) → ℕ → Noted → List ℕ
entry_line texts phase e = codes "journal " ++ decimal phase ++ codes "." ++ decimal e.number ++ codes " " ++ fact_text texts e.fact ++ codes "\n"

abbrev pub journal_lines : List (List ℕ) → List PlanOwner → ℕ → List Noted → List ℕ
journal_lines texts owners phase [] = []
journal_lines texts owners phase (e ∷ es) = entry_line texts phase e ++ cleanup_lines texts owners e.fact ++ journal_lines texts owners phase es

-- ---- both, phase by phase

abbrev pub report_from : List (List ℕ) → ℕ → List Phase → List ℕ
report_from texts n [] = []
report_from texts n (p ∷ ps) = answer_lines texts n 1 p.lanes ++ journal_lines texts p.opened.plan.owners n p.entries ++ report_from texts (suc n) ps

-- for each phase the answers lane by lane, and then the entries in order of number
abbrev pub report : List (List ℕ) → List Phase → List ℕ
report texts phases = report_from texts 1 phases
