-- Phases of two lanes that disturb each other, and an effect over two phases.
use Rattle.std.specs.Prelude.{ℕ, Some, List, [], ◌∷◌}
use Rattle.values.specs.declared.expr.Expr.TheVariants.{Read}
use Rattle.values.specs.declared.plan.Kind.TheVariants as kind
use Rattle.values.specs.declared.plan.Fact.TheVariants as fact
use Rattle.values.specs.declared.plan.Left.TheVariants as left
use Rattle.script_items.specs.declared.operation.ScriptOp.TheVariants as op
use Rattle.run_items.specs.declared.answer.Reply.TheVariants as reply
use Rattle.run_items.specs.Journal.{PassCounts}
use Rattle.plain_evaluation.specs.Held.{value, nothing}
use Rattle.run_meaning.specs.Opened.{Opened}
use Rattle.run_meaning.specs.Lane.{Done}
use Rattle.run_meaning.specs.Phase.{Phase}
use Rattle.run_rows.specs.Parts.{number, node, signal_in, opened_with, did, set, get, pumped, note, no_counts, phase_of}
use Rattle.run_rows.specs.Rows.{effect_opened}

abbrev pub counted : ℕ → ℕ → PassCounts
counted meets remarks = record { meets = meets; remarks = remarks }

-- signal a = 0|memo p = a
abbrev pub copy_opened : Opened
copy_opened = opened_with (value (number 0) ∷ nothing ∷ []) (signal_in 0 ∷ node kind.Memo (Read 0) 0 ∷ []) (number 0 ∷ number 0 ∷ [])

abbrev pub writer : List Done
writer = did (set 0 (number 1)) (reply.Set 1) ∷ did (get 1) (reply.Got (number 1) 2) ∷ []

-- phase lane set a = 1 get p lane get p: the second lane meets p while the first brings it up to date
abbrev pub met : Phase
met = record (phase_of copy_opened [] (note 1 (fact.Write 0 (number 1)) ∷ note 2 (fact.Change 1 (number 1)) ∷ []))
    { lanes = writer ∷ (did (get 1) (reply.Busy 1) ∷ []) ∷ []; counts = no_counts ∷ counted 1 0 ∷ [] }

abbrev pub other_writer : List Done
other_writer = did (set 0 (number 9)) (reply.Set 2) ∷ did (get 1) (reply.Got (number 9) 3) ∷ []

-- phase lane set a = 1 get p lane set a = 9 get p: the second lane writes while the first brings p up to date
abbrev pub marked : Phase
marked = record (phase_of copy_opened [] (note 1 (fact.Write 0 (number 1)) ∷ note 2 (fact.Write 0 (number 9)) ∷ note 3 (fact.Change 1 (number 9)) ∷ []))
    { lanes = (did (set 0 (number 1)) (reply.Set 1) ∷ did (get 1) (reply.Again 1) ∷ []) ∷ other_writer ∷ []; counts = counted 0 1 ∷ no_counts ∷ [] }

-- component 1|signal a = 1|effect log = a * 10|---|phase lane pump lane pump: the first lane meets the effect while the second runs it
abbrev pub left_effect : Phase
left_effect = record (phase_of effect_opened [] (note 1 (fact.Ran 1 (number 10)) ∷ []))
    { lanes = (did op.Pump (reply.Pumped (record { ran = 0; same = 0; gone = 0; left = 1; first_left = Some (1, left.Busy 1) })) ∷ []) ∷ (pumped 1 0 0 ∷ []) ∷ []; counts = counted 1 0 ∷ no_counts ∷ [] }

-- component 1|signal a = 1|effect log = a * 10|---|phase lane pump|phase lane pump
abbrev pub first_pump : Phase
first_pump = phase_of effect_opened (pumped 1 0 0 ∷ []) (note 1 (fact.Ran 1 (number 10)) ∷ [])

abbrev pub later_pump : Phase
later_pump = phase_of effect_opened (pumped 0 1 0 ∷ []) []
