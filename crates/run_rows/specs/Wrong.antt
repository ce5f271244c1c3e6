-- Phases that ran wrongly, each in one way.
use Rattle.std.specs.Prelude.{None, Some, [], ◌∷◌}
use Rattle.values.specs.declared.plan.Fact.TheVariants as fact
use Rattle.values.specs.declared.plan.Left.TheVariants as left
use Rattle.store_fields.specs.declared.edit.Verdict.TheVariants as verdict
use Rattle.script_items.specs.declared.operation.ScriptOp.TheVariants as op
use Rattle.run_items.specs.declared.answer.Reply.TheVariants as reply
use Rattle.run_meaning.specs.Phase.{Phase}
use Rattle.run_rows.specs.Parts.{number, did, set, get, disposed, pumped, note, no_counts, phase_of}
use Rattle.run_rows.specs.Lanes.{counted, met, left_effect}
use Rattle.run_rows.specs.Rows.{branch, branch_opened, equal, diamond_opened, edits, inserts, area_opened, area, effect_opened, pumps, gone_opened}

-- ---- writes

-- the write that was accepted is not in the journal
abbrev pub write_lost : Phase
write_lost = record branch { drawn = 0; entries = [] }

-- it stands there twice
abbrev pub write_twice : Phase
write_twice = record branch { drawn = 2; entries = note 1 (fact.Write 2 (number 8)) ∷ note 2 (fact.Write 2 (number 8)) ∷ [] }

-- it is of another row
abbrev pub write_elsewhere : Phase
write_elsewhere = record branch { entries = note 1 (fact.Write 1 (number 8)) ∷ [] }

-- the second write has the smaller number
abbrev pub numbers_fall : Phase
numbers_fall = record equal { lanes = (did (set 0 (number 1)) (reply.Set 2) ∷ did (set 0 (number 1)) (reply.Set 1) ∷ did (get 1) (reply.Got (number 2) 0) ∷ []) ∷ [] }

-- ---- values: `a` is row 0, and 1 when the phase opens

-- the value of `b`, asked for `a`
abbrev pub another_row : Phase
another_row = phase_of branch_opened (did (get 1) (reply.Got (number 7) 0) ∷ []) []

-- the opening value, after the lane's own write of 10
abbrev pub too_old : Phase
too_old = phase_of diamond_opened (did (set 0 (number 10)) (reply.Set 1) ∷ did (get 0) (reply.Got (number 1) 0) ∷ []) (note 1 (fact.Write 0 (number 10)) ∷ [])

-- the memo over the opening value, after the lane's own write of 10
abbrev pub too_old_below : Phase
too_old_below = phase_of diamond_opened (did (set 0 (number 10)) (reply.Set 1) ∷ did (get 1) (reply.Got (number 2) 0) ∷ []) (note 1 (fact.Write 0 (number 10)) ∷ [])

-- the value of the write that the lane makes next
abbrev pub too_new : Phase
too_new = phase_of diamond_opened (did (get 0) (reply.Got (number 10) 1) ∷ did (set 0 (number 10)) (reply.Set 1) ∷ []) (note 1 (fact.Write 0 (number 10)) ∷ [])

-- a value that nobody wrote
abbrev pub invented : Phase
invented = phase_of diamond_opened (did (get 0) (reply.Got (number 3) 0) ∷ []) []

-- ---- disposals

-- the effect ran, and its area had been disposed
abbrev pub runs_when_gone : Phase
runs_when_gone = phase_of gone_opened (disposed 1 1 0 ∷ pumped 1 0 0 ∷ []) (note 1 (fact.Disposed 1) ∷ note 2 (fact.Ran 1 (number 1)) ∷ [])

-- both disposals of the area have an entry
abbrev pub disposed_twice : Phase
disposed_twice = record area { lanes = (disposed 1 1 0 ∷ disposed 1 1 0 ∷ did (set 1 (number 2)) (reply.Disposed 1) ∷ []) ∷ []; drawn = 2; entries = note 1 (fact.Disposed 1) ∷ note 2 (fact.Disposed 1) ∷ [] }

-- the area is disposed, and no operation disposes it
abbrev pub disposed_by_none : Phase
disposed_by_none = phase_of area_opened [] (note 1 (fact.Disposed 1) ∷ [])

-- the reply counts two owners, and the area has one
abbrev pub disposed_too_many : Phase
disposed_too_many = record area { lanes = (disposed 1 1 1 ∷ []) ∷ [] }

-- the area is disposed before the lane's write, and its number is greater
abbrev pub disposed_out_of_order : Phase
disposed_out_of_order = phase_of (record branch_opened { plan = record branch_opened.plan { owners = area_opened.plan.owners } }) (disposed 1 1 0 ∷ did (set 2 (number 8)) (reply.Set 1) ∷ []) (note 1 (fact.Write 2 (number 8)) ∷ note 2 (fact.Disposed 1) ∷ [])

-- ---- changes, edits and effects

-- the memo changed to a value that no write gives
abbrev pub change_unexplained : Phase
change_unexplained = record equal { drawn = 3; entries = note 1 (fact.Write 0 (number 1)) ∷ note 2 (fact.Write 0 (number 1)) ∷ note 3 (fact.Change 1 (number 5)) ∷ [] }

-- the second edit stands at the place of the third
abbrev pub edit_out_of_place : Phase
edit_out_of_place = record edits { entries = note 1 (fact.Edit 1 0) ∷ note 2 (fact.Edit 1 2) ∷ note 3 (fact.Edit 1 1) ∷ [] }

-- the edits are those of another pass
abbrev pub edits_of_another : Phase
edits_of_another = record edits { entries = note 1 (fact.Edit 2 0) ∷ note 2 (fact.Edit 2 1) ∷ note 3 (fact.Edit 2 2) ∷ [] }

-- the memo ran to the value that it had
abbrev pub change_to_the_same : Phase
change_to_the_same = record equal { drawn = 3; entries = note 1 (fact.Write 0 (number 1)) ∷ note 2 (fact.Write 0 (number 1)) ∷ note 3 (fact.Change 1 (number 2)) ∷ [] }

-- the insert of a key that is there is told to be done
abbrev pub verdict_turned : Phase
verdict_turned = record edits { lanes = inserts verdict.Done verdict.Done ∷ [] }

-- the effect never ran, and is told to need no run
abbrev pub never_ran : Phase
never_ran = phase_of effect_opened (pumped 0 1 0 ∷ []) []

-- it ran before the lane's own write, and is told to need no run after it
abbrev pub ran_too_early : Phase
ran_too_early = phase_of effect_opened (pumped 1 0 0 ∷ did (set 0 (number 2)) (reply.Set 2) ∷ pumped 0 1 0 ∷ []) (note 1 (fact.Ran 1 (number 10)) ∷ note 2 (fact.Write 0 (number 2)) ∷ [])

-- it ran twice, and was told once
abbrev pub run_untold : Phase
run_untold = record pumps { lanes = (pumped 1 0 0 ∷ did (set 0 (number 2)) (reply.Set 2) ∷ pumped 0 1 0 ∷ []) ∷ [] }

-- it ran behind the lane's next write
abbrev pub ran_out_of_order : Phase
ran_out_of_order = phase_of effect_opened (pumped 1 0 0 ∷ did (set 0 (number 2)) (reply.Set 1) ∷ []) (note 1 (fact.Write 0 (number 2)) ∷ note 2 (fact.Ran 1 (number 20)) ∷ [])

-- a number came to nothing, and no effect was gone or left
abbrev pub void_untold : Phase
void_untold = phase_of effect_opened (pumped 1 0 0 ∷ []) (note 1 (fact.Void 1) ∷ note 2 (fact.Ran 1 (number 10)) ∷ [])

-- ---- numbers

-- number 2 was drawn, and has no entry
abbrev pub number_lost : Phase
number_lost = record equal { drawn = 3; entries = note 1 (fact.Write 0 (number 1)) ∷ note 3 (fact.Write 0 (number 1)) ∷ [] }

-- a write stands above the last number
abbrev pub number_late : Phase
number_late = record branch { drawn = 65537; entries = note 65537 (fact.Write 2 (number 8)) ∷ [] }

-- a memo is written
abbrev pub memo_written : Phase
memo_written = record branch { entries = note 1 (fact.Write 3 (number 8)) ∷ [] }

-- ---- replies without a cause

-- a pump is answered by a value
abbrev pub wrong_kind : Phase
wrong_kind = phase_of effect_opened (did op.Pump (reply.Got (number 1) 0) ∷ []) []

-- the row is there
abbrev pub row_denied : Phase
row_denied = phase_of branch_opened (did (get 3) reply.NoRow ∷ []) []

-- the owner is live
abbrev pub owner_denied : Phase
owner_denied = phase_of branch_opened (did (get 3) (reply.Disposed 0) ∷ []) []

-- the lane had disposed the area
abbrev pub disposal_forgotten : Phase
disposal_forgotten = record area { lanes = (disposed 1 1 0 ∷ did (get 1) (reply.Got (number 1) 0) ∷ []) ∷ [] }

-- there is no other lane
abbrev pub busy_alone : Phase
busy_alone = phase_of branch_opened (did (get 3) (reply.Busy 3) ∷ []) []

-- numbers are left
abbrev pub full_too_early : Phase
full_too_early = phase_of branch_opened (did (set 2 (number 8)) (reply.Full 65537) ∷ []) []

-- another lane got the memo, and nobody wrote
abbrev pub again_unmarked : Phase
again_unmarked = record met { lanes = (did (get 1) (reply.Again 1) ∷ []) ∷ (did (get 1) (reply.Got (number 0) 0) ∷ []) ∷ []; drawn = 0; entries = []; counts = counted 0 1 ∷ no_counts ∷ [] }

-- another lane wrote below the memo, and nobody else got it
abbrev pub busy_unmet : Phase
busy_unmet = record met { lanes = (did (get 1) (reply.Busy 1) ∷ []) ∷ (did (set 0 (number 1)) (reply.Set 1) ∷ []) ∷ []; drawn = 1; entries = note 1 (fact.Write 0 (number 1)) ∷ []; counts = counted 1 0 ∷ no_counts ∷ [] }

-- the effect was left, and there is no other lane
abbrev pub left_alone : Phase
left_alone = phase_of effect_opened (did op.Pump (reply.Pumped (record { ran = 0; same = 0; gone = 0; left = 1; first_left = Some (1, left.Busy 1) })) ∷ []) []

-- effects were left, and none is named
abbrev pub first_unnamed : Phase
first_unnamed = record left_effect { lanes = (did op.Pump (reply.Pumped (record { ran = 0; same = 0; gone = 0; left = 1; first_left = None })) ∷ []) ∷ (pumped 1 0 0 ∷ []) ∷ [] }

-- the lane's pass met no other
abbrev pub busy_uncounted : Phase
busy_uncounted = record met { counts = no_counts ∷ no_counts ∷ [] }

-- the effect is told to be gone, and its owner is live
abbrev pub gone_alive : Phase
gone_alive = phase_of effect_opened (pumped 0 0 1 ∷ []) []
