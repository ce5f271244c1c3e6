-- Phases for what they leave of the held state.
use Rattle.std.specs.Prelude.{ℕ, Some, true, List, [], ◌∷◌}
use Rattle.values.specs.declared.code.Code.TheVariants.{Word}
use Rattle.values.specs.declared.plan.Fact.TheVariants as fact
use Rattle.values.specs.declared.plan.Noted.{Noted}
use Rattle.store_fields.specs.declared.row.Row.{Row}
use Rattle.store_fields.specs.declared.edit.EditOp.{EditOp}
use Rattle.store_fields.specs.declared.edit.EditOp.TheVariants.{Insert, Remove, Move}
use Rattle.store_fields.specs.declared.edit.Verdict.{Verdict}
use Rattle.store_fields.specs.declared.edit.Verdict.TheVariants as verdict
use Rattle.script_items.specs.declared.operation.ScriptOp.TheVariants as op
use Rattle.run_items.specs.declared.answer.Reply.TheVariants as reply
use Rattle.plain_evaluation.specs.Held.{Held, value, stored, nothing}
use Rattle.plain_evaluation.specs.Place.{Place, place_at, outside, of_row}
use Rattle.plain_evaluation.specs.Rows.{store_row, rows_of, chosen_held}
use Rattle.plan_meaning.specs.Layout.{row_of}
use Rattle.run_meaning.specs.Opened.{Opened, target_at}
use Rattle.run_meaning.specs.Lane.{Done}
use Rattle.run_meaning.specs.Phase.{Phase}
use Rattle.run_rows.specs.Parts.{number, top, did, disposed, note, phase_of}

-- a phase that opens with this held state, where the rows have these places
abbrev pub opened_at : Held → List Place → Opened
opened_at held places = record {
  held = held;
  plan = record { nodes = []; owners = top ∷ [] };
  places = places;
  values = [];
  target = λ id key. target_at (row_of places (place_at id key));
  owner_of = λ id. 0;
}

abbrev pub edited : ℕ → EditOp → ℕ → Verdict → Done
edited store x n v = did (op.Change (record { store = store; op = x })) (reply.Edited n v)

-- ---- component 1|store items max 4 { title = "" }|<ul>each items {<li>{row.title}</li>}</ul>

abbrev pub titles_of : List Row → Held
titles_of rows = record { holdings = stored (rows_of 4 1 rows) ∷ nothing ∷ nothing ∷ nothing ∷ nothing ∷ []; live = true ∷ [] }

abbrev pub end : ℕ
end = 4294967295

-- phase lane insert items 1 { title = "a" } insert items 2 { title = "b" } insert items 3 { title = "c" }
abbrev pub rows_inserted : Phase
rows_inserted = phase_of (opened_at (titles_of []) [])
    (edited 0 (Insert (number 1) (Word 7 ∷ []) end) 1 verdict.Done ∷ edited 0 (Insert (number 2) (Word 6 ∷ []) end) 2 verdict.Done ∷ edited 0 (Insert (number 3) (Word 5 ∷ []) end) 3 verdict.Done ∷ [])
    (note 1 (fact.Edit 1 0) ∷ note 2 (fact.Edit 1 1) ∷ note 3 (fact.Edit 1 2) ∷ [])

abbrev pub three_titles : Held
three_titles = titles_of (store_row (number 1) (Word 7 ∷ []) ∷ store_row (number 2) (Word 6 ∷ []) ∷ store_row (number 3) (Word 5 ∷ []) ∷ [])

-- phase lane move items 3 to 0 remove items 1
abbrev pub rows_moved : Phase
rows_moved = phase_of (opened_at three_titles (of_row 2 (number 1) ∷ of_row 2 (number 2) ∷ of_row 2 (number 3) ∷ []))
    (edited 0 (Move (number 3) 0) 1 verdict.Done ∷ edited 0 (Remove (number 1)) 2 verdict.Done ∷ [])
    (note 1 (fact.Edit 1 0) ∷ note 2 (fact.Edit 1 1) ∷ [])

-- ---- component 1|area side { signal on = 0 store s max 2 { t = "" } .. }, with rows 1 and 2

-- one lane removes a row, so the other may insert one; the third has no room
abbrev pub shared_lanes : List (List Done)
shared_lanes =
    (edited 2 (Remove (number 2)) 3 verdict.Done ∷ edited 2 (Insert (number 4) (number 6 ∷ []) end) 5 verdict.AtMax ∷ [])
    ∷ (did (op.Set 4 (Some (number 1)) (number 3)) (reply.Set 1) ∷ did (op.Set 4 (Some (number 1)) (number 4)) (reply.Set 2) ∷ edited 2 (Insert (number 3) (number 5 ∷ []) 0) 4 verdict.Done ∷ [])
    ∷ []

abbrev pub shared_entries : List Noted
shared_entries = note 1 (fact.Write 1 (number 3)) ∷ note 2 (fact.Write 1 (number 4)) ∷ note 3 (fact.Edit 1 0) ∷ note 4 (fact.Edit 2 0) ∷ note 5 (fact.Edit 1 1) ∷ []

abbrev pub shared_opened : Opened
shared_opened = opened_at (chosen_held 0) (outside 1 ∷ of_row 4 (number 1) ∷ of_row 4 (number 2) ∷ [])

-- two lanes write a field twice, and edit the store
abbrev pub shared : Phase
shared = record (phase_of shared_opened [] shared_entries) { lanes = shared_lanes }

abbrev pub shared_held : Held
shared_held = record {
  holdings = nothing ∷ value (number 0) ∷ stored (rows_of 2 1 (store_row (number 3) (number 5 ∷ []) ∷ store_row (number 1) (number 4 ∷ []) ∷ [])) ∷ nothing ∷ nothing ∷ nothing ∷ nothing ∷ nothing ∷ nothing ∷ [];
  live = true ∷ true ∷ [];
}

-- the other disposes the area before the edit
abbrev pub disposed_between : Phase
disposed_between = record (phase_of shared_opened [] (note 1 (fact.Disposed 1) ∷ note 2 (fact.Edit 1 0) ∷ [])) { lanes = (edited 2 (Remove (number 2)) 2 verdict.Done ∷ []) ∷ (disposed 1 1 0 ∷ []) ∷ [] }
