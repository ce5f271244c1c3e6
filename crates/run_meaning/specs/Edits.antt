-- What the writes and the edits of a phase leave of its held state, and what comes of each edit.
use Rattle.std.specs.Prelude.{ℕ, suc, ◌+◌, ◌==◌, if◌then◌else◌, Option, Some, None, unwrap_or, map, List, [], ◌∷◌, slice_get, slice_set, filter_map}
use Rattle.std.specs.Option.{option_map, option_and_then}
use Rattle.values.specs.declared.code.Code.{Code}
use Rattle.values.specs.declared.plan.Noted.{Noted}
use Rattle.values.specs.declared.plan.Fact.{Fact}
use Rattle.values.specs.declared.plan.Fact.TheVariants as fact
use Rattle.store_fields.specs.declared.row.Row.{Row}
use Rattle.store_fields.specs.declared.edit.Edit.{Edit}
use Rattle.store_fields.specs.declared.edit.EditOp.{EditOp}
use Rattle.store_fields.specs.declared.edit.Verdict.{Verdict}
use Rattle.store_fields.specs.declared.edit.Verdict.TheVariants.{Absent}
use Rattle.store_fields.specs.Edits.{edit, with_rows}
use Rattle.script_items.specs.Script.{numbered}
use Rattle.plain_evaluation.specs.Held.{Holding, nothing, value, stored, arrived, Held, holding_of}
use Rattle.run_meaning.specs.Opened.{Opened, row_in}
use Rattle.run_meaning.specs.Lane.{Done, edits_in}
use Rattle.run_meaning.specs.Entries.{last_write}

-- ---- first each signal and each field takes the value of its write with the greatest number

abbrev pub after_writes : List Noted → Option ℕ → Code → Code
after_writes es None code = code
after_writes es (Some row) code = unwrap_or (last_write es row) code

-- what an id, with a key or none, holds then
abbrev pub written_at : Opened → List Noted → ℕ → Option Code → Code → Code
written_at o es id key code = after_writes es (row_in (o.target id key)) code

abbrev pub fields_from : Opened → List Noted → ℕ → Code → List Code → List Code
fields_from o es id key [] = []
fields_from o es id key (code ∷ codes) = written_at o es id (Some key) code ∷ fields_from o es (suc id) key codes

-- the fields of a store have the ids behind its own and that of its key
abbrev pub row_written : Opened → List Noted → ℕ → Row → Row
row_written o es store row = record row { fields = fields_from o es (2 + store) row.key row.fields }

abbrev pub holding_written : Opened → List Noted → ℕ → Holding → Holding
holding_written o es id nothing = nothing
holding_written o es id (value code) = value (written_at o es id None code)
holding_written o es id (stored store) = stored (with_rows store (map (row_written o es id) store.rows))
holding_written o es id (arrived key) = arrived key

abbrev pub holdings_written : Opened → List Noted → ℕ → List Holding → List Holding
holdings_written o es id [] = []
holdings_written o es id (holding ∷ holdings) = holding_written o es id holding ∷ holdings_written o es (suc id) holdings

abbrev pub held_written : Opened → List Noted → Held
held_written o es = record o.held { holdings = holdings_written o es 0 o.held.holdings }

-- ---- then the edits are made, in order of number

pub record Changed : Type 0 where
  pub holding : Holding
  pub verdict : Verdict

abbrev pub unchanged : Holding → Changed
unchanged holding = record { holding = holding; verdict = Absent }

-- an edit of what is no live store is absent, and changes nothing
abbrev pub changed : EditOp → Holding → Changed
changed op nothing = unchanged nothing
changed op (value code) = unchanged (value code)
changed op (stored store) =
    let e = edit store.max store.width store.rows op in
    record { holding = stored (with_rows store e.rows); verdict = e.verdict }
changed op (arrived key) = unchanged (arrived key)

abbrev pub change : Edit → Held → Changed
change e held = changed e.op (holding_of held e.store)

abbrev pub held_changed : Edit → Held → Held
held_changed e held = record held { holdings = slice_set held.holdings e.store (change e held).holding }

-- an edit with its number
pub record Ordered : Type 0 where
  pub number : ℕ
  pub edit : Edit

abbrev pub held_edited : List Ordered → Held → Held
held_edited [] held = held
held_edited (x ∷ xs) held = held_edited xs (held_changed x.edit held)

-- what comes of the edit with this number
abbrev pub verdict_in : List Ordered → Held → ℕ → Option Verdict
verdict_in [] held n = None
verdict_in (x ∷ xs) held n =
    if n == x.number then Some (change x.edit held).verdict
    else verdict_in xs (held_changed x.edit held) n

-- ---- those of a phase

-- the edit at this place of the list of this pass; passes count from 1, places from 0
abbrev pub edit_at : List (List Done) → ℕ → ℕ → Option Edit
edit_at lanes pass index = option_and_then (λ lane. slice_get (edits_in lane) index) (numbered lanes pass)

abbrev pub ordered : ℕ → Edit → Ordered
ordered n e = record { number = n; edit = e }

abbrev pub named_edit : List (List Done) → Fact → ℕ → Option Ordered
named_edit lanes (fact.Write row code) n = None
named_edit lanes (fact.Change row code) n = None
named_edit lanes (fact.Ran row code) n = None
named_edit lanes (fact.Void row) n = None
named_edit lanes (fact.Disposed owner) n = None
named_edit lanes (fact.Edit pass index) n = option_map (ordered n) (edit_at lanes pass index)

abbrev pub edit_of : List (List Done) → Noted → Option Ordered
edit_of lanes e = named_edit lanes e.fact e.number

abbrev pub edits_of : List (List Done) → List Noted → List Ordered
edits_of lanes es = filter_map (edit_of lanes) es
