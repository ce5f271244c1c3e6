-- What a token of a script at its place does to the state, and what an action makes of it.
use Rattle.std.specs.Prelude.{ℕ, ◌+◌, true, false, unwrap_or, slice_set, map, List, [], Option, Some, None}
use Rattle.values.specs.declared.code.Code.{Code}
use Rattle.values.specs.declared.code.Code.TheVariants.{Empty, Word}
use Rattle.values.specs.Texts.{with_text}
use Rattle.text_lexer.specs.declared.token.Token.{Token}
use Rattle.text_grammar.specs.declared.script.Action.{Action}
use Rattle.text_grammar.specs.declared.script.Action.TheVariants as action
use Rattle.text_grammar.specs.declared.script.Terminal.{Terminal}
use Rattle.text_grammar.specs.declared.script.Terminal.TheVariants as terminal
use Rattle.store_fields.specs.declared.edit.EditOp.{EditOp}
use Rattle.store_fields.specs.declared.edit.EditOp.TheVariants.{Insert, Remove, Move}
use Rattle.script_items.specs.declared.script.TheConstants.{END_OF_ROWS}
use Rattle.script_items.specs.declared.operation.ScriptOp.{ScriptOp}
use Rattle.script_items.specs.declared.operation.ScriptOp.TheVariants as op
use Rattle.script_items.specs.Script.{with_phase, with_lane, with_op}
use Rattle.component_meaning.specs.Names.{value_in, content_in, number_in, negated_in, number_with}
use Rattle.script_meaning.specs.Names.{Named, nothing, a_signal, a_memo, a_load, a_store}
use Rattle.script_meaning.specs.State.{State}
use Rattle.script_meaning.specs.Checks.{owner_of, found_as, fields_of, field_of}

-- ---- tokens

-- the path goes on in what its name stands for
abbrev pub with_found : Option Named → State → State
with_found None a = a
with_found (Some what) a = record a { named = what }

abbrev pub id_of : Named → ℕ
id_of (a_signal id) = id
id_of (a_memo id) = id
id_of (a_load id) = id
id_of (a_store id fields starts) = id
id_of _ = 0

-- the path ends in a field of the store: the ids of its fields come behind those of the store and of its key
abbrev pub with_row_field : Option ℕ → State → State
with_row_field None a = a
with_row_field (Some i) a = record a { named = a_signal (id_of a.named + 2 + i) }

abbrev pub with_given : Option ℕ → State → State
with_given None a = a
with_given (Some i) a = record a { given = slice_set a.given i true; field = i }

abbrev pub with_key : Code → State → State
with_key key a = record a { key = Some key }

abbrev pub with_text_key : List ℕ → State → State
with_text_key bytes a = record a { texts = with_text bytes a.texts; key = Some (Word (number_with bytes a.texts)) }

abbrev pub with_text_literal : List ℕ → State → State
with_text_literal bytes a = record a { texts = with_text bytes a.texts; literal = Word (number_with bytes a.texts) }

abbrev pub effect : List ℕ → Terminal → State → Token → State
effect text terminal.Phase a x = record a { phases = with_phase a.phases }
effect text terminal.Lane a x = record a { phases = with_lane a.phases }
effect text terminal.SetName a x = with_found (found_as text a x) a
effect text terminal.GetName a x = with_found (found_as text a x) a
effect text terminal.AreaName a x = with_found (found_as text a x) a
effect text terminal.StoreName a x = with_found (found_as text a x) a
effect text terminal.RowField a x = with_row_field (field_of text a x) a
effect text terminal.TextKey a x = with_text_key (content_in text x) a
effect text terminal.NumberKey a x = with_key (number_in text x) a
effect text terminal.NegatedKey a x = with_key (negated_in text x) a
effect text terminal.InsertedField a x = with_given (field_of text a x) a
effect text terminal.PlaceNumber a x = record a { place = value_in text x }
effect text terminal.EmptyLiteral a x = record a { literal = Empty }
effect text terminal.TextLiteral a x = with_text_literal (content_in text x) a
effect text terminal.NumberLiteral a x = record a { literal = number_in text x }
effect text terminal.NegatedLiteral a x = record a { literal = negated_in text x }
effect text _ a x = a

-- ---- actions

abbrev pub starts_of : Named → List Code
starts_of (a_store id fields starts) = starts
starts_of _ = []

abbrev pub done : ScriptOp → State → State
done o a = record a { phases = with_op o a.phases }

abbrev pub key_of : State → Code
key_of a = unwrap_or a.key Empty

abbrev pub edited : EditOp → State → State
edited e a = done (op.Change (record { store = id_of a.named; op = e })) a

abbrev pub perform : Action → State → State
perform action.BeginPath a = record a { named = nothing; key = None }
perform action.BeginEntries a = record a { values = starts_of a.named; given = map (λ f. false) (fields_of a.named); place = END_OF_ROWS }
perform action.AddValue a = record a { values = slice_set a.values a.field a.literal }
perform action.MakeSet a = done (op.Set (id_of a.named) a.key a.literal) a
perform action.MakeGet a = done (op.Get (id_of a.named) a.key) a
perform action.MakePump a = done op.Pump a
perform action.MakeDispose a = done (op.Dispose (owner_of a.named)) a
-- the values are now those of the operation
perform action.MakeInsert a = record (edited (Insert (key_of a) a.values a.place) a) { values = [] }
perform action.MakeRemove a = edited (Remove (key_of a)) a
perform action.MakeMove a = edited (Move (key_of a) a.place) a
