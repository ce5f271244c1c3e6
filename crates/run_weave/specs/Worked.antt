-- Calls of worked rows, and what they lead to. Above each is its input, with a line for each `|`.
use Rattle.std.specs.Prelude.{ℕ, pos, Ok, Err, Some, None, true, List, [], ◌∷◌}
use Rattle.values.specs.declared.code.Code.{Code}
use Rattle.values.specs.declared.code.Code.TheVariants.{Empty, Number}
use Rattle.values.specs.declared.expr.Expr.{Expr}
use Rattle.values.specs.declared.expr.Expr.TheVariants.{Lit, Read}
use Rattle.values.specs.declared.plan.Kind.{Kind}
use Rattle.values.specs.declared.plan.Kind.TheVariants as kind
use Rattle.values.specs.declared.plan.Fact.TheVariants as fact
use Rattle.values.specs.declared.plan.PlanNode.{PlanNode}
use Rattle.values.specs.declared.plan.PlanOwner.{PlanOwner}
use Rattle.values.specs.declared.plan.Noted.{Noted}
use Rattle.values.specs.declared.plan.Pumped.{Pumped}
use Rattle.values.specs.declared.plan.Stop.TheVariants as stop
use Rattle.store_fields.specs.declared.edit.Edit.{Edit}
use Rattle.store_fields.specs.declared.edit.EditOp.TheVariants.{Insert}
use Rattle.store_fields.specs.declared.edit.Verdict.TheVariants as verdict
use Rattle.script_items.specs.declared.operation.ScriptOp.TheVariants as op
use Rattle.run_items.specs.declared.answer.Reply.{Reply}
use Rattle.run_items.specs.declared.answer.Reply.TheVariants as reply
use Rattle.plain_evaluation.specs.Held.{value, stored, nothing}
use Rattle.plain_evaluation.specs.Place.{Place, place_at, outside}
use Rattle.plan_meaning.specs.Layout.{row_of}
use Rattle.run_meaning.specs.Opened.{Opened, at_row, at_none, target_at}
use Rattle.run_meaning.specs.Lane.{Done}
use Rattle.run_history.specs.Going.{Going, note}
use Rattle.run_history.specs.Calls.{Call, set, get, pump, dispose, edit, MadeCall}

abbrev pub number : ℕ → Code
number n = Number (pos n)

abbrev pub node : Kind → Expr → ℕ → PlanNode
node k e owner = record { kind = k; expr = e; owner = owner }

abbrev pub top : PlanOwner
top = record { parent = None; cleanups = [] }

abbrev pub made : ℕ → Call → MadeCall
made pass call = record { pass = pass; call = call }

abbrev pub going : List Noted → ℕ → Going
going es drawn = record { drawn = drawn; entries = es }

-- ---- component 1|area side {|signal x = 1|cleanup "bye"|<i>{x}</i>|}|<b>"end"</b>|---|phase lane dispose side dispose side set side.x = 2

abbrev pub area_opened : Opened
area_opened = record {
  held = record { holdings = nothing ∷ value (number 1) ∷ nothing ∷ []; live = true ∷ true ∷ [] };
  plan = record { nodes = node kind.Signal (Lit Empty) 1 ∷ node kind.Memo (Read 0) 1 ∷ []; owners = top ∷ record { parent = Some 0; cleanups = 3 ∷ [] } ∷ [] };
  places = outside 1 ∷ outside 2 ∷ [];
  values = number 1 ∷ number 1 ∷ [];
  target = λ id key. at_row 0;
  owner_of = λ id. 1;
}

abbrev pub area_calls : List MadeCall
area_calls = made 1 (dispose 1 (record { now = 1; before = 0 })) ∷ made 1 (dispose 1 (record { now = 0; before = 1 })) ∷ made 1 (set 0 (number 2) (Err (stop.Disposed 1))) ∷ []

abbrev pub area_lanes : List (List Done)
area_lanes = (record { op = op.Dispose 1; reply = reply.Disposal (record { now = 1; before = 0 }) } ∷ record { op = op.Dispose 1; reply = reply.Disposal (record { now = 0; before = 1 }) } ∷ record { op = op.Set 1 None (number 2); reply = reply.Disposed 1 } ∷ []) ∷ []

abbrev pub area_end : Going
area_end = going (note 1 (fact.Disposed 1) ∷ []) 1

-- ---- component 1|store s max 1 { t = 0 }|each s {<p>{row.t}</p>}

abbrev pub store_opened : Opened
store_opened = record {
  held = record { holdings = stored (record { rows = []; max = 1; width = 1 }) ∷ nothing ∷ nothing ∷ nothing ∷ nothing ∷ []; live = true ∷ [] };
  plan = record { nodes = []; owners = top ∷ [] };
  places = [];
  values = [];
  target = λ id key. at_none;
  owner_of = λ id. 0;
}

abbrev pub insert : ℕ → ℕ → Edit
insert key field = record { store = 0; op = Insert (number key) (number field ∷ []) 4294967295 }

abbrev pub edited : Edit → Reply → Done
edited e r = record { op = op.Change e; reply = r }

-- phase lane insert s 1 { t = 5 } insert s 1 { t = 6 } insert s 2 { t = 7 }
abbrev pub edits_calls : List MadeCall
edits_calls = made 1 (edit 0 (insert 1 5) (Ok 1)) ∷ made 1 (edit 0 (insert 1 6) (Ok 2)) ∷ made 1 (edit 0 (insert 2 7) (Ok 3)) ∷ []

abbrev pub edits_lanes : List (List Done)
edits_lanes = (edited (insert 1 5) (reply.Edited 1 verdict.Done) ∷ edited (insert 1 6) (reply.Edited 2 verdict.Present) ∷ edited (insert 2 7) (reply.Edited 3 verdict.AtMax) ∷ []) ∷ []

abbrev pub edits_end : Going
edits_end = going (note 1 (fact.Edit 1 0) ∷ note 2 (fact.Edit 1 1) ∷ note 3 (fact.Edit 1 2) ∷ []) 3

-- the same by two lanes, of which the second first gets a row that is not there:
-- phase lane insert s 1 { t = 5 } lane get s[1].t insert s 1 { t = 6 } insert s 2 { t = 7 }
abbrev pub shared_calls : List MadeCall
shared_calls = made 1 (edit 0 (insert 1 5) (Ok 1)) ∷ made 2 (edit 0 (insert 1 6) (Ok 2)) ∷ made 2 (edit 0 (insert 2 7) (Ok 3)) ∷ []

abbrev pub shared_lanes : List (List Done)
shared_lanes =
    (edited (insert 1 5) (reply.Edited 1 verdict.Done) ∷ [])
    ∷ (record { op = op.Get 2 (Some (number 1)); reply = reply.NoRow } ∷ edited (insert 1 6) (reply.Edited 2 verdict.Present) ∷ edited (insert 2 7) (reply.Edited 3 verdict.AtMax) ∷ [])
    ∷ []

abbrev pub shared_end : Going
shared_end = going (note 1 (fact.Edit 1 0) ∷ note 2 (fact.Edit 2 0) ∷ note 3 (fact.Edit 2 1) ∷ []) 3

-- ---- component 1|signal a = 1|memo p = a|effect e = p|---|phase lane pump set a = 2 get p pump pump

abbrev pub copy_places : List Place
copy_places = outside 0 ∷ outside 1 ∷ outside 2 ∷ []

abbrev pub copy_opened : Opened
copy_opened = record {
  held = record { holdings = value (number 1) ∷ nothing ∷ nothing ∷ []; live = true ∷ [] };
  plan = record { nodes = node kind.Signal (Lit Empty) 0 ∷ node kind.Memo (Read 0) 0 ∷ node kind.Effect (Read 1) 0 ∷ []; owners = top ∷ [] };
  places = copy_places;
  values = number 1 ∷ number 1 ∷ Empty ∷ [];
  target = λ id key. target_at (row_of copy_places (place_at id key));
  owner_of = λ id. 0;
}

abbrev pub pumped : ℕ → ℕ → Pumped
pumped ran same = record { ran = ran; same = same; gone = 0; left = 0; first_left = None }

abbrev pub copy_calls : List MadeCall
copy_calls = made 1 (pump (pumped 1 0)) ∷ made 1 (set 0 (number 2) (Ok 2)) ∷ made 1 (get 1 (Ok (number 2, 3))) ∷ made 1 (pump (pumped 1 0)) ∷ made 1 (pump (pumped 0 1)) ∷ []

abbrev pub copy_entries : List Noted
copy_entries = note 1 (fact.Ran 2 (number 1)) ∷ note 2 (fact.Write 0 (number 2)) ∷ note 3 (fact.Change 1 (number 2)) ∷ note 4 (fact.Ran 2 (number 2)) ∷ []

abbrev pub copy_end : Going
copy_end = going copy_entries 4

abbrev pub copy_lanes : List (List Done)
copy_lanes =
    (record { op = op.Pump; reply = reply.Pumped (pumped 1 0) } ∷ record { op = op.Set 0 None (number 2); reply = reply.Set 2 } ∷ record { op = op.Get 1 None; reply = reply.Got (number 2) 3 } ∷ record { op = op.Pump; reply = reply.Pumped (pumped 1 0) } ∷ record { op = op.Pump; reply = reply.Pumped (pumped 0 1) } ∷ [])
    ∷ []

-- ---- component 1|area out { area in { } }|---|phase lane dispose out

abbrev pub nested_opened : Opened
nested_opened = record {
  held = record { holdings = nothing ∷ nothing ∷ []; live = true ∷ true ∷ true ∷ [] };
  plan = record { nodes = []; owners = top ∷ record { parent = Some 0; cleanups = [] } ∷ record { parent = Some 1; cleanups = [] } ∷ [] };
  places = [];
  values = [];
  target = λ id key. at_none;
  owner_of = λ id. id;
}

abbrev pub nested_calls : List MadeCall
nested_calls = made 1 (dispose 1 (record { now = 2; before = 0 })) ∷ []

-- ---- what no calls lead to: the opening value after a write, and the number of another entry

abbrev pub stale_calls : List MadeCall
stale_calls = made 1 (set 0 (number 2) (Ok 1)) ∷ made 1 (get 0 (Ok (number 1, 0))) ∷ []

abbrev pub misnumbered_calls : List MadeCall
misnumbered_calls = made 1 (set 0 (number 2) (Ok 1)) ∷ made 1 (get 0 (Ok (number 2, 0))) ∷ []

-- an effect that is the same, though what it reads was written
abbrev pub forgotten_calls : List MadeCall
forgotten_calls = made 1 (set 0 (number 2) (Ok 1)) ∷ made 1 (pump (pumped 0 1)) ∷ []

-- a set that draws no number of its own
abbrev pub renumbered_calls : List MadeCall
renumbered_calls = made 1 (set 0 (number 2) (Ok 1)) ∷ made 1 (set 0 (number 3) (Ok 1)) ∷ []
