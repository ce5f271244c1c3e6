-- Phases that ran rightly. Above each is its input, with a line for each `|`.
use Rattle.std.specs.Prelude.{ℕ, Some, true, List, [], ◌∷◌}
use Rattle.values.specs.declared.code.Op.TheVariants.{Add, Mul, Rem}
use Rattle.values.specs.declared.expr.Expr.TheVariants.{Lit, Read, Binary, If}
use Rattle.values.specs.declared.plan.Kind.TheVariants as kind
use Rattle.values.specs.declared.plan.Fact.TheVariants as fact
use Rattle.store_fields.specs.declared.edit.EditOp.TheVariants.{Insert}
use Rattle.store_fields.specs.declared.edit.Verdict.{Verdict}
use Rattle.store_fields.specs.declared.edit.Verdict.TheVariants as verdict
use Rattle.script_items.specs.declared.operation.ScriptOp.{ScriptOp}
use Rattle.script_items.specs.declared.operation.ScriptOp.TheVariants as op
use Rattle.run_items.specs.declared.answer.Reply.TheVariants as reply
use Rattle.plain_evaluation.specs.Held.{value, stored, nothing}
use Rattle.plain_evaluation.specs.Place.{outside}
use Rattle.run_meaning.specs.Opened.{Opened, at_row, at_none}
use Rattle.run_meaning.specs.Lane.{Done}
use Rattle.run_meaning.specs.Phase.{Phase}
use Rattle.run_rows.specs.Parts.{number, node, signal_in, top, opened_with, did, set, get, disposed, pumped, note, phase_of}

-- component 1|signal c = 1|signal a = 5|signal b = 7|memo m = if c then a else b|<p>{m}</p>|---|phase lane set b = 8 get m
abbrev pub branch_opened : Opened
branch_opened = opened_with (value (number 1) ∷ value (number 5) ∷ value (number 7) ∷ nothing ∷ nothing ∷ [])
    (signal_in 0 ∷ signal_in 0 ∷ signal_in 0 ∷ node kind.Memo (If (Read 0) (Read 1) (Read 2)) 0 ∷ node kind.Memo (Read 3) 0 ∷ [])
    (number 1 ∷ number 5 ∷ number 7 ∷ number 5 ∷ number 5 ∷ [])

abbrev pub branch : Phase
branch = phase_of branch_opened (did (set 2 (number 8)) (reply.Set 1) ∷ did (get 3) (reply.Got (number 5) 0) ∷ []) (note 1 (fact.Write 2 (number 8)) ∷ [])

-- component 1|signal a = 1|memo p = a % 2|memo q = p + 10|<p>{q}</p>|---|phase lane set a = 3 get q
abbrev pub remainder_opened : Opened
remainder_opened = opened_with (value (number 1) ∷ nothing ∷ nothing ∷ nothing ∷ [])
    (signal_in 0 ∷ node kind.Memo (Binary Rem (Read 0) (Lit (number 2))) 0 ∷ node kind.Memo (Binary Add (Read 1) (Lit (number 10))) 0 ∷ node kind.Memo (Read 2) 0 ∷ [])
    (number 1 ∷ number 1 ∷ number 11 ∷ number 11 ∷ [])

abbrev pub remainder : Phase
remainder = phase_of remainder_opened (did (set 0 (number 3)) (reply.Set 1) ∷ did (get 2) (reply.Got (number 11) 0) ∷ []) (note 1 (fact.Write 0 (number 3)) ∷ [])

-- component 1|signal a = 1|memo b = a + 1|<p>{b}</p>|---|phase lane set a = 1 set a = 1 get b
abbrev pub equal_opened : Opened
equal_opened = opened_with (value (number 1) ∷ nothing ∷ nothing ∷ [])
    (signal_in 0 ∷ node kind.Memo (Binary Add (Read 0) (Lit (number 1))) 0 ∷ node kind.Memo (Read 1) 0 ∷ [])
    (number 1 ∷ number 2 ∷ number 2 ∷ [])

abbrev pub equal : Phase
equal = phase_of equal_opened (did (set 0 (number 1)) (reply.Set 1) ∷ did (set 0 (number 1)) (reply.Set 2) ∷ did (get 1) (reply.Got (number 2) 0) ∷ [])
    (note 1 (fact.Write 0 (number 1)) ∷ note 2 (fact.Write 0 (number 1)) ∷ [])

-- component 1|signal a = 1|memo b = a + 1|memo c = a + 2|memo d = b + c|<p>{d}</p>|---|phase lane set a = 10 get d
abbrev pub diamond_opened : Opened
diamond_opened = opened_with (value (number 1) ∷ nothing ∷ nothing ∷ nothing ∷ nothing ∷ [])
    (signal_in 0 ∷ node kind.Memo (Binary Add (Read 0) (Lit (number 1))) 0 ∷ node kind.Memo (Binary Add (Read 0) (Lit (number 2))) 0 ∷ node kind.Memo (Binary Add (Read 1) (Read 2)) 0 ∷ node kind.Memo (Read 3) 0 ∷ [])
    (number 1 ∷ number 2 ∷ number 3 ∷ number 5 ∷ number 5 ∷ [])

abbrev pub diamond : Phase
diamond = phase_of diamond_opened (did (set 0 (number 10)) (reply.Set 1) ∷ did (get 3) (reply.Got (number 23) 4) ∷ [])
    (note 1 (fact.Write 0 (number 10)) ∷ note 2 (fact.Change 1 (number 11)) ∷ note 3 (fact.Change 2 (number 12)) ∷ note 4 (fact.Change 3 (number 23)) ∷ [])

-- component 1|store s max 1 { t = 0 }|each s {<p>{row.t}</p>}|---|phase lane insert s 1 { t = 5 } insert s 1 { t = 6 } insert s 2 { t = 7 }
abbrev pub store_opened : Opened
store_opened = record {
  held = record { holdings = stored (record { rows = []; max = 1; width = 1 }) ∷ nothing ∷ nothing ∷ nothing ∷ nothing ∷ []; live = true ∷ [] };
  plan = record { nodes = []; owners = top ∷ [] };
  places = [];
  values = [];
  target = λ id key. at_none;
  owner_of = λ id. 0;
}

abbrev pub insert : ℕ → ℕ → ScriptOp
insert key field = op.Change (record { store = 0; op = Insert (number key) (number field ∷ []) 4294967295 })

-- the three inserts, where these come of the first two
abbrev pub inserts : Verdict → Verdict → List Done
inserts one two = did (insert 1 5) (reply.Edited 1 one) ∷ did (insert 1 6) (reply.Edited 2 two) ∷ did (insert 2 7) (reply.Edited 3 verdict.AtMax) ∷ []

abbrev pub edits : Phase
edits = phase_of store_opened (inserts verdict.Done verdict.Present) (note 1 (fact.Edit 1 0) ∷ note 2 (fact.Edit 1 1) ∷ note 3 (fact.Edit 1 2) ∷ [])

-- component 1|area side {|signal x = 1|cleanup "bye"|<i>{x}</i>|}|<b>"end"</b>|---|phase lane dispose side dispose side set side.x = 2
abbrev pub area_opened : Opened
area_opened = record {
  held = record { holdings = nothing ∷ value (number 1) ∷ nothing ∷ []; live = true ∷ true ∷ [] };
  plan = record { nodes = signal_in 1 ∷ node kind.Memo (Read 0) 1 ∷ []; owners = top ∷ record { parent = Some 0; cleanups = 3 ∷ [] } ∷ [] };
  places = outside 1 ∷ outside 2 ∷ [];
  values = number 1 ∷ number 1 ∷ [];
  target = λ id key. at_row 0;
  owner_of = λ id. 1;
}

abbrev pub area : Phase
area = phase_of area_opened (disposed 1 1 0 ∷ disposed 1 0 1 ∷ did (set 1 (number 2)) (reply.Disposed 1) ∷ []) (note 1 (fact.Disposed 1) ∷ [])

-- component 1|signal a = 1|effect log = a * 10|---|phase lane pump set a = 2 pump pump
abbrev pub effect_opened : Opened
effect_opened = opened_with (value (number 1) ∷ nothing ∷ []) (signal_in 0 ∷ node kind.Effect (Binary Mul (Read 0) (Lit (number 10))) 0 ∷ []) (number 1 ∷ number 10 ∷ [])

abbrev pub pumps : Phase
pumps = phase_of effect_opened (pumped 1 0 0 ∷ did (set 0 (number 2)) (reply.Set 2) ∷ pumped 1 0 0 ∷ pumped 0 1 0 ∷ [])
    (note 1 (fact.Ran 1 (number 10)) ∷ note 2 (fact.Write 0 (number 2)) ∷ note 3 (fact.Ran 1 (number 20)) ∷ [])

-- component 1|area side { signal x = 1 effect e = x }|---|phase lane dispose side pump
abbrev pub gone_opened : Opened
gone_opened = record {
  held = record { holdings = nothing ∷ value (number 1) ∷ nothing ∷ []; live = true ∷ true ∷ [] };
  plan = record { nodes = signal_in 1 ∷ node kind.Effect (Read 0) 1 ∷ []; owners = top ∷ record { parent = Some 0; cleanups = [] } ∷ [] };
  places = outside 1 ∷ outside 2 ∷ [];
  values = number 1 ∷ number 1 ∷ [];
  target = λ id key. at_row 0;
  owner_of = λ id. 1;
}

abbrev pub gone : Phase
gone = phase_of gone_opened (disposed 1 1 0 ∷ pumped 0 0 1 ∷ []) (note 1 (fact.Disposed 1) ∷ [])
