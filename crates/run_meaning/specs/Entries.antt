-- What the entries of a phase say. They stand in order of number.
use Rattle.std.specs.Prelude.{ℕ, ◌==◌, if◌then◌else◌, Bool, true, false, Option, Some, None, is_some, List, [], ◌∷◌, filter_map}
use Rattle.std.specs.List.{last_or}
use Rattle.values.specs.declared.code.Code.{Code}
use Rattle.values.specs.declared.plan.Noted.{Noted}
use Rattle.values.specs.declared.plan.Fact.{Fact}
use Rattle.values.specs.declared.plan.Fact.TheVariants as fact

-- the fact that is noted under a number
abbrev pub fact_at : ℕ → List Noted → Option Fact
fact_at n [] = None
fact_at n (e ∷ es) = if n == e.number then Some e.fact else fact_at n es

-- ---- writes and edits, which belong to one operation each

abbrev pub if_own : Fact → ℕ → Option ℕ
if_own (fact.Write row code) n = Some n
if_own (fact.Change row code) n = None
if_own (fact.Ran row code) n = None
if_own (fact.Void row) n = None
if_own (fact.Disposed owner) n = None
if_own (fact.Edit pass index) n = Some n

-- the number, where the entry is a write or an edit
abbrev pub own_number : Noted → Option ℕ
own_number e = if_own e.fact e.number

abbrev pub own_numbers : List Noted → List ℕ
own_numbers es = filter_map own_number es

-- the value, where the fact is a write of this row
abbrev pub written_of : ℕ → Fact → Option Code
written_of n (fact.Write row code) = if n == row then Some code else None
written_of n (fact.Change row code) = None
written_of n (fact.Ran row code) = None
written_of n (fact.Void row) = None
written_of n (fact.Disposed owner) = None
written_of n (fact.Edit pass index) = None

-- that of the write of the row with the greatest number
abbrev pub last_write : List Noted → ℕ → Option Code
last_write es n = last_or None (filter_map (λ e. written_of n e.fact) es)

-- ---- changes

abbrev pub changed_of : ℕ → Fact → Option Code
changed_of n (fact.Write row code) = None
changed_of n (fact.Change row code) = if n == row then Some code else None
changed_of n (fact.Ran row code) = None
changed_of n (fact.Void row) = None
changed_of n (fact.Disposed owner) = None
changed_of n (fact.Edit pass index) = None

-- that of the last change of the row
abbrev pub last_change : List Noted → ℕ → Option Code
last_change es n = last_or None (filter_map (λ e. changed_of n e.fact) es)

-- ---- runs of effects

abbrev pub is_ran_fact : Fact → Bool
is_ran_fact (fact.Write row code) = false
is_ran_fact (fact.Change row code) = false
is_ran_fact (fact.Ran row code) = true
is_ran_fact (fact.Void row) = false
is_ran_fact (fact.Disposed owner) = false
is_ran_fact (fact.Edit pass index) = false

abbrev pub is_ran : Noted → Bool
is_ran e = is_ran_fact e.fact

abbrev pub is_void_fact : Fact → Bool
is_void_fact (fact.Write row code) = false
is_void_fact (fact.Change row code) = false
is_void_fact (fact.Ran row code) = false
is_void_fact (fact.Void row) = true
is_void_fact (fact.Disposed owner) = false
is_void_fact (fact.Edit pass index) = false

abbrev pub is_void : Noted → Bool
is_void e = is_void_fact e.fact

-- the value of a run of this row
abbrev pub ran_of : ℕ → Fact → Option Code
ran_of n (fact.Write row code) = None
ran_of n (fact.Change row code) = None
ran_of n (fact.Ran row code) = if n == row then Some code else None
ran_of n (fact.Void row) = None
ran_of n (fact.Disposed owner) = None
ran_of n (fact.Edit pass index) = None

-- that of the last run of the row
abbrev pub last_ran : List Noted → ℕ → Option Code
last_ran es n = last_or None (filter_map (λ e. ran_of n e.fact) es)

-- ---- disposals

abbrev pub owner_in : Fact → Option ℕ
owner_in (fact.Write row code) = None
owner_in (fact.Change row code) = None
owner_in (fact.Ran row code) = None
owner_in (fact.Void row) = None
owner_in (fact.Disposed owner) = Some owner
owner_in (fact.Edit pass index) = None

abbrev pub is_disposal : Fact → Bool
is_disposal f = is_some (owner_in f)

abbrev pub disposed_by : Noted → Option ℕ
disposed_by e = owner_in e.fact

-- the owners that are disposed, in order
abbrev pub disposed_in : List Noted → List ℕ
disposed_in es = filter_map disposed_by es
