-- What kinds of facts there are among what each operation notes.
use Rattle.std.proofs.Common.{◌≡◌, ◌⊎◌, ℕ, true, false, List, [], sym, refl, ap, inl, inr, None}
use Rattle.std.specs.Prelude.{count_by}
use Rattle.std.specs.List.{cons_option}
use Rattle.std.proofs.lemmas.Bool.{true≢false}
use Rattle.values.specs.declared.plan.Noted.{Noted}
use Rattle.values.specs.declared.plan.Fact.{Fact}
use Rattle.values.specs.declared.plan.Fact.TheVariants as fact
use Rattle.script_items.specs.declared.operation.ScriptOp.{ScriptOp}
use Rattle.run_items.specs.declared.answer.Reply.{Reply}
use Rattle.run_items.specs.declared.answer.Reply.TheVariants as reply
use Rattle.run_meaning.specs.Opened.{Opened}
use Rattle.run_meaning.specs.Lane.{number_in}
use Rattle.run_meaning.specs.Entries.{if_own, own_number, own_numbers, is_disposal, owner_in, disposed_by, disposed_in, is_ran_fact, is_ran, is_void_fact, is_void}
use Rattle.run_meaning.specs.Phase.{Phase}
use Rattle.run_history.specs.Going.{Going, all_are, is_edit_by}
use Rattle.run_history.specs.Calls.{is_change, is_of_pump}
use Rattle.run_history.specs.History.{Says}
use Rattle.run_history.proofs.Totals.{none_of, no_count}

-- ---- changes

change_no_own : (f : Fact) (k : ℕ) → is_change f ≡ true → if_own f k ≡ None
change_no_own (fact.Write n c) k e = absurd (true≢false (sym e))
change_no_own (fact.Change n c) k e = refl
change_no_own (fact.Ran n c) k e = absurd (true≢false (sym e))
change_no_own (fact.Void n) k e = absurd (true≢false (sym e))
change_no_own (fact.Disposed n) k e = absurd (true≢false (sym e))
change_no_own (fact.Edit p i) k e = absurd (true≢false (sym e))

change_no_owner : (f : Fact) → is_change f ≡ true → owner_in f ≡ None
change_no_owner (fact.Write n c) e = absurd (true≢false (sym e))
change_no_owner (fact.Change n c) e = refl
change_no_owner (fact.Ran n c) e = absurd (true≢false (sym e))
change_no_owner (fact.Void n) e = absurd (true≢false (sym e))
change_no_owner (fact.Disposed n) e = absurd (true≢false (sym e))
change_no_owner (fact.Edit p i) e = absurd (true≢false (sym e))

change_no_ran : (f : Fact) → is_change f ≡ true → is_ran_fact f ≡ false
change_no_ran (fact.Write n c) e = refl
change_no_ran (fact.Change n c) e = refl
change_no_ran (fact.Ran n c) e = absurd (true≢false (sym e))
change_no_ran (fact.Void n) e = refl
change_no_ran (fact.Disposed n) e = refl
change_no_ran (fact.Edit p i) e = refl

change_no_void : (f : Fact) → is_change f ≡ true → is_void_fact f ≡ false
change_no_void (fact.Write n c) e = refl
change_no_void (fact.Change n c) e = refl
change_no_void (fact.Ran n c) e = refl
change_no_void (fact.Void n) e = absurd (true≢false (sym e))
change_no_void (fact.Disposed n) e = refl
change_no_void (fact.Edit p i) e = refl

change_no_edit : (pass : ℕ) (f : Fact) → is_change f ≡ true → is_edit_by pass f ≡ false
change_no_edit pass (fact.Write n c) e = refl
change_no_edit pass (fact.Change n c) e = refl
change_no_edit pass (fact.Ran n c) e = refl
change_no_edit pass (fact.Void n) e = refl
change_no_edit pass (fact.Disposed n) e = refl
change_no_edit pass (fact.Edit p i) e = absurd (true≢false (sym e))

pub changes_no_own : (es : List Noted) → all_are is_change es ≡ true → own_numbers es ≡ []
changes_no_own es a = none_of is_change own_number (λ e t. change_no_own e.fact e.number t) es a

pub changes_no_owner : (es : List Noted) → all_are is_change es ≡ true → disposed_in es ≡ []
changes_no_owner es a = none_of is_change disposed_by (λ e t. change_no_owner e.fact t) es a

pub changes_no_ran : (es : List Noted) → all_are is_change es ≡ true → count_by is_ran es ≡ 0
changes_no_ran es a = no_count is_change is_ran (λ e t. change_no_ran e.fact t) es a

pub changes_no_void : (es : List Noted) → all_are is_change es ≡ true → count_by is_void es ≡ 0
changes_no_void es a = no_count is_change is_void (λ e t. change_no_void e.fact t) es a

pub changes_no_edit : (pass : ℕ) (es : List Noted) → all_are is_change es ≡ true → count_by (λ e. is_edit_by pass e.fact) es ≡ 0
changes_no_edit pass es a = no_count is_change (λ e. is_edit_by pass e.fact) (λ e t. change_no_edit pass e.fact t) es a

-- ---- what pumps note

pump_no_own : (f : Fact) (k : ℕ) → is_of_pump f ≡ true → if_own f k ≡ None
pump_no_own (fact.Write n c) k e = absurd (true≢false (sym e))
pump_no_own (fact.Change n c) k e = refl
pump_no_own (fact.Ran n c) k e = refl
pump_no_own (fact.Void n) k e = refl
pump_no_own (fact.Disposed n) k e = absurd (true≢false (sym e))
pump_no_own (fact.Edit p i) k e = absurd (true≢false (sym e))

pump_no_owner : (f : Fact) → is_of_pump f ≡ true → owner_in f ≡ None
pump_no_owner (fact.Write n c) e = refl
pump_no_owner (fact.Change n c) e = refl
pump_no_owner (fact.Ran n c) e = refl
pump_no_owner (fact.Void n) e = refl
pump_no_owner (fact.Disposed n) e = absurd (true≢false (sym e))
pump_no_owner (fact.Edit p i) e = refl

pump_no_edit : (pass : ℕ) (f : Fact) → is_of_pump f ≡ true → is_edit_by pass f ≡ false
pump_no_edit pass (fact.Write n c) e = refl
pump_no_edit pass (fact.Change n c) e = refl
pump_no_edit pass (fact.Ran n c) e = refl
pump_no_edit pass (fact.Void n) e = refl
pump_no_edit pass (fact.Disposed n) e = refl
pump_no_edit pass (fact.Edit p i) e = absurd (true≢false (sym e))

pub pumps_no_own : (es : List Noted) → all_are is_of_pump es ≡ true → own_numbers es ≡ []
pumps_no_own es a = none_of is_of_pump own_number (λ e t. pump_no_own e.fact e.number t) es a

pub pumps_no_owner : (es : List Noted) → all_are is_of_pump es ≡ true → disposed_in es ≡ []
pumps_no_owner es a = none_of is_of_pump disposed_by (λ e t. pump_no_owner e.fact t) es a

pub pumps_no_edit : (pass : ℕ) (es : List Noted) → all_are is_of_pump es ≡ true → count_by (λ e. is_edit_by pass e.fact) es ≡ 0
pumps_no_edit pass es a = no_count is_of_pump (λ e. is_edit_by pass e.fact) (λ e t. pump_no_edit pass e.fact t) es a

-- ---- disposals

disposal_no_own : (f : Fact) (k : ℕ) → is_disposal f ≡ true → if_own f k ≡ None
disposal_no_own (fact.Write n c) k e = absurd (true≢false (sym e))
disposal_no_own (fact.Change n c) k e = refl
disposal_no_own (fact.Ran n c) k e = refl
disposal_no_own (fact.Void n) k e = refl
disposal_no_own (fact.Disposed n) k e = refl
disposal_no_own (fact.Edit p i) k e = absurd (true≢false (sym e))

disposal_no_ran : (f : Fact) → is_disposal f ≡ true → is_ran_fact f ≡ false
disposal_no_ran (fact.Write n c) e = refl
disposal_no_ran (fact.Change n c) e = refl
disposal_no_ran (fact.Ran n c) e = absurd (true≢false (sym e))
disposal_no_ran (fact.Void n) e = refl
disposal_no_ran (fact.Disposed n) e = refl
disposal_no_ran (fact.Edit p i) e = refl

disposal_no_void : (f : Fact) → is_disposal f ≡ true → is_void_fact f ≡ false
disposal_no_void (fact.Write n c) e = refl
disposal_no_void (fact.Change n c) e = refl
disposal_no_void (fact.Ran n c) e = refl
disposal_no_void (fact.Void n) e = absurd (true≢false (sym e))
disposal_no_void (fact.Disposed n) e = refl
disposal_no_void (fact.Edit p i) e = refl

disposal_no_edit : (pass : ℕ) (f : Fact) → is_disposal f ≡ true → is_edit_by pass f ≡ false
disposal_no_edit pass (fact.Write n c) e = refl
disposal_no_edit pass (fact.Change n c) e = refl
disposal_no_edit pass (fact.Ran n c) e = refl
disposal_no_edit pass (fact.Void n) e = refl
disposal_no_edit pass (fact.Disposed n) e = refl
disposal_no_edit pass (fact.Edit p i) e = absurd (true≢false (sym e))

pub disposals_no_own : (es : List Noted) → all_are is_disposal es ≡ true → own_numbers es ≡ []
disposals_no_own es a = none_of is_disposal own_number (λ e t. disposal_no_own e.fact e.number t) es a

pub disposals_no_ran : (es : List Noted) → all_are is_disposal es ≡ true → count_by is_ran es ≡ 0
disposals_no_ran es a = no_count is_disposal is_ran (λ e t. disposal_no_ran e.fact t) es a

pub disposals_no_void : (es : List Noted) → all_are is_disposal es ≡ true → count_by is_void es ≡ 0
disposals_no_void es a = no_count is_disposal is_void (λ e t. disposal_no_void e.fact t) es a

pub disposals_no_edit : (pass : ℕ) (es : List Noted) → all_are is_disposal es ≡ true → count_by (λ e. is_edit_by pass e.fact) es ≡ 0
disposals_no_edit pass es a = no_count is_disposal (λ e. is_edit_by pass e.fact) (λ e t. disposal_no_edit pass e.fact t) es a

-- ---- what each reply leaves of each

module _ (past : List Phase) (o : Opened) (g : Going) (block : List Noted) (h : Going) (pass : ℕ) (x : ScriptOp) where
  -- own numbers: that of the reply alone
  pub own_here : (r : Reply) → Says past o g block h pass x r → own_numbers block ≡ cons_option (number_in r) []
  own_here (reply.Set n) s = ap own_numbers s.4.block_is
  own_here (reply.Edited n v) s = ap own_numbers s.block_is
  own_here (reply.Got v n) s = changes_no_own block s.2.changes
  own_here (reply.Pumped y) s = pumps_no_own block s.of_pump
  own_here (reply.Disposal y) s = disposals_no_own block s.2.disposals
  own_here reply.NoRow s = ap own_numbers s.0.0
  own_here (reply.Busy n) s = absurd s
  own_here (reply.Again n) s = absurd s
  own_here (reply.Disposed n) s = ap own_numbers s.0.0
  own_here (reply.Full n) s = changes_no_own block s.changes

  -- what is noted are disposals, or none is
  pub one_kind : (r : Reply) → Says past o g block h pass x r → (disposed_in block ≡ []) ⊎ (all_are is_disposal block ≡ true)
  one_kind (reply.Set n) s = inl (ap disposed_in s.4.block_is)
  one_kind (reply.Edited n v) s = inl (ap disposed_in s.block_is)
  one_kind (reply.Got v n) s = inl (changes_no_owner block s.2.changes)
  one_kind (reply.Pumped y) s = inl (pumps_no_owner block s.of_pump)
  one_kind (reply.Disposal y) s = inr s.2.disposals
  one_kind reply.NoRow s = inl (ap disposed_in s.0.0)
  one_kind (reply.Busy n) s = absurd s
  one_kind (reply.Again n) s = absurd s
  one_kind (reply.Disposed n) s = inl (ap disposed_in s.0.0)
  one_kind (reply.Full n) s = inl (changes_no_owner block s.changes)
