-- A phase that was run, and when its journal is well formed.
use Rattle.std.specs.Prelude.{◌≡◌, ℕ, ◌<◌, ◌≤◌, true, min, map, List, [], ◌∷◌, ◌++◌, length}
use Rattle.values.specs.declared.plan.Kind.TheVariants as kind
use Rattle.values.specs.declared.plan.Noted.{Noted}
use Rattle.values.specs.declared.plan.Fact.{Fact}
use Rattle.values.specs.declared.plan.Fact.TheVariants as fact
use Rattle.run_items.specs.declared.limits.TheConstants.{LAST_NUMBER}
use Rattle.run_items.specs.Journal.{PassCounts}
use Rattle.run_meaning.specs.Words.{In, GrowsFrom}
use Rattle.run_meaning.specs.Opened.{Opened, IsKind}
use Rattle.run_meaning.specs.Explained.{IsWritten}
use Rattle.run_meaning.specs.Entries.{is_disposal, disposed_in}
use Rattle.run_meaning.specs.Lane.{Done}

-- what it opened with, what each lane did, how many numbers were drawn, and what the journal has of it
pub record Phase : Type 0 where
  pub opened : Opened
  pub lanes : List (List Done)
  pub drawn : ℕ
  pub base : ℕ
  pub entries : List Noted
  pub counts : List PassCounts

abbrev pub entry_numbers : List Noted → List ℕ
entry_numbers es = map (λ e. e.number) es

-- the fact is of a row or an owner of the plan, and of a row of its kind; which edits there are is said of replies
abbrev pub IsOfPlan : Opened → Fact → Type 0
IsOfPlan o (fact.Write row code) = IsWritten o row
IsOfPlan o (fact.Change row code) = IsKind o row kind.Memo
IsOfPlan o (fact.Ran row code) = IsKind o row kind.Effect
IsOfPlan o (fact.Void row) = IsKind o row kind.Effect
IsOfPlan o (fact.Disposed owner) = owner < length o.plan.owners
IsOfPlan o (fact.Edit pass index) = Unit {0}

-- the journal of a phase is well formed, where so many numbers were drawn
pub record IsJournal (o : Opened) (drawn : ℕ) (es : List Noted) : Type 0 where
  -- entries stand in order of number, so no number has two
  pub in_order : GrowsFrom 0 (entry_numbers es)
  pub drawn_all : (n : ℕ) → In n (entry_numbers es) → n ≤ drawn
  -- each number that was drawn has an entry, up to the last one that is noted
  pub complete : (n : ℕ) → 0 < n → n ≤ min drawn LAST_NUMBER → In n (entry_numbers es)
  -- above that stand disposals alone
  pub late : (e : Noted) → In e es → LAST_NUMBER < e.number → is_disposal e.fact ≡ true
  pub of_plan : (e : Noted) → In e es → IsOfPlan o e.fact

-- the owners that were disposed in these phases
abbrev pub disposed_before : List Phase → List ℕ
disposed_before [] = []
disposed_before (p ∷ ps) = disposed_in p.entries ++ disposed_before ps
