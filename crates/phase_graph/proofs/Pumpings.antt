-- What a part of a pump notes.
use Rattle.std.proofs.Common.{◌≡◌, ℕ, ◌+◌, ◌≤◌, cond, Bool, true, List, [], ◌∷◌, ◌++◌, refl, ◌∙◌, arith}
use Rattle.std.specs.Prelude.{count_by}
use Rattle.std.proofs.lemmas.List.Sums.{sum_by-append}
use Rattle.values.specs.declared.plan.Fact.{Fact}
use Rattle.values.specs.declared.plan.Fact.TheVariants as fact
use Rattle.values.specs.declared.plan.Noted.{Noted}
use Rattle.run_meaning.specs.Entries.{is_ran, is_void}
use Rattle.run_history.specs.Going.{Start, Going, note, all_are, Goes, writes_nothing}
use Rattle.run_history.specs.Calls.{is_change, is_of_pump}
use Rattle.run_history.proofs.Disposals.{in_all}
use Rattle.run_history.proofs.Facts.{changes_no_ran, changes_no_void}
use Rattle.run_history.proofs.Steps.{goes_on}
use Rattle.phase_graph.proofs.Blocks.{all_from_in, all_append}

-- so many runs are noted, and at most so many numbers that came to nothing
pub record IsPumping (s : Start) (g : Going) (block : List Noted) (h : Going) (ran void : ℕ) : Type 0 where
  pub goes : Goes s g block h
  pub of_pump : all_are is_of_pump block ≡ true
  pub runs : count_by is_ran block ≡ ran
  pub voids : count_by is_void block ≤ void

pub count_append : {A : Type 0} (p : A → Bool) (xs ys : List A) → count_by p (xs ++ ys) ≡ count_by p xs + count_by p ys
count_append p xs ys = sum_by-append (λ x. cond (p x) 1 0) xs ys

pump_is_silent : (f : Fact) → is_of_pump f ≡ true → writes_nothing f ≡ true
pump_is_silent (fact.Write row code) e = cc
pump_is_silent (fact.Change row code) e = refl
pump_is_silent (fact.Ran row code) e = refl
pump_is_silent (fact.Void row) e = refl
pump_is_silent (fact.Disposed owner) e = refl
pump_is_silent (fact.Edit pass index) e = refl

change_is_of_pump : (f : Fact) → is_change f ≡ true → is_of_pump f ≡ true
change_is_of_pump (fact.Write row code) e = cc
change_is_of_pump (fact.Change row code) e = refl
change_is_of_pump (fact.Ran row code) e = refl
change_is_of_pump (fact.Void row) e = refl
change_is_of_pump (fact.Disposed owner) e = cc
change_is_of_pump (fact.Edit pass index) e = cc

pub pumping_silent : (block : List Noted) → all_are is_of_pump block ≡ true → all_are writes_nothing block ≡ true
pumping_silent block pumps = all_from_in writes_nothing block (λ e i. pump_is_silent e.fact (in_all is_of_pump block e pumps i))

-- nothing is noted
pub pumping_none : (s : Start) (g h : Going) → Goes s g [] h → IsPumping s g [] h 0 0
pumping_none s g h goes = record { goes = goes; of_pump = refl; runs = refl; voids = omega arith }

-- changes alone are noted
pub pumping_changes : (s : Start) (g : Going) (block : List Noted) (h : Going) → Goes s g block h → all_are is_change block ≡ true → IsPumping s g block h 0 0
pumping_changes s g block h goes changes = record {
  goes = goes;
  of_pump = all_from_in is_of_pump block (λ e i. change_is_of_pump e.fact (in_all is_change block e changes i));
  runs = changes_no_ran block changes;
  voids = (let v = changes_no_void block changes in omega arith);
}

pub pumping_void : (s : Start) (g h : Going) (n row : ℕ) → Goes s g (note n (fact.Void row) ∷ []) h → IsPumping s g (note n (fact.Void row) ∷ []) h 0 1
pumping_void s g h n row goes = record { goes = goes; of_pump = refl; runs = refl; voids = omega arith }

-- and then more
pub pumping_on : (s : Start) (g : Going) (first : List Noted) (h : Going) (second : List Noted) (k : Going) (ran ran' void void' : ℕ) → IsPumping s g first h ran void → IsPumping s h second k ran' void' → IsPumping s g (first ++ second) k (ran + ran') (void + void')
pumping_on s g first h second k ran ran' void void' a b = record {
  goes = goes_on s g first h second k a.goes b.goes (pumping_silent second b.of_pump);
  of_pump = all_append is_of_pump first second a.of_pump b.of_pump;
  runs = (let e = count_append is_ran first second in let x = a.runs in let y = b.runs in omega arith);
  voids = (let e = count_append is_void first second in let x = a.voids in let y = b.voids in omega arith);
}

pub pumping_as : (s : Start) (g : Going) (block : List Noted) (h : Going) (ran ran' void void' : ℕ) → ran ≡ ran' → void ≡ void' → IsPumping s g block h ran void → IsPumping s g block h ran' void'
pumping_as s g block h ran ran' void void' r v p = record { goes = p.goes; of_pump = p.of_pump; runs = p.runs ∙ r; voids = (let w = p.voids in omega arith) }
