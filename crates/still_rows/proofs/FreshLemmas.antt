-- Rows before anything is written are good.
use Rattle.std.proofs.Common.{◌≡◌, ℕ, suc, ◌+◌, ◌≤◌, ◌⊎◌, inl, inr, Bool, true, false, not, if◌then◌else◌, ◌==◌, Result, Ok, Err, OnErr, IfSome, List, [], ◌∷◌, ◌++◌, filter, slice_get, length, Option, Some, None, sym, ap, ◌∙◌, arith}
use Rattle.values.specs.declared.plan.PlanNode.{PlanNode}
use Rattle.values.specs.Evaluation.{distinct}
use Rattle.values.specs.Plan.{rows_in, names_of}
use Rattle.sources.specs.declared.body.Read.{Read}
use Rattle.sources.specs.declared.opening.Opened.{Opened}
use Rattle.sources.specs.Colours.{is_clean}
use Rattle.sources.specs.Rows.{IsGood, IsDated, IsRoomy}
use Rattle.still_readers.proofs.Lists.{within_at, at_within, snoc_at, one_at, length_more}
use Rattle.still_readers.specs.declared.readers.Readers.{Readers}
use Rattle.still_readers.specs.Readers.{IsReadersOf}
use Rattle.still_rows.specs.declared.clock.Clock.{Clock}
use Rattle.still_rows.specs.Clock.{IsClock}
use Rattle.still_rows.specs.Frames.{AreLawful}
use Rattle.still_rows.specs.Works.{IsStill}
use Rattle.still_rows.specs.Fresh.{IsFreshRow, AreFreshRows, fresh_colour}

filter_short : (p : ℕ → Bool) (xs : List ℕ) → length (filter p xs) ≤ length xs
filter_short p [] = omega arith
filter_short p (x ∷ xs) = by (p x) (filter_short p xs)
  where
    by : (b : Bool) → length (filter p xs) ≤ length xs → length (if b then x ∷ filter p xs else filter p xs) ≤ suc (length xs)
    by true h = omega arith
    by false h = omega arith

distinct_short : (xs : List ℕ) → length (distinct xs) ≤ length xs
distinct_short [] = omega arith
distinct_short (x ∷ xs) = let a = distinct_short xs in let b = filter_short (λ r. not (r == x)) (distinct xs) in omega arith

pub names_short : (node : PlanNode) → length (names_of node.expr) ≤ length (rows_in node.expr)
names_short node = distinct_short (rows_in node.expr)

nothing : (reads : List Read) (k : ℕ) (x : Read) → reads ≡ [] → slice_get reads k ≡ Some x → ⊥
nothing reads k x e at = let none : slice_get [] k ≡ Some x = ap (λ (l : List Read). slice_get l k) (sym e) ∙ at in cc

pub fresh_good : (nodes : List PlanNode) (rows : List Opened) → AreFreshRows nodes (length nodes) rows → IsGood nodes rows
fresh_good nodes rows fresh = record {
  paired = fresh.counted;
  each = (λ i node row n r. let f = fresh.each i node row n r in record {
    is_packed = f.is_packed;
    source = (λ d. ap is_clean (f.colour ∙ ap fresh_colour d));
    derived = (λ d. record {
      fresh = (λ _. f.colour ∙ ap fresh_colour d);
      right = (λ ran. absurd (ran f.cause));
      known = (λ k x e. absurd (nothing row.body.reads.list k x f.reads e));
      clean = (λ c k x e. absurd (nothing row.body.reads.list k x f.reads e));
    });
  });
}

pub fresh_dated : (nodes : List PlanNode) (rows : List Opened) → AreFreshRows nodes (length nodes) rows → IsDated rows 0
fresh_dated nodes rows fresh = record {
  held = (λ i row r. let f = row_of i row r in let v = f.version in omega arith);
  recorded = (λ i row r k x e. absurd (nothing row.body.reads.list k x (row_of i row r).reads e));
}
  where
    node_at : (i : ℕ) (row : Opened) → slice_get rows i ≡ Some row → (node : PlanNode) × (slice_get nodes i ≡ Some node)
    node_at i row r = within_at nodes i (let w = at_within rows i row r in let c = fresh.counted in omega arith)

    row_of : (i : ℕ) (row : Opened) (r : slice_get rows i ≡ Some row) → IsFreshRow (node_at i row r).0 row
    row_of i row r = let n = node_at i row r in fresh.each i n.0 row n.1 r

pub fresh_roomy : (nodes : List PlanNode) (rows : List Opened) → AreFreshRows nodes (length nodes) rows → IsRoomy nodes rows
fresh_roomy nodes rows fresh = record { each = (λ i node row n r d. let a = (fresh.each i node row n r).room in let b = names_short node in omega arith) }

-- one row more
pub fresh_more : (nodes : List PlanNode) (count : ℕ) (node : PlanNode) (row : Opened) (rows : List Opened) → slice_get nodes count ≡ Some node → IsFreshRow node row → AreFreshRows nodes count rows → AreFreshRows nodes (count + 1) (rows ++ row ∷ [])
fresh_more nodes count node row rows here is fresh = record {
  counted = (let a = length_more rows row in let b = fresh.counted in omega arith);
  each = (λ i other y n at. by i other y n (snoc_at rows row i y at));
}
  where
    by : (i : ℕ) (other : PlanNode) (y : Opened) → slice_get nodes i ≡ Some other → (slice_get rows i ≡ Some y) ⊎ ((i ≡ length rows) × (y ≡ row)) → IsFreshRow other y
    by i other y n (inl at) = fresh.each i other y n at
    by i other y n (inr (e, f)) =
        let same : other ≡ node = one_at other node n (rw (e, fresh.counted) here) in
        rw (same, f) is

pub fresh_none : (nodes : List PlanNode) (rows : List Opened) → rows ≡ [] → AreFreshRows nodes 0 rows
fresh_none nodes rows e = record { counted = ap length e; each = (λ i node row n r. let none : slice_get [] i ≡ Some row = ap (λ (l : List Opened). slice_get l i) (sym e) ∙ r in cc) }

-- what holds holds where a result is an error
pub any_err : {A E : Type 0} {P : Type 0} (r : Result A E) → P → OnErr r P
any_err (Ok a) p = tt
any_err (Err e) p = p

pub some_as : {A : Type 0} (o : Option A) (P Q : A → Type 0) → ((x : A) → P x → Q x) → IfSome o P → IfSome o Q
some_as None P Q f h = tt
some_as (Some x) P Q f h = f x h

-- rows before anything is written, with the readers of the plan, hold what the calls keep
pub fresh_still : (nodes : List PlanNode) (rows : List Opened) (readers : Readers) (c : Clock) → AreLawful nodes → AreFreshRows nodes (length nodes) rows → IsReadersOf nodes readers → IsClock c → IsStill nodes rows readers c
fresh_still nodes rows readers c lawful fresh of_plan clock = record {
  lawful = lawful;
  good = fresh_good nodes rows fresh;
  dated = record {
    held = (λ i row r. let h = (fresh_dated nodes rows fresh).held i row r in omega arith);
    recorded = (λ i row r k x e. let h = (fresh_dated nodes rows fresh).recorded i row r k x e in omega arith);
  };
  roomy = fresh_roomy nodes rows fresh;
  of_plan = of_plan;
  enrolled = record { each = (λ i node row n r d ran k x e. absurd (ran (fresh.each i node row n r).cause)) };
  ticks = clock;
}
