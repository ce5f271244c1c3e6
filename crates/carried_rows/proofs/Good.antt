-- Good rows that go over are good rows of the new plan.
use Rattle.std.proofs.Common.{◌≡◌, ◌≢◌, ℕ, zero, suc, ◌≤◌, List, [], ◌∷◌, map, length, slice_get, Contains, Option, Some, None, refl, sym, ap, subst, ◌∙◌, arith}
use Rattle.std.proofs.lemmas.List.{length-map}
use Rattle.values.specs.declared.plan.PlanNode.{PlanNode}
use Rattle.values.specs.Evaluation.{distinct}
use Rattle.values.specs.Plan.{rows_in, names_of}
use Rattle.values.specs.PlanValues.{ReadsBack}
use Rattle.values.proofs.PlanLemmas.{reads_named}
use Rattle.sources.specs.declared.body.Read.{Read}
use Rattle.sources.specs.declared.body.Cause.{Cause}
use Rattle.sources.specs.declared.body.Cause.TheVariants.{First, Changed}
use Rattle.sources.specs.declared.opening.Opened.{Opened}
use Rattle.sources.specs.Bodies.{recorded_value, IsRight}
use Rattle.sources.specs.Colours.{is_clean}
use Rattle.sources.specs.Rows.{IsRecorded, IsPresent, IsDerivedGood}
use Rattle.plain_evaluation.specs.Place.{Place}
use Rattle.plan_meaning.specs.Carried.{moved_row, node_renumbered, IsCarried}
use Rattle.plan_meaning.specs.Layout.{row_of}
use Rattle.plan_meaning.specs.Renamed.{renumbered}
use Rattle.plan_meaning.proofs.Renumbered.{rows_renumbered, distinct_moved}
use Rattle.plan_meaning.proofs.Rows.{map_at}
use Rattle.carried_rows.specs.Moved.{read_moved, cause_moved, HasMoved, GoOver, ArePaired}
use Rattle.carried_rows.specs.Named.{IsNamed}
use Rattle.carried_rows.proofs.Right.{IsInjectiveOn, right_moved}

-- ---- elements by place

one_at : {A : Type 0} {o : Option A} (x y : A) → o ≡ Some x → o ≡ Some y → x ≡ y
one_at x y h k = cc

pub there_is : {A B : Type 0} (xs : List A) (ys : List B) (s : ℕ) (x : A) → length xs ≡ length ys → slice_get xs s ≡ Some x → (y : B) × (slice_get ys s ≡ Some y)
there_is [] ys s x long is = cc
there_is (z ∷ xs) [] s x long is = absurd (omega (arith, long))
there_is (z ∷ xs) (y ∷ ys) zero x long is = (y, refl)
there_is (z ∷ xs) (y ∷ ys) (suc s) x long is = there_is xs ys s x (omega (arith, long)) is

contains_at : (reads : List Read) (k : ℕ) (x : Read) → slice_get reads k ≡ Some x → Contains (map (λ y. y.row) reads) x.row
contains_at [] k x is = cc
contains_at (y ∷ reads) zero x is = let e : y ≡ x = cc in (zero, omega arith, ap (λ (z : Read). z.row) e)
contains_at (y ∷ reads) (suc k) x is = let t = contains_at reads k x is in (suc t.0, (let l = t.1 in omega arith), t.2)

contains_mapped : (f : ℕ → ℕ) (xs : List ℕ) (a : ℕ) → Contains xs a → Contains (map f xs) (f a)
contains_mapped f [] a (k, l, e) = absurd (omega (arith, l))
contains_mapped f (x ∷ xs) a (zero, l, e) = (zero, omega arith, ap f e)
contains_mapped f (x ∷ xs) a (suc k, l, e) = let t = contains_mapped f xs a (k, omega (arith, l), e) in (suc t.0, (let w = t.1 in omega arith), t.2)

pub none_at : (reads : List Read) (k : ℕ) (x : Read) → reads ≡ [] → slice_get reads k ≡ Some x → ⊥
none_at [] k x e h = cc
none_at (y ∷ reads) k x e h = cc

-- ---- what a body names

no_cause : (number : ℕ → ℕ) (o : Option Cause) → cause_moved number o ≡ None → o ≡ None
no_cause number None h = refl
no_cause number (Some First) h = cc
no_cause number (Some (Changed source old new)) h = cc

source_of_cause : (number : ℕ → ℕ) (o : Option Cause) (source old new : ℕ) → cause_moved number o ≡ Some (Changed source old new) → (was : ℕ) × (o ≡ Some (Changed was old new)) × (number was ≡ source)
source_of_cause number None source old new h = cc
source_of_cause number (Some First) source old new h = cc
source_of_cause number (Some (Changed k a b)) source old new h =
    let same : number k ≡ source = cc in
    let first : a ≡ old = cc in
    let second : b ≡ new = cc in
    (k, (λ i. Some (Changed k (first i) (second i))), same)

some_cause : (cause : Cause) → Some cause ≡ None → ⊥
some_cause cause h = cc

-- each recorded source is named
source_named : (node : PlanNode) (row : Opened) → IsNamed node row → (row.body.cause ≢ None → IsRight node.expr row.body.reads.list row.code) → (k : ℕ) (x : Read) → slice_get row.body.reads.list k ≡ Some x → Contains (rows_in node.expr) x.row
source_named node row named right k x at = by row.body.cause refl
  where
    by : (o : Option Cause) → row.body.cause ≡ o → Contains (rows_in node.expr) x.row
    by None none = absurd (none_at row.body.reads.list k x (named.unread none) at)
    by (Some cause) some =
        let r = right (λ none. some_cause cause (sym some ∙ none)) in
        reads_named node.expr (recorded_value row.body.reads.list) x.row (subst (λ (xs : List ℕ). Contains xs x.row) r.read (contains_at row.body.reads.list k x at))

-- ---- a place in both layouts

-- what its node names goes to different rows
injective : (old new : List Place) (nodes later : List PlanNode) → IsCarried old new nodes later → (r s : ℕ) (p : Place) (n : PlanNode) → slice_get old r ≡ Some p → slice_get new s ≡ Some p → slice_get nodes r ≡ Some n → (a b : ℕ) → Contains (rows_in n.expr) a → Contains (rows_in n.expr) b → moved_row old new a ≡ moved_row old new b → a ≡ b
injective old new nodes later c r s p n at_old at_new at_node a b has_a has_b same =
    let q = c.named r s p n at_old at_new at_node a has_a in
    let t = c.named r s p n at_old at_new at_node b has_b in
    let e : q.0 ≡ t.0 = one_at q.0 t.0 (subst (λ k. slice_get new k ≡ Some q.0) same q.2) t.2 in
    one_at a b (c.apart a q.0 q.1) (ap (row_of old) e ∙ c.apart b t.0 t.1)

pub names_as_many : (old new : List Place) (nodes later : List PlanNode) → IsCarried old new nodes later → (r s : ℕ) (p : Place) (n m : PlanNode) → slice_get old r ≡ Some p → slice_get new s ≡ Some p → slice_get nodes r ≡ Some n → slice_get later s ≡ Some m → length (names_of m.expr) ≡ length (names_of n.expr)
names_as_many old new nodes later c r s p n m at_old at_new at_node at_later =
    ap (λ (node : PlanNode). length (names_of node.expr)) (c.node r s p n m at_old at_new at_node at_later)
    ∙ ap (λ xs. length (distinct xs)) (rows_renumbered n.expr (moved_row old new))
    ∙ ap length (distinct_moved (moved_row old new) (rows_in n.expr) (injective old new nodes later c r s p n at_old at_new at_node))
    ∙ length-map (distinct (rows_in n.expr)) (moved_row old new)

module _ (old new : List Place) (nodes later : List PlanNode) (rows first after : List Opened) (c : IsCarried old new nodes later) (was : ArePaired old nodes rows) (over : GoOver old new rows first after) (back : ReadsBack later) (r s : ℕ) (p : Place) (n m : PlanNode) (one two : Opened) (at_old : slice_get old r ≡ Some p) (at_new : slice_get new s ≡ Some p) (at_node : slice_get nodes r ≡ Some n) (at_later : slice_get later s ≡ Some m) (named : IsNamed n one) (moved : HasMoved (moved_row old new) one two) where
  abbrev number : ℕ → ℕ
  number = moved_row old new

  same_node : m ≡ node_renumbered number n
  same_node = c.node r s p n m at_old at_new at_node at_later

  names_later : (source : ℕ) → Contains (rows_in n.expr) source → Contains (rows_in m.expr) (number source)
  names_later source among =
      subst (λ (node : PlanNode). Contains (rows_in node.expr) (number source)) (sym same_node) (subst (λ xs. Contains xs (number source)) (sym (rows_renumbered n.expr number)) (contains_mapped number (rows_in n.expr) source among))

  -- what it names goes over too
  goes : (source : ℕ) → Contains (rows_in n.expr) source → (y : Opened) → slice_get after (number source) ≡ Some y → (z : Opened) × (slice_get rows source ≡ Some z) × HasMoved number z y
  goes source among y at_y =
      let q = c.named r s p n at_old at_new at_node source among in
      let z = there_is old rows source q.0 (sym was.filled) q.1 in
      (z.0, z.1, over.kept source (number source) q.0 z.0 y q.1 q.2 z.1 at_y)

  recorded : (x : Read) → Contains (rows_in n.expr) x.row → IsRecorded rows r x → IsRecorded after s (read_moved number x)
  recorded x among g = record {
    below = back.back s m at_later (number x.row) (names_later x.row among);
    is_packed = g.is_packed;
    older = λ y at_y. (let z = goes x.row among y at_y in subst (λ v. x.version ≤ v) (sym z.2.version) (g.older z.0 z.1));
    same = λ y at_y v. (let z = goes x.row among y at_y in g.same z.0 z.1 (v ∙ z.2.version) ∙ sym z.2.code);
  }

  present : (x : Read) → Contains (rows_in n.expr) x.row → IsPresent rows x → IsPresent after (read_moved number x)
  present x among g = record {
    version = λ y at_y. (let z = goes x.row among y at_y in g.version z.0 z.1 ∙ sym z.2.version);
    clean = λ y at_y. (let z = goes x.row among y at_y in ap is_clean z.2.colour ∙ g.clean z.0 z.1);
  }

  -- a read of the row after is one of the row before
  read_before : (k : ℕ) (x : Read) → slice_get two.body.reads.list k ≡ Some x → (y : Read) × (slice_get one.body.reads.list k ≡ Some y) × (read_moved number y ≡ x)
  read_before k x at_x = map_at (read_moved number) one.body.reads.list k x (subst (λ xs. slice_get xs k ≡ Some x) moved.reads at_x)

  ran_before : two.body.cause ≢ None → one.body.cause ≢ None
  ran_before ran none = ran (moved.cause ∙ ap (cause_moved number) none)

  right_after : IsRight n.expr one.body.reads.list one.code → IsRight m.expr two.body.reads.list two.code
  right_after right =
      let among = source_named n one named (λ ran. right) in
      let apart : IsInjectiveOn number one.body.reads.list = (λ j k x y at_x at_y same. injective old new nodes later c r s p n at_old at_new at_node x.row y.row (among j x at_x) (among k y at_y) same) in
      let here = right_moved number n.expr one.body.reads.list one.code apart right in
      subst (λ (node : PlanNode). IsRight node.expr two.body.reads.list two.code) (sym same_node)
      (subst (λ xs. IsRight (renumbered number n.expr) xs two.code) (sym moved.reads)
      (subst (λ v. IsRight (renumbered number n.expr) (map (read_moved number) one.body.reads.list) v) (sym moved.code) here))

  pub derived_good : IsDerivedGood rows r n one → IsDerivedGood after s m two
  derived_good g =
      let among = source_named n one named g.right in
      record {
        fresh = λ none. moved.colour ∙ g.fresh (no_cause number one.body.cause (sym moved.cause ∙ none));
        right = λ ran. right_after (g.right (ran_before ran));
        known = λ k x at_x. (let y = read_before k x at_x in subst (IsRecorded after s) y.2 (recorded y.0 (among k y.0 y.1) (g.known k y.0 y.1)));
        clean = λ clean k x at_x. (let y = read_before k x at_x in subst (IsPresent after) y.2 (present y.0 (among k y.0 y.1) (g.clean (ap is_clean (sym moved.colour) ∙ clean) k y.0 y.1)));
      }

  pub moved_named : IsNamed m two
  moved_named = record {
    unread = λ none. moved.reads ∙ ap (map (read_moved number)) (named.unread (no_cause number one.body.cause (sym moved.cause ∙ none)));
    caused = λ source before next is. (let k = source_of_cause number one.body.cause source before next (sym moved.cause ∙ is) in subst (λ t. Contains (rows_in m.expr) t) k.2 (names_later k.0 (named.caused k.0 before next k.1)));
  }
