-- What a value that is explained rests on.
use Rattle.std.proofs.Common.{◌≡◌, ◌≢◌, ◌⊎◌, ℕ, ◌<◌, ◌≤◌, ◌==◌, Bool, true, false, if◌then◌else◌, Option, Some, List, [], ◌∷◌, map, inl, inr, refl, sym, ap, ◌∙◌, subst, ⊎_elim, arith}
use Rattle.std.specs.Prelude.{unwrap_or}
use Rattle.std.specs.List.{AllByRecursion}
use Rattle.std.proofs.lemmas.Bool.{true≢false, eqb-true, eq-eqb}
use Rattle.values.specs.declared.code.Code.{Code}
use Rattle.values.specs.declared.code.Code.TheVariants.{Empty}
use Rattle.values.specs.declared.code.Op.{Op}
use Rattle.values.specs.declared.expr.Expr.{Expr}
use Rattle.values.specs.declared.expr.Expr.TheVariants.{Lit, Read, Binary}
use Rattle.values.specs.declared.plan.Fact.TheVariants as fact
use Rattle.values.specs.declared.plan.Kind.{Kind}
use Rattle.values.specs.declared.plan.Kind.TheVariants as kind
use Rattle.values.specs.declared.plan.Noted.{Noted}
use Rattle.values.specs.declared.plan.PlanNode.{PlanNode}
use Rattle.values.specs.Attempt.{known_value}
use Rattle.values.specs.Evaluation.{combined, is_same, value_of, reads_of}
use Rattle.values.specs.PlanValues.{is_derived}
use Rattle.values.proofs.Evaluation.{readings_of-Lit, readings_of-Read, readings_of-Binary, readings_of-If, value_of-Lit, value_of-Read, value_of-Binary, value_of-If}
use Rattle.run_meaning.specs.Words.{In}
use Rattle.run_meaning.specs.Opened.{Opened, node_at, IsKind, opening_code}
use Rattle.run_meaning.specs.Entries.{fact_at}
use Rattle.run_meaning.specs.Explained.{Evaluates, value_among, Explained, opening, written, loaded, run}
use Rattle.run_rows.proofs.Cases.{all_in}

abbrev pair : ℕ → Code → ℕ × Code
pair n v = (n, v)

-- each row that was read stands there with its value
stands_by : (b : Bool) (n row : ℕ) (v : Code) (rs : List (ℕ × Code)) → (b ≡ true → n ≡ row) → (b ≡ false → In (pair row (value_among rs row)) rs)
    → In (pair row (unwrap_or (if b then Some v else known_value rs row) Empty)) (pair n v ∷ rs)
stands_by true n row v rs t f = inl (ap (λ (m : ℕ). pair m v) (t refl))
stands_by false n row v rs t f = inr (f refl)

pub value_stands : (reads : List (ℕ × Code)) (row : ℕ) → In row (map (λ r. r.0) reads) → In (pair row (value_among reads row)) reads
value_stands [] row i = absurd i
value_stands (r ∷ rs) row i = stands_by (r.0 == row) r.0 row r.1 rs (eqb-true r.0 row)
    (λ e. ⊎_elim (λ (q : r.0 ≡ row). absurd (true≢false (sym (eq-eqb r.0 row q) ∙ e))) (λ q. value_stands rs row q) i)

is_of_kind : (o : Opened) (n : ℕ) (k : Kind) (node : PlanNode) → IsKind o n k → node_at o n ≡ Some node → node.kind ≡ k
is_of_kind o n k node i e = let same : i.0 ≡ node = cc in ap (λ (x : PlanNode). x.kind) (sym same) ∙ i.2

not_derived : (o : Opened) (n : ℕ) (k : Kind) (node : PlanNode) → is_derived k ≡ false → IsKind o n k → node_at o n ≡ Some node → is_derived node.kind ≡ true → ⊥
not_derived o n k node f i e d = true≢false (sym d ∙ (ap is_derived (is_of_kind o n k node i e) ∙ f))

-- what is computed rests on what it read
pub record Rests (o : Opened) (es : List Noted) (low : ℕ → ℕ) (high : Option ℕ) (node : PlanNode) (v : Code) : Type 0 where
  pub reads : List (ℕ × Code)
  pub gives : Evaluates node.expr reads v
  pub each : (source : ℕ) (code : Code) → In (pair source code) reads → Explained o es low high source code

pub computed_rests : (o : Opened) (es : List Noted) (low : ℕ → ℕ) (high : Option ℕ) (n : ℕ) (v : Code) (node : PlanNode) → Explained o es low high n v → node_at o n ≡ Some node → is_derived node.kind ≡ true → Rests o es low high node v
computed_rests o es low high n v node (opening w z e) at d = absurd (⊎_elim (λ (i : IsKind o n kind.Signal). not_derived o n kind.Signal node refl i at d) (λ (i : IsKind o n kind.Field). not_derived o n kind.Field node refl i at d) w)
computed_rests o es low high n v node (written k w e l b) at d = absurd (⊎_elim (λ (i : IsKind o n kind.Signal). not_derived o n kind.Signal node refl i at d) (λ (i : IsKind o n kind.Field). not_derived o n kind.Field node refl i at d) w)
computed_rests o es low high n v node (loaded i e) at d = absurd (not_derived o n kind.Load node refl i at d)
computed_rests o es low high n v node (run m reads is gives each) at d =
    let same : m ≡ node = cc in
    record { reads = reads; gives = subst (λ (x : PlanNode). Evaluates x.expr reads v) same gives; each = each }

load_or_signal : (k : Kind) → k ≡ kind.Load → k ≡ kind.Signal → ⊥
load_or_signal k e f = cc

-- after a lane's own write a signal rests on a write
pub written_rests : (o : Opened) (es : List Noted) (low : ℕ → ℕ) (high : Option ℕ) (n : ℕ) (v : Code) → Explained o es low high n v → IsKind o n kind.Signal → 0 < low n → (k : ℕ) × (fact_at k es ≡ Some (fact.Write n v)) × (low n ≤ k)
written_rests o es low high n v (opening w z e) s l = absurd (omega (arith, z))
written_rests o es low high n v (written k w e a b) s l = (k, e, a)
written_rests o es low high n v (loaded i e) s l = absurd (load_or_signal i.0.kind i.2 (is_of_kind o n kind.Signal i.0 s i.1))
written_rests o es low high n v (run m reads is gives each) s l = absurd (not_derived o n kind.Signal m refl s is.0 is.1)

-- a signal rests on its opening value or on a write
pub signal_rests : (o : Opened) (es : List Noted) (low : ℕ → ℕ) (high : Option ℕ) (n : ℕ) (v : Code) → Explained o es low high n v → IsKind o n kind.Signal → (opening_code o n ≡ v) ⊎ ((k : ℕ) × (fact_at k es ≡ Some (fact.Write n v)))
signal_rests o es low high n v (opening w z e) s = inl e
signal_rests o es low high n v (written k w e a b) s = inr (k, e)
signal_rests o es low high n v (loaded i e) s = inl e
signal_rests o es low high n v (run m reads is gives each) s = absurd (not_derived o n kind.Signal m refl s is.0 is.1)

-- what a node computes from one row and a value of the text rests on the row's value
pub record RestsOn (o : Opened) (es : List Noted) (low : ℕ → ℕ) (high : Option ℕ) (op : Op) (row : ℕ) (c v : Code) : Type 0 where
  pub value : Code
  pub gives : combined op value c ≡ v
  pub rests : Explained o es low high row value

pub binary_rests : (o : Opened) (es : List Noted) (low : ℕ → ℕ) (high : Option ℕ) (n : ℕ) (v : Code) (node : PlanNode) (op : Op) (row : ℕ) (c : Code)
    → Explained o es low high n v → node_at o n ≡ Some node → is_derived node.kind ≡ true → node.expr ≡ Binary op (Read row) (Lit c) → RestsOn o es low high op row c v
binary_rests o es low high n v node op row c x at d e =
    let r = computed_rests o es low high n v node x at d in
    let s = value_among r.reads in
    let rows : row ∷ [] ≡ map (λ q. q.0) r.reads = sym (ap (λ (t : Expr). reads_of t s) e ∙ simp (readings_of-Binary, readings_of-Read, readings_of-Lit)) ∙ r.gives.0 in
    let value : combined op (s row) c ≡ v = sym (ap (λ (t : Expr). value_of t s) e ∙ simp (value_of-Binary, value_of-Read, value_of-Lit)) ∙ r.gives.1 in
    record { value = s row; gives = value; rests = r.each row (s row) (value_stands r.reads row (subst (In row) rows (inl refl))) }

-- ---- values that are explained

-- the equations by which expressions compute
pub ruleset evaluates = (readings_of-Lit, readings_of-Read, readings_of-Binary, readings_of-If, value_of-Lit, value_of-Read, value_of-Binary, value_of-If)

-- a memo or an effect rests on the rows that it read
pub computed : (o : Opened) (es : List Noted) (low : ℕ → ℕ) (high : Option ℕ) (n : ℕ) (v : Code) (node : PlanNode) (reads : List (ℕ × Code))
    → node_at o n ≡ Some node → is_derived node.kind ≡ true → Evaluates node.expr reads v → AllByRecursion (λ r. Explained o es low high r.0 r.1) reads → Explained o es low high n v
computed o es low high n v node reads at d e a = run node reads (at, d) e (λ s w i. all_in (λ r. Explained o es low high r.0 r.1) reads a (pair s w) i)

-- two values that a test tells apart
pub apart : (a b : Code) → is_same a b ≡ false → is_same b b ≡ true → a ≢ b
apart a b f t e = true≢false (sym t ∙ (ap (λ (v : Code). is_same v b) (sym e) ∙ f))
