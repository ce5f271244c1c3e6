-- Plan evaluation.
use Rattle.std.proofs.Common.{◌≡◌, ℕ, zero, suc, ◌+◌, ◌<◌, List, [], ◌∷◌, ◌++◌, slice_get, Some, length, Contains, refl, sym, ap, ◌∙◌, arith, Bool, true, false, if◌then◌else◌, length-append}
use Rattle.std.proofs.lemmas.List.{get_or_append_left}
use Rattle.std.proofs.Math.Seq.{get_or-append_seam}
use Rattle.values.specs.declared.code.Code.{Code}
use Rattle.values.specs.declared.code.Code.TheVariants.{Empty}
use Rattle.values.specs.declared.plan.Plan.{Plan}
use Rattle.values.specs.declared.plan.PlanNode.{PlanNode}
use Rattle.values.specs.Plan.{rows_in, IsLawful}
use Rattle.values.specs.Evaluation.{value_of, reads_of}
use Rattle.values.specs.PlanValues.{is_derived, value_at, node_value, values_from, plan_values, plan_value, ReadsBack, SolvesPlan, HaveSameSources}
use Rattle.values.proofs.ReadsLemmas.{same_by_reads}
use Rattle.values.proofs.PlanLemmas.{reads_named}

longer : (done : List Code) (v : Code) (i : ℕ) → i < length done → i < length (done ++ v ∷ [])
longer done v i h = simp length-append (omega arith)

-- what is done stays
pub values_keep : (nodes : List PlanNode) (sources : ℕ → Code) (done : List Code) (i : ℕ) → i < length done → value_at (values_from nodes sources done) i ≡ value_at done i
unfolding values_from
values_keep [] sources done i h = refl
values_keep (n ∷ nodes) sources done i h =
    let v = node_value n (sources (length done)) (value_at done) in
    values_keep nodes sources (done ++ v ∷ []) i (longer done v i h) ∙ get_or_append_left done (v ∷ []) Empty i h

pub length-values_from : (nodes : List PlanNode) (sources : ℕ → Code) (done : List Code) → length (values_from nodes sources done) ≡ length done + length nodes
unfolding values_from
length-values_from [] sources done = omega arith
length-values_from (n ∷ nodes) sources done =
    let v = node_value n (sources (length done)) (value_at done) in
    omega (arith, length-values_from nodes sources (done ++ v ∷ []), length-append done (v ∷ []))

pub length-plan_values : (nodes : List PlanNode) (sources : ℕ → Code) → length (plan_values nodes sources) ≡ length nodes
length-plan_values nodes sources = omega (arith, length-values_from nodes sources [])

-- a node's value depends on the rows before `here` alone, where it names no others
pub node_value-before : (n : PlanNode) (own : Code) (s t : ℕ → Code) (here : ℕ) → ((q : ℕ) → Contains (rows_in n.expr) q → q < here) → ((q : ℕ) → q < here → s q ≡ t q) → node_value n own s ≡ node_value n own t
node_value-before n own s t here back same = by (is_derived n.kind)
  where
    by : (b : Bool) → (if b then value_of n.expr s else own) ≡ (if b then value_of n.expr t else own)
    by true = (same_by_reads n.expr s t (λ q c. same q (back q (reads_named n.expr s q c)))).0
    by false = refl

values_solve : (nodes : List PlanNode) (sources : ℕ → Code) (done : List Code) (i here : ℕ) (node : PlanNode) → here ≡ length done + i → ((q : ℕ) → Contains (rows_in node.expr) q → q < here) → slice_get nodes i ≡ Some node → value_at (values_from nodes sources done) here ≡ node_value node (sources here) (value_at (values_from nodes sources done))
unfolding values_from
values_solve [] sources done i here node e back n = cc
values_solve (m ∷ nodes) sources done zero here node e back n =
    let v = node_value m (sources (length done)) (value_at done) in
    let end = values_from nodes sources (done ++ v ∷ []) in
    let at : here ≡ length done = omega arith in
    let within : here < length (done ++ v ∷ []) = simp length-append (omega arith) in
    let found : value_at end here ≡ v = values_keep nodes sources (done ++ v ∷ []) here within ∙ (rw at (get_or-append_seam done v [] Empty)) in
    let same : (k : ℕ) → k < here → value_at done k ≡ value_at end k = (λ k h. let l : k < length done = omega arith in sym (values_keep nodes sources (done ++ v ∷ []) k (longer done v k l) ∙ get_or_append_left done (v ∷ []) Empty k l)) in
    let nodes_same : m ≡ node = cc in
    found ∙ node_value-before m (sources (length done)) (value_at done) (value_at end) here (rw nodes_same back) same ∙ (rw (nodes_same, at) refl)
values_solve (m ∷ nodes) sources done (suc i) here node e back n =
    let v = node_value m (sources (length done)) (value_at done) in
    let e' : here ≡ length (done ++ v ∷ []) + i = simp length-append (omega arith) in
    values_solve nodes sources (done ++ v ∷ []) i here node e' back n

-- the value of each row is that of its node over the values of all rows
pub plan_value-solves : (nodes : List PlanNode) (sources : ℕ → Code) → ReadsBack nodes → SolvesPlan nodes sources (plan_value nodes sources)
plan_value-solves nodes sources reads = record { each = λ row node n. values_solve nodes sources [] row row node (omega arith) (reads.back row node n) n }

pub plan_value-source : (nodes : List PlanNode) (sources : ℕ → Code) → ReadsBack nodes → (row : ℕ) (node : PlanNode) → slice_get nodes row ≡ Some node → is_derived node.kind ≡ false → plan_value nodes sources row ≡ sources row
plan_value-source nodes sources reads row node n d = (plan_value-solves nodes sources reads).each row node n ∙ (rw d refl)

pub plan_value-derived : (nodes : List PlanNode) (sources : ℕ → Code) → ReadsBack nodes → (row : ℕ) (node : PlanNode) → slice_get nodes row ≡ Some node → is_derived node.kind ≡ true → plan_value nodes sources row ≡ value_of node.expr (plan_value nodes sources)
plan_value-derived nodes sources reads row node n d = (plan_value-solves nodes sources reads).each row node n ∙ (rw d refl)

-- the rows that a derived row reads decide its value
pub plan_value-by_reads : (nodes : List PlanNode) (sources : ℕ → Code) → ReadsBack nodes → (row : ℕ) (node : PlanNode) → slice_get nodes row ≡ Some node → is_derived node.kind ≡ true → (values : ℕ → Code) → ((q : ℕ) → Contains (reads_of node.expr (plan_value nodes sources)) q → plan_value nodes sources q ≡ values q) → plan_value nodes sources row ≡ value_of node.expr values
plan_value-by_reads nodes sources reads row node n d values same =
    plan_value-derived nodes sources reads row node n d ∙ (same_by_reads node.expr (plan_value nodes sources) values same).0

pub reads_before : (nodes : List PlanNode) → ReadsBack nodes → (row : ℕ) (node : PlanNode) → slice_get nodes row ≡ Some node → (values : ℕ → Code) (q : ℕ) → Contains (reads_of node.expr values) q → q < row
reads_before nodes reads row node n values q c = reads.back row node n q (reads_named node.expr values q c)

node_value-source : (n : PlanNode) (a b : Code) (values : ℕ → Code) → (is_derived n.kind ≡ false → a ≡ b) → node_value n a values ≡ node_value n b values
node_value-source n a b values same = by (is_derived n.kind) refl
  where
    by : (d : Bool) → is_derived n.kind ≡ d → (if d then value_of n.expr values else a) ≡ (if d then value_of n.expr values else b)
    by true is = refl
    by false is = same is

values_by_sources : (nodes : List PlanNode) (s t : ℕ → Code) (done : List Code) → ((i here : ℕ) (node : PlanNode) → here ≡ length done + i → slice_get nodes i ≡ Some node → is_derived node.kind ≡ false → s here ≡ t here) → values_from nodes s done ≡ values_from nodes t done
unfolding values_from
values_by_sources [] s t done same = refl
values_by_sources (n ∷ nodes) s t done same =
    let v = node_value n (s (length done)) (value_at done) in
    let w = node_value n (t (length done)) (value_at done) in
    let one : v ≡ w = node_value-source n (s (length done)) (t (length done)) (value_at done) (λ d. same zero (length done) n (omega arith) refl d) in
    values_by_sources nodes s t (done ++ v ∷ []) (λ i here node e g d. same (suc i) here node (let l = length-append done (v ∷ []) in omega arith) g d)
    ∙ ap (λ x. values_from nodes t (done ++ x ∷ [])) one

-- what stands at derived rows does not count
pub plan_value-by_sources : (nodes : List PlanNode) (s t : ℕ → Code) → HaveSameSources nodes s t → plan_value nodes s ≡ plan_value nodes t
plan_value-by_sources nodes s t same =
    ap value_at (values_by_sources nodes s t [] (λ i here node e g d. let at : here ≡ i = omega arith in rw at (same.same i node g d)))

node_at : (nodes : List PlanNode) (row : ℕ) → row < length nodes → (node : PlanNode) × (slice_get nodes row ≡ Some node)
node_at [] row h = absurd (omega arith)
node_at (n ∷ nodes) zero h = (n, refl)
node_at (n ∷ nodes) (suc row) h = node_at nodes row (omega arith)

alone_below : (nodes : List PlanNode) (sources values : ℕ → Code) → ReadsBack nodes → SolvesPlan nodes sources values → (bound row : ℕ) → row < bound → row < length nodes → values row ≡ plan_value nodes sources row
alone_below nodes sources values reads solves zero row h within = absurd (omega arith)
alone_below nodes sources values reads solves (suc bound) row h within =
    let found = node_at nodes row within in
    let node = found.0 in
    solves.each row node found.1
    ∙ node_value-before node (sources row) values (plan_value nodes sources) row (reads.back row node found.1) (λ q l. alone_below nodes sources values reads solves bound q (omega arith) (omega arith))
    ∙ sym ((plan_value-solves nodes sources reads).each row node found.1)

-- no other values are those of the plan
pub plan_value-alone : (nodes : List PlanNode) (sources values : ℕ → Code) → ReadsBack nodes → SolvesPlan nodes sources values → (row : ℕ) → row < length nodes → values row ≡ plan_value nodes sources row
plan_value-alone nodes sources values reads solves row within = alone_below nodes sources values reads solves (suc row) row (omega arith) within

pub lawful_back : (plan : Plan) → IsLawful plan → ReadsBack plan.nodes
lawful_back plan lawful = record { back = λ row node n source c. (lawful.reads_back row node n source c).0 }
