-- What a frame's next step says.
use Rattle.std.proofs.Common.{nat_lt, ◌≡◌, ◌≢◌, ℕ, zero, suc, ◌≤◌, List, [], ◌∷◌, slice_get, Option, Some, None, IfSome, IsSomeAnd, is_some, length, Contains, refl, sym, ap, subst, ◌∙◌, arith, Bool, true, false, if◌then◌else◌}
use Rattle.values.specs.declared.code.Code.{Code}
use Rattle.values.specs.declared.expr.Expr.{Expr}
use Rattle.values.specs.declared.plan.Kind.{Kind}
use Rattle.values.specs.declared.plan.Kind.TheVariants.{Signal, Field, Load, Memo, Effect}
use Rattle.values.specs.declared.plan.PlanNode.{PlanNode}
use Rattle.values.specs.declared.tried.Tried.{Tried}
use Rattle.values.specs.declared.tried.Tried.TheVariants.{Done}
use Rattle.values.specs.Evaluation.{value_of, reads_of}
use Rattle.values.specs.Packing.{unpacked}
use Rattle.values.specs.Plan.{rows_in}
use Rattle.values.specs.PlanValues.{is_derived, plan_value, ReadsBack}
use Rattle.values.specs.Attempt.{known_value, Agrees, first_unknown, answer, tried_of}
use Rattle.values.proofs.PlanLemmas.{reads_named}
use Rattle.sources.specs.declared.body.Read.{Read}
use Rattle.sources.specs.declared.colour.Colour.{Colour}
use Rattle.sources.specs.declared.colour.Colour.TheVariants.{Clean, Check, Dirty}
use Rattle.sources.specs.declared.opening.Opened.{Opened}
use Rattle.sources.specs.Bodies.{rows_read}
use Rattle.sources.specs.Colours.{is_clean}
use Rattle.sources.specs.Rows.{value_in, IsGood}
use Rattle.sources.proofs.RowLemmas.{clean_at}
use Rattle.work_order.specs.declared.frame.Due.{Due}
use Rattle.work_order.specs.declared.frame.Due.TheVariants.{Not, First, Differs}
use Rattle.work_order.specs.declared.frame.Frame.{Frame}
use Rattle.work_order.specs.declared.order.Next.TheVariants as next
use Rattle.work_order.specs.Order.{is_due, is_run, next_of, check_or_keep, run_of, dirty_of, begun_of, going_of}
use Rattle.still_readers.proofs.Lists.{within_at, at_within, not_both}
use Rattle.still_readers.proofs.ReadersLemmas.{row_in}
use Rattle.still_rows.specs.Frames.{AreLawful, IsConfirmed, IsFrameOf, IsMemo}
use Rattle.still_rows.specs.Moves.{Says}
use Rattle.still_rows.specs.Shown.{shown, told, ArePacked, IsFresh}
use Rattle.still_rows.proofs.EvaluatingLemmas.{known_shown}

-- an expression names rows before its node, and no effect
pub reads_back : (nodes : List PlanNode) → AreLawful nodes → ReadsBack nodes
reads_back nodes lawful = record { back = (λ row node n source c. (lawful.reads row node n source c).0) }

pub are_packed : (nodes : List PlanNode) (rows : List Opened) → IsGood nodes rows → ArePacked rows
are_packed nodes rows good = record { each = (λ i row r. let l = at_within rows i row r in let p = good.paired in let n = within_at nodes i (omega arith) in (good.each i n.0 row n.1 r).is_packed) }

-- what the rows show are their values
pub shown_agrees : (nodes : List PlanNode) (rows : List Opened) → ReadsBack nodes → IsGood nodes rows → Agrees (plan_value nodes (value_in rows)) (shown rows)
shown_agrees nodes rows back good r = subst (λ (o : Option Code). IfSome o (λ code. plan_value nodes (value_in rows) r ≡ code)) (sym (known_shown rows r)) (by (slice_get rows r) refl)
  where
    at : (y : Opened) → slice_get rows r ≡ Some y → (b : Bool) → is_clean y.colour ≡ b → IfSome (if b then Some (unpacked y.code) else None) (λ code. plan_value nodes (value_in rows) r ≡ code)
    at y here true c = clean_at nodes rows back good r y here c
    at y here false c = tt

    by : (o : Option Opened) → slice_get rows r ≡ o → IfSome (told o) (λ code. plan_value nodes (value_in rows) r ≡ code)
    by None e = tt
    by (Some y) e = at y e (is_clean y.colour) refl

first_is : (known : List (ℕ × Code)) (r : ℕ) (xs : List ℕ) → first_unknown known xs ≡ Some r → Contains xs r × (is_some (known_value known r) ≡ false)
first_is known r [] h = cc
first_is known r (x ∷ xs) h = by (is_some (known_value known x)) refl h (first_is known r xs)
  where
    by : (b : Bool) → is_some (known_value known x) ≡ b → (if b then first_unknown known xs else Some x) ≡ Some r → (first_unknown known xs ≡ Some r → Contains xs r × (is_some (known_value known r) ≡ false)) → Contains (x ∷ xs) r × (is_some (known_value known r) ≡ false)
    by true k h rec = let rest = rec h in let c = rest.0 in ((suc c.0, omega (arith, c.1), c.2), rest.1)
    by false k h rec = let same : x ≡ r = cc in ((0, omega arith, same), ap (λ (q : ℕ). is_some (known_value known q)) (sym same) ∙ k)

-- a row that is read and not known is named, and not clean
missing_named : (nodes : List PlanNode) (rows : List Opened) (e : Expr) (r : ℕ) → first_unknown (shown rows) (reads_of e (plan_value nodes (value_in rows))) ≡ Some r → Contains (rows_in e) r × ((y : Opened) → slice_get rows r ≡ Some y → is_clean y.colour ≡ false)
missing_named nodes rows e r h = let f = first_is (shown rows) r (reads_of e (plan_value nodes (value_in rows))) h in (
  reads_named e (plan_value nodes (value_in rows)) r f.0,
  (λ y here. unclean y here (is_clean y.colour) refl f.1),
)
  where
    unclean : (y : Opened) → slice_get rows r ≡ Some y → (b : Bool) → is_clean y.colour ≡ b → is_some (known_value (shown rows) r) ≡ false → is_clean y.colour ≡ false
    unclean y here false c k = c
    unclean y here true c k =
        let t : known_value (shown rows) r ≡ Some (unpacked y.code) = known_shown rows r ∙ ap told here ∙ ap (λ (b : Bool). if b then Some (unpacked y.code) else None) c in
        absurd (let q : true ≡ false = sym (ap is_some t) ∙ k in cc)

past : {A : Type 0} (xs : List A) (n : ℕ) → slice_get xs n ≡ None → length xs ≤ n
past [] n h = omega arith
past (x ∷ xs) zero h = cc
past (x ∷ xs) (suc n) h = let r = past xs n h in omega arith

-- what is told of a run that is whole
pub record IsTold (nodes : List PlanNode) (rows : List Opened) (node : PlanNode) (f : Frame) (tried : Tried) (reads : List Read) : Type 0 where
  pub tried_is : is_run f ≡ true → tried ≡ tried_of node.expr (shown rows) (plan_value nodes (value_in rows))
  pub reads_are : is_run f ≡ true → (code : Code) → tried ≡ Done code → rows_read reads ≡ reads_of node.expr (plan_value nodes (value_in rows))
  pub fresh : is_run f ≡ true → (code : Code) → tried ≡ Done code → IsFresh rows reads

pub frame_says : (nodes : List PlanNode) (rows : List Opened) (node : PlanNode) (row : Opened) (f : Frame) (reads : List Read) (tried : Tried) → AreLawful nodes → IsGood nodes rows → slice_get nodes f.node ≡ Some node → IsFrameOf rows node row f → IsTold nodes rows node f tried reads → Says nodes rows node row f reads (next_of tried row.colour row.body.reads.list f)
frame_says nodes rows node row f reads tried lawful good n is it = by f.cleared refl
  where
    p : ℕ → Code
    p = plan_value nodes (value_in rows)

    checked : (o : Option Read) → slice_get row.body.reads.list f.at ≡ o → f.cleared ≡ true → f.due ≡ Not → Says nodes rows node row f reads (check_or_keep o)
    checked (Some x) e c not = (c, not, (x, e, refl))
    checked None e c not = (c, not, past row.body.reads.list f.at e)

    whole : (code : Code) → f.cleared ≡ true → is_due f.due ≡ true → is_run f ≡ true → tried ≡ Done code → value_of node.expr (plan_value nodes (value_in rows)) ≡ code → Says nodes rows node row f reads (next.Finish code)
    whole code c due run e v =
        let h = it.reads_are run code e in let g = it.fresh run code e in (
          c,
          record {
            due = due;
            read = h;
            value = v;
            each = (λ k x at. let q = g.each k x at in record {
              below = (lawful.reads f.node node n x.row (reads_named node.expr (plan_value nodes (value_in rows)) x.row (subst (λ (l : List ℕ). Contains l x.row) h (row_in reads k x at)))).0;
              is_packed = q.1;
              present = q.0;
              code = q.2;
            });
          },
        )

    ran : f.cleared ≡ true → is_due f.due ≡ true → is_run f ≡ true → (o : Option ℕ) → first_unknown (shown rows) (reads_of node.expr (plan_value nodes (value_in rows))) ≡ o → tried ≡ answer o (value_of node.expr (plan_value nodes (value_in rows))) → Says nodes rows node row f reads (run_of tried)
    ran c due run (Some r) e t = subst (λ (w : Tried). Says nodes rows node row f reads (run_of w)) (sym t) (let m = missing_named nodes rows node.expr r e in (c, m.0, m.1))
    ran c due run None e t = subst (λ (w : Tried). Says nodes rows node row f reads (run_of w)) (sym t) (whole (value_of node.expr (plan_value nodes (value_in rows))) c due run t refl)

    going : (w : Due) → f.due ≡ w → f.cleared ≡ true → Says nodes rows node row f reads (going_of w tried row.body.reads.list f.at)
    going Not e c = checked (slice_get row.body.reads.list f.at) refl c e
    going First e c = runs c (ap is_due e)
      where
        runs : f.cleared ≡ true → is_due f.due ≡ true → Says nodes rows node row f reads (run_of tried)
        runs c due = let run : is_run f ≡ true = rw (c, due) refl in ran c due run (first_unknown (shown rows) (reads_of node.expr (plan_value nodes (value_in rows)))) refl (it.tried_is run)
    going Differs e c = runs c (ap is_due e)
      where
        runs : f.cleared ≡ true → is_due f.due ≡ true → Says nodes rows node row f reads (run_of tried)
        runs c due = let run : is_run f ≡ true = rw (c, due) refl in ran c due run (first_unknown (shown rows) (reads_of node.expr (plan_value nodes (value_in rows)))) refl (it.tried_is run)

    compared : (b : Bool) → nat_lt f.at (length row.body.reads.list) ≡ b → f.cleared ≡ false → f.due ≡ Not → Says nodes rows node row f reads (if b then next.Compare f.at else next.Clear)
    compared true e c not = (c, not, refl, grind arith)
    compared false e c not = c

    dirty : (w : Due) → f.due ≡ w → f.cleared ≡ false → Says nodes rows node row f reads (dirty_of w row.body.reads.list f.at)
    dirty Not e c = compared _ refl c e
    dirty First e c = c
    dirty Differs e c = c

    begun : (colour : Colour) → row.colour ≡ colour → f.cleared ≡ false → Says nodes rows node row f reads (begun_of colour f.due row.body.reads.list f.at)
    begun Clean e c = absurd (not_both (is_clean row.colour) (ap is_clean e) is.unclean)
    begun Check e c = c
    begun Dirty e c = dirty f.due refl c

    by : (b : Bool) → f.cleared ≡ b → Says nodes rows node row f reads (if b then going_of f.due tried row.body.reads.list f.at else begun_of row.colour f.due row.body.reads.list f.at)
    by true c = going f.due refl c
    by false c = begun row.colour refl c

-- the confirmed reads have the values of their rows
pub confirmed_values : (nodes : List PlanNode) (rows : List Opened) → ReadsBack nodes → IsGood nodes rows → (i : ℕ) → i ≤ length rows → (reads : List Read) → ((k : ℕ) (x : Read) → slice_get reads k ≡ Some x → IsConfirmed rows i x) → (k : ℕ) (x : Read) → slice_get reads k ≡ Some x → plan_value nodes (value_in rows) x.row ≡ unpacked x.code
confirmed_values nodes rows back good i within reads each k x e =
    let f = each k x e in
    let y = within_at rows x.row (let b = f.below in omega arith) in
    clean_at nodes rows back good x.row y.0 y.1 (f.present.clean y.0 y.1) ∙ ap unpacked (sym (f.code y.0 y.1))

-- a row that is not clean, and no effect, is a memo
pub unclean_memo : (nodes : List PlanNode) (rows : List Opened) → IsGood nodes rows → (r : ℕ) → ((m : PlanNode) → slice_get nodes r ≡ Some m → m.kind ≢ Effect) → (y : Opened) → slice_get rows r ≡ Some y → is_clean y.colour ≡ false → IsMemo nodes r
unclean_memo nodes rows good r other y here unclean = record { each = (λ m at. plain m.kind (other m at) (λ d. not_both (is_clean y.colour) ((good.each r m y at here).source d) unclean)) }
  where
    plain : (k : Kind) → k ≢ Effect → (is_derived k ≡ false → ⊥) → k ≡ Memo
    plain Signal other derived = absurd (derived refl)
    plain Field other derived = absurd (derived refl)
    plain Load other derived = absurd (derived refl)
    plain Memo other derived = refl
    plain Effect other derived = absurd (other refl)

-- a row that is named and not clean is a memo
pub named_memo : (nodes : List PlanNode) (rows : List Opened) → AreLawful nodes → IsGood nodes rows → (i : ℕ) (node : PlanNode) → slice_get nodes i ≡ Some node → (r : ℕ) → Contains (rows_in node.expr) r → (y : Opened) → slice_get rows r ≡ Some y → is_clean y.colour ≡ false → IsMemo nodes r
named_memo nodes rows lawful good i node n r c y here unclean = unclean_memo nodes rows good r (λ m at. no_effect (slice_get nodes r) (lawful.reads i node n r c).1 m at) y here unclean
  where
    no_effect : (o : Option PlanNode) → IsSomeAnd o (λ q. q.kind ≢ Effect) → (m : PlanNode) → o ≡ Some m → m.kind ≢ Effect
    no_effect None h m e = cc
    no_effect (Some q) h m e = λ k. h (ap (λ (z : PlanNode). z.kind) (let same : q ≡ m = cc in same) ∙ k)
