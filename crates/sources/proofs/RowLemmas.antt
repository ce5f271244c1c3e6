-- Clean rows have their value by plan evaluation.
use Rattle.std.proofs.Common.{◌≡◌, ◌≢◌, ℕ, zero, suc, ◌<◌, List, [], ◌∷◌, slice_get, length, Option, Some, None, refl, sym, ap, ◌∙◌, arith, Bool, true, false}
use Rattle.std.proofs.lemmas.Option.{slice_get_within}
use Rattle.values.specs.declared.plan.PlanNode.{PlanNode}
use Rattle.values.specs.Packing.{unpacked}
use Rattle.values.specs.PlanValues.{is_derived, plan_value, ReadsBack}
use Rattle.values.proofs.PlanValuesLemmas.{plan_value-source, plan_value-derived}
use Rattle.sources.specs.declared.body.Read.{Read}
use Rattle.sources.specs.declared.body.Cause.{Cause}
use Rattle.sources.specs.declared.colour.Colour.{Colour}
use Rattle.sources.specs.declared.colour.Colour.TheVariants.{Dirty}
use Rattle.sources.specs.declared.opening.Opened.{Opened}
use Rattle.sources.specs.Colours.{is_clean}
use Rattle.sources.specs.Rows.{code_in, value_in, IsGood, IsDerivedGood}
use Rattle.sources.proofs.BodyLemmas.{right_at}

pub code_in-at : (rows : List Opened) (i : ℕ) (row : Opened) → slice_get rows i ≡ Some row → code_in rows i ≡ row.code
unfolding code_in
code_in-at [] i row h = cc
code_in-at (r ∷ rows) zero row h = let same : r ≡ row = cc in ap (λ y. y.code) same
code_in-at (r ∷ rows) (suc i) row h = code_in-at rows i row h

-- an element of a list that is as long
at_place : {A B : Type 0} (xs : List A) (ys : List B) → length xs ≡ length ys → (i : ℕ) (y : B) → slice_get ys i ≡ Some y → (x : A) × (slice_get xs i ≡ Some x)
at_place [] [] e i y h = cc
at_place [] (z ∷ ys) e i y h = absurd (omega arith)
at_place (x ∷ xs) [] e i y h = absurd (omega arith)
at_place (x ∷ xs) (z ∷ ys) e zero y h = (x, refl)
at_place (x ∷ xs) (z ∷ ys) e (suc i) y h = at_place xs ys (omega arith) i y h

-- what is clean is not dirty, so it ran
ran : (cause : Option Cause) (colour : Colour) → (cause ≡ None → colour ≡ Dirty) → is_clean colour ≡ true → cause ≢ None
ran cause colour fresh clean none =
    let dirty : colour ≡ Dirty = fresh none in
    let no : is_clean Dirty ≡ true = sym (ap is_clean dirty) ∙ clean in
    cc

within_rows : (nodes : List PlanNode) (rows : List Opened) → length rows ≡ length nodes → (q i : ℕ) (row : Opened) → slice_get rows i ≡ Some row → q < i → (y : Opened) × (slice_get rows q ≡ Some y)
within_rows nodes rows paired q i row r l = found rows q (let w = slice_get_within rows i row r in omega arith)
  where
    found : (ys : List Opened) (k : ℕ) → k < length ys → (y : Opened) × (slice_get ys k ≡ Some y)
    found [] k h = absurd (omega arith)
    found (y ∷ ys) zero h = (y, refl)
    found (y ∷ ys) (suc k) h = found ys k (omega arith)

clean_below : (nodes : List PlanNode) (rows : List Opened) → ReadsBack nodes → IsGood nodes rows → (bound i : ℕ) (row : Opened) → i < bound → slice_get rows i ≡ Some row → is_clean row.colour ≡ true → plan_value nodes (value_in rows) i ≡ unpacked row.code
clean_below nodes rows back good zero i row l r clean = absurd (omega arith)
clean_below nodes rows back good (suc bound) i row l r clean =
    let found = at_place nodes rows (sym good.paired) i row r in
    by (λ q y l e c. clean_below nodes rows back good bound q y l e c) found.0 found.1 (is_derived found.0.kind) refl
  where
    by : ((q : ℕ) (y : Opened) → q < bound → slice_get rows q ≡ Some y → is_clean y.colour ≡ true → plan_value nodes (value_in rows) q ≡ unpacked y.code) → (node : PlanNode) → slice_get nodes i ≡ Some node → (d : Bool) → is_derived node.kind ≡ d → plan_value nodes (value_in rows) i ≡ unpacked row.code
    by rec node n false d = plan_value-source nodes (value_in rows) back i node n d ∙ ap unpacked (code_in-at rows i row r)
    by rec node n true d =
        let g = (good.each i node row n r).derived d in
        plan_value-derived nodes (value_in rows) back i node n d
        ∙ (right_at node.expr row.body.reads.list row.code (plan_value nodes (value_in rows)) (g.right (ran row.body.cause row.colour g.fresh clean)) (λ k x e. source g k x e)).0
      where
        source : IsDerivedGood rows i node row → (k : ℕ) (x : Read) → slice_get row.body.reads.list k ≡ Some x → plan_value nodes (value_in rows) x.row ≡ unpacked x.code
        source g k x e =
            let known = g.known k x e in
            let present = g.clean clean k x e in
            let y = within_rows nodes rows good.paired x.row i row r known.below in
            let now : x.code ≡ y.0.code = known.same y.0 y.1 (present.version y.0 y.1) in
            let less : x.row < bound = (let b = known.below in omega arith) in
            rec x.row y.0 less y.1 (present.clean y.0 y.1) ∙ ap unpacked (sym now)

-- a clean row has its value by plan evaluation
pub clean_at : (nodes : List PlanNode) (rows : List Opened) → ReadsBack nodes → IsGood nodes rows → (i : ℕ) (row : Opened) → slice_get rows i ≡ Some row → is_clean row.colour ≡ true → plan_value nodes (value_in rows) i ≡ unpacked row.code
clean_at nodes rows back good i row r clean = clean_below nodes rows back good (suc i) i row (omega arith) r clean
