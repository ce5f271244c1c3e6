-- The equations of evaluation, one for each form of expression.
use Rattle.std.proofs.Common.{◌≡◌, ℕ, Bool, true, false, [], ◌∷◌, ◌++◌, if◌then◌else◌, refl, sym, ap, ◌∙◌}
use Rattle.values.specs.declared.code.Code.{Code}
use Rattle.values.specs.declared.code.Op.{Op}
use Rattle.values.specs.declared.expr.Expr.{Expr}
use Rattle.values.specs.declared.expr.Expr.TheOpen as level
use Rattle.values.specs.declared.expr.Expr.TheVariants.{Lit, Read, Binary, If, rolls-Lit, rolls-Read, rolls-Binary, rolls-If}
use Rattle.values.specs.declared.expr.Expr.TheFolds.{fold-roll-Expr}
use Rattle.values.specs.Evaluation.{truth, combined, Evaluated, evaluation_step, evaluation, value_of, readings_of, distinct, reads_of}

pub evaluation-Lit : (code : Code) (s : ℕ → Code) → evaluation (Lit code) s ≡ record { value = code; reads = [] }
unfolding evaluation
evaluation-Lit code s = ap (λ e. evaluation e s) (sym (rolls-Lit code)) ∙ fold-roll-Expr Evaluated (evaluation_step s) (level.Lit code)

pub evaluation-Read : (row : ℕ) (s : ℕ → Code) → evaluation (Read row) s ≡ record { value = s row; reads = row ∷ [] }
unfolding evaluation
evaluation-Read row s = ap (λ e. evaluation e s) (sym (rolls-Read row)) ∙ fold-roll-Expr Evaluated (evaluation_step s) (level.Read row)

pub evaluation-Binary : (op : Op) (a b : Expr) (s : ℕ → Code) → evaluation (Binary op a b) s ≡ record { value = combined op (value_of a s) (value_of b s); reads = (evaluation a s).reads ++ (evaluation b s).reads }
unfolding evaluation
evaluation-Binary op a b s = ap (λ e. evaluation e s) (sym (rolls-Binary op a b)) ∙ fold-roll-Expr Evaluated (evaluation_step s) (level.Binary op a b)

-- the branch that is taken
abbrev pub taken : Expr → Expr → Expr → (ℕ → Code) → Evaluated
taken c a b s = if truth (value_of c s) then evaluation a s else evaluation b s

pub evaluation-If : (c a b : Expr) (s : ℕ → Code) → evaluation (If c a b) s ≡ record { value = (taken c a b s).value; reads = (evaluation c s).reads ++ (taken c a b s).reads }
unfolding evaluation
evaluation-If c a b s = ap (λ e. evaluation e s) (sym (rolls-If c a b)) ∙ fold-roll-Expr Evaluated (evaluation_step s) (level.If c a b)

pub value_of-Lit : (code : Code) (s : ℕ → Code) → value_of (Lit code) s ≡ code
value_of-Lit code s = ap (λ v. v.value) (evaluation-Lit code s)

pub value_of-Read : (row : ℕ) (s : ℕ → Code) → value_of (Read row) s ≡ s row
value_of-Read row s = ap (λ v. v.value) (evaluation-Read row s)

pub value_of-Binary : (op : Op) (a b : Expr) (s : ℕ → Code) → value_of (Binary op a b) s ≡ combined op (value_of a s) (value_of b s)
value_of-Binary op a b s = ap (λ v. v.value) (evaluation-Binary op a b s)

pub value_of-If : (c a b : Expr) (s : ℕ → Code) → value_of (If c a b) s ≡ (if truth (value_of c s) then value_of a s else value_of b s)
value_of-If c a b s = ap (λ v. v.value) (evaluation-If c a b s) ∙ by (truth (value_of c s))
  where
    by : (k : Bool) → (if k then evaluation a s else evaluation b s).value ≡ (if k then value_of a s else value_of b s)
    by true = refl
    by false = refl

pub readings_of-Lit : (code : Code) (s : ℕ → Code) → readings_of (Lit code) s ≡ []
readings_of-Lit code s = ap (λ v. v.reads) (evaluation-Lit code s)

pub readings_of-Read : (row : ℕ) (s : ℕ → Code) → readings_of (Read row) s ≡ row ∷ []
readings_of-Read row s = ap (λ v. v.reads) (evaluation-Read row s)

pub readings_of-Binary : (op : Op) (a b : Expr) (s : ℕ → Code) → readings_of (Binary op a b) s ≡ readings_of a s ++ readings_of b s
readings_of-Binary op a b s = ap (λ v. v.reads) (evaluation-Binary op a b s)

pub readings_of-If : (c a b : Expr) (s : ℕ → Code) → readings_of (If c a b) s ≡ readings_of c s ++ (if truth (value_of c s) then readings_of a s else readings_of b s)
readings_of-If c a b s = ap (λ v. v.reads) (evaluation-If c a b s) ∙ ap (λ rows. readings_of c s ++ rows) (by (truth (value_of c s)))
  where
    by : (k : Bool) → (if k then evaluation a s else evaluation b s).reads ≡ (if k then readings_of a s else readings_of b s)
    by true = refl
    by false = refl

pub reads_of-Lit : (code : Code) (s : ℕ → Code) → reads_of (Lit code) s ≡ []
reads_of-Lit code s = ap distinct (readings_of-Lit code s)

pub reads_of-Read : (row : ℕ) (s : ℕ → Code) → reads_of (Read row) s ≡ row ∷ []
reads_of-Read row s = ap distinct (readings_of-Read row s)

pub reads_of-Binary : (op : Op) (a b : Expr) (s : ℕ → Code) → reads_of (Binary op a b) s ≡ distinct (readings_of a s ++ readings_of b s)
reads_of-Binary op a b s = ap distinct (readings_of-Binary op a b s)

pub reads_of-If : (c a b : Expr) (s : ℕ → Code) → reads_of (If c a b) s ≡ distinct (readings_of c s ++ (if truth (value_of c s) then readings_of a s else readings_of b s))
reads_of-If c a b s = ap distinct (readings_of-If c a b s)
