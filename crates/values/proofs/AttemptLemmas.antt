-- What is known of an evaluation, by the form of the expression.
use Rattle.std.proofs.Common.{◌≡◌, ℕ, Bool, true, false, not, List, [], ◌∷◌, ◌++◌, Option, Some, None, IfSome, is_some, if◌then◌else◌, ◌==◌, filter, refl, sym, ap, ◌∙◌, arith}
use Rattle.values.specs.declared.code.Code.{Code}
use Rattle.values.specs.declared.code.Op.{Op}
use Rattle.values.specs.declared.expr.Expr.{Expr}
use Rattle.values.specs.declared.expr.Expr.TheVariants.{Lit, Read, Binary, If}
use Rattle.values.specs.declared.tried.Tried.{Tried}
use Rattle.values.specs.declared.tried.Tried.TheVariants.{Done, Needs}
use Rattle.values.specs.Evaluation.{truth, combined, Evaluated, evaluation, value_of, distinct}
use Rattle.values.specs.Attempt.{known_value, Agrees, first_unknown, answer, tried_of}
use Rattle.values.proofs.Evaluation.{evaluation-Lit, evaluation-Read, evaluation-Binary, evaluation-If, taken}

-- a known row may be left out
first_unknown-filter : (known : List (ℕ × Code)) (row : ℕ) (rows : List ℕ) → is_some (known_value known row) ≡ true → first_unknown known (filter (λ r. not (r == row)) rows) ≡ first_unknown known rows
first_unknown-filter known row [] h = refl
first_unknown-filter known row (r ∷ rows) h = grind (arith, first_unknown-filter known row rows h)

pub first_unknown-distinct : (known : List (ℕ × Code)) (rows : List ℕ) → first_unknown known (distinct rows) ≡ first_unknown known rows
first_unknown-distinct known [] = refl
first_unknown-distinct known (row ∷ rows) = grind (arith, first_unknown-filter known row (distinct rows), first_unknown-distinct known rows)

-- the first of two
abbrev pub earlier : Option ℕ → Option ℕ → Option ℕ
earlier None b = b
earlier (Some r) b = Some r

pub first_unknown-append : (known : List (ℕ × Code)) (xs ys : List ℕ) → first_unknown known (xs ++ ys) ≡ earlier (first_unknown known xs) (first_unknown known ys)
first_unknown-append known [] ys = refl
first_unknown-append known (x ∷ xs) ys = grind (arith, first_unknown-append known xs ys)

tried_of-plain : (e : Expr) (known : List (ℕ × Code)) (s : ℕ → Code) → tried_of e known s ≡ answer (first_unknown known (evaluation e s).reads) (value_of e s)
tried_of-plain e known s = ap (λ u. answer u (value_of e s)) (first_unknown-distinct known (evaluation e s).reads)

pub tried_of-Lit : (code : Code) (known : List (ℕ × Code)) (s : ℕ → Code) → tried_of (Lit code) known s ≡ Done code
tried_of-Lit code known s = ap (λ v. answer (first_unknown known (distinct v.reads)) v.value) (evaluation-Lit code s)

-- the value of a row that was read, where it is known
abbrev pub of_row : ℕ → Option Code → Tried
of_row row None = Needs row
of_row row (Some code) = Done code

pub tried_of-Read : (row : ℕ) (known : List (ℕ × Code)) (s : ℕ → Code) → Agrees s known → tried_of (Read row) known s ≡ of_row row (known_value known row)
tried_of-Read row known s agrees =
    ap (λ v. answer (first_unknown known (distinct v.reads)) v.value) (evaluation-Read row s) ∙ by_case (known_value known row) (agrees row)
  where
    by_case : (found : Option Code) → IfSome found (λ code. s row ≡ code) → answer (if is_some found then None else Some row) (s row) ≡ of_row row found
    by_case None h = refl
    by_case (Some code) h = ap Done h

-- both operands are evaluated, the left one first
abbrev pub of_both : Op → Tried → Tried → Tried
of_both op (Done x) (Done y) = Done (combined op x y)
of_both op (Done x) (Needs row) = Needs row
of_both op (Needs row) b = Needs row

pub tried_of-Binary : (op : Op) (a b : Expr) (known : List (ℕ × Code)) (s : ℕ → Code) → tried_of (Binary op a b) known s ≡ of_both op (tried_of a known s) (tried_of b known s)
tried_of-Binary op a b known s =
    tried_of-plain (Binary op a b) known s
    ∙ ap (λ v. answer (first_unknown known v.reads) v.value) (evaluation-Binary op a b s)
    ∙ ap (λ u. answer u (combined op (value_of a s) (value_of b s))) (first_unknown-append known (evaluation a s).reads (evaluation b s).reads)
    ∙ by_case (first_unknown known (evaluation a s).reads) (first_unknown known (evaluation b s).reads)
    ∙ (λ i. of_both op (sym (tried_of-plain a known s) i) (sym (tried_of-plain b known s) i))
  where
    by_case : (u v : Option ℕ) → answer (earlier u v) (combined op (value_of a s) (value_of b s)) ≡ of_both op (answer u (value_of a s)) (answer v (value_of b s))
    by_case None None = refl
    by_case None (Some r) = refl
    by_case (Some r) v = refl

-- the test comes first, and then one branch alone
abbrev pub of_taken : Tried → Tried → Tried → Tried
of_taken (Done x) a b = if truth x then a else b
of_taken (Needs row) a b = Needs row

pub tried_of-If : (c a b : Expr) (known : List (ℕ × Code)) (s : ℕ → Code) → tried_of (If c a b) known s ≡ of_taken (tried_of c known s) (tried_of a known s) (tried_of b known s)
tried_of-If c a b known s =
    tried_of-plain (If c a b) known s
    ∙ ap (λ v. answer (first_unknown known v.reads) v.value) (evaluation-If c a b s)
    ∙ ap (λ u. answer u (taken c a b s).value) (first_unknown-append known (evaluation c s).reads (taken c a b s).reads)
    ∙ by_case (first_unknown known (evaluation c s).reads) (truth (value_of c s)) refl
    ∙ (λ i. of_taken (sym (tried_of-plain c known s) i) (sym (tried_of-plain a known s) i) (sym (tried_of-plain b known s) i))
  where
    branch : Bool → Evaluated
    branch t = if t then evaluation a s else evaluation b s

    by_case : (u : Option ℕ) (t : Bool) → truth (value_of c s) ≡ t → answer (earlier u (first_unknown known (taken c a b s).reads)) (taken c a b s).value ≡ of_taken (answer u (value_of c s)) (answer (first_unknown known (evaluation a s).reads) (value_of a s)) (answer (first_unknown known (evaluation b s).reads) (value_of b s))
    by_case None true is = rw is refl
    by_case None false is = rw is refl
    by_case (Some r) t is = refl
