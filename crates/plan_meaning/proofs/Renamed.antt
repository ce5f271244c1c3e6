-- Expressions whose reads are named anew: what they are, their value, what they name, and two renamings as one.
use Rattle.std.proofs.Common.{◌≡◌, ℕ, inl, inr, if◌then◌else◌, List, [], ◌++◌, Contains, refl, sym, ap, subst, ◌∙◌, arith}
use Rattle.std.proofs.lemmas.List.Elements.{Contains-append_left, Contains-append_right, Contains-append_cases}
use Rattle.values.specs.declared.code.Code.{Code}
use Rattle.values.specs.declared.code.Op.{Op}
use Rattle.values.specs.declared.expr.Expr.{Expr}
use Rattle.values.specs.declared.expr.Expr.TheOpen as form
use Rattle.values.specs.declared.expr.Expr.TheOpen.{Expr-F}
use Rattle.values.specs.declared.expr.Expr.TheVariants.{Lit, Read, Binary, If, rolls-Lit, rolls-Read, rolls-Binary, rolls-If}
use Rattle.values.specs.declared.expr.Expr.TheViews.{roll-Expr}
use Rattle.values.specs.declared.expr.Expr.TheFolds.{fold-roll-Expr, map-Expr, ind-Expr}
use Rattle.values.specs.Evaluation.{truth, combined, value_of}
use Rattle.values.specs.Plan.{rows_in}
use Rattle.values.proofs.Evaluation.{value_of-Lit, value_of-Read, value_of-Binary, value_of-If}
use Rattle.values.proofs.PlanLemmas.{rows_in-Lit, rows_in-Read, rows_in-Binary, rows_in-If}
use Rattle.plan_meaning.specs.Renamed.{renamed, renamed_step}

pub renamed-Lit : (stand : ℕ → Expr) (code : Code) → renamed stand (Lit code) ≡ Lit code
unfolding renamed
renamed-Lit stand code = ap (renamed stand) (sym (rolls-Lit code)) ∙ fold-roll-Expr Expr (renamed_step stand) (form.Lit code)

pub renamed-Read : (stand : ℕ → Expr) (id : ℕ) → renamed stand (Read id) ≡ stand id
unfolding renamed
renamed-Read stand id = ap (renamed stand) (sym (rolls-Read id)) ∙ fold-roll-Expr Expr (renamed_step stand) (form.Read id)

pub renamed-Binary : (stand : ℕ → Expr) (op : Op) (a b : Expr) → renamed stand (Binary op a b) ≡ Binary op (renamed stand a) (renamed stand b)
unfolding renamed
renamed-Binary stand op a b = ap (renamed stand) (sym (rolls-Binary op a b)) ∙ fold-roll-Expr Expr (renamed_step stand) (form.Binary op a b)

pub renamed-If : (stand : ℕ → Expr) (c a b : Expr) → renamed stand (If c a b) ≡ If (renamed stand c) (renamed stand a) (renamed stand b)
unfolding renamed
renamed-If stand c a b = ap (renamed stand) (sym (rolls-If c a b)) ∙ fold-roll-Expr Expr (renamed_step stand) (form.If c a b)

-- ---- the value

-- an expression with its reads replaced has the value over what those have
abbrev IsReplaced : Expr → Type 0
IsReplaced e = (stand : ℕ → Expr) (f : ℕ → Code) → value_of (renamed stand e) f ≡ value_of e (λ n. value_of (stand n) f)

abbrev Valued : Type 0
Valued = (e : Expr) × IsReplaced e

value_by_form : (y : Expr-F Valued) → IsReplaced (roll-Expr (map-Expr Valued Expr (λ e. e.0) y))
value_by_form (form.Lit code) = subst IsReplaced (sym (rolls-Lit code)) (λ stand f. ap (λ e. value_of e f) (renamed-Lit stand code) ∙ value_of-Lit code f ∙ sym (value_of-Lit code (λ n. value_of (stand n) f)))
value_by_form (form.Read id) = subst IsReplaced (sym (rolls-Read id)) (λ stand f. ap (λ e. value_of e f) (renamed-Read stand id) ∙ sym (value_of-Read id (λ n. value_of (stand n) f)))
value_by_form (form.Binary op a b) = subst IsReplaced (sym (rolls-Binary op a.0 b.0)) (λ stand f.
    ap (λ e. value_of e f) (renamed-Binary stand op a.0 b.0)
    ∙ value_of-Binary op (renamed stand a.0) (renamed stand b.0) f
    ∙ (λ i. combined op (a.1 stand f i) (b.1 stand f i))
    ∙ sym (value_of-Binary op a.0 b.0 (λ n. value_of (stand n) f)))
value_by_form (form.If c a b) = subst IsReplaced (sym (rolls-If c.0 a.0 b.0)) (λ stand f.
    ap (λ e. value_of e f) (renamed-If stand c.0 a.0 b.0)
    ∙ value_of-If (renamed stand c.0) (renamed stand a.0) (renamed stand b.0) f
    ∙ (λ i. if truth (c.1 stand f i) then a.1 stand f i else b.1 stand f i)
    ∙ sym (value_of-If c.0 a.0 b.0 (λ n. value_of (stand n) f)))

pub replaced : (e : Expr) → IsReplaced e
replaced = ind-Expr IsReplaced (λ x y is. subst (λ z. IsReplaced (roll-Expr z)) is (value_by_form y))

-- ---- what it names

-- each row that it names is named by what stands for an id that the expression names
abbrev pub Named : Expr → Type 0
Named e = (stand : ℕ → Expr) (r : ℕ) → Contains (rows_in (renamed stand e)) r → (n : ℕ) × Contains (rows_in e) n × Contains (rows_in (stand n)) r

abbrev Naming : Type 0
Naming = (e : Expr) × Named e

names_by_form : (y : Expr-F Naming) → Named (roll-Expr (map-Expr Naming Expr (λ e. e.0) y))
names_by_form (form.Lit code) = subst Named (sym (rolls-Lit code)) (λ stand r h. (let none : Contains [] r = subst (λ xs. Contains xs r) (ap rows_in (renamed-Lit stand code) ∙ rows_in-Lit code) h in absurd (omega (arith, none.1))))
names_by_form (form.Read id) = subst Named (sym (rolls-Read id)) (λ stand r h. (id, subst (λ xs. Contains xs id) (sym (rows_in-Read id)) (0, omega arith, refl), subst (λ e. Contains (rows_in e) r) (renamed-Read stand id) h))
names_by_form (form.Binary op a b) = subst Named (sym (rolls-Binary op a.0 b.0)) (λ stand r h.
    elim (Contains-append_cases (rows_in (renamed stand a.0)) (rows_in (renamed stand b.0)) r (subst (λ xs. Contains xs r) (ap rows_in (renamed-Binary stand op a.0 b.0) ∙ rows_in-Binary op (renamed stand a.0) (renamed stand b.0)) h)) [
      | inl g ↦ (let one = a.1 stand r g in (one.0, subst (λ xs. Contains xs one.0) (sym (rows_in-Binary op a.0 b.0)) (Contains-append_left (rows_in a.0) (rows_in b.0) one.0 one.1), one.2))
      | inr g ↦ (let one = b.1 stand r g in (one.0, subst (λ xs. Contains xs one.0) (sym (rows_in-Binary op a.0 b.0)) (Contains-append_right (rows_in a.0) (rows_in b.0) one.0 one.1), one.2))
    ])
names_by_form (form.If c a b) = subst Named (sym (rolls-If c.0 a.0 b.0)) (λ stand r h.
    let all : (n : ℕ) → Contains (rows_in c.0 ++ rows_in a.0 ++ rows_in b.0) n → Contains (rows_in (If c.0 a.0 b.0)) n = λ n g. subst (λ xs. Contains xs n) (sym (rows_in-If c.0 a.0 b.0)) g in
    elim (Contains-append_cases (rows_in (renamed stand c.0) ++ rows_in (renamed stand a.0)) (rows_in (renamed stand b.0)) r (subst (λ xs. Contains xs r) (ap rows_in (renamed-If stand c.0 a.0 b.0) ∙ rows_in-If (renamed stand c.0) (renamed stand a.0) (renamed stand b.0)) h)) [
      | inl g ↦ elim (Contains-append_cases (rows_in (renamed stand c.0)) (rows_in (renamed stand a.0)) r g) [
        | inl f ↦ (let one = c.1 stand r f in (one.0, all one.0 (Contains-append_left (rows_in c.0 ++ rows_in a.0) (rows_in b.0) one.0 (Contains-append_left (rows_in c.0) (rows_in a.0) one.0 one.1)), one.2))
        | inr f ↦ (let one = a.1 stand r f in (one.0, all one.0 (Contains-append_left (rows_in c.0 ++ rows_in a.0) (rows_in b.0) one.0 (Contains-append_right (rows_in c.0) (rows_in a.0) one.0 one.1)), one.2))
      ]
      | inr g ↦ (let one = b.1 stand r g in (one.0, all one.0 (Contains-append_right (rows_in c.0 ++ rows_in a.0) (rows_in b.0) one.0 one.1), one.2))
    ])

pub named : (e : Expr) → Named e
named = ind-Expr Named (λ x y is. subst (λ z. Named (roll-Expr z)) is (names_by_form y))

-- ---- two renamings

abbrev Agree : (ℕ → Expr) → (ℕ → Expr) → (ℕ → Expr) → List ℕ → Type 0
Agree second first whole rows = (r : ℕ) → Contains rows r → renamed second (first r) ≡ whole r

abbrev IsTwice : Expr → Type 0
IsTwice e = (second first whole : ℕ → Expr) → Agree second first whole (rows_in e) → renamed second (renamed first e) ≡ renamed whole e

abbrev Renaming : Type 0
Renaming = (e : Expr) × IsTwice e

agree_left : (second first whole : ℕ → Expr) (xs ys : List ℕ) → Agree second first whole (xs ++ ys) → Agree second first whole xs
agree_left second first whole xs ys agree r among = agree r (Contains-append_left xs ys r among)

agree_right : (second first whole : ℕ → Expr) (xs ys : List ℕ) → Agree second first whole (xs ++ ys) → Agree second first whole ys
agree_right second first whole xs ys agree r among = agree r (Contains-append_right xs ys r among)

twice_by_form : (y : Expr-F Renaming) → IsTwice (roll-Expr (map-Expr Renaming Expr (λ e. e.0) y))
twice_by_form (form.Lit code) = subst IsTwice (sym (rolls-Lit code)) (λ second first whole agree.
    ap (renamed second) (renamed-Lit first code) ∙ renamed-Lit second code ∙ sym (renamed-Lit whole code))
twice_by_form (form.Read id) = subst IsTwice (sym (rolls-Read id)) (λ second first whole agree.
    ap (renamed second) (renamed-Read first id) ∙ agree id (subst (λ xs. Contains xs id) (sym (rows_in-Read id)) (0, omega arith, refl)) ∙ sym (renamed-Read whole id))
twice_by_form (form.Binary op a b) = subst IsTwice (sym (rolls-Binary op a.0 b.0)) (λ second first whole agree.
    let here = subst (Agree second first whole) (rows_in-Binary op a.0 b.0) agree in
    let one = a.1 second first whole (agree_left second first whole (rows_in a.0) (rows_in b.0) here) in
    let two = b.1 second first whole (agree_right second first whole (rows_in a.0) (rows_in b.0) here) in
    ap (renamed second) (renamed-Binary first op a.0 b.0)
    ∙ renamed-Binary second op (renamed first a.0) (renamed first b.0)
    ∙ (λ i. Binary op (one i) (two i))
    ∙ sym (renamed-Binary whole op a.0 b.0))
twice_by_form (form.If c a b) = subst IsTwice (sym (rolls-If c.0 a.0 b.0)) (λ second first whole agree.
    let here = subst (Agree second first whole) (rows_in-If c.0 a.0 b.0) agree in
    let early = agree_left second first whole (rows_in c.0 ++ rows_in a.0) (rows_in b.0) here in
    let test = c.1 second first whole (agree_left second first whole (rows_in c.0) (rows_in a.0) early) in
    let one = a.1 second first whole (agree_right second first whole (rows_in c.0) (rows_in a.0) early) in
    let two = b.1 second first whole (agree_right second first whole (rows_in c.0 ++ rows_in a.0) (rows_in b.0) here) in
    ap (renamed second) (renamed-If first c.0 a.0 b.0)
    ∙ renamed-If second (renamed first c.0) (renamed first a.0) (renamed first b.0)
    ∙ (λ i. If (test i) (one i) (two i))
    ∙ sym (renamed-If whole c.0 a.0 b.0))

-- renamed twice is renamed once, by what both do to each id that the expression names
pub twice : (e : Expr) → IsTwice e
twice = ind-Expr IsTwice (λ x y is. subst (λ z. IsTwice (roll-Expr z)) is (twice_by_form y))
