-- Which rows an expression may name.
use Rattle.std.proofs.Common.{◌≡◌, ℕ, inl, inr, List, refl, sym, subst}
use Rattle.values.specs.declared.code.Code.{Code}
use Rattle.values.specs.declared.code.Op.{Op}
use Rattle.values.specs.declared.expr.Expr.{Expr}
use Rattle.values.specs.declared.expr.Expr.TheVariants as of
use Rattle.values.specs.declared.plan.PlanNode.{PlanNode}
use Rattle.values.specs.Plan.{MayRead}
use Rattle.still_readers.specs.Building.{NamedIn}
use Rattle.still_readers.proofs.BuildingLemmas.{named_lit, named_read, read_named, names_binary, left_named, right_named, names_if, branches_named, second_named}
use Rattle.still_rows.specs.Frames.{NamesLawfully}

pub lawful_lit : (nodes : List PlanNode) (at : ℕ) (e : Expr) (code : Code) → e ≡ of.Lit code → NamesLawfully nodes at e
lawful_lit nodes at e code is = record { each = (λ s c. absurd (named_lit code s (subst (λ (q : Expr). NamedIn q s) is c))) }

pub lawful_read : (nodes : List PlanNode) (at : ℕ) (e : Expr) (row : ℕ) → e ≡ of.Read row → MayRead nodes at row → NamesLawfully nodes at e
lawful_read nodes at e row is may = record { each = (λ s c. subst (λ (q : ℕ). MayRead nodes at q) (sym (named_read row s (subst (λ (q : Expr). NamedIn q s) is c))) may) }

pub read_lawful : (nodes : List PlanNode) (at : ℕ) (e : Expr) (row : ℕ) → e ≡ of.Read row → NamesLawfully nodes at e → MayRead nodes at row
read_lawful nodes at e row is h = h.each row (subst (λ (q : Expr). NamedIn q row) (sym is) (read_named row row refl))

pub lawful_binary : (nodes : List PlanNode) (at : ℕ) (e l r : Expr) (op : Op) (a b : Expr) → e ≡ of.Binary op a b → l ≡ a → r ≡ b → NamesLawfully nodes at l → NamesLawfully nodes at r → NamesLawfully nodes at e
lawful_binary nodes at e l r op a b is lt rt h k = record { each = (λ s c. elim (names_binary e l r op a b is lt rt s c) [ inl g ↦ h.each s g | inr g ↦ k.each s g ]) }

pub left_lawful : (nodes : List PlanNode) (at : ℕ) (e l : Expr) (op : Op) (a b : Expr) → e ≡ of.Binary op a b → l ≡ a → NamesLawfully nodes at e → NamesLawfully nodes at l
left_lawful nodes at e l op a b is lt h = record { each = (λ s c. h.each s (left_named e l op a b is lt s c)) }

pub right_lawful : (nodes : List PlanNode) (at : ℕ) (e r : Expr) (op : Op) (a b : Expr) → e ≡ of.Binary op a b → r ≡ b → NamesLawfully nodes at e → NamesLawfully nodes at r
right_lawful nodes at e r op a b is rt h = record { each = (λ s c. h.each s (right_named e r op a b is rt s c)) }

pub lawful_if : (nodes : List PlanNode) (at : ℕ) (e t f s : Expr) (c a b : Expr) → e ≡ of.If c a b → t ≡ c → f ≡ a → s ≡ b → NamesLawfully nodes at t → NamesLawfully nodes at f → NamesLawfully nodes at s → NamesLawfully nodes at e
lawful_if nodes at e t f s c a b is ct ft st h k m = record { each = (λ row n. elim (names_if e t f s c a b is ct ft st row n) [ inl g ↦ elim g [ inl p ↦ h.each row p | inr p ↦ k.each row p ] | inr g ↦ m.each row g ]) }

pub test_lawful : (nodes : List PlanNode) (at : ℕ) (e t : Expr) (c a b : Expr) → e ≡ of.If c a b → t ≡ c → NamesLawfully nodes at e → NamesLawfully nodes at t
test_lawful nodes at e t c a b is ct h = record { each = (λ row n. h.each row (branches_named e t a c a b is ct refl row (inl n))) }

pub first_lawful : (nodes : List PlanNode) (at : ℕ) (e t f : Expr) (c a b : Expr) → e ≡ of.If c a b → t ≡ c → f ≡ a → NamesLawfully nodes at e → NamesLawfully nodes at f
first_lawful nodes at e t f c a b is ct ft h = record { each = (λ row n. h.each row (branches_named e t f c a b is ct ft row (inr n))) }

pub second_lawful : (nodes : List PlanNode) (at : ℕ) (e s : Expr) (c a b : Expr) → e ≡ of.If c a b → s ≡ b → NamesLawfully nodes at e → NamesLawfully nodes at s
second_lawful nodes at e s c a b is st h = record { each = (λ row n. h.each row (second_named e s c a b is st row n)) }
