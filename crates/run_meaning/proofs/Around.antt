-- What is around an owner: an owner inside of one that is inside of an area is inside of the area.
use Rattle.std.proofs.Common.{◌≡◌, ◌≢◌, ◌⊎◌, eqb, ℕ, zero, suc, ◌+◌, ◌<◌, ◌==◌, ◌||◌, Bool, true, false, Option, Some, None, List, [], ◌∷◌, ◌++◌, length, inl, inr, refl, sym, ap, subst, ⊎_elim, ◌∙◌, arith, length-append}
use Rattle.std.specs.Prelude.{slice_get, unwrap_or}
use Rattle.std.proofs.lemmas.Bool.{eqb-true}
use Rattle.std.proofs.lemmas.Bool.Decides.{eqb_tells}
use Rattle.values.specs.declared.plan.PlanOwner.{PlanOwner}
use Rattle.run_meaning.specs.Opened.{around_of, around_from}
use Rattle.run_meaning.proofs.Areas.{around_at, holds, at_front, at_end, within}

-- around an owner stands nothing, or what is around a smaller one
abbrev pub IsAround : List (List ℕ) → ℕ → Type 0
IsAround known m = (around_at known m ≡ m ∷ []) ⊎ ((k : ℕ) × (k < m) × (around_at known m ≡ m ∷ around_at known k))

abbrev AreAround : List (List ℕ) → Type 0
AreAround known = (m : ℕ) → m < length known → IsAround known m

front_at : (known : List (List ℕ)) (x : List ℕ) (k : ℕ) → k < length known → around_at (known ++ x ∷ []) k ≡ around_at known k
front_at known x k l = ap (λ (o : Option (List ℕ)). unwrap_or o []) (at_front known (x ∷ []) k l)

last_at : (known : List (List ℕ)) (x : List ℕ) → around_at (known ++ x ∷ []) (length known) ≡ x
last_at known x = ap (λ (o : Option (List ℕ)). unwrap_or o []) (at_end known x)

-- the last one
last_around : (known : List (List ℕ)) (parent : Option ℕ) → IsAround (known ++ around_of known (length known) parent ∷ []) (length known)
last_around known None = inl (last_at known (length known ∷ []))
last_around known (Some parent) = at (slice_get known parent) refl
  where
    entry : List ℕ
    entry = around_of known (length known) (Some parent)

    at : (o : Option (List ℕ)) → slice_get known parent ≡ o → IsAround (known ++ around_of known (length known) (Some parent) ∷ []) (length known)
    at None is = inl (last_at known (around_of known (length known) (Some parent)) ∙ ap (λ (o : Option (List ℕ)). length known ∷ unwrap_or o []) is)
    at (Some x) is = let l = within known parent x is in inr (parent, l, last_at known (around_of known (length known) (Some parent)) ∙ ap (λ (ms : List ℕ). length known ∷ ms) (sym (front_at known (around_of known (length known) (Some parent)) parent l)))

below_or_last : (m n : ℕ) → m < n + 1 → (m < n) ⊎ (m ≡ n)
below_or_last m n l = ⊎_elim (λ (t : (eqb m n ≡ true) × (m ≡ n)). inr t.1) (λ (f : (eqb m n ≡ false) × (m ≢ n)). inl (omega (arith, f.1))) (eqb_tells m n)

one_more : (known : List (List ℕ)) (parent : Option ℕ) → AreAround known → AreAround (known ++ around_of known (length known) parent ∷ [])
one_more known parent all m l = at (below_or_last m (length known) (omega (arith, length-append known (around_of known (length known) parent ∷ []))))
  where
    at : (m < length known) ⊎ (m ≡ length known) → IsAround (known ++ around_of known (length known) parent ∷ []) m
    at (inl l) = ⊎_elim
        (λ (e : around_at known m ≡ m ∷ []). inl (front_at known (around_of known (length known) parent) m l ∙ e))
        (λ (e : (k : ℕ) × (k < m) × (around_at known m ≡ m ∷ around_at known k)). inr (e.0, e.1, front_at known (around_of known (length known) parent) m l ∙ e.2 ∙ ap (λ (ms : List ℕ). m ∷ ms) (sym (front_at known (around_of known (length known) parent) e.0 (let a = e.1 in omega arith)))))
        (all m l)
    at (inr e) = subst (IsAround (known ++ around_of known (length known) parent ∷ [])) (sym e) (last_around known parent)

pub all_around : (known : List (List ℕ)) (os : List PlanOwner) → AreAround known → AreAround (around_from known os)
all_around known [] all = all
all_around known (o ∷ os) all = all_around (known ++ around_of known (length known) o.parent ∷ []) os (one_more known o.parent all)

none_around : AreAround []
none_around m l = absurd (omega arith)

or_right : (a b : Bool) → b ≡ true → (a || b) ≡ true
or_right true b h = refl
or_right false b h = h

pub or_cases : (a b : Bool) → (a || b) ≡ true → (a ≡ true) ⊎ (b ≡ true)
or_cases true b h = inl refl
or_cases false b h = inr h

-- by the owners from the inside outwards
holds_on : (known : List (List ℕ)) → ((m : ℕ) → m < length known → IsAround known m) → (bound a d m : ℕ) → m < bound → m < length known → holds d (around_at known m) ≡ true → holds a (around_at known d) ≡ true → holds a (around_at known m) ≡ true
holds_on known all zero a d m b l h g = absurd (omega arith)
holds_on known all (suc bound) a d m b l h g = ⊎_elim
    (λ (e : around_at known m ≡ m ∷ []). alone e)
    (λ (e : (k : ℕ) × (k < m) × (around_at known m ≡ m ∷ around_at known k)). more e.0 e.1 e.2 (holds_on known all bound a d e.0 (let s = e.1 in omega arith) (let s = e.1 in omega arith)))
    (all m l)
  where
    same : (d == m) ≡ true → holds a (around_at known m) ≡ true
    same e = subst (λ (k : ℕ). holds a (around_at known k) ≡ true) (eqb-true d m e) g

    alone : around_at known m ≡ m ∷ [] → holds a (around_at known m) ≡ true
    alone e = ⊎_elim same (λ (f : false ≡ true). absurd cc) (or_cases (d == m) false (sym (ap (holds d) e) ∙ h))

    more : (k : ℕ) → k < m → around_at known m ≡ m ∷ around_at known k → (holds d (around_at known k) ≡ true → holds a (around_at known d) ≡ true → holds a (around_at known k) ≡ true) → holds a (around_at known m) ≡ true
    more k s e later = ⊎_elim same (λ (f : holds d (around_at known k) ≡ true). ap (holds a) e ∙ or_right (a == m) (holds a (around_at known k)) (later f g)) (or_cases (d == m) (holds d (around_at known k)) (sym (ap (holds d) e) ∙ h))

pub holds_through : (os : List PlanOwner) (a d m : ℕ) → m < length (around_from [] os) → holds d (around_at (around_from [] os) m) ≡ true → holds a (around_at (around_from [] os) d) ≡ true → holds a (around_at (around_from [] os) m) ≡ true
holds_through os a d m l = holds_on (around_from [] os) (all_around [] os none_around) (suc m) a d m (omega arith) l
