-- Which owners are in an area, by their parents.
use Rattle.std.proofs.Common.{◌≡◌, ◌⊎◌, inl, inr, ⊎_elim, ℕ, zero, suc, ◌<◌, ◌==◌, ◌||◌, Bool, true, false, Option, Some, None, List, [], ◌∷◌, ◌++◌, slice_get, length, refl, sym, ap, subst, ◌∙◌, arith}
use Rattle.std.specs.Prelude.{unwrap_or, IsSomeAnd}
use Rattle.std.specs.List.{list_any}
use Rattle.values.specs.declared.plan.Plan.{Plan}
use Rattle.values.specs.declared.plan.PlanOwner.{PlanOwner}
use Rattle.values.specs.Plan.{IsLawful}
use Rattle.still_readers.proofs.Lists.{at_within, within_at, snoc_at, at_front, at_last, length_more}
use Rattle.run_history.proofs.Lists.{append_nil, append_assoc'}
use Rattle.run_history.proofs.Cut.{is_yes, is_no}
use Rattle.run_meaning.specs.Opened.{around_of, around_from}
use Rattle.phase_graph.specs.Table.{is_within, AreOwners}

pub record AreBelow (os : List PlanOwner) : Type 0 where
  pub each : (n parent : ℕ) (o : PlanOwner) → slice_get os n ≡ Some o → o.parent ≡ Some parent → parent < n

pub below_of : (os : List PlanOwner) → AreOwners os → AreBelow os
below_of os owners = record { each = owners.each }

pub lawful_owners : (plan : Plan) → IsLawful plan → AreOwners plan.owners
lawful_owners plan lawful = record { few = lawful.few_owners; each = each }
  where
    below : (n parent : ℕ) (p : Option ℕ) → IsSomeAnd p (λ k. k < n) → p ≡ Some parent → parent < n
    below n parent None h e = absurd h
    below n parent (Some k) h e = let same : k ≡ parent = cc in subst (λ (j : ℕ). j < n) same h

    each : (n parent : ℕ) (o : PlanOwner) → slice_get plan.owners n ≡ Some o → o.parent ≡ Some parent → parent < n
    each zero parent o at is = let none = lawful.root o at in cc
    each (suc n) parent o at is = below (suc n) parent o.parent (lawful.inside (suc n) o (omega arith) at) is

record AreTied (done : List PlanOwner) (known : List (List ℕ)) : Type 0 where
  long : length known ≡ length done
  each : (n : ℕ) (o : PlanOwner) → slice_get done n ≡ Some o → slice_get known n ≡ Some (around_of known n o.parent)

around_same : (known : List (List ℕ)) (x : List ℕ) (n : ℕ) (parent : Option ℕ) → ((p : ℕ) → parent ≡ Some p → p < length known) → around_of (known ++ x ∷ []) n parent ≡ around_of known n parent
around_same known x n None below = refl
around_same known x n (Some p) below = let y = within_at known p (below p refl) in ap (λ (o : Option (List ℕ)). n ∷ unwrap_or o []) (at_front known (x ∷ []) p y.0 y.1 ∙ sym y.1)

tied_more : (done : List PlanOwner) (o : PlanOwner) (known : List (List ℕ)) → AreBelow (done ++ o ∷ []) → AreTied done known → AreTied (done ++ o ∷ []) (known ++ around_of known (length known) o.parent ∷ [])
tied_more done o known below tied = record {
  long = (let a = length_more known (around_of known (length known) o.parent) in let b = length_more done o in let c = tied.long in omega arith);
  each = (λ n w at. elim (snoc_at done o n w at) [
    | inl was ↦ front n w was
    | inr last ↦ back n w last.0 last.1
  ]);
}
  where
    front : (n : ℕ) (w : PlanOwner) → slice_get done n ≡ Some w → slice_get (known ++ around_of known (length known) o.parent ∷ []) n ≡ Some (around_of (known ++ around_of known (length known) o.parent ∷ []) n w.parent)
    front n w was =
        let l = at_within done n w was in
        at_front known (around_of known (length known) o.parent ∷ []) n _ (tied.each n w was)
        ∙ ap (λ (z : List ℕ). Some z) (sym (around_same known (around_of known (length known) o.parent) n w.parent (λ p is. let b = below.each n p w (at_front done (o ∷ []) n w was) is in let c = tied.long in omega arith)))

    back : (n : ℕ) (w : PlanOwner) → n ≡ length done → w ≡ o → slice_get (known ++ around_of known (length known) o.parent ∷ []) n ≡ Some (around_of (known ++ around_of known (length known) o.parent ∷ []) n w.parent)
    back n w place same =
        let here : n ≡ length known = place ∙ sym tied.long in
        rw (here, same) (at_last known (around_of known (length known) o.parent)
        ∙ ap (λ (z : List ℕ). Some z) (sym (around_same known (around_of known (length known) o.parent) (length known) o.parent (λ p is. let b = below.each (length done) p o (at_last done o) is in let c = tied.long in omega arith))))

tied_all : (done rest : List PlanOwner) (known : List (List ℕ)) → AreBelow (done ++ rest) → AreTied done known → AreTied (done ++ rest) (around_from known rest)
tied_all done [] known below tied = subst (λ (t : List PlanOwner). AreTied t known) (sym (append_nil done)) tied
tied_all done (o ∷ rest) known below tied =
    subst (λ (t : List PlanOwner). AreTied t (around_from known (o ∷ rest))) (append_assoc' done (o ∷ []) rest)
    (tied_all (done ++ o ∷ []) rest (known ++ around_of known (length known) o.parent ∷ []) (subst AreBelow (sym (append_assoc' done (o ∷ []) rest)) below)
    (tied_more done o known record { each = (λ n p w at is. below.each n p w (subst (λ (t : List PlanOwner). slice_get t n ≡ Some w) (append_assoc' done (o ∷ []) rest) (at_front (done ++ o ∷ []) rest n w at)) is) } tied))

around_at : (os : List PlanOwner) → AreBelow os → (n : ℕ) (o : PlanOwner) → slice_get os n ≡ Some o → slice_get (around_from [] os) n ≡ Some (around_of (around_from [] os) n o.parent)
around_at os below n o at = (tied_all [] os [] below record { long = refl; each = (λ k w e. cc) }).each n o at

-- an owner with no parent is in its own area alone
pub within_alone : (os : List PlanOwner) (area n : ℕ) (o : PlanOwner) → AreBelow os → slice_get os n ≡ Some o → o.parent ≡ None → is_within os area n ≡ (area == n)
within_alone os area n o below at none =
    ap (λ (q : Option (List ℕ)). list_any (λ m. area == m) (unwrap_or q [])) (around_at os below n o at ∙ ap (λ (p : Option ℕ). Some (around_of (around_from [] os) n p)) none) ∙ or_none (area == n)
  where
    or_none : (b : Bool) → (b || false) ≡ b
    or_none true = refl
    or_none false = refl

-- another is in its own area, and where its parent is
pub within_parent : (os : List PlanOwner) (area n parent : ℕ) (o : PlanOwner) → AreBelow os → slice_get os n ≡ Some o → o.parent ≡ Some parent → is_within os area n ≡ ((area == n) || is_within os area parent)
within_parent os area n parent o below at is =
    ap (λ (q : Option (List ℕ)). list_any (λ m. area == m) (unwrap_or q [])) (around_at os below n o at ∙ ap (λ (p : Option ℕ). Some (around_of (around_from [] os) n p)) is)

parent_or_none : (p : Option ℕ) → (p ≡ None) ⊎ ((k : ℕ) × (p ≡ Some k))
parent_or_none None = inl refl
parent_or_none (Some k) = inr (k, refl)

-- no owner of a smaller number is in the area
below_bound : (os : List PlanOwner) (area : ℕ) → AreBelow os → (bound n : ℕ) (o : PlanOwner) → n < bound → n < area → slice_get os n ≡ Some o → is_within os area n ≡ false
below_bound os area below zero n o l a at = absurd (omega arith)
below_bound os area below (suc bound) n o l a at = ⊎_elim
    (λ (none : o.parent ≡ None). within_alone os area n o below at none ∙ other)
    (λ (some : (k : ℕ) × (o.parent ≡ Some k)).
    let b = below.each n some.0 o at some.1 in
    let w = at_within os n o at in
    let p = within_at os some.0 (omega arith) in
    within_parent os area n some.0 o below at some.1 ∙ (λ i. other i || below_bound os area below bound some.0 p.0 (omega arith) (omega arith) p.1 i))
    (parent_or_none o.parent)
  where
    other : (area == n) ≡ false
    other = is_no area n (λ e. absurd (omega arith))

pub within_below : (os : List PlanOwner) (area n : ℕ) (o : PlanOwner) → AreBelow os → n < area → slice_get os n ≡ Some o → is_within os area n ≡ false
within_below os area n o below l at = below_bound os area below (suc n) n o (omega arith) l at

-- an owner is in its own area
pub within_own : (os : List PlanOwner) (n : ℕ) → AreBelow os → n < length os → is_within os n n ≡ true
within_own os n below l =
    let o = within_at os n l in
    ⊎_elim (λ (none : o.0.parent ≡ None). within_alone os n n o.0 below o.1 none ∙ is_yes n n refl)
    (λ (some : (k : ℕ) × (o.0.parent ≡ Some k)). within_parent os n n some.0 o.0 below o.1 some.1 ∙ ap (λ (b : Bool). b || is_within os n some.0) (is_yes n n refl))
    (parent_or_none o.0.parent)

-- another that has no parent is not
pub within_none : (os : List PlanOwner) (area n : ℕ) (o : PlanOwner) → AreBelow os → slice_get os n ≡ Some o → o.parent ≡ None → (area ≡ n → ⊥) → is_within os area n ≡ false
within_none os area n o below at none other = within_alone os area n o below at none ∙ is_no area n other

-- and another is where its parent is
pub within_other : (os : List PlanOwner) (area n parent : ℕ) (o : PlanOwner) → AreBelow os → slice_get os n ≡ Some o → o.parent ≡ Some parent → (area ≡ n → ⊥) → is_within os area n ≡ is_within os area parent
within_other os area n parent o below at is other = within_parent os area n parent o below at is ∙ ap (λ (b : Bool). b || is_within os area parent) (is_no area n other)
