-- The values of a text solve its equations.
use Rattle.std.proofs.Common.{◌≡◌, ℕ, suc, inl, inr, ◌||◌, ◌&&◌, not, if◌then◌else◌, Bool, true, false, List, [], ◌∷◌, ◌++◌, Contains, refl, sym, ap, subst, ◌∙◌, append_assoc, arith}
use Rattle.std.specs.List.{list_any, list_all}
use Rattle.values.specs.declared.code.Code.{Code}
use Rattle.values.proofs.ReadsLemmas.{same_by_reads}
use Rattle.values.proofs.PlanLemmas.{reads_named, Contains-from_cons}
use Rattle.plain_evaluation.specs.Place.{Place, same_place}
use Rattle.plain_evaluation.specs.Written.{Says, given, loaded, derived, Written, place_of}
use Rattle.plain_evaluation.specs.Keyed.{Stand, literal, place, stands_for}
use Rattle.plain_evaluation.specs.Scratch.{Values, no_values, with_value, value_for, seen_from, load_value, value_said, values_in}
use Rattle.plain_evaluation.specs.Sound.{has_place, places_differ, is_named, comes_before, ids_read, names_come_before, Among, IsSound}
use Rattle.plain_evaluation.proofs.Places.{and_cases, or_none, not_true, place_itself, apart}

with_value-other : (p : Place) (code : Code) (values : Values) (q : Place) → same_place p q ≡ false → with_value p code values q ≡ values q
with_value-other p code values q other = ap (λ (b : Bool). if b then code else values q) other

with_value-same : (p : Place) (code : Code) (values : Values) → with_value p code values p ≡ code
with_value-same p code values = ap (λ (b : Bool). if b then code else values p) (place_itself p)

-- a text leaves the values of places that it does not have
pub framed : (keyed : ℕ → Bool) (ws : List Written) (values : Values) (p : Place) → has_place ws p ≡ false → values_in keyed ws values p ≡ values p
framed keyed [] values p out = refl
framed keyed (w ∷ ws) values p out =
    let both = or_none (same_place (place_of w) p) (has_place ws p) out in
    let code = value_said w.says w.id (seen_from keyed values w.scene) in
    framed keyed ws (with_value (place_of w) code values) p both.1 ∙ with_value-other (place_of w) code values p both.0

-- values are the same by what is read
same_said : (says : Says) (id : ℕ) (f g : ℕ → Code) → ((n : ℕ) → Contains (ids_read says id) n → f n ≡ g n) → value_said says id f ≡ value_said says id g
same_said (given kind code) id f g same = refl
same_said (loaded pairs arrived) id f g same = ap (load_value pairs arrived) (same (suc id) (0, omega arith, refl))
same_said (derived kind expr) id f g same = (same_by_reads expr f g (λ n among. same n (reads_named expr f n among))).0

pub each_of : (p : ℕ → Bool) (ids : List ℕ) (n : ℕ) → list_all p ids ≡ true → Contains ids n → p n ≡ true
each_of p [] n all c = absurd (omega (arith, c.1))
each_of p (id ∷ ids) n all c =
    let both = and_cases (p id) (list_all p ids) all in
    let later = each_of p ids n both.1 in
    elim (Contains-from_cons id n ids c) [ inl e ↦ subst (λ m. p m ≡ true) e both.0 | inr g ↦ later g ]

-- what is named before is a place before
pub has_named : (before : List Written) (p : Place) → list_any (λ w. is_named w.says && same_place (place_of w) p) before ≡ true → has_place before p ≡ true
has_named [] p h = h
has_named (w ∷ before) p h = at (is_named w.says) (same_place (place_of w) p) (has_named before p) h
  where
    at : (a b : Bool) → (list_any (λ w. is_named w.says && same_place (place_of w) p) before ≡ true → has_place before p ≡ true) → ((a && b) || list_any (λ w. is_named w.says && same_place (place_of w) p) before) ≡ true → (b || has_place before p) ≡ true
    at true true later h = refl
    at true false later h = later h
    at false true later h = refl
    at false false later h = later h

-- the values of what comes before stay to the end
same_stand : (keyed : ℕ → Bool) (before ws : List Written) (values : Values) (stand : Stand) → places_differ (before ++ ws) ≡ true → comes_before before stand ≡ true → value_for values stand ≡ value_for (values_in keyed ws values) stand
same_stand keyed before ws values (literal code) differ comes = refl
same_stand keyed before ws values (place p) differ comes = sym (framed keyed ws values p (apart before ws p differ (has_named before p comes)))

solves_from : (keyed : ℕ → Bool) (all before ws : List Written) (values : Values) → all ≡ before ++ ws → places_differ all ≡ true → names_come_before keyed before ws ≡ true → (w : Written) → Among ws w → values_in keyed ws values (place_of w) ≡ value_said w.says w.id (seen_from keyed (values_in keyed ws values) w.scene)
solves_from keyed all before [] values is differ back w among = absurd among
solves_from keyed all before (x ∷ ws) values is differ back w (inl here) =
    subst (λ y. values_in keyed (x ∷ ws) values (place_of y) ≡ value_said y.says y.id (seen_from keyed (values_in keyed (x ∷ ws) values) y.scene)) here
    (framed keyed ws (with_value (place_of x) code values) (place_of x) alone ∙ with_value-same (place_of x) code values ∙ same_said x.says x.id (seen_from keyed values x.scene) (seen_from keyed (values_in keyed (x ∷ ws) values) x.scene) same)
  where
    code : Code
    code = value_said x.says x.id (seen_from keyed values x.scene)

    split : places_differ (before ++ x ∷ ws) ≡ true
    split = subst (λ ys. places_differ ys ≡ true) is differ

    both : (list_all (λ id. comes_before before (stands_for keyed x.scene id)) (ids_read x.says x.id) ≡ true) × (names_come_before keyed (before ++ x ∷ []) ws ≡ true)
    both = and_cases _ _ back

    alone : has_place ws (place_of x) ≡ false
    alone = behind before split
      where
        behind : (ys : List Written) → places_differ (ys ++ x ∷ ws) ≡ true → has_place ws (place_of x) ≡ false
        behind [] d = not_true _ (and_cases (not (has_place ws (place_of x))) (places_differ ws) d).0
        behind (y ∷ ys) d = behind ys (and_cases (not (has_place (ys ++ x ∷ ws) (place_of y))) (places_differ (ys ++ x ∷ ws)) d).1

    same : (n : ℕ) → Contains (ids_read x.says x.id) n → seen_from keyed values x.scene n ≡ seen_from keyed (values_in keyed (x ∷ ws) values) x.scene n
    same n read = same_stand keyed before (x ∷ ws) values (stands_for keyed x.scene n) split (each_of (λ id. comes_before before (stands_for keyed x.scene id)) (ids_read x.says x.id) n both.0 read)
solves_from keyed all before (x ∷ ws) values is differ back w (inr later) =
    solves_from keyed all (before ++ x ∷ []) ws (with_value (place_of x) (value_said x.says x.id (seen_from keyed values x.scene)) values) (is ∙ sym (append_assoc before (x ∷ []) ws)) differ (and_cases (list_all (λ id. comes_before before (stands_for keyed x.scene id)) (ids_read x.says x.id)) (names_come_before keyed (before ++ x ∷ []) ws) back).1 w later

pub solves : (keyed : ℕ → Bool) (ws : List Written) → IsSound keyed ws → (w : Written) → Among ws w → values_in keyed ws no_values (place_of w) ≡ value_said w.says w.id (seen_from keyed (values_in keyed ws no_values) w.scene)
solves keyed ws sound w among = solves_from keyed ws [] ws no_values refl sound.differ sound.back w among
