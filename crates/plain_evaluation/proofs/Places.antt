-- Places as tests tell them apart.
use Rattle.std.proofs.Common.{◌≡◌, ◌||◌, ◌&&◌, not, ◌==◌, Bool, true, false, List, [], ◌∷◌, ◌++◌, Option, Some, None, refl, sym, ap, subst, ◌∙◌, arith}
use Rattle.std.proofs.lemmas.Bool.Decides.{Decides-int_eq}
use Rattle.std.proofs.lemmas.Bool.{eqb-true}
use Rattle.std.proofs.lemmas.List.Folds.{list_any-append}
use Rattle.values.specs.declared.code.Code.{Code}
use Rattle.values.specs.declared.code.Code.TheVariants.{Empty, Number, Word}
use Rattle.values.specs.Evaluation.{is_same}
use Rattle.plain_evaluation.specs.Place.{Place, same_key, same_place}
use Rattle.plain_evaluation.specs.Written.{Written, place_of}
use Rattle.plain_evaluation.specs.Sound.{has_place, places_differ}

pub and_cases : (a b : Bool) → (a && b) ≡ true → (a ≡ true) × (b ≡ true)
and_cases true b h = (refl, h)
and_cases false b h = cc

pub and_both : (a b : Bool) → a ≡ true → b ≡ true → (a && b) ≡ true
and_both true b h g = g
and_both false b h g = cc

pub or_none : (a b : Bool) → (a || b) ≡ false → (a ≡ false) × (b ≡ false)
or_none true b h = absurd cc
or_none false b h = (refl, h)

pub or_right : (a b : Bool) → b ≡ true → (a || b) ≡ true
or_right true b h = refl
or_right false b h = h

pub not_true : (b : Bool) → not b ≡ true → b ≡ false
not_true true h = absurd cc
not_true false h = refl

pub same_code : (a b : Code) → is_same a b ≡ true → a ≡ b
same_code Empty Empty h = refl
same_code Empty (Number b) h = cc
same_code Empty (Word b) h = cc
same_code (Number a) Empty h = cc
same_code (Number a) (Number b) h = ap Number ((Decides-int_eq a b).0 h)
same_code (Number a) (Word b) h = cc
same_code (Word a) Empty h = cc
same_code (Word a) (Number b) h = cc
same_code (Word a) (Word b) h = ap Word (eqb-true a b h)

pub code_itself : (a : Code) → is_same a a ≡ true
code_itself Empty = refl
code_itself (Number a) = (Decides-int_eq a a).1 refl
code_itself (Word a) = grind arith

same_keys : (a b : Option Code) → same_key a b ≡ true → a ≡ b
same_keys None None h = refl
same_keys None (Some b) h = cc
same_keys (Some a) None h = cc
same_keys (Some a) (Some b) h = ap Some (same_code a b h)

key_itself : (a : Option Code) → same_key a a ≡ true
key_itself None = refl
key_itself (Some a) = code_itself a

pub same_places : (p q : Place) → same_place p q ≡ true → p ≡ q
same_places p q h =
    let both = and_cases (p.id == q.id) (same_key p.key q.key) h in
    let ids : p.id ≡ q.id = eqb-true p.id q.id both.0 in
    λ i. record { id = ids i; key = same_keys p.key q.key both.1 i }

pub place_itself : (p : Place) → same_place p p ≡ true
place_itself p = and_both (p.id == p.id) (same_key p.key p.key) (grind arith) (key_itself p.key)

pub has_place-append : (xs ys : List Written) (p : Place) → has_place (xs ++ ys) p ≡ (has_place xs p || has_place ys p)
has_place-append xs ys p = list_any-append (λ w. same_place (place_of w) p) xs ys

-- a place of the first part is none of the second
pub apart : (before rest : List Written) (p : Place) → places_differ (before ++ rest) ≡ true → has_place before p ≡ true → has_place rest p ≡ false
apart [] rest p differ has = cc
apart (w ∷ before) rest p differ has =
    let both = and_cases (not (has_place (before ++ rest) (place_of w))) (places_differ (before ++ rest)) differ in
    at (same_place (place_of w) p) refl (or_none (has_place before (place_of w)) (has_place rest (place_of w)) (sym (has_place-append before rest (place_of w)) ∙ not_true _ both.0)).1 has (apart before rest p both.1)
  where
    at : (b : Bool) → same_place (place_of w) p ≡ b → has_place rest (place_of w) ≡ false → (b || has_place before p) ≡ true → (has_place before p ≡ true → has_place rest p ≡ false) → has_place rest p ≡ false
    at true is none h later = subst (λ q. has_place rest q ≡ false) (same_places (place_of w) p is) none
    at false is none h later = later h
