-- Pairs that are put into a map one after another, and what is found there.
use Rattle.std.proofs.Common.{◌≡◌, ℕ, suc, ◌+◌, ◌<◌, ◌==◌, nat_eq, cond, if◌then◌else◌, not, Bool, true, false, List, [], ◌∷◌, ◌++◌, drop, drop-cons, length, get_or, append_assoc, Some, None, unwrap_or, min, refl, sym, ap, ◌∙◌, arith}
use Rattle.std.specs.List.{zip, list_any}
use Rattle.std.specs.Map.{lookup}
use Rattle.std.proofs.lemmas.Bool.{eqb-true, eq-eqb}
use Rattle.std.proofs.lemmas.List.{append-nil, drop_all}
use Rattle.std.proofs.lemmas.Slice.Zip.{length-zip, get_or-zip}
use Rattle.indexmap.specs.IndexMap.{insert_entry, insert_all}
use Rattle.values.specs.declared.code.Code.{Code}
use Rattle.values.specs.declared.code.Code.TheVariants.{Empty}
use Rattle.values.specs.contracts.code.CodePartialEq.TheImpl as code
use Rattle.values.specs.Evaluation.{is_same}
use Rattle.component_items.specs.Kept.{are_distinct}
use Rattle.store_fields.proofs.KeyLemmas.{eq_is_same, same_flips, apart_flips}
use Rattle.plain_evaluation.specs.Lookup.{found_in}
use Rattle.plain_evaluation.specs.Scratch.{value_by}
use Rattle.plain_evaluation.proofs.Places.{and_cases, or_none, not_true}
use Rattle.load_table.specs.Table.{ResourceOf, no_resource, pairs_put}

-- ---- a map's entries, where no key comes twice

module _ {K X : Type 0} (eq : K → K → Bool) where
  abbrev pub Lacks : List (K × X) → K → Type 0
  Lacks [] k = Unit {0}
  Lacks (e ∷ es) k = (eq k e.0 ≡ false) × Lacks es k

  pub lacks-append : (es fs : List (K × X)) (k : K) → Lacks es k → Lacks fs k → Lacks (es ++ fs) k
  lacks-append [] fs k h g = g
  lacks-append (e ∷ es) fs k h g = (h.0, lacks-append es fs k h.1 g)

  insert_absent : (es : List (K × X)) (k : K) (v : X) → Lacks es k → insert_entry eq es k v ≡ es ++ (k, v) ∷ []
  insert_absent [] k v h = refl
  insert_absent (e ∷ es) k v h = ap (λ (b : Bool). if b then (e.0, v) ∷ es else e ∷ insert_entry eq es k v) h.0 ∙ ap (λ more. e ∷ more) (insert_absent es k v h.1)

  -- none of them is there when it comes
  abbrev pub AreNew : List (K × X) → List (K × X) → Type 0
  AreNew es [] = Unit {0}
  AreNew es (x ∷ xs) = Lacks es x.0 × AreNew (es ++ x ∷ []) xs

  -- new keys go to the end, in order
  pub put_new : (es xs : List (K × X)) → AreNew es xs → insert_all eq es xs ≡ es ++ xs
  put_new es [] h = sym (append-nil es)
  put_new es (x ∷ xs) h = ap (λ done. insert_all eq done xs) (insert_absent es x.0 x.1 h.0) ∙ put_new (es ++ x ∷ []) xs h.1 ∙ append_assoc es (x ∷ []) xs

  -- one part after another
  pub put-append : (es xs ys : List (K × X)) → insert_all eq es (xs ++ ys) ≡ insert_all eq (insert_all eq es xs) ys
  put-append es [] ys = refl
  put-append es (x ∷ xs) ys = put-append (insert_entry eq es x.0 x.1) xs ys

-- ---- keys of a resource

abbrev AllLack : List (Code × Code) → List Code → Type 0
AllLack es [] = Unit {0}
AllLack es (k ∷ ks) = Lacks code.ghosts.eq es k × AllLack es ks

lack_more : (es : List (Code × Code)) (ks : List Code) (k v : Code) → AllLack es ks → list_any (is_same k) ks ≡ false → AllLack (es ++ (k, v) ∷ []) ks
lack_more es [] k v all none = tt
lack_more es (q ∷ ks) k v all none =
    let both = or_none (is_same k q) (list_any (is_same k) ks) none in
    (lacks-append code.ghosts.eq es ((k, v) ∷ []) q all.0 (eq_is_same q k ∙ apart_flips k q both.0, tt), lack_more es ks k v all.1 both.1)

pairs_new : (es : List (Code × Code)) (ks vs : List Code) → AllLack es ks → are_distinct ks ≡ true → AreNew code.ghosts.eq es (zip ks vs)
pairs_new es [] vs all distinct = tt
pairs_new es (k ∷ ks) [] all distinct = tt
pairs_new es (k ∷ ks) (v ∷ vs) all distinct =
    let both = and_cases (not (list_any (is_same k) ks)) (are_distinct ks) distinct in
    (all.0, pairs_new (es ++ (k, v) ∷ []) ks vs (lack_more es ks k v all.1 (not_true _ both.0)) both.1)

none_yet : (ks : List Code) → AllLack [] ks
none_yet [] = tt
none_yet (k ∷ ks) = (tt, none_yet ks)

pub pairs_stay : (ks vs : List Code) → are_distinct ks ≡ true → pairs_put [] (zip ks vs) ≡ zip ks vs
pairs_stay ks vs distinct = put_new code.ghosts.eq [] (zip ks vs) (pairs_new [] ks vs (none_yet ks) distinct)

-- one pair more
pub pair_more : (es : List (Code × Code)) (ks vs : List Code) (i : ℕ) (k v : Code) → i < length ks → i < length vs → ((d : Code) → k ≡ get_or ks i d) → ((d : Code) → v ≡ get_or vs i d) → pairs_put (insert_entry code.ghosts.eq es k v) (drop (i + 1) (zip ks vs)) ≡ pairs_put es (drop i (zip ks vs))
pair_more es ks vs i k v in_keys in_values key value =
    let long = length-zip ks vs in
    let within : i < length (zip ks vs) = omega (arith, long) in
    let here : get_or (zip ks vs) i (Empty, Empty) ≡ (k, v) = get_or-zip ks vs i (Empty, Empty) in_keys in_values ∙ (λ j. (sym (key Empty) j, sym (value Empty) j)) in
    ap (λ n. pairs_put (insert_entry code.ghosts.eq es k v) (drop n (zip ks vs))) {x = i + 1} {y = suc i} (omega arith)
    ∙ sym (ap (pairs_put es) (drop-cons (zip ks vs) i (Empty, Empty) within ∙ ap (λ x. x ∷ drop (suc i) (zip ks vs)) here))

-- no pair is left
pub pairs_done : (es : List (Code × Code)) (ks vs : List Code) (n : ℕ) → n ≡ min (length ks) (length vs) → pairs_put es (drop n (zip ks vs)) ≡ es
pairs_done es ks vs n all = let long = length-zip ks vs in ap (pairs_put es) (drop_all n (zip ks vs) (omega (arith, long, all)))

-- ---- look-ups

pub value_found : (pairs : List (Code × Code)) (key : Code) → unwrap_or (lookup (code.ghosts.eq key) pairs) Empty ≡ value_by pairs key
value_found [] key = refl
value_found (pair ∷ pairs) key = at (code.ghosts.eq key pair.0) (is_same pair.0 key) (eq_is_same key pair.0 ∙ same_flips key pair.0) (value_found pairs key)
  where
    at : (a b : Bool) → a ≡ b → unwrap_or (lookup (code.ghosts.eq key) pairs) Empty ≡ value_by pairs key → unwrap_or (cond a (Some pair.1) (lookup (code.ghosts.eq key) pairs)) Empty ≡ (if b then pair.1 else value_by pairs key)
    at true true same later = refl
    at true false same later = cc
    at false true same later = cc
    at false false same later = later

ids_flip : (a b : ℕ) → nat_eq a b ≡ (b == a)
ids_flip a b = by (nat_eq a b) (b == a) refl refl
  where
    by : (s t : Bool) → nat_eq a b ≡ s → (b == a) ≡ t → nat_eq a b ≡ (b == a)
    by true t e f = e ∙ sym (eq-eqb b a (sym (eqb-true a b e)))
    by false true e f = eq-eqb a b (sym (eqb-true b a f)) ∙ sym f
    by false false e f = e ∙ sym f

resource_found : (resources : List (ℕ × ResourceOf)) (id : ℕ) → unwrap_or (lookup (nat_eq id) resources) no_resource ≡ found_in no_resource resources id
resource_found [] id = refl
resource_found (pair ∷ resources) id = at (nat_eq id pair.0) (pair.0 == id) (ids_flip id pair.0) (resource_found resources id)
  where
    at : (a b : Bool) → a ≡ b → unwrap_or (lookup (nat_eq id) resources) no_resource ≡ found_in no_resource resources id → unwrap_or (cond a (Some pair.1) (lookup (nat_eq id) resources)) no_resource ≡ (if b then pair.1 else found_in no_resource resources id)
    at true true same later = refl
    at true false same later = cc
    at false true same later = cc
    at false false same later = later

pub resource_there : (resources : List (ℕ × ResourceOf)) (id : ℕ) (resource : ResourceOf) → Some resource ≡ lookup (nat_eq id) resources → resource ≡ found_in no_resource resources id
resource_there resources id resource is = ap (λ o. unwrap_or o no_resource) is ∙ resource_found resources id

pub resource_missing : (resources : List (ℕ × ResourceOf)) (id : ℕ) → None ≡ lookup (nat_eq id) resources → no_resource ≡ found_in no_resource resources id
resource_missing resources id is = ap (λ o. unwrap_or o no_resource) is ∙ resource_found resources id
