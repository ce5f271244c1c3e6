-- What a name stands for, among what an item may name.
use Rattle.std.proofs.Common.{◌≡◌, ℕ, ◌+◌, ◌<◌, ◌≤◌, ◌==◌, ◌&&◌, ◌||◌, not, nat_lt, if◌then◌else◌, Bool, true, false, List, [], ◌∷◌, ◌++◌, length, Some, None, Option, is_none, unwrap_or, refl, sym, ap, subst, ◌∙◌, arith, ne_eqb, eq-eqb, ltb-true, lt-ltb, le-leb}
use Rattle.std.specs.List.{find, list_any, flat_map, position}
use Rattle.std.specs.Option.{option_map, option_and_then}
use Rattle.std.proofs.lemmas.List.Folds.{list_any-append}
use Rattle.std.proofs.lemmas.List.Quantifiers.{position-Some}
use Rattle.grammar.proofs.Theory.{and_cases, and_both, or_left, or_right}
use Rattle.component_items.specs.Kept.{Known, known_value, known_resource, known_store, is_value, is_part_of, store_among}
use Rattle.component_items.specs.Kept as kept
use Rattle.values.specs.Texts.{index_of}
use Rattle.component_meaning.specs.State.{What, signal_name, memo_name, effect_name, resource_name, load_name, store_name, area_name, Declared, Rows}
use Rattle.component_meaning.specs.Names.{has_value, is_resource, is_store, is_other, fields_of, is_key, field_at, part_of}

-- ---- a declaration, as what may be named

abbrev pub known_from : ℕ → What → List Known
known_from id signal_name = known_value id ∷ []
known_from id memo_name = known_value id ∷ []
known_from id effect_name = []
known_from id resource_name = known_resource id ∷ []
known_from id load_name = known_value id ∷ []
known_from id (store_name fields) = known_store id (length fields) ∷ []
known_from id area_name = []

abbrev pub knowns : List Declared → List Known
knowns seen = flat_map (λ d. known_from d.id d.what) seen

-- a name that is found
module _ (n : ℕ) (p : Known → Bool) where
  found : (seen : List Declared) (d : Declared) → find (λ e. e.name == n) seen ≡ Some d → list_any p (known_from d.id d.what) ≡ true → list_any p (knowns seen) ≡ true
  found [] d is has = absurd cc
  found (e ∷ seen) d is has = at (e.name == n) is (found seen d)
    where
      at : (b : Bool) → (if b then Some e else find (λ f. f.name == n) seen) ≡ Some d → (find (λ f. f.name == n) seen ≡ Some d → list_any p (known_from d.id d.what) ≡ true → list_any p (knowns seen) ≡ true)
          → list_any p (knowns (e ∷ seen)) ≡ true
      at true is others =
          let same : e ≡ d = cc in
          list_any-append p (known_from e.id e.what) (knowns seen) ∙ or_left _ _ (subst (λ (f : Declared). list_any p (known_from f.id f.what) ≡ true) (sym same) has)
      at false is others = list_any-append p (known_from e.id e.what) (knowns seen) ∙ or_right _ _ (others is has)

value_is : (id : ℕ) (what : What) → has_value what ≡ true → list_any (is_value id) (known_from id what) ≡ true
value_is id signal_name h = or_left _ _ (eq-eqb id id refl)
value_is id memo_name h = or_left _ _ (eq-eqb id id refl)
value_is id load_name h = or_left _ _ (eq-eqb id id refl)
value_is id effect_name h = absurd cc
value_is id resource_name h = absurd cc
value_is id area_name h = absurd cc
value_is id (store_name fields) h = absurd cc

resource_is : (id : ℕ) (what : What) → is_resource what ≡ true → list_any (kept.is_resource id) (known_from id what) ≡ true
resource_is id resource_name h = or_left _ _ (eq-eqb id id refl)
resource_is id signal_name h = absurd cc
resource_is id memo_name h = absurd cc
resource_is id load_name h = absurd cc
resource_is id effect_name h = absurd cc
resource_is id area_name h = absurd cc
resource_is id (store_name fields) h = absurd cc

pub value_found : (n : ℕ) (seen : List Declared) (d : Declared) → find (λ e. e.name == n) seen ≡ Some d → has_value d.what ≡ true → list_any (is_value d.id) (knowns seen) ≡ true
value_found n seen d is has = found n (is_value d.id) seen d is (value_is d.id d.what has)

pub resource_found : (n : ℕ) (seen : List Declared) (d : Declared) → find (λ e. e.name == n) seen ≡ Some d → is_resource d.what ≡ true → list_any (kept.is_resource d.id) (knowns seen) ≡ true
resource_found n seen d is has = found n (kept.is_resource d.id) seen d is (resource_is d.id d.what has)

-- ---- ids fall from one declaration to the one before

abbrev pub falls : ℕ → List Declared → Bool
falls bound [] = true
falls bound (d ∷ seen) = nat_lt d.id bound && falls d.id seen

pub falls_more : (bound bound' : ℕ) (seen : List Declared) → bound ≤ bound' → falls bound seen ≡ true → falls bound' seen ≡ true
falls_more bound bound' [] within h = refl
falls_more bound bound' (d ∷ seen) within h =
    let both = and_cases (nat_lt d.id bound) (falls d.id seen) h in
    let below = ltb-true d.id bound both.0 in
    and_both _ _ (lt-ltb d.id bound' (omega arith)) both.1

found_below : (n bound : ℕ) (seen : List Declared) (d : Declared) → find (λ e. e.name == n) seen ≡ Some d → falls bound seen ≡ true → d.id < bound
found_below n bound [] d is h = absurd cc
found_below n bound (e ∷ seen) d is h =
    let both = and_cases (nat_lt e.id bound) (falls e.id seen) h in
    at (e.name == n) is (ltb-true e.id bound both.0) (λ found. found_below n e.id seen d found both.1)
  where
    at : (b : Bool) → (if b then Some e else find (λ f. f.name == n) seen) ≡ Some d → e.id < bound → (find (λ f. f.name == n) seen ≡ Some d → d.id < e.id) → d.id < bound
    at true is below others = let same : e ≡ d = cc in subst (λ (f : Declared). f.id < bound) same below
    at false is below others = let less = others is in omega arith

-- a store that is found is the only one with its id
pub store_found : (n bound : ℕ) (seen : List Declared) (d : Declared) → find (λ e. e.name == n) seen ≡ Some d → is_store d.what ≡ true → falls bound seen ≡ true
    → store_among d.id (knowns seen) ≡ Some (known_store d.id (length (fields_of d.what)))
store_found n bound [] d is has h = absurd cc
store_found n bound (e ∷ seen) d is has h =
    let both = and_cases (nat_lt e.id bound) (falls e.id seen) h in
    at (e.name == n) is (λ found. found_below n e.id seen d found both.1) (λ found. store_found n e.id seen d found has both.1)
  where
    here : (id : ℕ) (what : What) → is_store what ≡ true → store_among id (known_from id what ++ knowns seen) ≡ Some (known_store id (length (fields_of what)))
    here id (store_name fields) h = ap (λ b. if b then Some (known_store id (length fields)) else store_among id (knowns seen)) (eq-eqb id id refl)
    here id signal_name h = absurd cc
    here id memo_name h = absurd cc
    here id load_name h = absurd cc
    here id effect_name h = absurd cc
    here id resource_name h = absurd cc
    here id area_name h = absurd cc

    behind : (id : ℕ) (what : What) → d.id < id → store_among d.id (known_from id what ++ knowns seen) ≡ store_among d.id (knowns seen)
    behind id (store_name fields) less = ap (λ b. if b then Some (known_store id (length fields)) else store_among d.id (knowns seen)) (ne_eqb id d.id (omega arith))
    behind id _ less = refl

    at : (b : Bool) → (if b then Some e else find (λ f. f.name == n) seen) ≡ Some d → (find (λ f. f.name == n) seen ≡ Some d → d.id < e.id)
        → (find (λ f. f.name == n) seen ≡ Some d → store_among d.id (knowns seen) ≡ Some (known_store d.id (length (fields_of d.what))))
        → store_among d.id (knowns (e ∷ seen)) ≡ Some (known_store d.id (length (fields_of d.what)))
    at true is less others =
        let same : e ≡ d = cc in
        subst (λ (f : Declared). store_among f.id (known_from e.id e.what ++ knowns seen) ≡ Some (known_store f.id (length (fields_of f.what)))) same
        (here e.id e.what (subst (λ (f : Declared). is_store f.what ≡ true) (sym same) has))
    at false is less others = behind e.id e.what (less is) ∙ others is

pub store_is_there : (id : ℕ) (known : List Known) (k : Known) → store_among id known ≡ Some k → list_any (kept.is_store id) known ≡ true
store_is_there id [] k is = absurd cc
store_is_there id (known_value n ∷ known) k is = store_is_there id known k is
store_is_there id (known_resource n ∷ known) k is = store_is_there id known k is
store_is_there id (known_store n fields ∷ known) k is = at (n == id) is (store_is_there id known k)
  where
    at : (b : Bool) → (if b then Some (known_store n fields) else store_among id known) ≡ Some k → (store_among id known ≡ Some k → list_any (kept.is_store id) known ≡ true) → (b || list_any (kept.is_store id) known) ≡ true
    at true is others = refl
    at false is others = others is

-- ---- names in a text

-- a name that passes is one of something that is wanted
pub wanted_one : (wanted : What → Bool) (o : Option Declared) (d : Declared) → o ≡ Some d → is_other wanted o ≡ false → wanted d.what ≡ true
wanted_one wanted None d is h = absurd cc
wanted_one wanted (Some e) d is h = let same : e ≡ d = cc in subst (λ (f : Declared). wanted f.what ≡ true) same (un_not (wanted e.what) h)
  where
    un_not : (b : Bool) → not b ≡ false → b ≡ true
    un_not true h = refl
    un_not false h = absurd cc

pub named_by : (n : Option ℕ) (seen : List Declared) (d : Declared) → option_and_then (λ m. find (λ e. e.name == m) seen) n ≡ Some d → (m : ℕ) × (find (λ e. e.name == m) seen ≡ Some d)
named_by None seen d is = absurd cc
named_by (Some m) seen d is = (m, is)

-- ---- parts of a row

field_below : (name : List ℕ) (texts : List (List ℕ)) (fields : List ℕ) (i : ℕ) → field_at name fields texts ≡ Some i → i < length fields
field_below name texts fields i is = at (index_of name texts) is
  where
    at : (o : Option ℕ) → option_and_then (λ n. position (λ f. f == n) fields) o ≡ Some i → i < length fields
    at None is = absurd cc
    at (Some n) is = (position-Some (λ f. f == n) fields i 0 is).0

in_row : (store count id : ℕ) → store < id → id ≤ store + 1 + count → is_part_of id (Some (known_store store count)) ≡ true
in_row store count id above within = and_both _ _ (lt-ltb store id above) (le-leb id (store + 1 + count) within)

pub part_is : (name : List ℕ) (texts : List (List ℕ)) (rows : Rows) → is_none (part_of name texts rows) ≡ false
    → is_part_of (unwrap_or (part_of name texts rows) 0) (Some (known_store rows.store (length rows.fields))) ≡ true
part_is name texts rows some = at (is_key name) (field_at name rows.fields texts) (field_below name texts rows.fields) some
  where
    at : (b : Bool) (o : Option ℕ) → ((i : ℕ) → o ≡ Some i → i < length rows.fields) → is_none (if b then Some (rows.store + 1) else option_map (λ i. rows.store + 2 + i) o) ≡ false
        → is_part_of (unwrap_or (if b then Some (rows.store + 1) else option_map (λ i. rows.store + 2 + i) o) 0) (Some (known_store rows.store (length rows.fields))) ≡ true
    at true o below some = in_row rows.store (length rows.fields) (rows.store + 1) (omega arith) (omega arith)
    at false None below some = absurd cc
    at false (Some i) below some = let less = below i refl in in_row rows.store (length rows.fields) (rows.store + 2 + i) (omega arith) (omega arith)
