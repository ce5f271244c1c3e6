-- What is seen at a place of the text comes before it.
use Rattle.std.proofs.Common.{◌≡◌, ℕ, suc, ◌+◌, ◌<◌, ◌≤◌, ◌⊎◌, ◌||◌, ◌&&◌, ◌==◌, nat_lt, nat_le, if◌then◌else◌, Bool, true, false, List, [], ◌∷◌, ◌++◌, Option, Some, None, is_some, refl, sym, ap, subst, ◌∙◌, append_assoc, arith, ltb-true, leb-true}
use Rattle.std.specs.List.{list_any, list_all}
use Rattle.std.specs.Option.{option_map}
use Rattle.std.proofs.lemmas.List.{append-nil}
use Rattle.std.proofs.lemmas.List.Folds.{list_any-append}
use Rattle.values.specs.declared.expr.Expr.{Expr}
use Rattle.values.specs.Plan.{rows_in}
use Rattle.store_fields.specs.declared.row.Row.{Row}
use Rattle.component_items.specs.Kept.{Known, known_value, known_resource, known_store, Sight, is_value, is_part_of, may_read, sees_all_of, store_among}
use Rattle.plain_evaluation.specs.Place.{Place, same_place}
use Rattle.plain_evaluation.specs.Written.{State, RowAround, Scene, Written, place_of, key_in, in_row}
use Rattle.plain_evaluation.specs.Keyed.{Stand, literal, place, stands_in, stands_for}
use Rattle.plain_evaluation.specs.Sound.{is_named, comes_before, names_come_before}
use Rattle.plain_evaluation.proofs.Places.{and_cases, and_both, or_right}

abbrev pub has_named : List Written → Place → Bool
has_named ws p = list_any (λ w. is_named w.says && same_place (place_of w) p) ws

abbrev pub RowAmong : List Row → Row → Type 0
RowAmong [] row = ⊥
RowAmong (r ∷ rows) row = (r ≡ row) ⊎ RowAmong rows row

-- the fields of the rows of a store come before
abbrev pub StoreComes : State → (ℕ → Bool) → List Written → Option Known → Type 0
StoreComes state keyed before (Some (known_store n fields)) = (row : Row) → RowAmong (state.rows n) row → (id : ℕ) → suc n < id → id ≤ n + 1 + fields → (keyed id ≡ true) × (has_named before (record { id = id; key = Some row.key }) ≡ true)
StoreComes state keyed before (Some (known_value n)) = Unit {0}
StoreComes state keyed before (Some (known_resource n)) = Unit {0}
StoreComes state keyed before None = Unit {0}

pub record Covers (state : State) (keyed : ℕ → Bool) (before : List Written) (scene : Scene) (sight : Sight) : Type 0 where
  pub values : (id : ℕ) → list_any (is_value id) sight.known ≡ true → (scene.row ≡ None → keyed id ≡ false) × (comes_before before (stands_for keyed scene id) ≡ true)
  pub stores : (n : ℕ) → StoreComes state keyed before (store_among n sight.known)
  pub parts : (id : ℕ) → is_part_of id sight.rows ≡ true → comes_before before (stands_for keyed scene id) ≡ true

-- ---- more before

pub named_more : (before more : List Written) (p : Place) → has_named before p ≡ true → has_named (before ++ more) p ≡ true
named_more before more p h = list_any-append (λ w. is_named w.says && same_place (place_of w) p) before more ∙ ap (λ b. b || has_named more p) h

pub named_behind : (before more : List Written) (p : Place) → has_named more p ≡ true → has_named (before ++ more) p ≡ true
named_behind before more p h = list_any-append (λ w. is_named w.says && same_place (place_of w) p) before more ∙ or_right (has_named before p) (has_named more p) h

pub comes_more : (before more : List Written) (stand : Stand) → comes_before before stand ≡ true → comes_before (before ++ more) stand ≡ true
comes_more before more (literal code) h = refl
comes_more before more (place p) h = named_more before more p h

store_more : (state : State) (keyed : ℕ → Bool) (before more : List Written) (known : Option Known) → StoreComes state keyed before known → StoreComes state keyed (before ++ more) known
store_more state keyed before more None comes = tt
store_more state keyed before more (Some (known_value n)) comes = tt
store_more state keyed before more (Some (known_resource n)) comes = tt
store_more state keyed before more (Some (known_store n fields)) comes = λ row among id above below. let both = comes row among id above below in (both.0, named_more before more (record { id = id; key = Some row.key }) both.1)

pub covers_more : (state : State) (keyed : ℕ → Bool) (before more : List Written) (scene : Scene) (sight : Sight) → Covers state keyed before scene sight → Covers state keyed (before ++ more) scene sight
covers_more state keyed before more scene sight covers = record {
  values = λ id is. let both = covers.values id is in (both.0, comes_more before more (stands_for keyed scene id) both.1);
  stores = λ n. store_more state keyed before more (store_among n sight.known) (covers.stores n);
  parts = λ id is. comes_more before more (stands_for keyed scene id) (covers.parts id is);
}

pub names-append : (keyed : ℕ → Bool) (before xs ys : List Written) → names_come_before keyed before xs ≡ true → names_come_before keyed (before ++ xs) ys ≡ true → names_come_before keyed before (xs ++ ys) ≡ true
names-append keyed before [] ys first second = subst (λ zs. names_come_before keyed zs ys ≡ true) (append-nil before) second
names-append keyed before (x ∷ xs) ys first second =
    let both = and_cases _ _ first in
    and_both _ _ both.0 (names-append keyed (before ++ x ∷ []) xs ys both.1 (subst (λ zs. names_come_before keyed zs ys ≡ true) (sym (append_assoc before (x ∷ []) xs)) second))

-- ---- what an expression reads

all_of : (p q : ℕ → Bool) (ids : List ℕ) → ((id : ℕ) → p id ≡ true → q id ≡ true) → list_all p ids ≡ true → list_all q ids ≡ true
all_of p q [] step all = refl
all_of p q (id ∷ ids) step all = let both = and_cases (p id) (list_all p ids) all in and_both (q id) (list_all q ids) (step id both.0) (all_of p q ids step both.1)

pub reads_come : (state : State) (keyed : ℕ → Bool) (before : List Written) (scene : Scene) (sight : Sight) (expr : Expr) → Covers state keyed before scene sight → sees_all_of expr sight ≡ true → list_all (λ id. comes_before before (stands_for keyed scene id)) (rows_in expr) ≡ true
reads_come state keyed before scene sight expr covers sees = all_of (may_read sight) (λ id. comes_before before (stands_for keyed scene id)) (rows_in expr) each sees
  where
    each : (id : ℕ) → may_read sight id ≡ true → comes_before before (stands_for keyed scene id) ≡ true
    each id may = at (list_any (is_value id) sight.known) refl may
      where
        at : (b : Bool) → list_any (is_value id) sight.known ≡ b → (b || is_part_of id sight.rows) ≡ true → comes_before before (stands_for keyed scene id) ≡ true
        at true is may = (covers.values id is).1
        at false is may = covers.parts id may

-- ---- what an item declares

-- what an id with a place in the scene stands for is that place, or a literal
pub stands_itself : (keyed : Bool) (ws : List Written) (row : Option RowAround) (id : ℕ) → keyed ≡ is_some row → has_named ws (record { id = id; key = option_map (λ r. r.key) row }) ≡ true → comes_before ws (stands_in keyed row id) ≡ true
stands_itself keyed ws None id is has = has
stands_itself keyed ws (Some row) id is has = at (id == suc row.store)
  where
    at : (b : Bool) → comes_before ws (if b then literal row.key else place (record { id = id; key = if keyed then Some row.key else None })) ≡ true
    at true = refl
    at false = ap (λ (k : Bool). has_named ws (record { id = id; key = if k then Some row.key else None })) is ∙ has

none_is : (row : Option RowAround) (keyed : Bool) → keyed ≡ is_some row → row ≡ None → keyed ≡ false
none_is row keyed is none = is ∙ ap is_some none

pub declares_value : (state : State) (keyed : ℕ → Bool) (before ws : List Written) (scene : Scene) (sight : Sight) (id : ℕ) → Covers state keyed before scene sight → keyed id ≡ is_some scene.row → has_named ws (record { id = id; key = key_in scene }) ≡ true → Covers state keyed (before ++ ws) scene (record sight { known = known_value id ∷ sight.known })
declares_value state keyed before ws scene sight id covers right has = record {
  values = λ other is. at other (id == other) refl is;
  stores = λ n. store_more state keyed before ws (store_among n sight.known) (covers.stores n);
  parts = λ other is. comes_more before ws (stands_for keyed scene other) (covers.parts other is);
}
  where
    at : (other : ℕ) (b : Bool) → (id == other) ≡ b → (b || list_any (is_value other) sight.known) ≡ true → (scene.row ≡ None → keyed other ≡ false) × (comes_before (before ++ ws) (stands_for keyed scene other) ≡ true)
    at other true same is =
        let e : id ≡ other = grind arith in
        subst (λ n. (scene.row ≡ None → keyed n ≡ false) × (comes_before (before ++ ws) (stands_for keyed scene n) ≡ true)) e
        (none_is scene.row (keyed id) right, stands_itself (keyed id) (before ++ ws) scene.row id right (named_behind before ws (record { id = id; key = key_in scene }) has))
    at other false same is = let both = covers.values other is in (both.0, comes_more before ws (stands_for keyed scene other) both.1)

pub declares_resource : (state : State) (keyed : ℕ → Bool) (before : List Written) (scene : Scene) (sight : Sight) (id : ℕ) → Covers state keyed before scene sight → Covers state keyed (before ++ []) scene (record sight { known = known_resource id ∷ sight.known })
declares_resource state keyed before scene sight id covers = let more = covers_more state keyed before [] scene sight covers in record { values = more.values; stores = more.stores; parts = more.parts }

pub declares_store : (state : State) (keyed : ℕ → Bool) (before ws : List Written) (scene : Scene) (sight : Sight) (id fields : ℕ) → Covers state keyed before scene sight → StoreComes state keyed (before ++ ws) (Some (known_store id fields)) → Covers state keyed (before ++ ws) scene (record sight { known = known_store id fields ∷ sight.known })
declares_store state keyed before ws scene sight id fields covers comes = record {
  values = λ other is. let both = covers.values other is in (both.0, comes_more before ws (stands_for keyed scene other) both.1);
  stores = λ n. at (id == n) n;
  parts = λ other is. comes_more before ws (stands_for keyed scene other) (covers.parts other is);
}
  where
    at : (b : Bool) (n : ℕ) → StoreComes state keyed (before ++ ws) (if b then Some (known_store id fields) else store_among n sight.known)
    at true n = comes
    at false n = store_more state keyed before ws (store_among n sight.known) (covers.stores n)

-- ---- inside an `each`

-- the store that is found has the id
among_has : (id n fields : ℕ) (known : List Known) → store_among id known ≡ Some (known_store n fields) → n ≡ id
among_has id n fields [] is = cc
among_has id n fields (known_value m ∷ known) is = among_has id n fields known is
among_has id n fields (known_resource m ∷ known) is = among_has id n fields known is
among_has id n fields (known_store m count ∷ known) is = at (m == id) refl is (among_has id n fields known)
  where
    at : (b : Bool) → (m == id) ≡ b → (if b then Some (known_store m count) else store_among id known) ≡ Some (known_store n fields) → (store_among id known ≡ Some (known_store n fields) → n ≡ id) → n ≡ id
    at true same is later = let e : m ≡ id = grind arith in let f : m ≡ n = cc in sym f ∙ e
    at false same is later = later is

pub covers_row : (state : State) (keyed : ℕ → Bool) (before : List Written) (scene : Scene) (sight : Sight) (store : ℕ) (row : Row) → scene.row ≡ None → RowAmong (state.rows store) row → Covers state keyed before scene sight → Covers state keyed before (in_row store row.key scene) (record sight { rows = store_among store sight.known })
covers_row state keyed before scene sight store row none among covers = record {
  values = λ id is. (λ some. cc, outside id (keyed id) (id == suc store) ((covers.values id is).0 none) (subst (λ r. comes_before before (stands_in (keyed id) r id) ≡ true) none (covers.values id is).1));
  stores = covers.stores;
  parts = λ id is. part id (store_among store sight.known) refl (covers.stores store) is;
}
  where
    outside : (id : ℕ) (k b : Bool) → k ≡ false → has_named before (record { id = id; key = None }) ≡ true → comes_before before (if b then literal row.key else place (record { id = id; key = if k then Some row.key else None })) ≡ true
    outside id k true is has = refl
    outside id k false is has = ap (λ (q : Bool). has_named before (record { id = id; key = if q then Some row.key else None })) is ∙ has

    part : (id : ℕ) (known : Option Known) → store_among store sight.known ≡ known → StoreComes state keyed before known → is_part_of id known ≡ true → comes_before before (stands_in (keyed id) (Some (record { store = store; key = row.key })) id) ≡ true
    part id None found comes is = cc
    part id (Some (known_value n)) found comes is = cc
    part id (Some (known_resource n)) found comes is = cc
    part id (Some (known_store n fields)) found comes is = at (id == suc store) refl
      where
        same : n ≡ store
        same = among_has store n fields sight.known found

        both : (nat_lt n id ≡ true) × (nat_le id (n + 1 + fields) ≡ true)
        both = and_cases (nat_lt n id) (nat_le id (n + 1 + fields)) is

        at : (b : Bool) → (id == suc store) ≡ b → comes_before before (if b then literal row.key else place (record { id = id; key = if keyed id then Some row.key else None })) ≡ true
        at true key = refl
        at false key =
            let above : n < id = ltb-true n id both.0 in
            let below : id ≤ n + 1 + fields = leb-true id (n + 1 + fields) both.1 in
            let apart : suc n < id = grind (arith, same, above, key) in
            let field = comes row (subst (λ m. RowAmong (state.rows m) row) (sym same) among) id apart below in
            ap (λ (q : Bool). has_named before (record { id = id; key = if q then Some row.key else None })) field.0 ∙ field.1
