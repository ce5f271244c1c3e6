-- What a disposal takes: each id whose innermost area goes, and each area that does.
use Rattle.std.proofs.Common.{◌≡◌, ℕ, suc, ◌+◌, ◌==◌, ◌||◌, if◌then◌else◌, Bool, true, false, List, [], ◌∷◌, ◌++◌, map, length, Some, refl, sym, ap, subst, ◌∙◌, arith}
use Rattle.std.specs.List.{flat_map, concat, range_with_len}
use Rattle.values.specs.declared.code.Code.{Code}
use Rattle.component_items.specs.declared.component.Attr.{Attr}
use Rattle.component_items.specs.declared.component.Attr.TheVariants as attr
use Rattle.component_items.specs.declared.component.Item.{Item}
use Rattle.component_items.specs.declared.component.Item.TheOpen as level
use Rattle.component_items.specs.declared.component.Item.TheOpen.{Item-F}
use Rattle.component_items.specs.declared.component.Item.TheViews.{roll-Item}
use Rattle.component_items.specs.declared.component.Item.TheFolds.{fold-Item, fold-roll-Item, map-Item, ind-Item}
use Rattle.component_items.specs.Ids.{attr_ids, owners_step, item_owners, owners_in}
use Rattle.plain_evaluation.specs.Killed.{going_if, going_all, ids_going_step, item_ids_going, ids_going, owners_going_step, item_owners_going, owners_going}
use Rattle.plain_evaluation.specs.Origins.{nothing_told, Around, Origin, tell_attr, tell_fields, tell_all, tell_step, tell_item, tell_items}
use Rattle.plain_evaluation.proofs.Lookup.{ids_of, ids_of-append, AreFound, found-append, store_ids}

-- ---- each area, with whether it goes where `goes` says that of the one around it

abbrev pub areas_all : List (Bool → List (ℕ × Bool)) → Bool → List (ℕ × Bool)
areas_all [] goes = []
areas_all (one ∷ others) goes = one goes ++ areas_all others goes

abbrev pub areas_step : ℕ → Item-F (Bool → List (ℕ × Bool)) → Bool → List (ℕ × Bool)
areas_step owner (level.Signal id name start) goes = []
areas_step owner (level.Memo id name expr) goes = []
areas_step owner (level.Effect id name expr) goes = []
areas_step owner (level.Resource id name after keys values) goes = []
areas_step owner (level.Load id name resource key) goes = []
areas_step owner (level.Store id name max fields starts) goes = []
areas_step owner (level.Cleanup text) goes = []
areas_step owner (level.Area id name own items) goes = (own, goes || own == owner) ∷ areas_all items (goes || own == owner)
areas_step owner (level.If id cond items) goes = areas_all items goes
areas_step owner (level.Each id store items) goes = areas_all items goes
areas_step owner (level.Element tag closed attrs items) goes = areas_all items goes
areas_step owner (level.Text text) goes = []
areas_step owner (level.Shown id expr) goes = []

unfoldable pub item_areas : ℕ → Item → Bool → List (ℕ × Bool)
item_areas owner = fold-Item (Bool → List (ℕ × Bool)) (areas_step owner)

abbrev pub areas_in : ℕ → List Item → Bool → List (ℕ × Bool)
areas_in owner [] goes = []
areas_in owner (item ∷ items) goes = item_areas owner item goes ++ areas_in owner items goes

-- ---- what goes, where `gone` says which owners do

abbrev pub those : (ℕ → Bool) → List ℕ → List ℕ
those gone [] = []
those gone (n ∷ ns) = if gone n then n ∷ those gone ns else those gone ns

abbrev pub gone_ids : (ℕ → Bool) → List (ℕ × Origin) → List ℕ
gone_ids gone [] = []
gone_ids gone (pair ∷ pairs) = if gone pair.1.around.owner then pair.0 ∷ gone_ids gone pairs else gone_ids gone pairs

abbrev pub AllLive : (ℕ → Bool) → List ℕ → Type 0
AllLive live [] = Unit {0}
AllLive live (n ∷ ns) = (live n ≡ true) × AllLive live ns

abbrev pub AllTold : (ℕ → Bool) → List (ℕ × Origin) → Type 0
AllTold live [] = Unit {0}
AllTold live (pair ∷ pairs) = (live pair.1.around.owner ≡ true) × AllTold live pairs

abbrev AllAt : ℕ → List (ℕ × Origin) → Type 0
AllAt owner [] = Unit {0}
AllAt owner (pair ∷ pairs) = (pair.1.around.owner ≡ owner) × AllAt owner pairs

front : (b : Bool) (n : ℕ) (xs ys : List ℕ) → (if b then n ∷ xs else xs) ++ ys ≡ (if b then n ∷ (xs ++ ys) else xs ++ ys)
front true n xs ys = refl
front false n xs ys = refl

those-append : (gone : ℕ → Bool) (xs ys : List ℕ) → those gone (xs ++ ys) ≡ those gone xs ++ those gone ys
those-append gone [] ys = refl
those-append gone (x ∷ xs) ys = ap (λ (more : List ℕ). if gone x then x ∷ more else more) (those-append gone xs ys) ∙ sym (front (gone x) x (those gone xs) (those gone ys))

gone_ids-append : (gone : ℕ → Bool) (xs ys : List (ℕ × Origin)) → gone_ids gone (xs ++ ys) ≡ gone_ids gone xs ++ gone_ids gone ys
gone_ids-append gone [] ys = refl
gone_ids-append gone (x ∷ xs) ys = ap (λ (more : List ℕ). if gone x.1.around.owner then x.0 ∷ more else more) (gone_ids-append gone xs ys) ∙ sym (front (gone x.1.around.owner) x.0 (gone_ids gone xs) (gone_ids gone ys))

live-append : (live : ℕ → Bool) (xs ys : List ℕ) → AllLive live (xs ++ ys) → AllLive live xs × AllLive live ys
live-append live [] ys h = (tt, h)
live-append live (x ∷ xs) ys h = let rest = live-append live xs ys h.1 in ((h.0, rest.0), rest.1)

told-append : (live : ℕ → Bool) (xs ys : List (ℕ × Origin)) → AllTold live xs → AllTold live ys → AllTold live (xs ++ ys)
told-append live [] ys h g = g
told-append live (x ∷ xs) ys h g = (h.0, told-append live xs ys h.1 g)

-- one more before those, where it goes
put_first : (b : Bool) (n : ℕ) (more : List ℕ) → going_if b (n ∷ []) ++ more ≡ (if b then n ∷ more else more)
put_first true n more = refl
put_first false n more = refl

-- ids with the same owner go together
together : (gone : ℕ → Bool) (owner : ℕ) (pairs : List (ℕ × Origin)) → AllAt owner pairs → gone_ids gone pairs ≡ going_if (gone owner) (ids_of pairs)
together gone owner pairs all = at (gone owner) refl pairs all
  where
    at : (b : Bool) → gone owner ≡ b → (ps : List (ℕ × Origin)) → AllAt owner ps → gone_ids gone ps ≡ going_if b (ids_of ps)
    at true is [] h = refl
    at true is (p ∷ ps) h = ap (λ (t : Bool). if t then p.0 ∷ gone_ids gone ps else gone_ids gone ps) (ap gone h.0 ∙ is) ∙ ap (λ (more : List ℕ). p.0 ∷ more) (at true is ps h.1)
    at false is [] h = refl
    at false is (p ∷ ps) h = ap (λ (t : Bool). if t then p.0 ∷ gone_ids gone ps else gone_ids gone ps) (ap gone h.0 ∙ is) ∙ at false is ps h.1

told_live : (live : ℕ → Bool) (owner : ℕ) (pairs : List (ℕ × Origin)) → live owner ≡ true → AllAt owner pairs → AllTold live pairs
told_live live owner [] is all = tt
told_live live owner (p ∷ ps) is all = (ap live all.0 ∙ is, told_live live owner ps is all.1)

-- ---- one item, by what its folds give

pub record IsTaken (owners : List ℕ) (areas : Bool → List (ℕ × Bool)) (ids_go owners_go : Bool → List ℕ) (tells : Around → List (ℕ × Origin)) : Type 0 where
  pub areas_are : (goes : Bool) → ids_of (areas goes) ≡ owners
  pub ids_are : (goes : Bool) (gone : ℕ → Bool) (around : Around) → gone around.owner ≡ goes → AreFound gone (areas goes) → ids_go goes ≡ gone_ids gone (tells around)
  pub every_id : (around : Around) → ids_go true ≡ ids_of (tells around)
  pub owners_are : (goes : Bool) (gone : ℕ → Bool) → AreFound gone (areas goes) → owners_go goes ≡ those gone owners
  pub alive : (live : ℕ → Bool) (around : Around) → live around.owner ≡ true → AllLive live owners → AllTold live (tells around)

-- what is no area
alone : (ids : List ℕ) (tells : Around → List (ℕ × Origin)) → ((around : Around) → ids_of (tells around) ≡ ids) → ((around : Around) → AllAt around.owner (tells around)) → IsTaken [] (λ goes. []) (λ goes. going_if goes ids) (λ goes. []) tells
alone ids tells same all = record {
  areas_are = λ goes. refl;
  ids_are = λ goes gone around is found. ap (λ (b : Bool). going_if b ids) (sym is) ∙ sym (together gone around.owner (tells around) (all around) ∙ ap (going_if (gone around.owner)) (same around));
  every_id = λ around. sym (same around);
  owners_are = λ goes gone found. refl;
  alive = λ live around is lives. told_live live around.owner (tells around) is (all around);
}

none : IsTaken [] (λ goes. []) (λ goes. []) (λ goes. []) (λ around. [])
none = record { areas_are = λ goes. refl; ids_are = λ goes gone around is found. refl; every_id = λ around. refl; owners_are = λ goes gone found. refl; alive = λ live around is lives. tt }

both : (xs ys : List ℕ) (a b : Bool → List (ℕ × Bool)) (f g h k : Bool → List ℕ) (s t : Around → List (ℕ × Origin)) → IsTaken xs a f h s → IsTaken ys b g k t → IsTaken (xs ++ ys) (λ goes. a goes ++ b goes) (λ goes. f goes ++ g goes) (λ goes. h goes ++ k goes) (λ around. s around ++ t around)
both xs ys a b f g h k s t one other = record {
  areas_are = λ goes. ids_of-append (a goes) (b goes) ∙ (λ i. one.areas_are goes i ++ other.areas_are goes i);
  ids_are = λ goes gone around is found. (let parts = found-append gone (a goes) (b goes) found in (λ i. one.ids_are goes gone around is parts.0 i ++ other.ids_are goes gone around is parts.1 i) ∙ sym (gone_ids-append gone (s around) (t around)));
  every_id = λ around. (λ i. one.every_id around i ++ other.every_id around i) ∙ sym (ids_of-append (s around) (t around));
  owners_are = λ goes gone found. (let parts = found-append gone (a goes) (b goes) found in (λ i. one.owners_are goes gone parts.0 i ++ other.owners_are goes gone parts.1 i) ∙ sym (those-append gone xs ys));
  alive = λ live around is lives. (let parts = live-append live xs ys lives in told-append live (s around) (t around) (one.alive live around is parts.0) (other.alive live around is parts.1));
}

-- an area around what is taken so
area : (owner id own : ℕ) (owners : List ℕ) (a : Bool → List (ℕ × Bool)) (f h : Bool → List ℕ) (t : Around → List (ℕ × Origin)) → IsTaken owners a f h t → IsTaken (own ∷ owners) (λ goes. (own, goes || own == owner) ∷ a (goes || own == owner)) (λ goes. going_if goes (id ∷ []) ++ f (goes || own == owner)) (λ goes. going_if (goes || own == owner) (own ∷ []) ++ h (goes || own == owner)) (λ around. (id, record { around = around; told = nothing_told }) ∷ t (record around { owner = own }))
area owner id own owners a f h t inner = record {
  areas_are = λ goes. ap (λ (more : List ℕ). own ∷ more) (inner.areas_are (goes || own == owner));
  ids_are = λ goes gone around is found. (λ i. going_if (sym is i) (id ∷ []) ++ inner.ids_are (goes || own == owner) gone (record around { owner = own }) found.0 found.1 i) ∙ put_first (gone around.owner) id (gone_ids gone (t (record around { owner = own })));
  every_id = λ around. ap (λ (more : List ℕ). id ∷ more) (inner.every_id (record around { owner = own }));
  owners_are = λ goes gone found. (λ i. going_if (sym found.0 i) (own ∷ []) ++ inner.owners_are (goes || own == owner) gone found.1 i) ∙ put_first (gone own) own (those gone owners);
  alive = λ live around is lives. (is, inner.alive live (record around { owner = own }) lives.0 lives.1);
}

-- the same around each row of a store
repeated : (store : ℕ) (owners : List ℕ) (a : Bool → List (ℕ × Bool)) (f h : Bool → List ℕ) (t : Around → List (ℕ × Origin)) → IsTaken owners a f h t → IsTaken owners a f h (λ around. t (record around { store = Some store }))
repeated store owners a f h t inner = record {
  areas_are = inner.areas_are;
  ids_are = λ goes gone around is found. inner.ids_are goes gone (record around { store = Some store }) is found;
  every_id = λ around. inner.every_id (record around { store = Some store });
  owners_are = inner.owners_are;
  alive = λ live around is lives. inner.alive live (record around { store = Some store }) is lives;
}

attrs_ids : (attrs : List Attr) (around : Around) → ids_of (flat_map (tell_attr around) attrs) ≡ flat_map attr_ids attrs
attrs_ids [] around = refl
attrs_ids (attr.Bare name ∷ attrs) around = attrs_ids attrs around
attrs_ids (attr.Fixed name text ∷ attrs) around = attrs_ids attrs around
attrs_ids (attr.Shown name id expr ∷ attrs) around = ap (λ (more : List ℕ). id ∷ more) (attrs_ids attrs around)

attrs_at : (attrs : List Attr) (around : Around) → AllAt around.owner (flat_map (tell_attr around) attrs)
attrs_at [] around = tt
attrs_at (attr.Bare name ∷ attrs) around = attrs_at attrs around
attrs_at (attr.Fixed name text ∷ attrs) around = attrs_at attrs around
attrs_at (attr.Shown name id expr ∷ attrs) around = (refl, attrs_at attrs around)

fields_ids : (first : ℕ) (fields : List ℕ) (around : Around) → ids_of (tell_fields first fields around) ≡ range_with_len first (length fields)
fields_ids first [] around = refl
fields_ids first (name ∷ fields) around =
    ap (λ (more : List ℕ). first ∷ more) (fields_ids (suc first) fields around)
    ∙ ap (λ (k : ℕ). first ∷ range_with_len k (length fields)) {x = suc first} {y = first + 1} (omega arith)

fields_at : (first : ℕ) (fields : List ℕ) (around : Around) → AllAt around.owner (tell_fields first fields around)
fields_at first [] around = tt
fields_at first (name ∷ fields) around = (refl, fields_at (suc first) fields around)

module _ (owner : ℕ) (pairs : ℕ → List (Code × Code)) where
  abbrev ItemTaken : Item → Type 0
  ItemTaken item = IsTaken (item_owners item) (item_areas owner item) (item_ids_going owner item) (item_owners_going owner item) (tell_item pairs item)

  abbrev Proven : Type 0
  Proven = (item : Item) × ItemTaken item

  abbrev items_of : List Proven → List Item
  items_of known = map (λ k. k.0) known

  abbrev FormTaken : Item-F Item → Type 0
  FormTaken x = IsTaken (owners_step (map-Item Item (List ℕ) item_owners x)) (areas_step owner (map-Item Item (Bool → List (ℕ × Bool)) (item_areas owner) x)) (ids_going_step owner (map-Item Item (Bool → List ℕ) (item_ids_going owner) x)) (owners_going_step owner (map-Item Item (Bool → List ℕ) (item_owners_going owner) x)) (tell_step pairs (map-Item Item (Around → List (ℕ × Origin)) (tell_item pairs) x))

  rolled : (x : Item-F Item) → FormTaken x → ItemTaken (roll-Item x)
  unfolding item_owners item_areas item_ids_going item_owners_going tell_item
  rolled x is =
      subst (λ f. IsTaken f (item_areas owner (roll-Item x)) (item_ids_going owner (roll-Item x)) (item_owners_going owner (roll-Item x)) (tell_item pairs (roll-Item x))) (sym (fold-roll-Item (List ℕ) owners_step x))
      (subst (λ f. IsTaken (owners_step (map-Item Item (List ℕ) item_owners x)) f (item_ids_going owner (roll-Item x)) (item_owners_going owner (roll-Item x)) (tell_item pairs (roll-Item x))) (sym (fold-roll-Item (Bool → List (ℕ × Bool)) (areas_step owner) x))
      (subst (λ f. IsTaken (owners_step (map-Item Item (List ℕ) item_owners x)) (areas_step owner (map-Item Item (Bool → List (ℕ × Bool)) (item_areas owner) x)) f (item_owners_going owner (roll-Item x)) (tell_item pairs (roll-Item x))) (sym (fold-roll-Item (Bool → List ℕ) (ids_going_step owner) x))
      (subst (λ f. IsTaken (owners_step (map-Item Item (List ℕ) item_owners x)) (areas_step owner (map-Item Item (Bool → List (ℕ × Bool)) (item_areas owner) x)) (ids_going_step owner (map-Item Item (Bool → List ℕ) (item_ids_going owner) x)) f (tell_item pairs (roll-Item x))) (sym (fold-roll-Item (Bool → List ℕ) (owners_going_step owner) x))
      (subst (λ f. IsTaken (owners_step (map-Item Item (List ℕ) item_owners x)) (areas_step owner (map-Item Item (Bool → List (ℕ × Bool)) (item_areas owner) x)) (ids_going_step owner (map-Item Item (Bool → List ℕ) (item_ids_going owner) x)) (owners_going_step owner (map-Item Item (Bool → List ℕ) (item_owners_going owner) x)) f) (sym (fold-roll-Item (Around → List (ℕ × Origin)) (tell_step pairs) x))
      is))))

  block : (known : List Proven) → IsTaken (concat (map item_owners (items_of known))) (areas_all (map (item_areas owner) (items_of known))) (going_all (map (item_ids_going owner) (items_of known))) (going_all (map (item_owners_going owner) (items_of known))) (tell_all (map (tell_item pairs) (items_of known)))
  block [] = none
  block (k ∷ known) = both (item_owners k.0) (concat (map item_owners (items_of known))) (item_areas owner k.0) (areas_all (map (item_areas owner) (items_of known))) (item_ids_going owner k.0) (going_all (map (item_ids_going owner) (items_of known))) (item_owners_going owner k.0) (going_all (map (item_owners_going owner) (items_of known))) (tell_item pairs k.0) (tell_all (map (tell_item pairs) (items_of known))) k.1 (block known)

  -- with ids before what an item has in it
  behind : (ids : List ℕ) (tells : Around → List (ℕ × Origin)) (inner : Around → List (ℕ × Origin)) (known : List Proven) → ((around : Around) → ids_of (tells around) ≡ ids) → ((around : Around) → AllAt around.owner (tells around)) → IsTaken (concat (map item_owners (items_of known))) (areas_all (map (item_areas owner) (items_of known))) (going_all (map (item_ids_going owner) (items_of known))) (going_all (map (item_owners_going owner) (items_of known))) inner → IsTaken (concat (map item_owners (items_of known))) (areas_all (map (item_areas owner) (items_of known))) (λ goes. going_if goes ids ++ going_all (map (item_ids_going owner) (items_of known)) goes) (going_all (map (item_owners_going owner) (items_of known))) (λ around. tells around ++ inner around)
  behind ids tells inner known same all is = both [] (concat (map item_owners (items_of known))) (λ goes. []) (areas_all (map (item_areas owner) (items_of known))) (λ goes. going_if goes ids) (going_all (map (item_ids_going owner) (items_of known))) (λ goes. []) (going_all (map (item_owners_going owner) (items_of known))) tells inner (alone ids tells same all) is

  by_form : (y : Item-F Proven) → FormTaken (map-Item Proven Item (λ k. k.0) y)
  by_form (level.Signal id name start) = alone (id ∷ []) _ (λ around. refl) (λ around. (refl, tt))
  by_form (level.Memo id name expr) = alone (id ∷ []) _ (λ around. refl) (λ around. (refl, tt))
  by_form (level.Effect id name expr) = alone (id ∷ []) _ (λ around. refl) (λ around. (refl, tt))
  by_form (level.Resource id name after keys values) = alone (id ∷ []) _ (λ around. refl) (λ around. (refl, tt))
  by_form (level.Load id name resource key) = alone (id ∷ suc id ∷ []) _ (λ around. refl) (λ around. (refl, (refl, tt)))
  by_form (level.Store id name max fields starts) = alone (range_with_len id (2 + length fields)) _
      (λ around. ap (λ (more : List ℕ). id ∷ suc id ∷ more) (fields_ids (2 + id) fields (record around { store = Some id })) ∙ store_ids id (length fields))
      (λ around. (refl, (refl, fields_at (2 + id) fields (record around { store = Some id }))))
  by_form (level.Cleanup text) = none
  by_form (level.Area id name own known) = area owner id own (concat (map item_owners (items_of known))) (areas_all (map (item_areas owner) (items_of known))) (going_all (map (item_ids_going owner) (items_of known))) (going_all (map (item_owners_going owner) (items_of known))) (tell_all (map (tell_item pairs) (items_of known))) (block known)
  by_form (level.If id cond known) = behind (id ∷ []) (λ around. (id, record { around = around; told = _ }) ∷ []) (tell_all (map (tell_item pairs) (items_of known))) known (λ around. refl) (λ around. (refl, tt)) (block known)
  by_form (level.Each id store known) = behind (id ∷ []) (λ around. (id, record { around = around; told = nothing_told }) ∷ []) (λ around. tell_all (map (tell_item pairs) (items_of known)) (record around { store = Some store })) known (λ around. refl) (λ around. (refl, tt))
      (repeated store (concat (map item_owners (items_of known))) (areas_all (map (item_areas owner) (items_of known))) (going_all (map (item_ids_going owner) (items_of known))) (going_all (map (item_owners_going owner) (items_of known))) (tell_all (map (tell_item pairs) (items_of known))) (block known))
  by_form (level.Element tag closed attrs known) = behind (flat_map attr_ids attrs) (λ around. flat_map (tell_attr around) attrs) (tell_all (map (tell_item pairs) (items_of known))) known (attrs_ids attrs) (attrs_at attrs) (block known)
  by_form (level.Text text) = none
  by_form (level.Shown id expr) = alone (id ∷ []) _ (λ around. refl) (λ around. (refl, tt))

  item_taken : (item : Item) → ItemTaken item
  item_taken = ind-Item ItemTaken (λ x y is. subst (λ z. ItemTaken (roll-Item z)) is (rolled (map-Item Proven Item (λ k. k.0) y) (by_form y)))

  pub items_taken : (items : List Item) → IsTaken (owners_in items) (areas_in owner items) (ids_going owner items) (owners_going owner items) (tell_items pairs items)
  items_taken [] = none
  items_taken (item ∷ items) = both (item_owners item) (owners_in items) (item_areas owner item) (areas_in owner items) (item_ids_going owner item) (ids_going owner items) (item_owners_going owner item) (owners_going owner items) (tell_item pairs item) (tell_items pairs items) (item_taken item) (items_taken items)
