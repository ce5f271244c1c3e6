-- What goes with an owner, against the ids and owners that items take.
use Rattle.std.proofs.Common.{◌≡◌, ℕ, suc, ◌+◌, ◌<◌, ◌≤◌, ◌==◌, ◌||◌, Bool, true, false, List, [], ◌∷◌, ◌++◌, map, length, refl, sym, ap, subst, ◌∙◌, arith}
use Rattle.std.specs.List.{flat_map, concat, range_with_len, list_any}
use Rattle.std.proofs.lemmas.Bool.{eqb-true}
use Rattle.std.proofs.lemmas.List.Folds.{list_any-append}
use Rattle.component_items.specs.declared.component.Item.{Item}
use Rattle.component_items.specs.declared.component.Item.TheOpen as level
use Rattle.component_items.specs.declared.component.Item.TheOpen.{Item-F}
use Rattle.component_items.specs.declared.component.Item.TheViews.{roll-Item}
use Rattle.component_items.specs.declared.component.Item.TheFolds.{fold-roll-Item, map-Item, ind-Item}
use Rattle.component_items.specs.Ids.{attr_ids, ids_step, item_ids, ids_in, owners_step, item_owners, owners_in}
use Rattle.plain_evaluation.specs.Killed.{going_if, going_all, ids_going_step, item_ids_going, ids_going, owners_going_step, item_owners_going, owners_going}
use Rattle.plain_evaluation.proofs.Places.{or_none}

-- ---- numbers one after another

abbrev pub has_number : List ℕ → ℕ → Bool
has_number numbers n = list_any (λ k. k == n) numbers

abbrev pub Numbered : ℕ → List ℕ → Type 0
Numbered n numbers = numbers ≡ range_with_len n (length numbers)

pub numbered-cons : (n x : ℕ) (xs : List ℕ) → Numbered n (x ∷ xs) → (x ≡ n) × Numbered (n + 1) xs
numbered-cons n x xs numbered =
    let same : x ≡ n = cc in
    let rest : xs ≡ range_with_len (n + 1) (length xs) = cc in
    (same, rest)

pub numbered-append : (n : ℕ) (xs ys : List ℕ) → Numbered n (xs ++ ys) → Numbered n xs × Numbered (n + length xs) ys
numbered-append n [] ys numbered = (refl, subst (λ (k : ℕ). Numbered k ys) {x = n} {y = n + 0} (omega arith) numbered)
numbered-append n (x ∷ xs) ys numbered =
    let first = numbered-cons n x (xs ++ ys) numbered in
    let rest = numbered-append (n + 1) xs ys first.1 in
    let at : (n + 1) + length xs ≡ n + length (x ∷ xs) = omega arith in
    ((λ i. first.0 i ∷ rest.0 i), subst (λ (k : ℕ). Numbered k ys) at rest.1)

pub numbered_bounds : (n : ℕ) (xs : List ℕ) (k : ℕ) → Numbered n xs → has_number xs k ≡ true → (n ≤ k) × (k < n + length xs)
numbered_bounds n [] k numbered has = cc
numbered_bounds n (x ∷ xs) k numbered has = let first = numbered-cons n x xs numbered in at (x == k) refl first.0 has (numbered_bounds (n + 1) xs k first.1)
  where
    at : (same : Bool) → (x == k) ≡ same → x ≡ n → (same || has_number xs k) ≡ true → (has_number xs k ≡ true → (n + 1 ≤ k) × (k < n + 1 + length xs)) → (n ≤ k) × (k < n + length (x ∷ xs))
    at true is e has later = let equal : x ≡ k = eqb-true x k is in (omega arith, omega arith)
    at false is e has later = let rest = later has in (omega arith, omega arith)

-- a number of the first part is none of the second
pub numbered_apart : (n : ℕ) (xs ys : List ℕ) (k : ℕ) → Numbered n (xs ++ ys) → has_number xs k ≡ true → has_number ys k ≡ false
numbered_apart n xs ys k numbered has = let parts = numbered-append n xs ys numbered in at (has_number ys k) refl (numbered_bounds n xs k parts.0 has) parts.1
  where
    at : (also : Bool) → has_number ys k ≡ also → (n ≤ k) × (k < n + length xs) → Numbered (n + length xs) ys → also ≡ false
    at true is here later = let there = numbered_bounds (n + length xs) ys k later is in absurd (omega arith)
    at false is here later = refl

-- ---- what goes

pub record IsGoing (owner : ℕ) (ids owners : List ℕ) (ids_go owners_go : Bool → List ℕ) : Type 0 where
  -- all, where what is around goes
  pub all_ids : ids_go true ≡ ids
  pub all_owners : owners_go true ≡ owners
  -- nothing, where it stays and the owner is not there
  pub no_ids : has_number owners owner ≡ false → ids_go false ≡ []
  pub no_owners : has_number owners owner ≡ false → owners_go false ≡ []
  -- none but owners that are there
  pub no_others : (goes : Bool) (n : ℕ) → has_number owners n ≡ false → has_number (owners_go goes) n ≡ false

going-append : (owner : ℕ) (ids others owners more : List ℕ) (f g h k : Bool → List ℕ) → IsGoing owner ids owners f h → IsGoing owner others more g k → IsGoing owner (ids ++ others) (owners ++ more) (λ goes. f goes ++ g goes) (λ goes. h goes ++ k goes)
going-append owner ids others owners more f g h k one other = record {
  all_ids = λ i. one.all_ids i ++ other.all_ids i;
  all_owners = λ i. one.all_owners i ++ other.all_owners i;
  no_ids = λ none. (let both = neither owner none in λ i. one.no_ids both.0 i ++ other.no_ids both.1 i);
  no_owners = λ none. (let both = neither owner none in λ i. one.no_owners both.0 i ++ other.no_owners both.1 i);
  no_others = λ goes n none.
      (let both = neither n none in
      list_any-append (λ j. j == n) (h goes) (k goes) ∙ (λ i. one.no_others goes n both.0 i || other.no_others goes n both.1 i));
}
  where
    neither : (n : ℕ) → has_number (owners ++ more) n ≡ false → (has_number owners n ≡ false) × (has_number more n ≡ false)
    neither n none = or_none (has_number owners n) (has_number more n) (sym (list_any-append (λ j. j == n) owners more) ∙ none)

-- what is no area
going_alone : (owner : ℕ) (ids : List ℕ) → IsGoing owner ids [] (λ goes. going_if goes ids) (λ goes. [])
going_alone owner ids = record { all_ids = refl; all_owners = refl; no_ids = λ none. refl; no_owners = λ none. refl; no_others = λ goes n none. refl }

going_nothing : (owner : ℕ) → IsGoing owner [] [] (λ goes. []) (λ goes. [])
going_nothing owner = record { all_ids = refl; all_owners = refl; no_ids = λ none. refl; no_owners = λ none. refl; no_others = λ goes n none. refl }

going_area : (owner id own : ℕ) (ids owners : List ℕ) (f g : Bool → List ℕ) → IsGoing owner ids owners f g → IsGoing owner (id ∷ ids) (own ∷ owners) (λ goes. going_if goes (id ∷ []) ++ f (goes || own == owner)) (λ goes. going_if (goes || own == owner) (own ∷ []) ++ g (goes || own == owner))
going_area owner id own ids owners f g inner = record {
  all_ids = ap (λ (more : List ℕ). id ∷ more) inner.all_ids;
  all_owners = ap (λ (more : List ℕ). own ∷ more) inner.all_owners;
  no_ids = λ none. (let both = or_none (own == owner) (has_number owners owner) none in ap f both.0 ∙ inner.no_ids both.1);
  no_owners = λ none. (let both = or_none (own == owner) (has_number owners owner) none in ap (λ (b : Bool). going_if b (own ∷ []) ++ g b) both.0 ∙ inner.no_owners both.1);
  no_others = λ goes n none. (let both = or_none (own == n) (has_number owners n) none in at (goes || own == owner) n both.0 (inner.no_others (goes || own == owner) n both.1));
}
  where
    at : (b : Bool) (n : ℕ) → (own == n) ≡ false → has_number (g b) n ≡ false → has_number (going_if b (own ∷ []) ++ g b) n ≡ false
    at true n other none = λ i. other i || none i
    at false n other none = none

module _ (owner : ℕ) where
  abbrev ItemGoes : Item → Type 0
  ItemGoes item = IsGoing owner (item_ids item) (item_owners item) (item_ids_going owner item) (item_owners_going owner item)

  abbrev Proven : Type 0
  Proven = (item : Item) × ItemGoes item

  abbrev items_of : List Proven → List Item
  items_of known = map (λ k. k.0) known

  abbrev FormGoes : Item-F Item → Type 0
  FormGoes x = IsGoing owner (ids_step (map-Item Item (List ℕ) item_ids x)) (owners_step (map-Item Item (List ℕ) item_owners x)) (ids_going_step owner (map-Item Item (Bool → List ℕ) (item_ids_going owner) x)) (owners_going_step owner (map-Item Item (Bool → List ℕ) (item_owners_going owner) x))

  rolled : (x : Item-F Item) → FormGoes x → ItemGoes (roll-Item x)
  unfolding item_ids item_owners item_ids_going item_owners_going
  rolled x going =
      subst (λ f. IsGoing owner f (item_owners (roll-Item x)) (item_ids_going owner (roll-Item x)) (item_owners_going owner (roll-Item x))) (sym (fold-roll-Item (List ℕ) ids_step x))
      (subst (λ f. IsGoing owner (ids_step (map-Item Item (List ℕ) item_ids x)) f (item_ids_going owner (roll-Item x)) (item_owners_going owner (roll-Item x))) (sym (fold-roll-Item (List ℕ) owners_step x))
      (subst (λ f. IsGoing owner (ids_step (map-Item Item (List ℕ) item_ids x)) (owners_step (map-Item Item (List ℕ) item_owners x)) f (item_owners_going owner (roll-Item x))) (sym (fold-roll-Item (Bool → List ℕ) (ids_going_step owner) x))
      (subst (λ f. IsGoing owner (ids_step (map-Item Item (List ℕ) item_ids x)) (owners_step (map-Item Item (List ℕ) item_owners x)) (ids_going_step owner (map-Item Item (Bool → List ℕ) (item_ids_going owner) x)) f) (sym (fold-roll-Item (Bool → List ℕ) (owners_going_step owner) x))
      going)))

  block : (known : List Proven) → IsGoing owner (concat (map item_ids (items_of known))) (concat (map item_owners (items_of known))) (going_all (map (item_ids_going owner) (items_of known))) (going_all (map (item_owners_going owner) (items_of known)))
  block [] = going_nothing owner
  block (k ∷ known) = going-append owner (item_ids k.0) (concat (map item_ids (items_of known))) (item_owners k.0) (concat (map item_owners (items_of known))) (item_ids_going owner k.0) (going_all (map (item_ids_going owner) (items_of known))) (item_owners_going owner k.0) (going_all (map (item_owners_going owner) (items_of known))) k.1 (block known)

  behind : (ids : List ℕ) (known : List Proven) → IsGoing owner (ids ++ concat (map item_ids (items_of known))) (concat (map item_owners (items_of known))) (λ goes. going_if goes ids ++ going_all (map (item_ids_going owner) (items_of known)) goes) (going_all (map (item_owners_going owner) (items_of known)))
  behind ids known = going-append owner ids (concat (map item_ids (items_of known))) [] (concat (map item_owners (items_of known))) (λ goes. going_if goes ids) (going_all (map (item_ids_going owner) (items_of known))) (λ goes. []) (going_all (map (item_owners_going owner) (items_of known))) (going_alone owner ids) (block known)

  by_form : (y : Item-F Proven) → FormGoes (map-Item Proven Item (λ k. k.0) y)
  by_form (level.Signal id name start) = going_alone owner (id ∷ [])
  by_form (level.Memo id name expr) = going_alone owner (id ∷ [])
  by_form (level.Effect id name expr) = going_alone owner (id ∷ [])
  by_form (level.Resource id name after keys values) = going_alone owner (id ∷ [])
  by_form (level.Load id name resource key) = going_alone owner (id ∷ suc id ∷ [])
  by_form (level.Store id name max fields starts) = going_alone owner (range_with_len id (2 + length fields))
  by_form (level.Cleanup text) = going_nothing owner
  by_form (level.Area id name own known) = going_area owner id own (concat (map item_ids (items_of known))) (concat (map item_owners (items_of known))) (going_all (map (item_ids_going owner) (items_of known))) (going_all (map (item_owners_going owner) (items_of known))) (block known)
  by_form (level.If id cond known) = behind (id ∷ []) known
  by_form (level.Each id store known) = behind (id ∷ []) known
  by_form (level.Element tag closed attrs known) = behind (flat_map attr_ids attrs) known
  by_form (level.Text text) = going_nothing owner
  by_form (level.Shown id expr) = going_alone owner (id ∷ [])

  pub item_goes : (item : Item) → ItemGoes item
  item_goes = ind-Item ItemGoes (λ x y is. subst (λ z. ItemGoes (roll-Item z)) is (rolled (map-Item Proven Item (λ k. k.0) y) (by_form y)))

  pub items_go : (items : List Item) → IsGoing owner (ids_in items) (owners_in items) (ids_going owner items) (owners_going owner items)
  items_go [] = going_nothing owner
  items_go (item ∷ items) = going-append owner (item_ids item) (ids_in items) (item_owners item) (owners_in items) (item_ids_going owner item) (ids_going owner items) (item_owners_going owner item) (owners_going owner items) (item_goes item) (items_go items)

-- the same of items one after another, as an item has them
pub all_go : (owner : ℕ) (items : List Item) → IsGoing owner (concat (map item_ids items)) (concat (map item_owners items)) (going_all (map (item_ids_going owner) items)) (going_all (map (item_owners_going owner) items))
all_go owner [] = going_nothing owner
all_go owner (item ∷ items) = going-append owner (item_ids item) (concat (map item_ids items)) (item_owners item) (concat (map item_owners items)) (item_ids_going owner item) (going_all (map (item_ids_going owner) items)) (item_owners_going owner item) (going_all (map (item_owners_going owner) items)) (item_goes owner item) (all_go owner items)

pub concat-map : {A : Type 0} (f : A → List ℕ) (xs : List A) → concat (map f xs) ≡ flat_map f xs
concat-map f [] = refl
concat-map f (x ∷ xs) = ap (λ more. f x ++ more) (concat-map f xs)

pub ids_going-all : (owner : ℕ) (items : List Item) (goes : Bool) → going_all (map (item_ids_going owner) items) goes ≡ ids_going owner items goes
ids_going-all owner [] goes = refl
ids_going-all owner (item ∷ items) goes = ap (λ more. item_ids_going owner item goes ++ more) (ids_going-all owner items goes)

pub owners_going-all : (owner : ℕ) (items : List Item) (goes : Bool) → going_all (map (item_owners_going owner) items) goes ≡ owners_going owner items goes
owners_going-all owner [] goes = refl
owners_going-all owner (item ∷ items) goes = ap (λ more. item_owners_going owner item goes ++ more) (owners_going-all owner items goes)
