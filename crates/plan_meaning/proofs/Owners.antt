-- The owners of a plan, and that the plan is lawful.
use Rattle.std.proofs.Common.{◌≡◌, ℕ, zero, suc, ◌+◌, ◌<◌, ◌≤◌, if◌then◌else◌, Bool, true, false, List, [], ◌∷◌, ◌++◌, map, length, slice_get, Some, IsSomeAnd, refl, sym, ap, subst, ◌∙◌, arith, length-append}
use Rattle.std.proofs.lemmas.List.{length-map}
use Rattle.std.specs.List.{flat_map, concat, range_with_len}
use Rattle.values.specs.declared.code.Code.{Code}
use Rattle.values.specs.declared.plan.PlanOwner.{PlanOwner}
use Rattle.values.specs.Plan.{IsLawful}
use Rattle.store_fields.specs.declared.row.Row.{Row}
use Rattle.component_items.specs.declared.component.Attr.{Attr}
use Rattle.component_items.specs.declared.component.Attr.TheVariants as attr
use Rattle.component_items.specs.declared.component.Component.{Component}
use Rattle.component_items.specs.declared.component.Item.{Item}
use Rattle.component_items.specs.declared.component.Item.TheOpen as level
use Rattle.component_items.specs.declared.component.Item.TheOpen.{Item-F}
use Rattle.component_items.specs.declared.component.Item.TheViews.{roll-Item}
use Rattle.component_items.specs.declared.component.Item.TheFolds.{fold-roll-Item, map-Item, ind-Item}
use Rattle.component_items.specs.Ids.{owners_step, item_owners, owners_in}
use Rattle.component_items.specs.Kept.{IsKept}
use Rattle.plain_evaluation.specs.Fits.{RowsFit}
use Rattle.plain_evaluation.specs.Keyed.{is_keyed}
use Rattle.plain_evaluation.specs.Written.{State, Scene, Written, place_of, in_row, in_area, write_attr, write_fields, write_all, write_step, write_item, write_items, pairs_among, written_in, at_top}
use Rattle.plain_evaluation.proofs.Counts.{few_written}
use Rattle.plain_evaluation.proofs.Every.{Every, every-append}
use Rattle.plan_meaning.specs.Layout.{rows_of, places_of, node_of, plan_of}
use Rattle.plan_meaning.specs.Owners.{Owning, owners_inside, owning_step, item_owning, top_owner, plan_owners}
use Rattle.plan_meaning.proofs.Back.{read_back}
use Rattle.plan_meaning.proofs.Rows.{every_row, every_at, map_at, length_rows}

-- ---- owners below a number, and parents below each owner

abbrev OwnersBelow : ℕ → List Written → Type 0
OwnersBelow bound ws = Every (λ w. w.scene.owner < bound) ws

abbrev ParentsBelow : ℕ → List PlanOwner → Type 0
ParentsBelow owner [] = Unit {0}
ParentsBelow owner (one ∷ others) = IsSomeAnd one.parent (λ parent. parent < owner) × ParentsBelow (suc owner) others

below-append : (bound : ℕ) (xs ys : List Written) → OwnersBelow bound xs → OwnersBelow bound ys → OwnersBelow bound (xs ++ ys)
below-append bound = every-append (λ w. w.scene.owner < bound)

parents-append : (owner : ℕ) (xs ys : List PlanOwner) → ParentsBelow owner xs → ParentsBelow (owner + length xs) ys → ParentsBelow owner (xs ++ ys)
parents-append owner [] ys h g = let e : owner + 0 ≡ owner = omega arith in subst (λ k. ParentsBelow k ys) e g
parents-append owner (x ∷ xs) ys h g = let e : owner + suc (length xs) ≡ suc owner + length xs = omega arith in (h.0, parents-append (suc owner) xs ys h.1 (subst (λ k. ParentsBelow k ys) e g))

fields_below : (bound first : ℕ) (codes : List Code) (scene : Scene) → scene.owner < bound → OwnersBelow bound (write_fields first codes scene)
fields_below bound first [] scene lt = tt
fields_below bound first (code ∷ codes) scene lt = (lt, fields_below bound (suc first) codes scene lt)

rows_below : (bound : ℕ) (part : Row → List Written) (rows : List Row) → ((row : Row) → OwnersBelow bound (part row)) → OwnersBelow bound (flat_map part rows)
rows_below bound part [] each = tt
rows_below bound part (row ∷ rows) each = below-append bound (part row) (flat_map part rows) (each row) (rows_below bound part rows each)

attrs_below : (bound : ℕ) (attrs : List Attr) (scene : Scene) → scene.owner < bound → OwnersBelow bound (flat_map (write_attr scene) attrs)
attrs_below bound [] scene lt = tt
attrs_below bound (attr.Bare name ∷ attrs) scene lt = attrs_below bound attrs scene lt
attrs_below bound (attr.Fixed name text ∷ attrs) scene lt = attrs_below bound attrs scene lt
attrs_below bound (attr.Shown name id expr ∷ attrs) scene lt = (lt, attrs_below bound attrs scene lt)

range_split : (xs ys : List ℕ) (n : ℕ) → xs ++ ys ≡ range_with_len n (length (xs ++ ys)) → (xs ≡ range_with_len n (length xs)) × (ys ≡ range_with_len (n + length xs) (length ys))
range_split [] ys n is = let e : n + 0 ≡ n = omega arith in (refl, rw e is)
range_split (x ∷ xs) ys n is =
    let first : x ≡ n = cc in
    let rest : xs ++ ys ≡ range_with_len (n + 1) (length (xs ++ ys)) = cc in
    let both = range_split xs ys (n + 1) rest in
    ((λ i. first i ∷ both.0 i), both.1 ∙ ap (λ k. range_with_len k (length ys)) {x = n + 1 + length xs} {y = n + suc (length xs)} (omega arith))

-- what holds of owners that are numbered from o on
abbrev Owned : ℕ → List ℕ → (ℕ → List PlanOwner) → (Scene → List Written) → Type 0
Owned o owners owns writes = ((parent : ℕ) → parent < o → ParentsBelow o (owns parent)) × ((parent : ℕ) → length (owns parent) ≡ length owners) × ((bound : ℕ) (scene : Scene) → scene.owner < bound → o + length owners ≤ bound → OwnersBelow bound (writes scene))

abbrev Owns : List ℕ → Owning → (Scene → List Written) → Type 0
Owns owners owning writes = (o : ℕ) → owners ≡ range_with_len o (length owners) → Owned o owners owning.owners writes

module _ (state : State) (pairs : ℕ → List (Code × Code)) where
  abbrev ItemOwns : Item → Type 0
  ItemOwns item = Owns (item_owners item) (item_owning item) (write_item state pairs item)

  abbrev Proven : Type 0
  Proven = (item : Item) × ItemOwns item

  abbrev items_of : List Proven → List Item
  items_of known = map (λ k. k.0) known

  abbrev FormOwns : Item-F Item → Type 0
  FormOwns x = Owns (owners_step (map-Item Item (List ℕ) item_owners x)) (owning_step (map-Item Item Owning item_owning x)) (write_step state pairs (map-Item Item (Scene → List Written) (write_item state pairs) x))

  rolled : (x : Item-F Item) → FormOwns x → ItemOwns (roll-Item x)
  unfolding item_owners item_owning write_item
  rolled x owns =
      subst (λ f. Owns f (item_owning (roll-Item x)) (write_item state pairs (roll-Item x))) (sym (fold-roll-Item (List ℕ) owners_step x))
      (subst (λ f. Owns (owners_step (map-Item Item (List ℕ) item_owners x)) f (write_item state pairs (roll-Item x))) (sym (fold-roll-Item Owning owning_step x))
      (subst (λ f. Owns (owners_step (map-Item Item (List ℕ) item_owners x)) (owning_step (map-Item Item Owning item_owning x)) f) (sym (fold-roll-Item (Scene → List Written) (write_step state pairs) x))
      owns))

  joined : (o : ℕ) (xs ys : List ℕ) (first second : ℕ → List PlanOwner) (one two : Scene → List Written) → Owned o xs first one → Owned (o + length xs) ys second two → Owned o (xs ++ ys) (λ parent. first parent ++ second parent) (λ scene. one scene ++ two scene)
  joined o xs ys first second one two a b = (
    λ parent lt. parents-append o (first parent) (second parent) (a.0 parent lt) (subst (λ k. ParentsBelow (o + k) (second parent)) (sym (a.1 parent)) (b.0 parent (omega arith))),
    λ parent. length-append (first parent) (second parent) ∙ (λ i. a.1 parent i + b.1 parent i) ∙ sym (length-append xs ys),
    λ bound scene lt le. (let long = length-append xs ys in below-append bound (one scene) (two scene) (a.2 bound scene lt (omega arith)) (b.2 bound scene lt (omega arith))),
  )

  block : (known : List Proven) (o : ℕ) → concat (map item_owners (items_of known)) ≡ range_with_len o (length (concat (map item_owners (items_of known)))) → Owned o (concat (map item_owners (items_of known))) (owners_inside (map item_owning (items_of known))) (write_all (map (write_item state pairs) (items_of known)))
  block [] o is = (λ parent lt. tt, λ parent. refl, λ bound scene lt le. tt)
  block (k ∷ known) o is =
      let split = range_split (item_owners k.0) (concat (map item_owners (items_of known))) o is in
      joined o (item_owners k.0) (concat (map item_owners (items_of known))) (item_owning k.0).owners (owners_inside (map item_owning (items_of known))) (write_item state pairs k.0) (write_all (map (write_item state pairs) (items_of known))) (k.1 o split.0) (block known (o + length (item_owners k.0)) split.1)

  area : (live : Bool) (bound : ℕ) (ws : List Written) → OwnersBelow bound ws → OwnersBelow bound (if live then ws else [])
  area true bound ws below = below
  area false bound ws below = tt

  by_form : (y : Item-F Proven) → FormOwns (map-Item Proven Item (λ k. k.0) y)
  by_form (level.Signal id name start) o is = (λ parent lt. tt, λ parent. refl, λ bound scene lt le. (lt, tt))
  by_form (level.Memo id name expr) o is = (λ parent lt. tt, λ parent. refl, λ bound scene lt le. (lt, tt))
  by_form (level.Effect id name expr) o is = (λ parent lt. tt, λ parent. refl, λ bound scene lt le. (lt, tt))
  by_form (level.Resource id name after ks values) o is = (λ parent lt. tt, λ parent. refl, λ bound scene lt le. tt)
  by_form (level.Load id name resource key) o is = (λ parent lt. tt, λ parent. refl, λ bound scene lt le. (lt, (lt, tt)))
  by_form (level.Store id name max fields starts) o is = (λ parent lt. tt, λ parent. refl, λ bound scene lt le. rows_below bound (λ row. write_fields (2 + id) row.fields (in_row id row.key scene)) (state.rows id) (λ row. fields_below bound (2 + id) row.fields (in_row id row.key scene) lt))
  by_form (level.Cleanup text) o is = (λ parent lt. tt, λ parent. refl, λ bound scene lt le. tt)
  by_form (level.Area id name owner known) o is =
      let first : owner ≡ o = cc in
      let rest : concat (map item_owners (items_of known)) ≡ range_with_len (o + 1) (length (concat (map item_owners (items_of known)))) = cc in
      let inner = block known (o + 1) rest in (
        λ parent lt. (lt, subst (λ k. ParentsBelow k (owners_inside (map item_owning (items_of known)) owner)) {x = o + 1} {y = suc o} (omega arith) (inner.0 owner (omega arith))),
        λ parent. ap suc (inner.1 owner),
        λ bound scene lt le. area (state.live owner) bound (write_all (map (write_item state pairs) (items_of known)) (in_area owner scene)) (inner.2 bound (in_area owner scene) (omega arith) (omega arith)),
      )
  by_form (level.If id cond known) o is =
      let inner = block known o is in
      (inner.0, inner.1, λ bound scene lt le. (lt, inner.2 bound scene lt le))
  by_form (level.Each id store known) o is =
      let inner = block known o is in
      (inner.0, inner.1, λ bound scene lt le. rows_below bound (λ row. write_all (map (write_item state pairs) (items_of known)) (in_row store row.key scene)) (state.rows store) (λ row. inner.2 bound (in_row store row.key scene) lt le))
  by_form (level.Element tag closed attrs known) o is =
      let inner = block known o is in
      (inner.0, inner.1, λ bound scene lt le. below-append bound (flat_map (write_attr scene) attrs) (write_all (map (write_item state pairs) (items_of known)) scene) (attrs_below bound attrs scene lt) (inner.2 bound scene lt le))
  by_form (level.Text text) o is = (λ parent lt. tt, λ parent. refl, λ bound scene lt le. tt)
  by_form (level.Shown id expr) o is = (λ parent lt. tt, λ parent. refl, λ bound scene lt le. (lt, tt))

  item_owns : (item : Item) → ItemOwns item
  item_owns = ind-Item ItemOwns (λ x y is. subst (λ z. ItemOwns (roll-Item z)) is (rolled (map-Item Proven Item (λ k. k.0) y) (by_form y)))

  text_owns : (items : List Item) (o : ℕ) → owners_in items ≡ range_with_len o (length (owners_in items)) → Owned o (owners_in items) (owners_inside (map item_owning items)) (write_items state pairs items)
  text_owns [] o is = (λ parent lt. tt, λ parent. refl, λ bound scene lt le. tt)
  text_owns (item ∷ items) o is =
      let split = range_split (item_owners item) (owners_in items) o is in
      joined o (item_owners item) (owners_in items) (item_owning item).owners (owners_inside (map item_owning items)) (write_item state pairs item) (write_items state pairs items) (item_owns item o split.0) (text_owns items (o + length (item_owners item)) split.1)

-- ---- the plan

parent_at : (o : ℕ) (owners : List PlanOwner) (n : ℕ) (owner : PlanOwner) → ParentsBelow o owners → slice_get owners n ≡ Some owner → IsSomeAnd owner.parent (λ parent. parent < o + n)
parent_at o [] n owner below is = cc
parent_at o (x ∷ owners) zero owner below is =
    let e : x ≡ owner = cc in
    let k : o ≡ o + 0 = omega arith in
    subst (λ v. IsSomeAnd v.parent (λ parent. parent < o + 0)) e (subst (λ m. IsSomeAnd x.parent (λ parent. parent < m)) k below.0)
parent_at o (x ∷ owners) (suc n) owner below is =
    let k : suc o + n ≡ o + suc n = omega arith in
    subst (λ m. IsSomeAnd owner.parent (λ parent. parent < m)) k (parent_at (suc o) owners n owner below.1 is)

few_rows : (component : Component) (state : State) → IsKept component → RowsFit component state → length (rows_of (written_in component state)) ≤ 4096
few_rows component state kept fits = let few = few_written component state kept fits in subst (λ n. n ≤ 4096) (sym (length_rows (written_in component state))) (omega arith)

pub few_places : (component : Component) (state : State) → IsKept component → RowsFit component state → length (places_of (written_in component state)) ≤ 4096
few_places component state kept fits = let few = few_rows component state kept fits in let long = length-map (rows_of (written_in component state)) place_of in omega arith

pub lawful : (component : Component) (state : State) → IsKept component → RowsFit component state → IsLawful (plan_of component state)
lawful component state kept fits = record {
  few_nodes = (let long = length-map (rows_of ws) (node_of (is_keyed component) (places_of ws)) in let few = few_rows component state kept fits in omega arith);
  some_owner = omega arith;
  few_owners = (let long = all.1 0 in let few = kept.few_owners in omega arith);
  reads_back = read_back component state kept fits;
  owned = λ row node is. (let one = map_at (node_of (is_keyed component) (places_of ws)) (rows_of ws) row node is in subst (λ n. n.owner < bound) one.2 (every_at (λ w. w.scene.owner < bound) (rows_of ws) row one.0 (every_row (λ w. w.scene.owner < bound) ws text_under) one.1));
  root = λ owner is. (let e : top_owner ≡ owner = cc in ap (λ o. o.parent) (sym e));
  inside = λ number owner above is. under number owner above is;
}
  where
    ws : List Written
    ws = written_in component state

    bound : ℕ
    bound = length (plan_owners component)

    all : Owned 1 (owners_in component.items) (owners_inside (map item_owning component.items)) (write_items state (pairs_among component.items) component.items)
    all = text_owns state (pairs_among component.items) component.items 1 kept.numbered.owners

    text_under : OwnersBelow bound ws
    text_under = at (state.live 0)
      where
        at : (live : Bool) → OwnersBelow bound (if live then write_items state (pairs_among component.items) component.items at_top else [])
        at true = let long = all.1 0 in all.2 bound at_top (omega arith) (omega arith)
        at false = tt

    under : (number : ℕ) (owner : PlanOwner) → 0 < number → slice_get (plan_owners component) number ≡ Some owner → IsSomeAnd owner.parent (λ parent. parent < number)
    under zero owner above is = absurd (omega arith)
    under (suc n) owner above is = let k : 1 + n ≡ suc n = omega arith in subst (λ m. IsSomeAnd owner.parent (λ parent. parent < m)) k (parent_at 1 (owners_inside (map item_owning component.items) 0) n owner (all.0 0 (omega arith)) is)
