-- The resources of a component, as they are found by id.
use Rattle.std.proofs.Common.{◌≡◌, ℕ, ◌+◌, ◌<◌, ◌≤◌, ◌==◌, nat_eq, if◌then◌else◌, Bool, true, false, List, [], ◌∷◌, ◌++◌, length, Some, None, unwrap_or, refl, sym, ap, subst, ◌∙◌, arith}
use Rattle.std.specs.List.{list_all, zip}
use Rattle.std.proofs.lemmas.Bool.{eqb-true}
use Rattle.std.proofs.lemmas.List.{append-nil}
use Rattle.component_items.specs.declared.component.Component.{Component}
use Rattle.component_items.specs.declared.component.Item.{Item}
use Rattle.component_items.specs.declared.component.Item.TheOpen as level
use Rattle.component_items.specs.declared.component.Item.TheOpen.{Item-F}
use Rattle.component_items.specs.declared.component.Item.TheViews.{out-Item, roll-out-Item}
use Rattle.component_items.specs.declared.component.Item.TheFolds.{fold-roll-Item, map-Item}
use Rattle.component_items.specs.Ids.{ids_step, item_ids, ids_in}
use Rattle.component_items.specs.Kept.{are_distinct, shape_step, item_has_shape, IsKept}
use Rattle.plain_evaluation.specs.Lookup.{found_in}
use Rattle.plain_evaluation.specs.Written.{pairs_step, pairs_among}
use Rattle.plain_evaluation.proofs.Goings.{Numbered, numbered-cons, numbered-append}
use Rattle.plain_evaluation.proofs.Places.{and_cases}
use Rattle.load_table.specs.Loads.{after_step, after_among, loads_among, loads_in}
use Rattle.load_table.specs.Table.{ResourceOf, no_resource, after_by, pairs_by, resource_of, resource_told, resources_told, resources_put}
use Rattle.load_table.proofs.Puts.{Lacks, AreNew, put_new, pairs_stay}

-- ---- an item by its form

abbrev ids_at : Item-F Item → List ℕ
ids_at x = ids_step (map-Item Item (List ℕ) item_ids x)

ids_are : (item : Item) → item_ids item ≡ ids_at (out-Item item)
unfolding item_ids
ids_are item = ap item_ids (sym (roll-out-Item item)) ∙ fold-roll-Item (List ℕ) ids_step (out-Item item)

shape_is : (item : Item) → item_has_shape item ≡ shape_step (map-Item Item Bool item_has_shape (out-Item item))
unfolding item_has_shape
shape_is item = ap item_has_shape (sym (roll-out-Item item)) ∙ fold-roll-Item Bool shape_step (out-Item item)

differs : (a b : ℕ) → a < b → (b == a) ≡ false
differs a b less = at (b == a) refl
  where
    at : (same : Bool) → (b == a) ≡ same → same ≡ false
    at true is = let e : b ≡ a = eqb-true b a is in absurd (omega (arith, less, e))
    at false is = refl

-- ---- ids that rise

-- a resource with a smaller id is none of these
none_later : (items : List Item) (n id : ℕ) → Numbered n (ids_in items) → id < n → pairs_among items id ≡ []
none_later [] n id numbered less = refl
none_later (item ∷ items) n id numbered less = by_form (λ ids all. none_later items (n + length ids) id (numbered-append n ids (ids_in items) all).1 (omega (arith, less))) (out-Item item) (subst (λ ids. Numbered n (ids ++ ids_in items)) (ids_are item) numbered)
  where
    by_form : ((ids : List ℕ) → Numbered n (ids ++ ids_in items) → pairs_among items id ≡ []) → (x : Item-F Item) → Numbered n (ids_at x ++ ids_in items) → pairs_step id x ++ pairs_among items id ≡ []
    by_form others (level.Signal own name start) all = others (ids_at (level.Signal own name start)) all
    by_form others (level.Memo own name expr) all = others (ids_at (level.Memo own name expr)) all
    by_form others (level.Effect own name expr) all = others (ids_at (level.Effect own name expr)) all
    by_form others (level.Resource own name after keys values) all =
        let first = numbered-cons n own (ids_in items) all in
        ap (λ (b : Bool). (if b then zip keys values else []) ++ pairs_among items id) (ap (λ k. k == id) first.0 ∙ differs id n less) ∙ others (own ∷ []) all
    by_form others (level.Load own name resource key) all = others (ids_at (level.Load own name resource key)) all
    by_form others (level.Store own name max fields starts) all = others (ids_at (level.Store own name max fields starts)) all
    by_form others (level.Cleanup text) all = others (ids_at (level.Cleanup text)) all
    by_form others (level.Area own name owner inner) all = others (ids_at (level.Area own name owner inner)) all
    by_form others (level.If own cond inner) all = others (ids_at (level.If own cond inner)) all
    by_form others (level.Each own store inner) all = others (ids_at (level.Each own store inner)) all
    by_form others (level.Element tag closed attrs inner) all = others (ids_at (level.Element tag closed attrs inner)) all
    by_form others (level.Text text) all = others (ids_at (level.Text text)) all
    by_form others (level.Shown own expr) all = others (ids_at (level.Shown own expr)) all

abbrev AllBelow : ℕ → List (ℕ × ResourceOf) → Type 0
AllBelow n [] = Unit {0}
AllBelow n (e ∷ es) = (e.0 < n) × AllBelow n es

below_more : (n m : ℕ) (es : List (ℕ × ResourceOf)) → n ≤ m → AllBelow n es → AllBelow m es
below_more n m [] least h = tt
below_more n m (e ∷ es) least h = ((let less = h.0 in omega (arith, less, least)), below_more n m es least h.1)

below-append : (n : ℕ) (es fs : List (ℕ × ResourceOf)) → AllBelow n es → AllBelow n fs → AllBelow n (es ++ fs)
below-append n [] fs h g = g
below-append n (e ∷ es) fs h g = (h.0, below-append n es fs h.1 g)

lacks_above : (n : ℕ) (es : List (ℕ × ResourceOf)) → AllBelow n es → Lacks nat_eq es n
lacks_above n [] h = tt
lacks_above n (e ∷ es) h = (differs e.0 n h.0, lacks_above n es h.1)

resources_new : (es : List (ℕ × ResourceOf)) (items : List Item) (n : ℕ) → AllBelow n es → Numbered n (ids_in items) → AreNew nat_eq es (resources_told items)
resources_new es [] n below numbered = tt
resources_new es (item ∷ items) n below numbered = by_form (λ fs m. resources_new fs items m) (out-Item item) (subst (λ ids. Numbered n (ids ++ ids_in items)) (ids_are item) numbered)
  where
    others : ((fs : List (ℕ × ResourceOf)) (m : ℕ) → AllBelow m fs → Numbered m (ids_in items) → AreNew nat_eq fs (resources_told items)) → (ids : List ℕ) → Numbered n (ids ++ ids_in items) → AreNew nat_eq es (resources_told items)
    others later ids all = later es (n + length ids) (below_more n (n + length ids) es (omega arith) below) (numbered-append n ids (ids_in items) all).1

    by_form : ((fs : List (ℕ × ResourceOf)) (m : ℕ) → AllBelow m fs → Numbered m (ids_in items) → AreNew nat_eq fs (resources_told items)) → (x : Item-F Item) → Numbered n (ids_at x ++ ids_in items) → AreNew nat_eq es (resource_told x ++ resources_told items)
    by_form later (level.Signal own name start) all = others later (ids_at (level.Signal own name start)) all
    by_form later (level.Memo own name expr) all = others later (ids_at (level.Memo own name expr)) all
    by_form later (level.Effect own name expr) all = others later (ids_at (level.Effect own name expr)) all
    by_form later (level.Resource own name after keys values) all =
        let first = numbered-cons n own (ids_in items) all in
        let here : AllBelow (n + 1) ((own, resource_of after keys values) ∷ []) = ((let e = first.0 in omega (arith, e)), tt) in (
          subst (λ k. Lacks nat_eq es k) (sym first.0) (lacks_above n es below),
          later (es ++ (own, resource_of after keys values) ∷ []) (n + 1) (below-append (n + 1) es ((own, resource_of after keys values) ∷ []) (below_more n (n + 1) es (omega arith) below) here) first.1,
        )
    by_form later (level.Load own name resource key) all = others later (ids_at (level.Load own name resource key)) all
    by_form later (level.Store own name max fields starts) all = others later (ids_at (level.Store own name max fields starts)) all
    by_form later (level.Cleanup text) all = others later (ids_at (level.Cleanup text)) all
    by_form later (level.Area own name owner inner) all = others later (ids_at (level.Area own name owner inner)) all
    by_form later (level.If own cond inner) all = others later (ids_at (level.If own cond inner)) all
    by_form later (level.Each own store inner) all = others later (ids_at (level.Each own store inner)) all
    by_form later (level.Element tag closed attrs inner) all = others later (ids_at (level.Element tag closed attrs inner)) all
    by_form later (level.Text text) all = others later (ids_at (level.Text text)) all
    by_form later (level.Shown own expr) all = others later (ids_at (level.Shown own expr)) all

-- ---- what is found is what the text says

after_found : (items : List Item) (id : ℕ) → after_by (resources_told items) id ≡ after_among items id
after_found [] id = refl
after_found (item ∷ items) id = by_form (after_found items id) (out-Item item)
  where
    by_form : after_by (resources_told items) id ≡ after_among items id → (x : Item-F Item) → after_by (resource_told x ++ resources_told items) id ≡ unwrap_or (after_step id x) (after_among items id)
    by_form later (level.Signal own name start) = later
    by_form later (level.Memo own name expr) = later
    by_form later (level.Effect own name expr) = later
    by_form later (level.Resource own name after keys values) = at (own == id)
      where
        at : (b : Bool) → (if b then resource_of after keys values else found_in no_resource (resources_told items) id).after ≡ unwrap_or (if b then Some after else None) (after_among items id)
        at true = refl
        at false = later
    by_form later (level.Load own name resource key) = later
    by_form later (level.Store own name max fields starts) = later
    by_form later (level.Cleanup text) = later
    by_form later (level.Area own name owner inner) = later
    by_form later (level.If own cond inner) = later
    by_form later (level.Each own store inner) = later
    by_form later (level.Element tag closed attrs inner) = later
    by_form later (level.Text text) = later
    by_form later (level.Shown own expr) = later

pairs_found : (items : List Item) (n id : ℕ) → list_all item_has_shape items ≡ true → Numbered n (ids_in items) → pairs_by (resources_told items) id ≡ pairs_among items id
pairs_found [] n id shaped numbered = refl
pairs_found (item ∷ items) n id shaped numbered =
    let shape = and_cases (item_has_shape item) (list_all item_has_shape items) shaped in
    by_form (λ ids rest all. pairs_found items (n + length ids) id rest (numbered-append n ids (ids_in items) all).1) (out-Item item) (sym (shape_is item) ∙ shape.0) shape.1 (subst (λ ids. Numbered n (ids ++ ids_in items)) (ids_are item) numbered)
  where
    by_form : ((ids : List ℕ) → list_all item_has_shape items ≡ true → Numbered n (ids ++ ids_in items) → pairs_by (resources_told items) id ≡ pairs_among items id) → (x : Item-F Item) → shape_step (map-Item Item Bool item_has_shape x) ≡ true → list_all item_has_shape items ≡ true → Numbered n (ids_at x ++ ids_in items) → pairs_by (resource_told x ++ resources_told items) id ≡ pairs_step id x ++ pairs_among items id
    by_form others (level.Signal own name start) here rest all = others (ids_at (level.Signal own name start)) rest all
    by_form others (level.Memo own name expr) here rest all = others (ids_at (level.Memo own name expr)) rest all
    by_form others (level.Effect own name expr) here rest all = others (ids_at (level.Effect own name expr)) rest all
    by_form others (level.Resource own name after keys values) here rest all = at (own == id) refl
      where
        at : (b : Bool) → (own == id) ≡ b → (if b then resource_of after keys values else found_in no_resource (resources_told items) id).pairs ≡ (if b then zip keys values else []) ++ pairs_among items id
        at true is =
            let first = numbered-cons n own (ids_in items) all in
            let e = first.0 in
            let same : own ≡ id = eqb-true own id is in
            let less : id < n + 1 = omega (arith, e, same) in
            pairs_stay keys values (and_cases (length keys == length values) (are_distinct keys) here).1
            ∙ sym (ap (λ more. zip keys values ++ more) (none_later items (n + 1) id first.1 less) ∙ append-nil (zip keys values))
        at false is = others (own ∷ []) rest all
    by_form others (level.Load own name resource key) here rest all = others (ids_at (level.Load own name resource key)) rest all
    by_form others (level.Store own name max fields starts) here rest all = others (ids_at (level.Store own name max fields starts)) rest all
    by_form others (level.Cleanup text) here rest all = others (ids_at (level.Cleanup text)) rest all
    by_form others (level.Area own name owner inner) here rest all = others (ids_at (level.Area own name owner inner)) rest all
    by_form others (level.If own cond inner) here rest all = others (ids_at (level.If own cond inner)) rest all
    by_form others (level.Each own store inner) here rest all = others (ids_at (level.Each own store inner)) rest all
    by_form others (level.Element tag closed attrs inner) here rest all = others (ids_at (level.Element tag closed attrs inner)) rest all
    by_form others (level.Text text) here rest all = others (ids_at (level.Text text)) rest all
    by_form others (level.Shown own expr) here rest all = others (ids_at (level.Shown own expr)) rest all

-- the resources as they are put in are those of the text
pub all_found : (component : Component) → IsKept component → loads_among (pairs_by (resources_put [] (resources_told component.items))) (after_by (resources_put [] (resources_told component.items))) component.items ≡ loads_in component
all_found component kept =
    ap (λ es. loads_among (pairs_by es) (after_by es) component.items) (put_new nat_eq [] (resources_told component.items) (resources_new [] component.items 0 tt kept.numbered.ids))
    ∙ (λ i. loads_among (λ id. pairs_found component.items 0 id kept.shaped kept.numbered.ids i) (λ id. after_found component.items id i) component.items)
