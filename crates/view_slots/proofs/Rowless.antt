-- What a home has of the parts of a page.
use Rattle.std.proofs.Common.{◌≡◌, ℕ, ◌||◌, ◌&&◌, if◌then◌else◌, Bool, true, false, List, [], ◌∷◌, ◌++◌, map, Option, Some, None, refl, sym, ap, subst, ◌∙◌}
use Rattle.std.specs.List.{list_any, list_all, flat_map}
use Rattle.std.proofs.lemmas.List.Folds.{list_any-append}
use Rattle.values.specs.declared.code.Code.{Code}
use Rattle.values.specs.Evaluation.{truth}
use Rattle.component_items.specs.declared.component.Attr.{Attr}
use Rattle.component_items.specs.declared.component.Attr.TheVariants as attr
use Rattle.component_items.specs.declared.component.Item.{Item}
use Rattle.component_items.specs.declared.component.Item.TheOpen as level
use Rattle.component_items.specs.declared.component.Item.TheOpen.{Item-F}
use Rattle.component_items.specs.declared.component.Item.TheViews.{roll-Item}
use Rattle.component_items.specs.declared.component.Item.TheFolds.{fold-roll-Item, map-Item, ind-Item}
use Rattle.component_items.specs.Kept.{Standing, may_have_area, may_have_each, inside_area, inside_if, inside_each, inside_element, stand_all, stands_step, item_stands}
use Rattle.plain_evaluation.specs.Page.{View}
use Rattle.plain_evaluation.specs.Place.{place_at}
use Rattle.plain_evaluation.proofs.Places.{and_cases, not_true}
use Rattle.view_meaning.specs.Parts.{Part, begins, begun, area, branch, each, row, attr_part, parts_joined, ending, parts_step, item_parts, items_parts}
use Rattle.view_slots.specs.Home.{rowless}
use Rattle.view_slots.proofs.HomeParts.{parts-joined}
use Rattle.view_slots.proofs.Tests.{is_elsewhere, is_repeated, or_false, none_leading, none_either, none-append, items_placed}

-- the parts in a row of a page and of a home
pub record InRow (parts less : List Part) : Type 0 where
  pub same : parts ≡ less
  pub single : list_any is_repeated less ≡ false

-- a test that nothing in a row passes
pub record IsOuter (test : Part → Bool) : Type 0 where
  pub rows : (id : ℕ) (k : Code) → test (row id k) ≡ false
  pub others : (k : Code) (part : Part) → test part ≡ true → (is_elsewhere (Some k) part || is_repeated part) ≡ true

module _ (view : View) where
  -- ---- in a row: there is no `each`, so what a page has there is what the home has

  abbrev Single : Item → Type 0
  Single item = (s : Standing) (key : Option Code) → s.repeated ≡ true → item_stands item s ≡ true → InRow (item_parts view item key) (item_parts (rowless view) item key)

  abbrev Known : Type 0
  Known = (item : Item) × Single item

  abbrev known_items : List Known → List Item
  known_items known = map (λ k. k.0) known

  abbrev inner : List Known → Option Code → List Part
  inner known key = parts_joined (map (item_parts view) (known_items known)) key

  abbrev less : List Known → Option Code → List Part
  less known key = parts_joined (map (item_parts (rowless view)) (known_items known)) key

  nothing : InRow [] []
  nothing = record { same = refl; single = refl }

  single_all : (known : List Known) (s : Standing) (key : Option Code) → s.repeated ≡ true → stand_all s (map item_stands (known_items known)) ≡ true → InRow (inner known key) (less known key)
  single_all [] s key rep stands = nothing
  single_all (k ∷ known) s key rep stands =
      let both = and_cases (item_stands k.0 s) (stand_all s (map item_stands (known_items known))) stands in
      let first = k.1 s key rep both.0 in
      let rest = single_all known s key rep both.1 in
      record {
        same = λ i. first.same i ++ rest.same i;
        single = none-append is_repeated (item_parts (rowless view) k.0 key) (less known key) first.single rest.single;
      }

  single_gated : (holds : Bool) (first : Part) (xs ys : List Part) → is_repeated first ≡ false → InRow xs ys → InRow (if holds then first ∷ xs else []) (if holds then first ∷ ys else [])
  single_gated true first xs ys free h = record { same = ap (λ l. first ∷ l) h.same; single = or_false (is_repeated first) (list_any is_repeated ys) free h.single }
  single_gated false first xs ys free h = nothing

  single_attrs : (attrs : List Attr) (key : Option Code) → list_any is_repeated (map (attr_part key) attrs) ≡ false
  single_attrs [] key = refl
  single_attrs (attr.Bare name ∷ attrs) key = single_attrs attrs key
  single_attrs (attr.Fixed name text ∷ attrs) key = single_attrs attrs key
  single_attrs (attr.Shown name own expr ∷ attrs) key = single_attrs attrs key

  single_end : (tag : ℕ) (closed : Bool) → list_any is_repeated (ending tag closed) ≡ false
  single_end tag true = refl
  single_end tag false = refl

  no_each : (s : Standing) (more : Bool) → s.repeated ≡ true → (may_have_each s && more) ≡ true → ⊥
  no_each s more rep stands =
      let once : s.repeated ≡ false = not_true s.repeated (and_cases (may_have_each s) more stands).0 in
      let e : true ≡ false = sym rep ∙ once in
      cc

  single_form : (y : Item-F Known) (s : Standing) (key : Option Code) → s.repeated ≡ true → stands_step (map-Item Item (Standing → Bool) item_stands (map-Item Known Item (λ k. k.0) y)) s ≡ true → InRow (parts_step view (map-Item Item (Option Code → List Part) (item_parts view) (map-Item Known Item (λ k. k.0) y)) key) (parts_step (rowless view) (map-Item Item (Option Code → List Part) (item_parts (rowless view)) (map-Item Known Item (λ k. k.0) y)) key)
  single_form (level.Signal own name start) s key rep stands = nothing
  single_form (level.Memo own name expr) s key rep stands = nothing
  single_form (level.Effect own name expr) s key rep stands = nothing
  single_form (level.Resource own name after keys values) s key rep stands = nothing
  single_form (level.Load own name resource expr) s key rep stands = nothing
  single_form (level.Store own name max fields starts) s key rep stands = nothing
  single_form (level.Cleanup text) s key rep stands = nothing
  single_form (level.Area own name owner known) s key rep stands =
      single_gated (view.live owner) (area (place_at own key)) (inner known key) (less known key) refl (single_all known (inside_area s) key rep (and_cases (may_have_area s) (stand_all (inside_area s) (map item_stands (known_items known))) stands).1)
  single_form (level.If own cond known) s key rep stands =
      single_gated (truth (view.value (place_at own key))) (branch (place_at own key)) (inner known key) (less known key) refl (single_all known (inside_if s) key rep stands)
  single_form (level.Each own store known) s key rep stands = absurd (no_each s (stand_all (inside_each s) (map item_stands (known_items known))) rep stands)
  single_form (level.Element tag closed attrs known) s key rep stands =
      let first : List Part = begins tag ∷ map (attr_part key) attrs in
      let all = single_all known (inside_element s) key rep stands in
      record {
        same = λ i. first ++ begun ∷ all.same i ++ ending tag closed;
        single = none-append is_repeated (first ++ begun ∷ less known key) (ending tag closed) (none-append is_repeated first (begun ∷ less known key) (single_attrs attrs key) all.single) (single_end tag closed);
      }
  single_form (level.Text text) s key rep stands = record { same = refl; single = refl }
  single_form (level.Shown own expr) s key rep stands = record { same = refl; single = refl }

  single_layer : (x : Item-F Item) (s : Standing) (key : Option Code) → (stands_step (map-Item Item (Standing → Bool) item_stands x) s ≡ true → InRow (parts_step view (map-Item Item (Option Code → List Part) (item_parts view) x) key) (parts_step (rowless view) (map-Item Item (Option Code → List Part) (item_parts (rowless view)) x) key)) → item_stands (roll-Item x) s ≡ true → InRow (item_parts view (roll-Item x) key) (item_parts (rowless view) (roll-Item x) key)
  unfolding item_parts item_stands
  single_layer x s key known stands =
      let made = known (sym (ap (λ (f : Standing → Bool). f s) (fold-roll-Item (Standing → Bool) stands_step x)) ∙ stands) in
      let one : item_parts view (roll-Item x) key ≡ parts_step view (map-Item Item (Option Code → List Part) (item_parts view) x) key = ap (λ (f : Option Code → List Part). f key) (fold-roll-Item (Option Code → List Part) (parts_step view) x) in
      let two : item_parts (rowless view) (roll-Item x) key ≡ parts_step (rowless view) (map-Item Item (Option Code → List Part) (item_parts (rowless view)) x) key = ap (λ (f : Option Code → List Part). f key) (fold-roll-Item (Option Code → List Part) (parts_step (rowless view)) x) in
      record { same = one ∙ made.same ∙ sym two; single = ap (list_any is_repeated) two ∙ made.single }

  pub single : (item : Item) → Single item
  single = ind-Item Single (λ x y is. subst (λ z. Single (roll-Item z)) is (λ s key rep stands. single_layer (map-Item Known Item (λ k. k.0) y) s key (single_form y s key rep) stands))

  pub items_single : (items : List Item) (s : Standing) (key : Option Code) → s.repeated ≡ true → stand_all s (map item_stands items) ≡ true → InRow (items_parts view items key) (items_parts (rowless view) items key)
  items_single [] s key rep stands = nothing
  items_single (item ∷ items) s key rep stands =
      let both = and_cases (item_stands item s) (stand_all s (map item_stands items)) stands in
      let first = single item s key rep both.0 in
      let rest = items_single items s key rep both.1 in
      record {
        same = λ i. first.same i ++ rest.same i;
        single = none-append is_repeated (item_parts (rowless view) item key) (items_parts (rowless view) items key) first.single rest.single;
      }

  -- ---- outside of all rows: what a page has there the home has

  module _ (test : Part → Bool) (outer : IsOuter test) where
    abbrev Split : Item → Type 0
    Split item = (s : Standing) → item_stands item s ≡ true → list_any test (item_parts view item None) ≡ list_any test (item_parts (rowless view) item None)

    abbrev Cut : Type 0
    Cut = (item : Item) × Split item

    abbrev cut_items : List Cut → List Item
    cut_items known = map (λ k. k.0) known

    split_all : (known : List Cut) (s : Standing) → stand_all s (map item_stands (cut_items known)) ≡ true → list_any test (parts_joined (map (item_parts view) (cut_items known)) None) ≡ list_any test (parts_joined (map (item_parts (rowless view)) (cut_items known)) None)
    split_all [] s stands = refl
    split_all (k ∷ known) s stands =
        let both = and_cases (item_stands k.0 s) (stand_all s (map item_stands (cut_items known))) stands in
        list_any-append test (item_parts view k.0 None) (parts_joined (map (item_parts view) (cut_items known)) None)
        ∙ (λ i. k.1 s both.0 i || split_all known s both.1 i)
        ∙ sym (list_any-append test (item_parts (rowless view) k.0 None) (parts_joined (map (item_parts (rowless view)) (cut_items known)) None))

    split_gated : (holds : Bool) (first : Part) (xs ys : List Part) → list_any test xs ≡ list_any test ys → list_any test (if holds then first ∷ xs else []) ≡ list_any test (if holds then first ∷ ys else [])
    split_gated true first xs ys h = ap (λ b. test first || b) h
    split_gated false first xs ys h = refl

    in_row : (id : ℕ) (items : List Item) (s : Standing) (k : Code) → s.repeated ≡ true → stand_all s (map item_stands items) ≡ true → list_any test (row id k ∷ parts_joined (map (item_parts view) items) (Some k)) ≡ false
    in_row id items s k rep stands =
        let made = items_single items s (Some k) rep stands in
        or_false (test (row id k)) (list_any test (parts_joined (map (item_parts view) items) (Some k))) (outer.rows id k)
        (ap (list_any test) (parts-joined view items (Some k) ∙ made.same)
        ∙ none_leading test (λ part. is_elsewhere (Some k) part || is_repeated part) (outer.others k) (items_parts (rowless view) items (Some k))
        (none_either (is_elsewhere (Some k)) is_repeated (items_parts (rowless view) items (Some k)) (items_placed view items (Some k)) made.single))

    in_rows : (id : ℕ) (items : List Item) (s : Standing) (keys : List Code) → s.repeated ≡ true → stand_all s (map item_stands items) ≡ true → list_any test (flat_map (λ k. row id k ∷ parts_joined (map (item_parts view) items) (Some k)) keys) ≡ false
    in_rows id items s [] rep stands = refl
    in_rows id items s (k ∷ keys) rep stands = none-append test (row id k ∷ parts_joined (map (item_parts view) items) (Some k)) (flat_map (λ k. row id k ∷ parts_joined (map (item_parts view) items) (Some k)) keys) (in_row id items s k rep stands) (in_rows id items s keys rep stands)

    split_form : (y : Item-F Cut) (s : Standing) → stands_step (map-Item Item (Standing → Bool) item_stands (map-Item Cut Item (λ k. k.0) y)) s ≡ true → list_any test (parts_step view (map-Item Item (Option Code → List Part) (item_parts view) (map-Item Cut Item (λ k. k.0) y)) None) ≡ list_any test (parts_step (rowless view) (map-Item Item (Option Code → List Part) (item_parts (rowless view)) (map-Item Cut Item (λ k. k.0) y)) None)
    split_form (level.Signal own name start) s stands = refl
    split_form (level.Memo own name expr) s stands = refl
    split_form (level.Effect own name expr) s stands = refl
    split_form (level.Resource own name after keys values) s stands = refl
    split_form (level.Load own name resource expr) s stands = refl
    split_form (level.Store own name max fields starts) s stands = refl
    split_form (level.Cleanup text) s stands = refl
    split_form (level.Area own name owner known) s stands = split_gated (view.live owner) (area (place_at own None)) (parts_joined (map (item_parts view) (cut_items known)) None) (parts_joined (map (item_parts (rowless view)) (cut_items known)) None) (split_all known (inside_area s) (and_cases (may_have_area s) (stand_all (inside_area s) (map item_stands (cut_items known))) stands).1)
    split_form (level.If own cond known) s stands = split_gated (truth (view.value (place_at own None))) (branch (place_at own None)) (parts_joined (map (item_parts view) (cut_items known)) None) (parts_joined (map (item_parts (rowless view)) (cut_items known)) None) (split_all known (inside_if s) stands)
    split_form (level.Each own store known) s stands = ap (λ b. test (each own store) || b) (in_rows own (cut_items known) (inside_each s) (view.keys own store) refl (and_cases (may_have_each s) (stand_all (inside_each s) (map item_stands (cut_items known))) stands).1)
    split_form (level.Element tag closed attrs known) s stands =
        let first : List Part = begins tag ∷ map (attr_part None) attrs in
        let all = split_all known (inside_element s) stands in
        let xs : List Part = parts_joined (map (item_parts view) (cut_items known)) None in
        let ys : List Part = parts_joined (map (item_parts (rowless view)) (cut_items known)) None in
        list_any-append test (first ++ begun ∷ xs) (ending tag closed)
        ∙ ap (λ b. b || list_any test (ending tag closed)) (list_any-append test first (begun ∷ xs) ∙ ap (λ b. list_any test first || (test begun || b)) all ∙ sym (list_any-append test first (begun ∷ ys)))
        ∙ sym (list_any-append test (first ++ begun ∷ ys) (ending tag closed))
    split_form (level.Text text) s stands = refl
    split_form (level.Shown own expr) s stands = refl

    split_layer : (x : Item-F Item) (s : Standing) → (stands_step (map-Item Item (Standing → Bool) item_stands x) s ≡ true → list_any test (parts_step view (map-Item Item (Option Code → List Part) (item_parts view) x) None) ≡ list_any test (parts_step (rowless view) (map-Item Item (Option Code → List Part) (item_parts (rowless view)) x) None)) → item_stands (roll-Item x) s ≡ true → list_any test (item_parts view (roll-Item x) None) ≡ list_any test (item_parts (rowless view) (roll-Item x) None)
    unfolding item_parts item_stands
    split_layer x s known stands =
        ap (λ (f : Option Code → List Part). list_any test (f None)) (fold-roll-Item (Option Code → List Part) (parts_step view) x)
        ∙ known (sym (ap (λ (f : Standing → Bool). f s) (fold-roll-Item (Standing → Bool) stands_step x)) ∙ stands)
        ∙ sym (ap (λ (f : Option Code → List Part). list_any test (f None)) (fold-roll-Item (Option Code → List Part) (parts_step (rowless view)) x))

    pub split : (item : Item) → Split item
    split = ind-Item Split (λ x y is. subst (λ z. Split (roll-Item z)) is (λ s stands. split_layer (map-Item Cut Item (λ k. k.0) y) s (split_form y s) stands))

    pub items_split : (items : List Item) (s : Standing) → list_all (λ item. item_stands item s) items ≡ true → list_any test (items_parts view items None) ≡ list_any test (items_parts (rowless view) items None)
    items_split [] s stands = refl
    items_split (item ∷ items) s stands =
        let both = and_cases (item_stands item s) (list_all (λ item. item_stands item s) items) stands in
        list_any-append test (item_parts view item None) (items_parts view items None)
        ∙ (λ i. split item s both.0 i || items_split items s both.1 i)
        ∙ sym (list_any-append test (item_parts (rowless view) item None) (items_parts (rowless view) items None))
