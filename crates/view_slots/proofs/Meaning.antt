-- A home that is mounted again shows the view that is made again.
use Rattle.std.proofs.Common.{◌≡◌, ℕ, ◌+◌, ◌-◌, ◌≤◌, ◌==◌, ◌||◌, not, nat_le, if◌then◌else◌, Bool, true, false, List, [], map, slice_get, Option, Some, None, refl, sym, ap, ◌∙◌, arith}
use Rattle.std.specs.List.{list_any}
use Rattle.std.specs.Option.{option_map}
use Rattle.std.proofs.lemmas.Bool.{leb-true}
use Rattle.std.proofs.lemmas.Option.{slice_get-map}
use Rattle.values.specs.declared.code.Code.{Code}
use Rattle.component_items.specs.declared.component.Component.{Component}
use Rattle.component_items.specs.declared.component.Item.{Item}
use Rattle.component_items.specs.Kept.{IsKept, standing_at_top}
use Rattle.plain_evaluation.specs.Page.{View}
use Rattle.plain_evaluation.specs.Place.{Place, same_key, same_place, place_at, outside}
use Rattle.plain_evaluation.proofs.Places.{and_cases}
use Rattle.view_meaning.specs.Mounted.{Seen, Mounted, cell_again, mounted_again}
use Rattle.view_meaning.specs.Parts.{Part, plain, shows, begins, bare, fixed, valued, begun, ends, area, branch, each, row, items_parts, parts_in, has_cell}
use Rattle.view_slots.specs.Home.{Sides, Home, rowless, home_parts, top_parts, opens_at, has_open, repeats, has_rows, turned, undone, sides_with, by_id, sides_at, remounted, home_undone}
use Rattle.view_slots.specs.Shows.{Shows}
use Rattle.view_slots.proofs.SlotLemmas.{by_id-get}
use Rattle.view_slots.proofs.Tests.{is_cell, has_cell-any, is_elsewhere, is_repeated}
use Rattle.view_slots.proofs.Rowless.{IsOuter, items_split}

module _ (seen : Seen) (parts : List Part) (key : Option Code) (home : Home) where
  abbrev anew : ℕ → Sides → Sides
  anew id s = sides_with seen parts (place_at id key) (turned s)

  -- ---- the sides of an id

  sides-remounted : (id : ℕ) → sides_at (remounted seen parts key home) id ≡ option_map (anew id) (sides_at home id)
  sides-remounted id = at (nat_le home.base id) refl
    where
      twice : (o : Option Sides) → option_map (sides_with seen parts (place_at id key)) (option_map turned o) ≡ option_map (anew id) o
      twice (Some s) = refl
      twice None = refl

      at : (b : Bool) → nat_le home.base id ≡ b → (if b then slice_get (by_id (λ n. sides_with seen parts (place_at n key)) home.base (map turned home.sides)) (id - home.base) else None) ≡ option_map (anew id) (if b then slice_get home.sides (id - home.base) else None)
      at true is =
          let low : home.base ≤ id = leb-true home.base id is in
          by_id-get (λ n. sides_with seen parts (place_at n key)) home.base (map turned home.sides) (id - home.base)
          ∙ ap (λ n. option_map (sides_with seen parts (place_at n key)) (slice_get (map turned home.sides) (id - home.base))) {x = home.base + (id - home.base)} {y = id} (omega (arith, low))
          ∙ ap (option_map (sides_with seen parts (place_at id key))) (slice_get-map turned home.sides (id - home.base))
          ∙ twice (slice_get home.sides (id - home.base))
      at false is = refl

  mapped : (f : Sides → Sides) (o : Option Sides) (s : Sides) → option_map f o ≡ Some s → (was : Sides) × (o ≡ Some was) × (f was ≡ s)
  mapped f (Some was) s is = (was, refl, cc)
  mapped f None s is = cc

  kept_if : (b : Bool) → (if b then true else false) ≡ b
  kept_if true = refl
  kept_if false = refl

  -- ---- what the home has is what the page has there

  pub record Agrees (items : List Item) : Type 0 where
    pub cells : (id : ℕ) (s : Sides) → sides_at home id ≡ Some s → has_cell (parts_in seen.view items) (place_at id key) ≡ has_cell parts (place_at id key)
    pub opens : (id : ℕ) (s : Sides) → sides_at home id ≡ Some s → has_open (parts_in seen.view items) (place_at id key) ≡ has_open parts (place_at id key)
    pub repeats : (id : ℕ) (s : Sides) → key ≡ None → sides_at home id ≡ Some s → has_rows (parts_in seen.view items) id ≡ has_rows parts id

  pub shows_again : (items : List Item) (old : Mounted) → Agrees items → Shows old key home → Shows (mounted_again items seen old) key (remounted seen parts key home)
  shows_again items old agrees shown = record {
    cells = λ id s is. (let m = mapped (anew id) (sides_at home id) s (sym (sides-remounted id) ∙ is) in
        ap (λ x. x.now.cell) (sym m.2)
        ∙ (λ i. if sym (agrees.cells id m.0 m.1) i then Some (cell_again (shown.cells id m.0 m.1 i) (seen.view.value (place_at id key)) (seen.version (place_at id key))) else None));
    opens = λ id s is. (let m = mapped (anew id) (sides_at home id) s (sym (sides-remounted id) ∙ is) in
        ap (λ x. x.now.is_open) (sym m.2) ∙ kept_if (has_open parts (place_at id key)) ∙ sym (agrees.opens id m.0 m.1));
    repeats = λ id s outer is. (let m = mapped (anew id) (sides_at home id) s (sym (sides-remounted id) ∙ is) in
        ap (λ x. x.now.has_rows) (sym m.2) ∙ kept_if (has_rows parts id) ∙ sym (agrees.repeats id m.0 outer m.1));
  }

-- what a home had before it was mounted again
sides-undone : (home : Home) (id : ℕ) → sides_at (home_undone home) id ≡ option_map undone (sides_at home id)
sides-undone home id = at (nat_le home.base id)
  where
    at : (b : Bool) → (if b then slice_get (map undone home.sides) (id - home.base) else None) ≡ option_map undone (if b then slice_get home.sides (id - home.base) else None)
    at true = slice_get-map undone home.sides (id - home.base)
    at false = refl

pub undone_shows : (seen : Seen) (parts : List Part) (key : Option Code) (home : Home) (mounted : Mounted) (of : Option Code) → Shows mounted of home → Shows mounted of (home_undone (remounted seen parts key home))
undone_shows seen parts key home mounted of shown = record {
  cells = λ id s is. (let m = back id s is in ap (λ (x : Sides). x.now.cell) (sym m.2) ∙ shown.cells id m.0 m.1);
  opens = λ id s is. (let m = back id s is in ap (λ (x : Sides). x.now.is_open) (sym m.2) ∙ shown.opens id m.0 m.1);
  repeats = λ id s outer is. (let m = back id s is in ap (λ (x : Sides). x.now.has_rows) (sym m.2) ∙ shown.repeats id m.0 outer m.1);
}
  where
    back : (id : ℕ) (s : Sides) → sides_at (home_undone (remounted seen parts key home)) id ≡ Some s → (was : Sides) × (sides_at home id ≡ Some was) × (undone (anew seen parts key home id was) ≡ s)
    back id s is =
        let one = mapped seen parts key home undone (sides_at (remounted seen parts key home) id) s (sym (sides-undone (remounted seen parts key home) id) ∙ is) in
        let two = mapped seen parts key home (anew seen parts key home id) (sides_at home id) one.0 (sym (sides-remounted seen parts key home id) ∙ one.1) in
        (two.0, two.1, ap undone two.2 ∙ one.2)

-- ---- outside of all rows

elsewhere : (id : ℕ) (k : Code) (q : Place) → (same_place q (outside id) || false) ≡ true → (not (same_key q.key (Some k)) || false) ≡ true
elsewhere id k q same = at q.key (and_cases (q.id == id) (same_key q.key None) (whole (same_place q (outside id)) same)).1
  where
    whole : (b : Bool) → (b || false) ≡ true → b ≡ true
    whole true h = refl
    whole false h = h

    at : (own : Option Code) → same_key own None ≡ true → (not (same_key own (Some k)) || false) ≡ true
    at None h = refl
    at (Some c) h = cc

or_it : (b : Bool) → b ≡ true → (b || false) ≡ true
or_it b h = ap (λ x. x || false) h

outer_cell : (id : ℕ) → IsOuter (is_cell (outside id))
outer_cell id = record { rows = λ each k. refl; others = others }
  where
    others : (k : Code) (part : Part) → is_cell (outside id) part ≡ true → (is_elsewhere (Some k) part || is_repeated part) ≡ true
    others k (plain number) h = cc
    others k (shows q) h = elsewhere id k q h
    others k (begins tag) h = cc
    others k (bare name) h = cc
    others k (fixed name number) h = cc
    others k (valued name q) h = elsewhere id k q h
    others k begun h = cc
    others k (ends tag) h = cc
    others k (area q) h = cc
    others k (branch q) h = cc
    others k (each own store) h = cc
    others k (row own key) h = cc

outer_open : (id : ℕ) → IsOuter (opens_at (outside id))
outer_open id = record { rows = λ each k. refl; others = others }
  where
    others : (k : Code) (part : Part) → opens_at (outside id) part ≡ true → (is_elsewhere (Some k) part || is_repeated part) ≡ true
    others k (plain number) h = cc
    others k (shows q) h = cc
    others k (begins tag) h = cc
    others k (bare name) h = cc
    others k (fixed name number) h = cc
    others k (valued name q) h = cc
    others k begun h = cc
    others k (ends tag) h = cc
    others k (area q) h = elsewhere id k q (or_it (same_place q (outside id)) h)
    others k (branch q) h = elsewhere id k q (or_it (same_place q (outside id)) h)
    others k (each own store) h = cc
    others k (row own key) h = cc

pub outer_repeats : (id : ℕ) → IsOuter (repeats id)
outer_repeats id = record { rows = λ each k. refl; others = others }
  where
    others : (k : Code) (part : Part) → repeats id part ≡ true → (is_elsewhere (Some k) part || is_repeated part) ≡ true
    others k (plain number) h = cc
    others k (shows q) h = cc
    others k (begins tag) h = cc
    others k (bare name) h = cc
    others k (fixed name number) h = cc
    others k (valued name q) h = cc
    others k begun h = cc
    others k (ends tag) h = cc
    others k (area q) h = cc
    others k (branch q) h = cc
    others k (each own store) h = refl
    others k (row own key) h = cc

pub top_split : (view : View) (component : Component) (test : Part → Bool) → IsOuter test → IsKept component → list_any test (parts_in view component.items) ≡ list_any test (top_parts view component.items)
top_split view component test outer kept = at (view.live 0)
  where
    at : (live : Bool) → list_any test (if live then items_parts view component.items None else []) ≡ list_any test (if live then items_parts (rowless view) component.items None else [])
    at true = items_split view test outer component.items standing_at_top kept.stand
    at false = refl

pub top_shows : (seen : Seen) (component : Component) (old : Mounted) (home : Home) → IsKept component → Shows old None home → Shows (mounted_again component.items seen old) None (remounted seen (top_parts seen.view component.items) None home)
top_shows seen component old home kept shown = shows_again seen (top_parts seen.view component.items) None home component.items old (record {
  cells = λ id s is. has_cell-any (parts_in seen.view component.items) (outside id) ∙ top_split seen.view component (is_cell (outside id)) (outer_cell id) kept ∙ sym (has_cell-any (top_parts seen.view component.items) (outside id));
  opens = λ id s is. top_split seen.view component (opens_at (outside id)) (outer_open id) kept;
  repeats = λ id s outer is. top_split seen.view component (repeats id) (outer_repeats id) kept;
}) shown

-- the items of a page whose top is live, or none
pub top_made : (view : View) (all items : List Item) → items ≡ (if view.live 0 then all else []) → home_parts view items None ≡ top_parts view all
top_made view all items is = ap (λ l. home_parts view l None) is ∙ at (view.live 0)
  where
    at : (live : Bool) → home_parts view (if live then all else []) None ≡ (if live then home_parts view all None else [])
    at true = refl
    at false = refl
