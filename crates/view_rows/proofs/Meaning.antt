-- The rows of an `each` that follow its store and are mounted again show the view that is made again.
use Rattle.std.proofs.Common.{◌≡◌, ℕ, zero, suc, ◌+◌, ◌-◌, nat_le, ◌||◌, ◌&&◌, Bool, true, false, cond, if◌then◌else◌, Option, Some, None, List, [], ◌∷◌, map, length, replicate, slice_get, unwrap_or, refl, sym, ap, subst, ◌∙◌, arith}
use Rattle.std.specs.List.{list_any}
use Rattle.std.specs.Map.{lookup}
use Rattle.std.proofs.lemmas.List.{length-replicate, length-map}
use Rattle.values.specs.declared.code.Code.{Code}
use Rattle.values.specs.Evaluation.{is_same}
use Rattle.store_fields.proofs.KeyLemmas.{same_true}
use Rattle.component_items.specs.declared.component.Component.{Component}
use Rattle.component_items.specs.declared.component.Item.{Item}
use Rattle.component_items.specs.Ids.{ids_in}
use Rattle.component_items.specs.Kept.{IsKept}
use Rattle.plain_evaluation.specs.Place.{place_at, of_row}
use Rattle.view_meaning.specs.Mounted.{Seen, Mounted, nothing_mounted, cell_again, mounted_again}
use Rattle.view_meaning.specs.Parts.{parts_in}
use Rattle.view_meaning.specs.Serials.{rows_again}
use Rattle.view_slots.specs.Eaches.{EachOf, StandsIn}
use Rattle.view_slots.specs.Home.{Sides, Home, blank_sides, blank_home, home_parts, top_parts, has_open, has_rows, turned, sides_at, sides_with, remounted}
use Rattle.view_slots.specs.Shows.{Shows, IsRowHome}
use Rattle.view_slots.proofs.SlotLemmas.{length-by_id}
use Rattle.view_slots.proofs.RowHomes.{range_has}
use Rattle.view_slots.proofs.RowMeaning.{each_numbered, row_within, row_cell, row_open, page_row, row_shows, each_keys}
use Rattle.view_slots.proofs.Tests.{has_cell-any, among, is_cell}
use Rattle.view_rows.specs.Listed.{Row, Listed, count_after, arranged, row_again, rows_remounted, rows_gone, row_with, serial_of_row}
use Rattle.view_rows.specs.Shows.{IsIdOf, ShowsRows, rows_follow}
use Rattle.view_rows.proofs.SerialLemmas.{serials-arranged}

-- ---- the row with a key

module _ (seen : Seen) (items : List Item) (base width : ℕ) (old : List (Code × Row)) (k : Code) where
  abbrev again : Row → Row
  again row = (row.0, remounted seen (home_parts seen.view items (Some k)) (Some k) row.1)

  abbrev rows : List Code → ℕ → List (Code × Row)
  rows ks next = map (row_again seen items) (arranged base width old ks next)

  pub record Found (ks : List Code) (next : ℕ) : Type 0 where
    pub serial : ℕ
    pub row : lookup (is_same k) (rows ks next) ≡ Some (again (unwrap_or (lookup (is_same k) old) (serial, blank_home base width)))

  pub found : (ks : List Code) (next : ℕ) → list_any (is_same k) ks ≡ true → Found ks next
  found [] next has = absurd cc
  found (x ∷ ks) next has = at (is_same k x) refl has (found ks (count_after (lookup (is_same x) old) next))
    where
      rest : List (Code × Row)
      rest = rows ks (count_after (lookup (is_same x) old) next)

      first : Code → Row
      first c = (row_again seen items (c, unwrap_or (lookup (is_same c) old) (next, blank_home base width))).1

      at : (b : Bool) → is_same k x ≡ b → (b || list_any (is_same k) ks) ≡ true → (list_any (is_same k) ks ≡ true → Found ks (count_after (lookup (is_same x) old) next)) → Found (x ∷ ks) next
      at true is has later =
          let same : x ≡ k = sym (same_true k x is) in
          record { serial = next; row = ap (λ b. cond b (Some (first x)) (lookup (is_same k) rest)) is ∙ ap (λ c. Some (first c)) same }
      at false is has later =
          let more = later has in
          record { serial = more.serial; row = ap (λ b. cond b (Some (first x)) (lookup (is_same k) rest)) is ∙ more.row }

  pub missing : (ks : List Code) (next : ℕ) → list_any (is_same k) ks ≡ false → lookup (is_same k) (rows ks next) ≡ None
  missing [] next none = refl
  missing (x ∷ ks) next none = at (is_same k x) refl none (missing ks (count_after (lookup (is_same x) old) next))
    where
      rest : List (Code × Row)
      rest = rows ks (count_after (lookup (is_same x) old) next)

      at : (b : Bool) → is_same k x ≡ b → (b || list_any (is_same k) ks) ≡ false → (list_any (is_same k) ks ≡ false → lookup (is_same k) rest ≡ None) → lookup (is_same k) (rows (x ∷ ks) next) ≡ None
      at true is none later = absurd cc
      at false is none later = ap (λ b. cond b (Some (row_again seen items (x, unwrap_or (lookup (is_same x) old) (next, blank_home base width))).1) (lookup (is_same k) rest)) is ∙ later none

-- ---- a home of which nothing is mounted

one_of : {X : Type 0} (n i : ℕ) (x y : X) → slice_get (replicate n x) i ≡ Some y → x ≡ y
one_of zero i x y is = cc
one_of (suc n) zero x y is = cc
one_of (suc n) (suc i) x y is = one_of n i x y is

blank_at : (base width id : ℕ) (s : Sides) → sides_at (blank_home base width) id ≡ Some s → blank_sides ≡ s
blank_at base width id s is = at (nat_le base id) is
  where
    at : (b : Bool) → (if b then slice_get (replicate width blank_sides) (id - base) else None) ≡ Some s → blank_sides ≡ s
    at true is = one_of width (id - base) blank_sides s is
    at false is = cc

blank_row : (e : EachOf) → IsRowHome e (blank_home (e.id + 1) (length (ids_in e.items)))
blank_row e = record { base = refl; count = length-replicate (length (ids_in e.items)) blank_sides }

remounted_row : (e : EachOf) (seen : Seen) (key : Code) (home : Home) → IsRowHome e home → IsRowHome e (remounted seen (home_parts seen.view e.items (Some key)) (Some key) home)
remounted_row e seen key home is = record {
  base = is.base;
  count = length-by_id (λ id. sides_with seen (home_parts seen.view e.items (Some key)) (place_at id (Some key))) home.base (map turned home.sides) ∙ length-map home.sides turned ∙ is.count;
}

serials_stay : (seen : Seen) (items : List Item) (rows : List (Code × Row)) → map serial_of_row (map (row_again seen items) rows) ≡ map serial_of_row rows
serials_stay seen items [] = refl
serials_stay seen items (e ∷ rows) = ap (λ l. (e.0, e.1.0) ∷ l) (serials_stay seen items rows)

-- ---- what the rows show

module _ (seen : Seen) (component : Component) (old : Mounted) (e : EachOf) (before : Listed) (kept : IsKept component) (st : StandsIn e component.items) (shown : ShowsRows old e before) where
  abbrev new : Mounted
  new = mounted_again component.items seen old

  abbrev keys : List Code
  keys = seen.view.keys e.id e.store

  its_id : (id : ℕ) → IsIdOf e id → among id (ids_in e.items) ≡ true
  its_id id is = ap (among id) (each_numbered e component.items 0 kept.numbered.ids st) ∙ range_has (e.id + 1) (length (ids_in e.items)) id (omega (arith, is.behind)) (omega (arith, is.within))

  id_of : (home : Home) (id : ℕ) (s : Sides) → IsRowHome e home → sides_at home id ≡ Some s → IsIdOf e id
  id_of home id s is got = let w = row_within e home id s is got in record { behind = omega (arith, w.0); within = omega (arith, w.1) }

  -- a row that the page has not
  module _ (key : Code) (gone : (has_rows (top_parts seen.view component.items) e.id && list_any (is_same key) keys) ≡ false) (id : ℕ) (is : IsIdOf e id) where
    nothing_shown : new.cells (of_row id key) ≡ None
    nothing_shown =
        ap (λ b. if b then Some (cell_again (old.cells (of_row id key)) (seen.view.value (of_row id key)) (seen.version (of_row id key))) else None)
        (has_cell-any (parts_in seen.view component.items) (of_row id key) ∙ page_row seen.view component e key (is_cell (of_row id key)) id (row_cell id key) kept st (its_id id is) ∙ ap (λ b. b && list_any (is_cell (of_row id key)) (home_parts seen.view e.items (Some key))) gone)

    nothing_open : has_open new.parts (of_row id key) ≡ false
    nothing_open = page_row seen.view component e key _ id (row_open id key) kept st (its_id id is) ∙ ap (λ b. b && has_open (home_parts seen.view e.items (Some key)) (of_row id key)) gone

  -- a fresh row has nothing yet, as the view has not
  fresh_shows : (key : Code) → row_with before key ≡ None → Shows old (Some key) (blank_home (e.id + 1) (length (ids_in e.items)))
  fresh_shows key none = record {
    cells = λ id s got. ap (λ (x : Sides). x.now.cell) (sym (blank_at (e.id + 1) (length (ids_in e.items)) id s got)) ∙ sym (shown.no_cell key id none (id_of (blank_home (e.id + 1) (length (ids_in e.items))) id s (blank_row e) got));
    opens = λ id s got. ap (λ (x : Sides). x.now.is_open) (sym (blank_at (e.id + 1) (length (ids_in e.items)) id s got)) ∙ sym (shown.none_open key id none (id_of (blank_home (e.id + 1) (length (ids_in e.items))) id s (blank_row e) got));
    repeats = λ id s outer got. cc;
  }

  record IsReady (key : Code) (home : Home) : Type 0 where
    pub is_home : IsRowHome e home
    pub shows : Shows old (Some key) home

  ready : (key : Code) (serial : ℕ) → IsReady key (unwrap_or (row_with before key) (serial, blank_home (e.id + 1) (length (ids_in e.items)))).1
  ready key serial = at (row_with before key) refl
    where
      at : (o : Option Row) → row_with before key ≡ o → IsReady key (unwrap_or o (serial, blank_home (e.id + 1) (length (ids_in e.items)))).1
      at None is = record { is_home = blank_row e; shows = fresh_shows key is }
      at (Some row) is = record { is_home = shown.homes key row is; shows = shown.there key row is }

  pub followed : has_rows (top_parts seen.view component.items) e.id ≡ true → ShowsRows new e (rows_remounted seen e.items (rows_follow seen e before))
  followed mounted = record {
    serials =
        ap (rows_again (old.rows e.id)) (each_keys seen.view component e kept st ∙ ap (λ b. if b then keys else []) mounted)
        ∙ ap (λ r. rows_again r keys) shown.serials
        ∙ serials-arranged (e.id + 1) (length (ids_in e.items)) before keys
        ∙ (λ i. record { rows = sym (serials_stay seen e.items (rows_follow seen e before).rows) i; next = (rows_follow seen e before).next });
    homes = λ key row is. at key row is (list_any (is_same key) keys) refl;
    there = λ key row is. shows_at key row is (list_any (is_same key) keys) refl;
    no_cell = λ key id none is. nothing_shown key (gone key none (list_any (is_same key) keys) refl) id is;
    none_open = λ key id none is. nothing_open key (gone key none (list_any (is_same key) keys) refl) id is;
  }
    where
      find : (key : Code) → list_any (is_same key) keys ≡ true → Found seen e.items (e.id + 1) (length (ids_in e.items)) before.rows key keys before.next
      find key has = found seen e.items (e.id + 1) (length (ids_in e.items)) before.rows key keys before.next has

      lost : (key : Code) → list_any (is_same key) keys ≡ false → row_with (rows_remounted seen e.items (rows_follow seen e before)) key ≡ None
      lost key none = missing seen e.items (e.id + 1) (length (ids_in e.items)) before.rows key keys before.next none

      at : (key : Code) (row : Row) → row_with (rows_remounted seen e.items (rows_follow seen e before)) key ≡ Some row → (b : Bool) → list_any (is_same key) keys ≡ b → IsRowHome e row.1
      at key row is true has =
          let f = find key has in
          let same : Some row ≡ Some (again seen e.items (e.id + 1) (length (ids_in e.items)) before.rows key (unwrap_or (row_with before key) (f.serial, blank_home (e.id + 1) (length (ids_in e.items))))) = sym is ∙ f.row in
          let e2 : again seen e.items (e.id + 1) (length (ids_in e.items)) before.rows key (unwrap_or (row_with before key) (f.serial, blank_home (e.id + 1) (length (ids_in e.items)))) ≡ row = cc in
          subst (λ (r : Row). IsRowHome e r.1) e2 (remounted_row e seen key (unwrap_or (row_with before key) (f.serial, blank_home (e.id + 1) (length (ids_in e.items)))).1 (ready key f.serial).is_home)
      at key row is false none = let bad : None ≡ Some row = sym (lost key none) ∙ is in absurd cc

      shows_at : (key : Code) (row : Row) → row_with (rows_remounted seen e.items (rows_follow seen e before)) key ≡ Some row → (b : Bool) → list_any (is_same key) keys ≡ b → Shows new (Some key) row.1
      shows_at key row is true has =
          let f = find key has in
          let same : Some row ≡ Some (again seen e.items (e.id + 1) (length (ids_in e.items)) before.rows key (unwrap_or (row_with before key) (f.serial, blank_home (e.id + 1) (length (ids_in e.items))))) = sym is ∙ f.row in
          let e2 : again seen e.items (e.id + 1) (length (ids_in e.items)) before.rows key (unwrap_or (row_with before key) (f.serial, blank_home (e.id + 1) (length (ids_in e.items)))) ≡ row = cc in
          subst (λ (r : Row). Shows new (Some key) r.1) e2 (row_shows seen component old (unwrap_or (row_with before key) (f.serial, blank_home (e.id + 1) (length (ids_in e.items)))).1 e key kept st (record { mounted = mounted; there = has }) (ready key f.serial).is_home (ready key f.serial).shows)
      shows_at key row is false none = let bad : None ≡ Some row = sym (lost key none) ∙ is in absurd cc

      gone : (key : Code) → row_with (rows_remounted seen e.items (rows_follow seen e before)) key ≡ None → (b : Bool) → list_any (is_same key) keys ≡ b → (has_rows (top_parts seen.view component.items) e.id && b) ≡ false
      gone key none true has = let bad : None ≡ Some _ = sym none ∙ (find key has).row in absurd cc
      gone key none false has = ap (λ b. b && false) mounted

  pub cleared : has_rows (top_parts seen.view component.items) e.id ≡ false → ShowsRows new e (rows_gone before)
  cleared unmounted = record {
    serials =
        ap (rows_again (old.rows e.id)) (each_keys seen.view component e kept st ∙ ap (λ b. if b then keys else []) unmounted)
        ∙ ap (λ r. rows_again r []) shown.serials;
    homes = λ key row is. cc;
    there = λ key row is. cc;
    no_cell = λ key id none is. nothing_shown key (ap (λ b. b && list_any (is_same key) keys) unmounted) id is;
    none_open = λ key id none is. nothing_open key (ap (λ b. b && list_any (is_same key) keys) unmounted) id is;
  }

-- before anything was mounted there are no rows
pub nothing_shows : (e : EachOf) → ShowsRows nothing_mounted e (record { rows = []; next = 0 })
nothing_shows e = record {
  serials = refl;
  homes = λ key row is. cc;
  there = λ key row is. cc;
  no_cell = λ key id none is. refl;
  none_open = λ key id none is. refl;
}
