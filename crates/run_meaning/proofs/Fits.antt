-- What a phase leaves fits its component, where what it opened with did.
use Rattle.std.proofs.Common.{◌≡◌, ℕ, zero, suc, ◌+◌, ◌≤◌, ◌==◌, ◌&&◌, ◌||◌, not, nat_le, Bool, true, false, Option, Some, None, List, [], ◌∷◌, map, length, refl, sym, ap, subst, ⊎_elim, ◌∙◌, arith, leb-true}
use Rattle.std.specs.Prelude.{slice_index_or}
use Rattle.std.specs.List.{All, list_all, list_any, IsDistinct, AllByRecursion}
use Rattle.std.proofs.lemmas.Bool.{eqb-true, eq-eqb}
use Rattle.std.proofs.lemmas.List.{length-map}
use Rattle.std.proofs.lemmas.Option.{none-some}
use Rattle.std.proofs.lemmas.List.Elements.{All-nil, All-cons, All-head, All-tail}
use Rattle.values.specs.declared.code.Code.{Code}
use Rattle.values.specs.declared.plan.Noted.{Noted}
use Rattle.values.specs.Evaluation.{is_same}
use Rattle.store_fields.specs.declared.row.Row.{Row}
use Rattle.store_fields.specs.declared.edit.Edit.{Edit}
use Rattle.store_fields.specs.Edits.{KeyedRows, IsStore, keys, edit, with_rows}
use Rattle.store_fields.proofs.RowLemmas.{edit_keeps}
use Rattle.store_fields.proofs.DistinctLemmas.{edit_distinct}
use Rattle.component_items.specs.declared.component.Component.{Component}
use Rattle.component_items.specs.Counts.{maximum_in}
use Rattle.component_items.specs.Kept.{IsKept}
use Rattle.plain_evaluation.specs.Changed.{store_in, store_of, with_holding, most_in, StoresFit}
use Rattle.plain_evaluation.specs.Fits.{keys_differ, rows_fit, holding_fits, store_held, Fits}
use Rattle.plain_evaluation.specs.Held.{Holding, nothing, value, stored, arrived, Held, holding_of, rows_in, first_held}
use Rattle.plain_evaluation.specs.Killed.{going_with, killed, item_nests, OwnersFit}
use Rattle.plain_evaluation.proofs.Begins.{first_begins}
use Rattle.plain_evaluation.proofs.Fitting.{items_follow, begun_state_fits}
use Rattle.plain_evaluation.proofs.KilledLemmas.{left, without_fits}
use Rattle.plain_evaluation.proofs.Most.{MayStand, first_stores_fit, without_stores_fit, changed, changed_fits, changed_stores_fit, rows_may_stand}
use Rattle.plain_evaluation.proofs.Nesting.{begun_owners_fit, killed_owners_fit}
use Rattle.plain_evaluation.proofs.Places.{and_cases, and_both, or_none}
use Rattle.run_meaning.specs.Opened.{Opened}
use Rattle.run_meaning.specs.Edits.{changed as edit_changed, edits_of, fields_from, row_written, holding_written, holdings_written, held_written, Ordered, held_changed, held_edited}
use Rattle.run_meaning.specs.Entries.{disposed_in}
use Rattle.run_meaning.specs.Phase.{Phase}
use Rattle.run_meaning.specs.Run.{holding_arrived, holdings_arrived, held_arrived, held_disposed, after, Settled, Runs, none, more}

-- each store that is held has rows that it may have
pub record HeldFits (component : Component) (held : Held) : Type 0 where
  pub fits : Fits component held
  pub stores : StoresFit component held
  pub nested : OwnersFit component held
  pub own : (id : ℕ) (store : KeyedRows) → store_of held id ≡ Some store → rows_fit store.max store.width store.rows ≡ true

-- ---- rows of a store, said in two ways

wide_list : (width : ℕ) (rows : List Row) → IsStore (length rows) width rows → list_all (λ row. length row.fields == width) rows ≡ true
wide_list width [] is = refl
wide_list width (row ∷ rows) is = and_both _ _ (eq-eqb (length row.fields) width (All-head (λ (r : Row). length r.fields ≡ width) row rows is.wide)) (wide_list width rows (record { few = omega arith; wide = All-tail (λ (r : Row). length r.fields ≡ width) row rows is.wide }))

pub fit_of : (max width : ℕ) (rows : List Row) → IsStore max width rows → rows_fit max width rows ≡ true
fit_of max width rows is = and_both _ _ (wide_list width rows (record { few = omega arith; wide = is.wide })) (let l = is.few in grind arith)

all_wide : (width : ℕ) (rows : List Row) → list_all (λ row. length row.fields == width) rows ≡ true → All (λ row. length row.fields ≡ width) rows
all_wide width [] h = All-nil (λ (row : Row). length row.fields ≡ width)
all_wide width (row ∷ rows) h = let both = and_cases (length row.fields == width) (list_all (λ (r : Row). length r.fields == width) rows) h in All-cons (λ (r : Row). length r.fields ≡ width) row rows (eqb-true (length row.fields) width both.0) (all_wide width rows both.1)

pub store_of_fit : (max width : ℕ) (rows : List Row) → rows_fit max width rows ≡ true → IsStore max width rows
store_of_fit max width rows h =
    let both = and_cases (list_all (λ (row : Row). length row.fields == width) rows) (nat_le (length rows) max) h in
    record { few = leb-true (length rows) max both.1; wide = all_wide width rows both.0 }

not_false : (b : Bool) → not b ≡ true → b ≡ false
not_false true e = absurd cc
not_false false e = refl

none_same : (key : Code) (rows : List Row) → list_any (λ row. is_same key row.key) rows ≡ false → AllByRecursion (λ k. is_same key k ≡ false) (keys rows)
none_same key [] h = tt
none_same key (row ∷ rows) h = let both = or_none (is_same key row.key) (list_any (λ (r : Row). is_same key r.key) rows) h in (both.0, none_same key rows both.1)

same_none : (key : Code) (rows : List Row) → AllByRecursion (λ k. is_same key k ≡ false) (keys rows) → list_any (λ row. is_same key row.key) rows ≡ false
same_none key [] a = refl
same_none key (row ∷ rows) a = λ i. a.0 i || same_none key rows a.1 i

pub distinct_of : (rows : List Row) → keys_differ rows ≡ true → IsDistinct is_same (keys rows)
unfolding IsDistinct
distinct_of [] h = tt
distinct_of (row ∷ rows) h =
    let both = and_cases (not (list_any (λ (r : Row). is_same row.key r.key) rows)) (keys_differ rows) h in
    (none_same row.key rows (not_false (list_any (λ (r : Row). is_same row.key r.key) rows) both.0), distinct_of rows both.1)

pub differ_of : (rows : List Row) → IsDistinct is_same (keys rows) → keys_differ rows ≡ true
unfolding IsDistinct
differ_of [] d = refl
differ_of (row ∷ rows) d = λ i. not (same_none row.key rows d.0 i) && differ_of rows d.1 i

-- ---- one holding after another

pub record Follows (old new : Holding) : Type 0 where
  pub fits : (max width : ℕ) → holding_fits max width old ≡ true → holding_fits max width new ≡ true
  pub keys : keys_differ (rows_in old) ≡ true → keys_differ (rows_in new) ≡ true
  pub few : length (rows_in new) ≤ length (rows_in old)
  pub most : most_in new ≤ most_in old
  pub own : (store : KeyedRows) → store_in new ≡ Some store → (before : KeyedRows) × (store_in old ≡ Some before) × (rows_fit before.max before.width before.rows ≡ true → rows_fit store.max store.width store.rows ≡ true)

pub followed : (component : Component) (old new : Held) → old.live ≡ new.live → ((id : ℕ) → Follows (holding_of old id) (holding_of new id)) → HeldFits component old → HeldFits component new
followed component old new live each fit = record {
  fits = record {
    stores = items_follow (store_held old) (store_held new) (λ id max width. (each id).fits max width) component.items fit.fits.stores;
    keys = λ id. (each id).keys (fit.fits.keys id);
    few = λ id. (let a = (each id).few in let b = fit.fits.few id in omega arith);
  };
  stores = record { most = λ id. (let a = (each id).most in let b = fit.stores.most id in omega arith) };
  nested = record { areas = subst (λ (l : List Bool). list_all (λ item. item_nests (λ owner. slice_index_or l owner false) item (slice_index_or l 0 false)) component.items ≡ true) live fit.nested.areas };
  own = λ id store e. (let b = (each id).own store e in b.2 (fit.own id b.0 b.1));
}

-- ---- writes and arrivals

fields_long : (o : Opened) (es : List Noted) (id : ℕ) (key : Code) (codes : List Code) → length (fields_from o es id key codes) ≡ length codes
fields_long o es id key [] = refl
fields_long o es id key (code ∷ codes) = ap suc (fields_long o es (suc id) key codes)

wide_same : (o : Opened) (es : List Noted) (store width : ℕ) (rows : List Row) → list_all (λ row. length row.fields == width) (map (row_written o es store) rows) ≡ list_all (λ row. length row.fields == width) rows
wide_same o es store width [] = refl
wide_same o es store width (row ∷ rows) = λ i. (fields_long o es (2 + store) row.key row.fields i == width) && wide_same o es store width rows i

fit_same : (o : Opened) (es : List Noted) (store max width : ℕ) (rows : List Row) → rows_fit max width (map (row_written o es store) rows) ≡ rows_fit max width rows
fit_same o es store max width rows = λ i. wide_same o es store width rows i && nat_le (length-map rows (row_written o es store) i) max

any_same : (o : Opened) (es : List Noted) (store : ℕ) (key : Code) (rows : List Row) → list_any (λ row. is_same key row.key) (map (row_written o es store) rows) ≡ list_any (λ row. is_same key row.key) rows
any_same o es store key [] = refl
any_same o es store key (row ∷ rows) = ap (λ (b : Bool). is_same key row.key || b) (any_same o es store key rows)

keys_same : (o : Opened) (es : List Noted) (store : ℕ) (rows : List Row) → keys_differ (map (row_written o es store) rows) ≡ keys_differ rows
keys_same o es store [] = refl
keys_same o es store (row ∷ rows) = λ i. not (any_same o es store row.key rows i) && keys_same o es store rows i

written_follows : (o : Opened) (es : List Noted) (id : ℕ) (old : Holding) → Follows old (holding_written o es id old)
written_follows o es id nothing = record { fits = λ max width h. h; keys = λ h. h; few = omega arith; most = omega arith; own = λ store e. absurd (none-some _ e) }
written_follows o es id (value code) = record { fits = λ max width h. h; keys = λ h. h; few = omega arith; most = omega arith; own = λ store e. absurd (none-some _ e) }
written_follows o es id (stored store) = record {
  fits = λ max width h. (ap (λ (b : Bool). ((store.max == max) && (store.width == width)) && b) (fit_same o es id max width store.rows) ∙ h);
  keys = λ h. keys_same o es id store.rows ∙ h;
  few = (let e = length-map store.rows (row_written o es id) in omega arith);
  most = omega arith;
  own = λ s e. (store, refl, λ h. subst (λ (t : KeyedRows). rows_fit t.max t.width t.rows ≡ true) (same s e) (fit_same o es id store.max store.width store.rows ∙ h));
}
  where
    same : (s : KeyedRows) → Some (with_rows store (map (row_written o es id) store.rows)) ≡ Some s → with_rows store (map (row_written o es id) store.rows) ≡ s
    same s e = cc
written_follows o es id (arrived key) = record { fits = λ max width h. h; keys = λ h. h; few = omega arith; most = omega arith; own = λ store e. absurd (none-some _ e) }

arrived_follows : (key : Option Code) (old : Holding) → Follows old (holding_arrived key old)
arrived_follows key nothing = record { fits = λ max width h. h; keys = λ h. h; few = omega arith; most = omega arith; own = λ store e. absurd (none-some _ e) }
arrived_follows key (value code) = record { fits = λ max width h. h; keys = λ h. h; few = omega arith; most = omega arith; own = λ store e. absurd (none-some _ e) }
arrived_follows key (stored store) = record { fits = λ max width h. h; keys = λ h. h; few = omega arith; most = omega arith; own = λ s e. (s, e, λ h. h) }
arrived_follows key (arrived before) = record { fits = λ max width h. h; keys = λ h. h; few = omega arith; most = omega arith; own = λ store e. absurd (none-some _ e) }

all_written : (o : Opened) (es : List Noted) (from : ℕ) (list : List Holding) (id : ℕ) → Follows (slice_index_or list id nothing) (slice_index_or (holdings_written o es from list) id nothing)
all_written o es from [] id = written_follows o es 0 nothing
all_written o es from (x ∷ list) zero = written_follows o es from x
all_written o es from (x ∷ list) (suc id) = all_written o es (suc from) list id

all_arrived : (keys : ℕ → Option Code) (from : ℕ) (list : List Holding) (id : ℕ) → Follows (slice_index_or list id nothing) (slice_index_or (holdings_arrived keys from list) id nothing)
all_arrived keys from [] id = arrived_follows None nothing
all_arrived keys from (x ∷ list) zero = arrived_follows (keys from) x
all_arrived keys from (x ∷ list) (suc id) = all_arrived keys (suc from) list id

pub written_fits : (component : Component) (o : Opened) (es : List Noted) → HeldFits component o.held → HeldFits component (held_written o es)
written_fits component o es fit = followed component o.held (held_written o es) refl (all_written o es 0 o.held.holdings) fit

pub arrived_fits : (component : Component) (keys : ℕ → Option Code) (held : Held) → HeldFits component held → HeldFits component (held_arrived keys held)
arrived_fits component keys held fit = followed component held (held_arrived keys held) refl (all_arrived keys 0 held.holdings) fit

-- ---- edits

-- what stands there may stand there
may_same : (component : Component) (held : Held) (id : ℕ) (holding : Holding) → holding_of held id ≡ holding → HeldFits component held → MayStand component held id holding
may_same component held id holding e fit = record {
  fits = λ max width h. ap (holding_fits max width) (sym e) ∙ h;
  keys = ap (λ (h : Holding). keys_differ (rows_in h)) (sym e) ∙ fit.fits.keys id;
  few = subst (λ (h : Holding). length (rows_in h) ≤ maximum_in component.items id) e (fit.fits.few id);
  most = subst (λ (h : Holding). most_in h ≤ maximum_in component.items id) e (fit.stores.most id);
}

-- a store that was put has rows that it may have
with_fits : (component : Component) (held : Held) (id : ℕ) (holding : Holding) → MayStand component held id holding → ((store : KeyedRows) → store_in holding ≡ Some store → rows_fit store.max store.width store.rows ≡ true) → HeldFits component held → HeldFits component (with_holding held id holding)
with_fits component held id holding may mine fit = record {
  fits = changed_fits component held id holding may fit.fits;
  stores = changed_stores_fit component held id holding may fit.stores;
  nested = record { areas = fit.nested.areas };
  own = λ other store e. ⊎_elim
      (λ (s : holding_of (with_holding held id holding) other ≡ holding_of held other). fit.own other store (sym (ap store_in s) ∙ e))
      (λ (s : (other ≡ id) × (holding_of (with_holding held id holding) other ≡ holding)). mine store (sym (ap store_in s.1) ∙ e))
      (changed held id holding other);
}

edited_at : (component : Component) (held : Held) (e : Edit) (holding : Holding) → holding_of held e.store ≡ holding → HeldFits component held → HeldFits component (with_holding held e.store (edit_changed e.op holding).holding)
edited_at component held e nothing is fit = with_fits component held e.store nothing (may_same component held e.store nothing is fit) (λ store q. absurd (none-some _ q)) fit
edited_at component held e (value code) is fit = with_fits component held e.store (value code) (may_same component held e.store (value code) is fit) (λ store q. absurd (none-some _ q)) fit
edited_at component held e (stored store) is fit = with_fits component held e.store (stored new)
    (rows_may_stand component held e.store store new fit.stores was refl refl fits_new (differ_of new.rows (edit_distinct store.max store.width store.rows e.op (distinct_of store.rows (ap (λ (h : Holding). keys_differ (rows_in h)) (sym is) ∙ fit.fits.keys e.store)))))
    (λ s q. subst (λ (t : KeyedRows). rows_fit t.max t.width t.rows ≡ true) (same s q) fits_new) fit
  where
    new : KeyedRows
    new = with_rows store (edit store.max store.width store.rows e.op).rows

    was : store_of held e.store ≡ Some store
    was = ap store_in is

    fits_new : rows_fit store.max store.width (edit store.max store.width store.rows e.op).rows ≡ true
    fits_new = fit_of store.max store.width _ (edit_keeps store.max store.width store.rows e.op (store_of_fit store.max store.width store.rows (fit.own e.store store was)))

    same : (s : KeyedRows) → Some new ≡ Some s → new ≡ s
    same s q = cc
edited_at component held e (arrived key) is fit = with_fits component held e.store (arrived key) (may_same component held e.store (arrived key) is fit) (λ store q. absurd (none-some _ q)) fit

pub edited_fits : (component : Component) (xs : List Ordered) (held : Held) → HeldFits component held → HeldFits component (held_edited xs held)
edited_fits component [] held fit = fit
edited_fits component (x ∷ xs) held fit = edited_fits component xs (held_changed x.edit held) (edited_at component held x.edit (holding_of held x.edit.store) refl fit)

-- ---- disposals

killed_fits : (component : Component) → IsKept component → (held : Held) (owner : ℕ) → HeldFits component held → HeldFits component (killed component owner held)
killed_fits component kept held owner fit = record {
  fits = without_fits component held (going_with component owner) fit.fits;
  stores = without_stores_fit component held (going_with component owner) fit.stores;
  nested = killed_owners_fit component held owner kept fit.nested;
  own = λ id store e. ⊎_elim
      (λ (s : holding_of (killed component owner held) id ≡ holding_of held id). fit.own id store (sym (ap store_in s) ∙ e))
      (λ (s : holding_of (killed component owner held) id ≡ nothing). absurd (none-some store (sym (ap store_in s) ∙ e)))
      (left (going_with component owner) held id);
}

pub disposed_fits : (component : Component) → IsKept component → (owners : List ℕ) (held : Held) → HeldFits component held → HeldFits component (held_disposed component owners held)
disposed_fits component kept [] held fit = fit
disposed_fits component kept (x ∷ owners) held fit = disposed_fits component kept owners (killed component x held) (killed_fits component kept held x fit)

-- ---- a run

pub first_fits : (component : Component) → IsKept component → HeldFits component (first_held component)
first_fits component kept =
    let begins = first_begins component kept in
    record {
      fits = begun_state_fits component (first_held component) begins;
      stores = first_stores_fit component kept;
      nested = begun_owners_fit component (first_held component) begins;
      own = λ id store e. no_rows (holding_of (first_held component) id) store e (begins.rows id);
    }
  where
    none_fit : (max width : ℕ) → rows_fit max width [] ≡ true
    none_fit max width = grind arith

    no_rows : (holding : Holding) (store : KeyedRows) → store_in holding ≡ Some store → rows_in holding ≡ [] → rows_fit store.max store.width store.rows ≡ true
    no_rows nothing store e r = absurd (none-some _ e)
    no_rows (value code) store e r = absurd (none-some _ e)
    no_rows (stored s) store e r = let same : s ≡ store = cc in let none : store.rows ≡ [] = ap (λ (t : KeyedRows). t.rows) (sym same) ∙ r in ap (rows_fit store.max store.width) none ∙ none_fit store.max store.width
    no_rows (arrived key) store e r = absurd (none-some _ e)

pub after_fits : (component : Component) → IsKept component → (p : Phase) (keys : ℕ → Option Code) → HeldFits component p.opened.held → HeldFits component (after component p keys)
after_fits component kept p keys fit =
    arrived_fits component keys _ (disposed_fits component kept (disposed_in p.entries) _ (edited_fits component (edits_of p.lanes p.entries) _ (written_fits component p.opened p.entries fit)))

pub run_fits : (component : Component) → IsKept component → (first last : Held) (steps : List Settled) → HeldFits component first → Runs component first steps last → HeldFits component last
run_fits component kept first last steps fit none = fit
run_fits component kept first last steps fit (more {past} {held} s keys r opens is e) =
    let before = run_fits component kept first held past fit r in
    subst (HeldFits component) (sym e) (after_fits component kept s.phase keys (subst (λ (o : Opened). HeldFits component o.held) (sym opens) before))
