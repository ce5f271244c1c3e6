-- What is seen of what was read so far, and that each item names what is seen.
use Rattle.std.proofs.Common.{◌≡◌, ℕ, true, List, [], ◌∷◌, ◌++◌, length, Some, None, Option, refl, sym, ap, subst, ◌∙◌}
use Rattle.std.proofs.lemmas.List.Folds.{list_all-append}
use Rattle.grammar.proofs.Theory.{and_both}
use Rattle.component_items.specs.declared.component.Attr.{Attr}
use Rattle.component_items.specs.declared.component.Item.{Item}
use Rattle.component_items.specs.Kept.{Known, known_store, Sight, attr_sees, store_among, items_see, nothing_seen, item_sees}
use Rattle.component_meaning.specs.State.{State, Declared, Rows, Frame, area_frame, if_frame, each_frame, element_frame, Open, rows_of}
use Rattle.component_meaning.specs.State as state
use Rattle.component_meaning.specs.Actions.{with_item, closed, with_attr}
use Rattle.component_meaning.proofs.KeptNames.{knowns}
use Rattle.component_meaning.proofs.KeptSight.{seen_after, seen_after-more, see_more, IsSeeing, frame_sees, closed_sees}

-- ---- sights

abbrev pub rows_inside : Frame → List Declared → Option Known → Option Known
rows_inside (each_frame id rows) outside around = store_among rows.store (knowns outside)
rows_inside _ outside around = around

abbrev pub rows_sight : List Open → Option Known
rows_sight [] = None
rows_sight (o ∷ outer) = rows_inside o.frame o.outside (rows_sight outer)

abbrev pub sight : List Declared → List Open → Sight
sight seen opened = record { known = knowns seen; rows = rows_sight opened }

-- the rows of an `each` are those of a store that is seen
abbrev pub IsRowed : Rows → List Known → Type 0
IsRowed rows known = store_among rows.store known ≡ Some (known_store rows.store (length rows.fields))

abbrev pub IsRowedIn : Frame → List Declared → Type 0
IsRowedIn (each_frame id rows) outside = IsRowed rows (knowns outside)
IsRowedIn _ outside = Unit {0}

-- nothing that may be named is declared in an element
abbrev pub AddsNone : Frame → List Declared → List Declared → Type 0
AddsNone (element_frame tag closed attrs) outside seen = knowns seen ≡ knowns outside
AddsNone _ outside seen = Unit {0}

-- ---- all that was read

pub record TopSees (items : List Item) (seen : List Declared) : Type 0 where
  pub sees : items_see items nothing_seen ≡ true
  pub behind : seen_after items [] ≡ knowns seen

pub record OpenSees (frame : Frame) (outside : List Declared) (inner : List Item) (seen : List Declared) (outer : List Open) : Type 0 where
  pub framed : frame_sees frame (sight outside outer) ≡ true
  pub sees : items_see inner (record { known = knowns outside; rows = rows_inside frame outside (rows_sight outer) }) ≡ true
  pub behind : seen_after inner (knowns outside) ≡ knowns seen
  pub rowed : IsRowedIn frame outside
  pub adds_none : AddsNone frame outside seen

abbrev pub AllSee : List Item → List Declared → List Open → Type 0
AllSee items seen [] = TopSees items seen
AllSee items seen (o ∷ outer) = OpenSees o.frame o.outside o.items seen outer × AllSee items o.outside outer

abbrev pub Sees : State → Type 0
Sees a = AllSee a.items a.seen a.opened

-- ---- items

abbrev pub MayAdd : List Known → List Open → Type 0
MayAdd declares [] = Unit {0}
MayAdd declares (o ∷ outer) = may o.frame
  where
    may : Frame → Type 0
    may (element_frame tag closed attrs) = declares ≡ []
    may _ = Unit {0}

pub adds_nothing : (opened : List Open) → MayAdd [] opened
adds_nothing [] = tt
adds_nothing (o ∷ outer) = at o.frame o.outside o.items
  where
    at : (frame : Frame) (outside : List Declared) (inner : List Item) → MayAdd [] (record { frame = frame; outside = outside; items = inner } ∷ outer)
    at (area_frame id name owner) outside inner = tt
    at (if_frame id cond) outside inner = tt
    at (each_frame id rows) outside inner = tt
    at (element_frame tag closed attrs) outside inner = refl

still_none : (frame : Frame) (outside : List Declared) (inner : List Item) (outer : List Open) (seen seen' : List Declared) (declares : List Known) → AddsNone frame outside seen
    → MayAdd declares (record { frame = frame; outside = outside; items = inner } ∷ outer) → knowns seen' ≡ declares ++ knowns seen → AddsNone frame outside seen'
still_none (area_frame id name owner) outside inner outer seen seen' declares none may is = tt
still_none (if_frame id cond) outside inner outer seen seen' declares none may is = tt
still_none (each_frame id rows) outside inner outer seen seen' declares none may is = tt
still_none (element_frame tag closed attrs) outside inner outer seen seen' declares none may is = is ∙ ap (λ ks. ks ++ knowns seen) may ∙ none

-- the item, which declares this, comes next
pub item_seen : (i : Item) (declares : List Known) (a : State) (seen seen' : List Declared) (opened : List Open) → AllSee a.items seen opened → IsSeeing i declares (sight seen opened)
    → knowns seen' ≡ declares ++ knowns seen → MayAdd declares opened → Sees (with_item i (record a { seen = seen'; opened = opened }))
item_seen i declares a seen seen' [] h one is may = record {
  sees = see_more a.items i nothing_seen h.sees (subst (λ (ks : List Known). (item_sees i).is_right (record { known = ks; rows = None }) ≡ true) (sym h.behind) one.1);
  behind = seen_after-more a.items i [] ∙ ap (λ (ks : List Known). ks ++ seen_after a.items []) one.0 ∙ ap (λ (ks : List Known). declares ++ ks) h.behind ∙ sym is;
}
item_seen i declares a seen seen' (o ∷ outer) h one is may = (
  record {
    framed = h.0.framed;
    sees =
        let rows : Option Known = rows_inside o.frame o.outside (rows_sight outer) in
        see_more o.items i (record { known = knowns o.outside; rows = rows }) h.0.sees
        (subst (λ (ks : List Known). (item_sees i).is_right (record { known = ks; rows = rows }) ≡ true) (sym h.0.behind) one.1);
    behind = seen_after-more o.items i (knowns o.outside) ∙ ap (λ (ks : List Known). ks ++ seen_after o.items (knowns o.outside)) one.0 ∙ ap (λ (ks : List Known). declares ++ ks) h.0.behind ∙ sym is;
    rowed = h.0.rowed;
    adds_none = still_none o.frame o.outside o.items outer seen seen' declares h.0.adds_none may is;
  },
  h.1,
)

-- ---- what opens and closes

pub frame_seen : (frame : Frame) (items : List Item) (seen : List Declared) (opened : List Open) → AllSee items seen opened → frame_sees frame (sight seen opened) ≡ true → IsRowedIn frame seen → AddsNone frame seen seen
    → AllSee items seen (record { frame = frame; outside = seen; items = [] } ∷ opened)
frame_seen frame items seen opened h framed rowed none = (record { framed = framed; sees = refl; behind = refl; rowed = rowed; adds_none = none }, h)

-- declarations that may not be named make no difference
pub same_seen : (items : List Item) (seen seen' : List Declared) (opened : List Open) → knowns seen' ≡ knowns seen → AllSee items seen opened → AllSee items seen' opened
same_seen items seen seen' [] is h = record { sees = h.sees; behind = h.behind ∙ sym is }
same_seen items seen seen' (o ∷ outer) is h = (
  record {
    framed = h.0.framed;
    sees = h.0.sees;
    behind = h.0.behind ∙ sym is;
    rowed = h.0.rowed;
    adds_none = still_none o.frame o.outside o.items outer seen seen' [] h.0.adds_none (adds_nothing (o ∷ outer)) is;
  },
  h.1,
)

pub closed_seen : (a : State) (opened : List Open) → AllSee a.items a.seen opened → Sees (closed (record a { opened = opened }))
closed_seen a [] h = h
closed_seen a (o ∷ outer) h = at o.frame o.outside o.items h.0 h.1
  where
    at : (frame : Frame) (outside : List Declared) (inner : List Item) → OpenSees frame outside inner a.seen outer → AllSee a.items outside outer
        → Sees (closed (record a { opened = record { frame = frame; outside = outside; items = inner } ∷ outer }))
    at (area_frame id name owner) outside inner one h = item_seen _ [] a outside outside outer h (closed_sees (area_frame id name owner) inner (sight outside outer) one.framed one.sees) refl (adds_nothing outer)
    at (if_frame id cond) outside inner one h = item_seen _ [] a outside outside outer h (closed_sees (if_frame id cond) inner (sight outside outer) one.framed one.sees) refl (adds_nothing outer)
    at (each_frame id rows) outside inner one h = item_seen _ [] a outside outside outer h (closed_sees (each_frame id rows) inner (sight outside outer) one.framed one.sees) refl (adds_nothing outer)
    at (element_frame tag has_end attrs) outside inner one h =
        item_seen _ [] a outside a.seen outer h (closed_sees (element_frame tag has_end attrs) inner (sight outside outer) one.framed one.sees) one.adds_none (adds_nothing outer)

pub attr_seen : (made : ℕ → Attr) (count : ℕ) (a : State) (opened : List Open) → AllSee a.items a.seen opened → attr_sees (sight a.seen opened) (made a.next_id) ≡ true
    → Sees (with_attr made count (record a { opened = opened }))
attr_seen made count a [] h has = h
attr_seen made count a (o ∷ outer) h has = at o.frame o.outside o.items h.0 h.1 has
  where
    at : (frame : Frame) (outside : List Declared) (inner : List Item) → OpenSees frame outside inner a.seen outer → AllSee a.items outside outer
        → attr_sees (sight a.seen (record { frame = frame; outside = outside; items = inner } ∷ outer)) (made a.next_id) ≡ true
        → Sees (with_attr made count (record a { opened = record { frame = frame; outside = outside; items = inner } ∷ outer }))
    at frame outside (i ∷ inner) one h has = (one, h)
    at (area_frame id name owner) outside [] one h has = (one, h)
    at (if_frame id cond) outside [] one h has = (one, h)
    at (each_frame id rows) outside [] one h has = (one, h)
    at (element_frame tag has_end attrs) outside [] one h has = (
      record {
        framed =
            let here : attr_sees (sight outside outer) (made a.next_id) ≡ true = subst (λ (ks : List Known). attr_sees (record { known = ks; rows = rows_sight outer }) (made a.next_id) ≡ true) one.adds_none has in
            list_all-append (attr_sees (sight outside outer)) attrs (made a.next_id ∷ []) ∙ and_both _ _ one.framed (and_both _ _ here refl);
        sees = one.sees;
        behind = one.behind;
        rowed = one.rowed;
        adds_none = one.adds_none;
      },
      h,
    )

-- ---- the rows around

pub row_seen : (items : List Item) (seen : List Declared) (opened : List Open) (rows : Rows) → AllSee items seen opened → state.rows_in opened ≡ Some rows
    → rows_sight opened ≡ Some (known_store rows.store (length rows.fields))
row_seen items seen [] rows h is = absurd cc
row_seen items seen (o ∷ outer) rows h is = at o.frame o.outside is h.0.rowed (row_seen items o.outside outer rows h.1)
  where
    at : (frame : Frame) (outside : List Declared) → rows_of frame (state.rows_in outer) ≡ Some rows → IsRowedIn frame outside
        → (state.rows_in outer ≡ Some rows → rows_sight outer ≡ Some (known_store rows.store (length rows.fields)))
        → rows_inside frame outside (rows_sight outer) ≡ Some (known_store rows.store (length rows.fields))
    at (area_frame id name owner) outside is rowed around = around is
    at (if_frame id cond) outside is rowed around = around is
    at (each_frame id rows') outside is rowed around =
        let same : rows' ≡ rows = cc in
        rowed ∙ ap (λ (r : Rows). Some (known_store r.store (length r.fields))) same
    at (element_frame tag has_end attrs) outside is rowed around = around is
