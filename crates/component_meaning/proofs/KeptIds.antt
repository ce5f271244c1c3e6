-- The ids and the owners of all that was read are counted, whatever is read next.
use Rattle.std.proofs.Common.{◌≡◌, ℕ, suc, ◌+◌, true, false, List, [], ◌∷◌, ◌++◌, length, map, refl, sym, ap, subst, ◌∙◌, arith, append_assoc, append-nil}
use Rattle.std.specs.List.{flat_map, concat, range_with_len}
use Rattle.std.proofs.lemmas.Grind.{flat_map-append}
use Rattle.values.specs.declared.code.Code.{Code}
use Rattle.values.specs.declared.expr.Expr.{Expr}
use Rattle.grammar.specs.Keeping.{Keeps}
use Rattle.grammar.proofs.Keeping.{kept}
use Rattle.text_grammar.specs.Component.{table}
use Rattle.text_grammar.specs.declared.component.Action.{Action}
use Rattle.text_grammar.specs.declared.component.Action.TheVariants as action
use Rattle.component_items.specs.declared.component.Attr.{Attr}
use Rattle.component_items.specs.declared.component.Attr.TheVariants as attr
use Rattle.component_items.specs.declared.component.Item.{Item}
use Rattle.component_items.specs.declared.component.Item.TheVariants as item
use Rattle.component_items.specs.Ids.{attr_ids, ids_step, item_ids, ids_in, owners_step, item_owners, owners_in, IsNumbered}
use Rattle.component_items.specs.declared.component.Component.{Component}
use Rattle.component_items.proofs.FoldLemmas as folds
use Rattle.component_meaning.specs.State.{State, start, Declared, Frame, area_frame, if_frame, each_frame, element_frame, Open, signal_name, memo_name, effect_name, resource_name, load_name, store_name, area_name}
use Rattle.component_meaning.specs.Names.{id_of, rows_from, number_with}
use Rattle.component_meaning.specs.Actions.{whole, taken, with_item, with_numbered, known_as, item_of, closed, with_attr, perform}
use Rattle.component_meaning.specs.Meaning.{semantics}
use Rattle.component_meaning.specs.Component.{IsComponent}
use Rattle.component_meaning.proofs.KeptTokens.{accepted, effect_keeps}
use Rattle.component_meaning.proofs.KeptNumbers.{IsCounted, counted_more, counted_front, numbers_inside, numbers_in, item_numbers, open_numbers, kept_id, kept_owner}

concat-map : (f : Item → List ℕ) (items : List Item) → concat (map f items) ≡ flat_map f items
concat-map f [] = refl
concat-map f (i ∷ items) = ap (λ l. f i ++ l) (concat-map f items)

-- ---- what each item takes

signal_ids : (id name : ℕ) (start : Code) → item_ids (item.Signal id name start) ≡ id ∷ []
unfolding item_ids
signal_ids id name start = folds.fold-Signal ids_step id name start

memo_ids : (id name : ℕ) (expr : Expr) → item_ids (item.Memo id name expr) ≡ id ∷ []
unfolding item_ids
memo_ids id name expr = folds.fold-Memo ids_step id name expr

effect_ids : (id name : ℕ) (expr : Expr) → item_ids (item.Effect id name expr) ≡ id ∷ []
unfolding item_ids
effect_ids id name expr = folds.fold-Effect ids_step id name expr

resource_ids : (id name after : ℕ) (keys values : List Code) → item_ids (item.Resource id name after keys values) ≡ id ∷ []
unfolding item_ids
resource_ids id name after keys values = folds.fold-Resource ids_step id name after keys values

load_ids : (id name resource : ℕ) (key : Expr) → item_ids (item.Load id name resource key) ≡ range_with_len id 2
unfolding item_ids
load_ids id name resource key = folds.fold-Load ids_step id name resource key ∙ ap (λ k. id ∷ k ∷ []) {x = suc id} {y = id + 1} (omega arith)

store_ids : (id name max : ℕ) (fields : List ℕ) (starts : List Code) → item_ids (item.Store id name max fields starts) ≡ range_with_len id (2 + length fields)
unfolding item_ids
store_ids id name max fields starts = folds.fold-Store ids_step id name max fields starts

cleanup_ids : (text : ℕ) → item_ids (item.Cleanup text) ≡ []
unfolding item_ids
cleanup_ids text = folds.fold-Cleanup ids_step text

text_ids : (text : ℕ) → item_ids (item.Text text) ≡ []
unfolding item_ids
text_ids text = folds.fold-Text ids_step text

shown_ids : (id : ℕ) (expr : Expr) → item_ids (item.Shown id expr) ≡ id ∷ []
unfolding item_ids
shown_ids id expr = folds.fold-Shown ids_step id expr

signal_owners : (id name : ℕ) (start : Code) → item_owners (item.Signal id name start) ≡ []
unfolding item_owners
signal_owners id name start = folds.fold-Signal owners_step id name start

memo_owners : (id name : ℕ) (expr : Expr) → item_owners (item.Memo id name expr) ≡ []
unfolding item_owners
memo_owners id name expr = folds.fold-Memo owners_step id name expr

effect_owners : (id name : ℕ) (expr : Expr) → item_owners (item.Effect id name expr) ≡ []
unfolding item_owners
effect_owners id name expr = folds.fold-Effect owners_step id name expr

resource_owners : (id name after : ℕ) (keys values : List Code) → item_owners (item.Resource id name after keys values) ≡ []
unfolding item_owners
resource_owners id name after keys values = folds.fold-Resource owners_step id name after keys values

load_owners : (id name resource : ℕ) (key : Expr) → item_owners (item.Load id name resource key) ≡ []
unfolding item_owners
load_owners id name resource key = folds.fold-Load owners_step id name resource key

store_owners : (id name max : ℕ) (fields : List ℕ) (starts : List Code) → item_owners (item.Store id name max fields starts) ≡ []
unfolding item_owners
store_owners id name max fields starts = folds.fold-Store owners_step id name max fields starts

cleanup_owners : (text : ℕ) → item_owners (item.Cleanup text) ≡ []
unfolding item_owners
cleanup_owners text = folds.fold-Cleanup owners_step text

text_owners : (text : ℕ) → item_owners (item.Text text) ≡ []
unfolding item_owners
text_owners text = folds.fold-Text owners_step text

shown_owners : (id : ℕ) (expr : Expr) → item_owners (item.Shown id expr) ≡ []
unfolding item_owners
shown_owners id expr = folds.fold-Shown owners_step id expr

-- ---- what each frame takes

abbrev pub frame_ids : Frame → List ℕ
frame_ids (area_frame id name owner) = id ∷ []
frame_ids (if_frame id cond) = id ∷ []
frame_ids (each_frame id rows) = id ∷ []
frame_ids (element_frame tag closed attrs) = flat_map attr_ids attrs

abbrev pub frame_owners : Frame → List ℕ
frame_owners (area_frame id name owner) = owner ∷ []
frame_owners _ = []

closed_ids : (frame : Frame) (items : List Item) → item_ids (item_of frame items) ≡ frame_ids frame ++ flat_map item_ids items
unfolding item_ids
closed_ids (area_frame id name owner) items = folds.fold-Area ids_step id name owner items ∙ ap (λ l. id ∷ l) (concat-map item_ids items)
closed_ids (if_frame id cond) items = folds.fold-If ids_step id cond items ∙ ap (λ l. id ∷ l) (concat-map item_ids items)
closed_ids (each_frame id rows) items = folds.fold-Each ids_step id rows.store items ∙ ap (λ l. id ∷ l) (concat-map item_ids items)
closed_ids (element_frame tag has_end attrs) items = folds.fold-Element ids_step tag has_end attrs items ∙ ap (λ l. flat_map attr_ids attrs ++ l) (concat-map item_ids items)

closed_owners : (frame : Frame) (items : List Item) → item_owners (item_of frame items) ≡ frame_owners frame ++ flat_map item_owners items
unfolding item_owners
closed_owners (area_frame id name owner) items = folds.fold-Area owners_step id name owner items ∙ ap (λ l. owner ∷ l) (concat-map item_owners items)
closed_owners (if_frame id cond) items = folds.fold-If owners_step id cond items ∙ concat-map item_owners items
closed_owners (each_frame id rows) items = folds.fold-Each owners_step id rows.store items ∙ concat-map item_owners items
closed_owners (element_frame tag has_end attrs) items = folds.fold-Element owners_step tag has_end attrs items ∙ concat-map item_owners items

-- ---- the state

pub record AreCounted (items : List Item) (opened : List Open) (next_id next_owner : ℕ) : Type 0 where
  pub ids : IsCounted 0 next_id (numbers_in item_ids frame_ids items opened)
  pub owners : IsCounted 1 next_owner (numbers_in item_owners frame_owners items opened)

abbrev pub AreNumbered : State → Type 0
AreNumbered a = AreCounted a.items a.opened a.next_id a.next_owner

-- an item that takes what comes next
item_kept : (i : Item) (a : State)
    → IsCounted 0 a.next_id (numbers_in item_ids frame_ids a.items a.opened ++ item_ids i)
    → IsCounted 1 a.next_owner (numbers_in item_owners frame_owners a.items a.opened ++ item_owners i)
    → AreNumbered (with_item i a)
item_kept i a ids owners = record {
  ids =
      let at = subst (λ l. IsCounted 0 a.next_id l) (sym (item_numbers item_ids frame_ids i a)) ids in
      subst (λ n. IsCounted 0 n (numbers_in item_ids frame_ids (with_item i a).items (with_item i a).opened)) (sym (kept_id i a a.opened)) at;
  owners =
      let at = subst (λ l. IsCounted 1 a.next_owner l) (sym (item_numbers item_owners frame_owners i a)) owners in
      subst (λ n. IsCounted 1 n (numbers_in item_owners frame_owners (with_item i a).items (with_item i a).opened)) (sym (kept_owner i a a.opened)) at;
}

none_more : (first next : ℕ) (xs ys : List ℕ) → ys ≡ [] → IsCounted first next xs → IsCounted first next (xs ++ ys)
none_more first next xs ys none c = subst (λ l. IsCounted first next l) (sym (ap (λ l. xs ++ l) none ∙ append-nil xs)) c

some_more : (first next n : ℕ) (xs ys : List ℕ) → ys ≡ range_with_len next n → IsCounted first next xs → IsCounted first (next + n) (xs ++ ys)
some_more first next n xs ys some c = subst (λ l. IsCounted first (next + n) l) (sym (ap (λ l. xs ++ l) some)) (counted_more first next n xs c)

plain_kept : (i : Item) (a : State) → item_ids i ≡ [] → item_owners i ≡ [] → AreNumbered a → AreNumbered (with_item i a)
plain_kept i a ids owners h = item_kept i a (none_more 0 a.next_id _ _ ids h.ids) (none_more 1 a.next_owner _ _ owners h.owners)

numbered_kept : (made : ℕ → Item) (count : ℕ) (a : State) → item_ids (made a.next_id) ≡ range_with_len a.next_id count → item_owners (made a.next_id) ≡ []
    → AreNumbered a → AreNumbered (with_numbered made count a)
numbered_kept made count a ids owners h = item_kept (made a.next_id) (record a { next_id = a.next_id + count }) (some_more 0 a.next_id count _ _ ids h.ids) (none_more 1 a.next_owner _ _ owners h.owners)

-- what opens
opened_kept : (frame : Frame) (outside : List Declared) (items : List Item) (opened : List Open) (next_id next_owner ids owners : ℕ)
    → frame_ids frame ≡ range_with_len next_id ids → frame_owners frame ≡ range_with_len next_owner owners
    → AreCounted items opened next_id next_owner
    → AreCounted items (record { frame = frame; outside = outside; items = [] } ∷ opened) (next_id + ids) (next_owner + owners)
opened_kept frame outside items opened next_id next_owner ids owners some_ids some_owners h = record {
  ids = subst (λ l. IsCounted 0 (next_id + ids) l) (sym (open_numbers item_ids frame_ids frame outside items opened)) (some_more 0 next_id ids _ _ some_ids h.ids);
  owners = subst (λ l. IsCounted 1 (next_owner + owners) l) (sym (open_numbers item_owners frame_owners frame outside items opened)) (some_more 1 next_owner owners _ _ some_owners h.owners);
}

-- where the numbers are the same
same_numbers : (items : List Item) (opened : List Open) (next_id next_id' next_owner next_owner' : ℕ)
    → next_id ≡ next_id' → next_owner ≡ next_owner' → AreCounted items opened next_id next_owner → AreCounted items opened next_id' next_owner'
same_numbers items opened next_id next_id' next_owner next_owner' ids owners h =
    subst (λ n. AreCounted items opened next_id' n) owners (subst (λ n. AreCounted items opened n next_owner) ids h)

-- what closes
closing_kept : (frame : Frame) (inner : List Item) (outside : List Declared) (outer : List Open) (a : State)
    → AreCounted a.items (record { frame = frame; outside = outside; items = inner } ∷ outer) a.next_id a.next_owner
    → a.opened ≡ outer
    → AreNumbered (with_item (item_of frame inner) a)
closing_kept frame inner outside outer a h is = item_kept (item_of frame inner) a
    (subst (λ l. IsCounted 0 a.next_id l) (moved item_ids frame_ids (closed_ids frame inner)) h.ids)
    (subst (λ l. IsCounted 1 a.next_owner l) (moved item_owners frame_owners (closed_owners frame inner)) h.owners)
  where
    moved : (f : Item → List ℕ) (g : Frame → List ℕ) → f (item_of frame inner) ≡ g frame ++ flat_map f inner
        → numbers_in f g a.items (record { frame = frame; outside = outside; items = inner } ∷ outer) ≡ numbers_in f g a.items a.opened ++ f (item_of frame inner)
    moved f g closes =
        sym (append_assoc (flat_map f a.items) (numbers_inside f g outer) (g frame ++ flat_map f inner))
        ∙ ap (λ l. numbers_in f g a.items outer ++ l) (sym closes)
        ∙ ap (λ o. numbers_in f g a.items o ++ f (item_of frame inner)) (sym is)

closed_kept : (a : State) (opened : List Open) → AreCounted a.items opened a.next_id a.next_owner → AreNumbered (closed (record a { opened = opened }))
closed_kept a [] h = h
closed_kept a (o ∷ outer) h = at o.frame o.outside o.items h
  where
    at : (frame : Frame) (outside : List Declared) (inner : List Item) → AreCounted a.items (record { frame = frame; outside = outside; items = inner } ∷ outer) a.next_id a.next_owner
        → AreNumbered (closed (record a { opened = record { frame = frame; outside = outside; items = inner } ∷ outer }))
    at (area_frame id name owner) outside inner h = closing_kept _ inner outside outer (record a { seen = outside; opened = outer }) h refl
    at (if_frame id cond) outside inner h = closing_kept _ inner outside outer (record a { seen = outside; opened = outer }) h refl
    at (each_frame id rows) outside inner h = closing_kept _ inner outside outer (record a { seen = outside; opened = outer }) h refl
    at (element_frame tag has_end attrs) outside inner h = closing_kept _ inner outside outer (record a { opened = outer }) h refl

-- an attribute
attr_kept : (made : ℕ → Attr) (count : ℕ) (a : State) (opened : List Open) → attr_ids (made a.next_id) ≡ range_with_len a.next_id count
    → AreCounted a.items opened a.next_id a.next_owner → AreNumbered (with_attr made count (record a { opened = opened }))
attr_kept made count a [] ids h = h
attr_kept made count a (o ∷ outer) ids h = at o.frame o.outside o.items h
  where
    at : (frame : Frame) (outside : List Declared) (inner : List Item) → AreCounted a.items (record { frame = frame; outside = outside; items = inner } ∷ outer) a.next_id a.next_owner
        → AreNumbered (with_attr made count (record a { opened = record { frame = frame; outside = outside; items = inner } ∷ outer }))
    at frame outside (i ∷ inner) h = h
    at (area_frame id name owner) outside [] h = h
    at (if_frame id cond) outside [] h = h
    at (each_frame id rows) outside [] h = h
    at (element_frame tag has_end attrs) outside [] h = record {
      ids =
          let e : flat_map attr_ids (attrs ++ made a.next_id ∷ []) ≡ flat_map attr_ids attrs ++ range_with_len a.next_id count =
          flat_map-append attr_ids attrs (made a.next_id ∷ []) ∙ ap (λ l. flat_map attr_ids attrs ++ l) (append-nil (attr_ids (made a.next_id)) ∙ ids)
          in
          let x : List ℕ = flat_map item_ids a.items in
          let y : List ℕ = numbers_inside item_ids frame_ids outer in
          let z : List ℕ = flat_map attr_ids attrs in
          let r : List ℕ = range_with_len a.next_id count in
          let moved : (x ++ (y ++ (z ++ []))) ++ r ≡ x ++ (y ++ ((z ++ r) ++ [])) = simp (append_assoc, append-nil) in
          subst (λ l. IsCounted 0 (a.next_id + count) l) (moved ∙ ap (λ l. x ++ (y ++ (l ++ []))) (sym e)) (counted_more 0 a.next_id count _ h.ids);
      owners = h.owners;
    }

-- ---- actions

next : (n : ℕ) → n + 1 ≡ suc n
next n = omega arith

same : (n : ℕ) → n + 0 ≡ n
same n = omega arith

pub perform_kept : (d : Action) (a : State) → AreNumbered a → AreNumbered (perform d a)
perform_kept action.BeginExpression a h = h
perform_kept action.MakeSignal a h = numbered_kept (λ id. item.Signal id a.name a.literal) 1 (known_as signal_name a) (signal_ids _ _ _) (signal_owners _ _ _) h
perform_kept action.MakeMemo a h = numbered_kept (λ id. item.Memo id a.name (whole a)) 1 (known_as memo_name (taken a)) (memo_ids _ _ _) (memo_owners _ _ _) h
perform_kept action.MakeEffect a h = numbered_kept (λ id. item.Effect id a.name (whole a)) 1 (known_as effect_name (taken a)) (effect_ids _ _ _) (effect_owners _ _ _) h
perform_kept action.BeginEntries a h = h
perform_kept action.AddValue a h = h
perform_kept action.MakeResource a h = numbered_kept (λ id. item.Resource id a.name a.number a.keys a.values) 1 (record (known_as resource_name a) { keys = []; values = [] }) (resource_ids _ _ _ _ _) (resource_owners _ _ _ _ _) h
perform_kept action.MakeLoad a h = numbered_kept (λ id. item.Load id a.name (id_of a.used) (whole a)) 2 (known_as load_name (taken a)) (load_ids _ _ _ _) (load_owners _ _ _ _) h
perform_kept action.MakeStore a h = numbered_kept (λ id. item.Store id a.name a.number a.fields a.values) (2 + length a.fields) (record (known_as (store_name a.fields) a) { fields = []; values = [] }) (store_ids _ _ _ _ _) (store_owners _ _ _ _ _) h
perform_kept action.MakeCleanup a h = plain_kept (item.Cleanup a.written) a (cleanup_ids _) (cleanup_owners _) h
perform_kept action.MakeText a h = plain_kept (item.Text a.written) a (text_ids _) (text_owners _) h
perform_kept action.MakeShown a h = numbered_kept (λ id. item.Shown id (whole a)) 1 (taken a) (shown_ids _ _) (shown_owners _ _) h
perform_kept action.OpenArea a h =
    same_numbers _ _ _ _ _ _ (next a.next_id) (next a.next_owner)
    (opened_kept (area_frame a.next_id a.name a.next_owner) (known_as area_name a).seen a.items a.opened a.next_id a.next_owner 1 1 refl refl h)
perform_kept action.OpenIf a h =
    same_numbers _ _ _ _ _ _ (next a.next_id) (same a.next_owner)
    (opened_kept (if_frame a.next_id (whole a)) a.seen a.items a.opened a.next_id a.next_owner 1 0 refl refl h)
perform_kept action.OpenEach a h =
    same_numbers _ _ _ _ _ _ (next a.next_id) (same a.next_owner)
    (opened_kept (each_frame a.next_id (rows_from a.used)) a.seen a.items a.opened a.next_id a.next_owner 1 0 refl refl h)
perform_kept action.OpenElement a h =
    same_numbers _ _ _ _ _ _ (same a.next_id) (same a.next_owner)
    (opened_kept (element_frame (number_with a.spelling.bytes a.texts) true []) a.seen a.items a.opened a.next_id a.next_owner 0 0 refl refl h)
perform_kept action.OpenVoid a h =
    same_numbers _ _ _ _ _ _ (same a.next_id) (same a.next_owner)
    (opened_kept (element_frame (number_with a.spelling.bytes a.texts) false []) a.seen a.items a.opened a.next_id a.next_owner 0 0 refl refl h)
perform_kept action.Close a h = closed_kept a a.opened h
perform_kept action.NameAttribute a h = h
perform_kept action.MakeBare a h = attr_kept (λ id. attr.Bare a.name) 0 a a.opened refl h
perform_kept action.MakeFixed a h = attr_kept (λ id. attr.Fixed a.name a.written) 0 a a.opened refl h
perform_kept action.MakeShownAttribute a h = attr_kept (λ id. attr.Shown a.name id (whole a)) 1 (taken a) a.opened refl h
perform_kept action.MakeLiteral a h = h
perform_kept (action.MakeBinary op) a h = h
perform_kept action.MakeIf a h = h

pub start_kept : AreNumbered start
start_kept = record {
  ids = record { count = 0; listed = refl; comes_next = refl };
  owners = record { count = 0; listed = refl; comes_next = refl };
}

-- ---- whole texts

pub keeps : (bytes : List ℕ) → Keeps table (semantics bytes) AreNumbered
keeps bytes = record {
  terminal = λ w a b x has takes h.
      let is = accepted bytes w a x.token x.next b takes in
      subst AreNumbered (sym is.after) (effect_keeps AreCounted bytes w a is.token h);
  action = perform_kept;
}

front : (items : List Item) (opened : List Open) (next_id next_owner : ℕ) → AreCounted items opened next_id next_owner → IsNumbered items
front items opened next_id next_owner h = record {
  ids = counted_front 0 next_id (ids_in items) (numbers_inside item_ids frame_ids opened) h.ids;
  owners = counted_front 1 next_owner (owners_in items) (numbers_inside item_owners frame_owners opened) h.owners;
}

pub ids_are_numbered : (bytes : List ℕ) (component : Component) → IsComponent bytes component → IsNumbered component.items
ids_are_numbered bytes component is =
    let h = kept table (semantics bytes) AreNumbered (keeps bytes) is.read.means start_kept in
    subst IsNumbered (sym is.items) (front _ _ _ _ h)
