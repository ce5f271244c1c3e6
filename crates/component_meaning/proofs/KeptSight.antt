-- Each item names what is seen before it.
use Rattle.std.proofs.Common.{◌≡◌, ℕ, ◌&&◌, Bool, true, List, [], ◌∷◌, ◌++◌, length, map, refl, ap, ◌∙◌}
use Rattle.std.specs.List.{list_all, list_any}
use Rattle.std.proofs.lemmas.List.Folds.{list_all-append}
use Rattle.grammar.proofs.Theory.{and_cases, and_both}
use Rattle.values.specs.declared.code.Code.{Code}
use Rattle.values.specs.declared.code.Op.{Op}
use Rattle.values.specs.declared.expr.Expr.{Expr}
use Rattle.values.specs.declared.expr.Expr.TheVariants as expr
use Rattle.values.specs.Plan.{rows_in}
use Rattle.values.proofs.PlanLemmas.{rows_in-Lit, rows_in-Read, rows_in-Binary, rows_in-If}
use Rattle.component_items.specs.declared.component.Item.{Item}
use Rattle.component_items.specs.declared.component.Item.TheVariants as item
use Rattle.component_items.specs.Kept.{Known, known_value, known_resource, known_store, Sight, may_read, sees_all_of, attr_sees, Seeing, see_all, store_among, is_resource, is_store, sees_step, item_sees, items_see}
use Rattle.component_items.proofs.FoldLemmas as folds
use Rattle.component_meaning.specs.State.{Frame, area_frame, if_frame, each_frame, element_frame}
use Rattle.component_meaning.specs.Actions.{item_of}

-- ---- expressions

pub lit_sees : (c : Code) (s : Sight) → sees_all_of (expr.Lit c) s ≡ true
lit_sees c s = ap (list_all (may_read s)) (rows_in-Lit c)

pub read_sees : (id : ℕ) (s : Sight) → may_read s id ≡ true → sees_all_of (expr.Read id) s ≡ true
read_sees id s may = ap (list_all (may_read s)) (rows_in-Read id) ∙ and_both _ _ may refl

pub binary_sees : (op : Op) (a b : Expr) (s : Sight) → sees_all_of a s ≡ true → sees_all_of b s ≡ true → sees_all_of (expr.Binary op a b) s ≡ true
binary_sees op a b s left right = ap (list_all (may_read s)) (rows_in-Binary op a b) ∙ list_all-append (may_read s) (rows_in a) (rows_in b) ∙ and_both _ _ left right

pub if_sees : (c a b : Expr) (s : Sight) → sees_all_of c s ≡ true → sees_all_of a s ≡ true → sees_all_of b s ≡ true → sees_all_of (expr.If c a b) s ≡ true
if_sees c a b s test left right =
    ap (list_all (may_read s)) (rows_in-If c a b)
    ∙ list_all-append (may_read s) (rows_in c ++ rows_in a) (rows_in b)
    ∙ and_both _ _ (list_all-append (may_read s) (rows_in c) (rows_in a) ∙ and_both _ _ test left) right

-- ---- what is seen behind items

abbrev pub seen_after : List Item → List Known → List Known
seen_after [] known = known
seen_after (i ∷ items) known = seen_after items ((item_sees i).declares ++ known)

pub seen_after-more : (items : List Item) (i : Item) (known : List Known) → seen_after (items ++ i ∷ []) known ≡ (item_sees i).declares ++ seen_after items known
seen_after-more [] i known = refl
seen_after-more (j ∷ items) i known = seen_after-more items i ((item_sees j).declares ++ known)

pub see_more : (items : List Item) (i : Item) (s : Sight) → items_see items s ≡ true → (item_sees i).is_right (record s { known = seen_after items s.known }) ≡ true → items_see (items ++ i ∷ []) s ≡ true
see_more [] i s all has = and_both _ _ has refl
see_more (j ∷ items) i s all has =
    let both = and_cases ((item_sees j).is_right s) _ all in
    and_both _ _ both.0 (see_more items i (record s { known = (item_sees j).declares ++ s.known }) both.1 has)

inner_sees : (items : List Item) (s : Sight) → see_all (map item_sees items) s ≡ items_see items s
inner_sees [] s = refl
inner_sees (i ∷ items) s = ap (λ b. (item_sees i).is_right s && b) (inner_sees items (record s { known = (item_sees i).declares ++ s.known }))

-- ---- items

abbrev pub IsSeeing : Item → List Known → Sight → Type 0
IsSeeing i declares s = ((item_sees i).declares ≡ declares) × ((item_sees i).is_right s ≡ true)

seeing : (i : Item) (one : Seeing) (s : Sight) → item_sees i ≡ one → one.is_right s ≡ true → IsSeeing i one.declares s
seeing i one s is right = (ap (λ (o : Seeing). o.declares) is, ap (λ (o : Seeing). o.is_right s) is ∙ right)

pub signal_sees : (id name : ℕ) (start : Code) (s : Sight) → IsSeeing (item.Signal id name start) (known_value id ∷ []) s
unfolding item_sees
signal_sees id name start s = seeing (item.Signal id name start) _ s (folds.fold-Signal sees_step id name start) refl

pub memo_sees : (id name : ℕ) (e : Expr) (s : Sight) → sees_all_of e s ≡ true → IsSeeing (item.Memo id name e) (known_value id ∷ []) s
unfolding item_sees
memo_sees id name e s has = seeing (item.Memo id name e) _ s (folds.fold-Memo sees_step id name e) has

pub effect_sees : (id name : ℕ) (e : Expr) (s : Sight) → sees_all_of e s ≡ true → IsSeeing (item.Effect id name e) [] s
unfolding item_sees
effect_sees id name e s has = seeing (item.Effect id name e) _ s (folds.fold-Effect sees_step id name e) has

pub resource_sees : (id name after : ℕ) (keys values : List Code) (s : Sight) → IsSeeing (item.Resource id name after keys values) (known_resource id ∷ []) s
unfolding item_sees
resource_sees id name after keys values s = seeing (item.Resource id name after keys values) _ s (folds.fold-Resource sees_step id name after keys values) refl

pub load_sees : (id name resource : ℕ) (key : Expr) (s : Sight) → list_any (is_resource resource) s.known ≡ true → sees_all_of key s ≡ true → IsSeeing (item.Load id name resource key) (known_value id ∷ []) s
unfolding item_sees
load_sees id name resource key s there has = seeing (item.Load id name resource key) _ s (folds.fold-Load sees_step id name resource key) (and_both _ _ there has)

pub store_sees : (id name max : ℕ) (fields : List ℕ) (starts : List Code) (s : Sight) → IsSeeing (item.Store id name max fields starts) (known_store id (length fields) ∷ []) s
unfolding item_sees
store_sees id name max fields starts s = seeing (item.Store id name max fields starts) _ s (folds.fold-Store sees_step id name max fields starts) refl

pub cleanup_sees : (text : ℕ) (s : Sight) → IsSeeing (item.Cleanup text) [] s
unfolding item_sees
cleanup_sees text s = seeing (item.Cleanup text) _ s (folds.fold-Cleanup sees_step text) refl

pub text_sees : (text : ℕ) (s : Sight) → IsSeeing (item.Text text) [] s
unfolding item_sees
text_sees text s = seeing (item.Text text) _ s (folds.fold-Text sees_step text) refl

pub shown_sees : (id : ℕ) (e : Expr) (s : Sight) → sees_all_of e s ≡ true → IsSeeing (item.Shown id e) [] s
unfolding item_sees
shown_sees id e s has = seeing (item.Shown id e) _ s (folds.fold-Shown sees_step id e) has

-- ---- blocks and elements

-- what a block or an element names at its place, and what is seen inside
abbrev pub frame_sees : Frame → Sight → Bool
frame_sees (area_frame id name owner) s = true
frame_sees (if_frame id cond) s = sees_all_of cond s
frame_sees (each_frame id rows) s = list_any (is_store rows.store) s.known
frame_sees (element_frame tag closed attrs) s = list_all (attr_sees s) attrs

abbrev pub sight_inside : Frame → Sight → Sight
sight_inside (each_frame id rows) s = record s { rows = store_among rows.store s.known }
sight_inside _ s = s

pub closed_sees : (frame : Frame) (items : List Item) (s : Sight) → frame_sees frame s ≡ true → items_see items (sight_inside frame s) ≡ true → IsSeeing (item_of frame items) [] s
unfolding item_sees
closed_sees (area_frame id name owner) items s framed has = seeing _ _ s (folds.fold-Area sees_step id name owner items) (inner_sees items s ∙ has)
closed_sees (if_frame id cond) items s framed has = seeing _ _ s (folds.fold-If sees_step id cond items) (and_both _ _ framed (inner_sees items s ∙ has))
closed_sees (each_frame id rows) items s framed has = seeing _ _ s (folds.fold-Each sees_step id rows.store items) (and_both _ _ framed (inner_sees items (record s { rows = store_among rows.store s.known }) ∙ has))
closed_sees (element_frame tag has_end attrs) items s framed has = seeing _ _ s (folds.fold-Element sees_step tag has_end attrs items) (and_both _ _ framed (inner_sees items s ∙ has))
