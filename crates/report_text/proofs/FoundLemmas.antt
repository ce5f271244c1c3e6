-- Each id of a component is found with what it is listed with.
use Rattle.std.proofs.Common.{◌≡◌, ℕ, zero, suc, ◌+◌, ◌<◌, ◌==◌, Bool, true, false, if◌then◌else◌, Some, None, List, [], ◌∷◌, ◌++◌, length, map, get_or, drop, refl, sym, ap, subst, ◌∙◌, append_assoc, arith}
use Rattle.std.specs.List.{find, range_with_len}
use Rattle.std.specs.Option.{option_map, option_or}
use Rattle.std.proofs.lemmas.List.{at_drop_more}
use Rattle.std.proofs.lemmas.List.Folds.{find-append}
use Rattle.values.specs.declared.expr.Expr.{Expr}
use Rattle.component_items.specs.declared.component.Component.{Component}
use Rattle.component_items.specs.declared.component.Item.{Item}
use Rattle.component_items.specs.declared.component.Item.TheViews.{outs-Area, outs-Load}
use Rattle.component_items.specs.declared.component.Item.TheVariants.{Area, Load}
use Rattle.component_items.specs.Around.{Around, Listed, top, within, named, nameless, item_listed, items_listed}
use Rattle.component_items.specs.Kept.{IsKept}
use Rattle.component_items.specs.Own.{own_step, held_step, inside_step}
use Rattle.component_items.proofs.AroundLemmas.{item_parts}
use Rattle.component_items.proofs.IdsLemmas.{items_are_listed}
use Rattle.report_text.specs.Found.{AreFound}

-- ---- parts of a list

pub found_front : (component : Component) (xs ys : List Listed) → AreFound component (xs ++ ys) → AreFound component xs
found_front component [] ys found = tt
found_front component (x ∷ xs) ys found = (found.0, found_front component xs ys found.1)

pub found_rest : (component : Component) (xs ys : List Listed) → AreFound component (xs ++ ys) → AreFound component ys
found_rest component [] ys found = found
found_rest component (x ∷ xs) ys found = found_rest component xs ys found.1

-- ---- the ids of a component are distinct

abbrev AllBelow : ℕ → List Listed → Type 0
AllBelow n [] = Unit {0}
AllBelow n (l ∷ listed) = (l.id < n) × AllBelow n listed

below_push : (n : ℕ) (listed : List Listed) (l : Listed) → AllBelow n listed → l.id ≡ n → AllBelow (n + 1) (listed ++ l ∷ [])
below_push n [] l below is = (omega (arith, is), tt)
below_push n (x ∷ listed) l below is = (omega (arith, below.0), below_push n listed l below.1 is)

none_below : (id : ℕ) (listed : List Listed) → AllBelow id listed → find (λ m. m.id == id) listed ≡ None
none_below id [] below = refl
none_below id (x ∷ listed) below = at (x.id == id) refl (none_below id listed below.1)
  where
    at : (same : Bool) → (x.id == id) ≡ same → find (λ m. m.id == id) listed ≡ None → (if same then Some x else find (λ m. m.id == id) listed) ≡ None
    at true is others = let e : x.id ≡ id = grind arith in absurd (omega (arith, e, below.0))
    at false is others = others

found_first : (l : Listed) (listed : List Listed) → find (λ m. m.id == l.id) (l ∷ listed) ≡ Some l
found_first l listed = at (l.id == l.id) refl
  where
    at : (same : Bool) → (l.id == l.id) ≡ same → (if same then Some l else find (λ m. m.id == l.id) listed) ≡ Some l
    at true is = refl
    at false is = absurd (grind arith)

found_next : (before listed : List Listed) (l : Listed) → AllBelow l.id before → find (λ m. m.id == l.id) (before ++ l ∷ listed) ≡ Some l
found_next before listed l below =
    find-append (λ m. m.id == l.id) before (l ∷ listed)
    ∙ ap (λ o. option_or o (find (λ m. m.id == l.id) (l ∷ listed))) (none_below l.id before below)
    ∙ found_first l listed

found_behind : (component : Component) (before listed : List Listed) (n count : ℕ) → items_listed component.items top ≡ before ++ listed → AllBelow n before → map (λ l. l.id) listed ≡ range_with_len n count → AreFound component listed
found_behind component before [] n count all below ids = tt
found_behind component before (l ∷ listed) n zero all below ids = cc
found_behind component before (l ∷ listed) n (suc count) all below ids =
    let here : l.id ≡ n = cc in
    let others : map (λ x. x.id) listed ≡ range_with_len (n + 1) count = cc in (
      ap (λ xs. option_map (λ x. x.path) (find (λ x. x.id == l.id) xs)) all ∙ ap (option_map (λ x. x.path)) (found_next before listed l (subst (λ k. AllBelow k before) (sym here) below)),
      found_behind component (before ++ l ∷ []) listed (n + 1) count (all ∙ sym (append_assoc before (l ∷ []) listed)) (below_push n before l below here) others,
    )

pub all_found : (component : Component) → IsKept component → AreFound component (items_listed component.items top)
all_found component kept = found_behind component [] (items_listed component.items top) 0 _ refl tt (items_are_listed component.items top ∙ kept.numbered.ids)

-- ---- what an item lists

pub area_listed : (id name owner : ℕ) (items : List Item) (around : Around) → item_listed (Area id name owner items) around ≡ named id name around ∷ items_listed items (within name owner around)
area_listed id name owner items around =
    item_parts (Area id name owner items) around
    ∙ ap (λ x. own_step x around ++ items_listed (held_step x) (inside_step x around)) (outs-Area id name owner items)

pub load_listed : (id name resource : ℕ) (key : Expr) (around : Around) → item_listed (Load id name resource key) around ≡ named id name around ∷ nameless (suc id) around ∷ []
load_listed id name resource key around =
    item_parts (Load id name resource key) around
    ∙ ap (λ x. own_step x around ++ items_listed (held_step x) (inside_step x around)) (outs-Load id name resource key)

-- the items from one on, and those behind it
pub listed_next : (items : List Item) (i : ℕ) (item : Item) (around : Around) → i < length items → item ≡ get_or items i item → items_listed (drop i items) around ≡ item_listed item around ++ items_listed (drop (i + 1) items) around
listed_next items i item around within is =
    at_drop_more (λ xs. items_listed xs around) items i item within
    ∙ ap (λ one. item_listed one around ++ items_listed (drop (i + 1) items) around) (sym is)
