-- The flags of each form of item.
use Rattle.std.proofs.Common.{◌≡◌, ℕ, zero, suc, ◌+◌, Bool, true, false, List, [], ◌∷◌, ◌++◌, map, length, get_or, drop, drop-cons, ◌<◌, refl, sym, ap, ◌∙◌, arith}
use Rattle.std.specs.List.{flat_map, range_with_len}
use Rattle.std.proofs.lemmas.List.{map-append}
use Rattle.values.specs.declared.code.Code.{Code}
use Rattle.values.specs.declared.expr.Expr.{Expr}
use Rattle.component_items.specs.declared.component.Attr.{Attr}
use Rattle.component_items.specs.declared.component.Component.{Component}
use Rattle.component_items.specs.declared.component.Item.{Item}
use Rattle.component_items.specs.declared.component.Item.TheVariants.{Signal, Memo, Effect, Resource, Cleanup, Load, Store, Area, If, Each, Element, Text, Shown}
use Rattle.component_items.proofs.FoldLemmas.{at-Signal, at-Memo, at-Effect, at-Resource, at-Load, at-Cleanup, at-Store, at-Area, at-If, at-Each, at-Element, at-Text, at-Shown}
use Rattle.component_items.specs.Kept.{IsKept}
use Rattle.plain_evaluation.proofs.Flags.{items_flagged}
use Rattle.plain_evaluation.proofs.Lookup.{length_ids}
use Rattle.plain_evaluation.specs.Keyed.{keyed_fields, keyed_attr, keyed_all, keyed_step, item_keyed, items_keyed, flag_of, is_keyed}
use Rattle.plan_lines.specs.Flags.{flag_at, flags_of}

pub fields_flags : (id : ℕ) (fields : List ℕ) → flags_of (keyed_fields id fields) ≡ map (λ f. true) fields
fields_flags id [] = refl
fields_flags id (name ∷ fields) = ap (λ fs. true ∷ fs) (fields_flags (suc id) fields)

pub true_more : (fields : List ℕ) (i : ℕ) → i < length fields → map (λ f. true) (drop i fields) ≡ true ∷ map (λ f. true) (drop (i + 1) fields)
true_more fields i within = ap (map (λ f. true)) (drop-cons fields i 0 within) ∙ ap (λ k. true ∷ map (λ f. true) (drop k fields)) {x = suc i} {y = i + 1} (omega arith)

all_keyed : (items : List Item) (inside : Bool) → keyed_all inside (map item_keyed items) ≡ items_keyed items inside
all_keyed [] inside = refl
all_keyed (item ∷ items) inside = ap (λ ps. item_keyed item inside ++ ps) (all_keyed items inside)

module _ (item : Item) (b : Bool) where
  form : {X : Item} → item ≡ X → flags_of (item_keyed item b) ≡ flags_of (item_keyed X b)
  form is = ap (λ x. flags_of (item_keyed x b)) is

  pub flags-Signal : (id name : ℕ) (start : Code) → item ≡ Signal id name start → flags_of (item_keyed item b) ≡ b ∷ []
  unfolding item_keyed
  flags-Signal id name start is = form is ∙ ap flags_of (at-Signal keyed_step id name start b)

  pub flags-Memo : (id name : ℕ) (expr : Expr) → item ≡ Memo id name expr → flags_of (item_keyed item b) ≡ b ∷ []
  unfolding item_keyed
  flags-Memo id name expr is = form is ∙ ap flags_of (at-Memo keyed_step id name expr b)

  pub flags-Effect : (id name : ℕ) (expr : Expr) → item ≡ Effect id name expr → flags_of (item_keyed item b) ≡ b ∷ []
  unfolding item_keyed
  flags-Effect id name expr is = form is ∙ ap flags_of (at-Effect keyed_step id name expr b)

  pub flags-Resource : (id name after : ℕ) (keys values : List Code) → item ≡ Resource id name after keys values → flags_of (item_keyed item b) ≡ b ∷ []
  unfolding item_keyed
  flags-Resource id name after keys values is = form is ∙ ap flags_of (at-Resource keyed_step id name after keys values b)

  pub flags-Shown : (id : ℕ) (expr : Expr) → item ≡ Shown id expr → flags_of (item_keyed item b) ≡ b ∷ []
  unfolding item_keyed
  flags-Shown id expr is = form is ∙ ap flags_of (at-Shown keyed_step id expr b)

  pub flags-Load : (id name resource : ℕ) (key : Expr) → item ≡ Load id name resource key → flags_of (item_keyed item b) ≡ b ∷ b ∷ []
  unfolding item_keyed
  flags-Load id name resource key is = form is ∙ ap flags_of (at-Load keyed_step id name resource key b)

  pub flags-Store : (id name max : ℕ) (fields : List ℕ) (starts : List Code) → item ≡ Store id name max fields starts → flags_of (item_keyed item b) ≡ (b ∷ b ∷ []) ++ map (λ field. true) fields
  unfolding item_keyed
  flags-Store id name max fields starts is = form is ∙ ap flags_of (at-Store keyed_step id name max fields starts b) ∙ ap (λ fs. b ∷ b ∷ fs) (fields_flags (2 + id) fields)

  pub flags-Cleanup : (text : ℕ) → item ≡ Cleanup text → flags_of (item_keyed item b) ≡ []
  unfolding item_keyed
  flags-Cleanup text is = form is ∙ ap flags_of (at-Cleanup keyed_step text b)

  pub flags-Text : (text : ℕ) → item ≡ Text text → flags_of (item_keyed item b) ≡ []
  unfolding item_keyed
  flags-Text text is = form is ∙ ap flags_of (at-Text keyed_step text b)

  pub flags-Area : (id name owner : ℕ) (items : List Item) → item ≡ Area id name owner items → flags_of (item_keyed item b) ≡ (b ∷ []) ++ flags_of (items_keyed items b)
  unfolding item_keyed
  flags-Area id name owner items is = form is ∙ ap flags_of (at-Area keyed_step id name owner items b) ∙ ap (λ ps. b ∷ flags_of ps) (all_keyed items b)

  pub flags-If : (id : ℕ) (cond : Expr) (items : List Item) → item ≡ If id cond items → flags_of (item_keyed item b) ≡ (b ∷ []) ++ flags_of (items_keyed items b)
  unfolding item_keyed
  flags-If id cond items is = form is ∙ ap flags_of (at-If keyed_step id cond items b) ∙ ap (λ ps. b ∷ flags_of ps) (all_keyed items b)

  pub flags-Each : (id store : ℕ) (items : List Item) → item ≡ Each id store items → flags_of (item_keyed item b) ≡ (b ∷ []) ++ flags_of (items_keyed items true)
  unfolding item_keyed
  flags-Each id store items is = form is ∙ ap flags_of (at-Each keyed_step id store items b) ∙ ap (λ ps. b ∷ flags_of ps) (all_keyed items true)

  pub flags-Element : (tag : ℕ) (closed : Bool) (attrs : List Attr) (items : List Item) → item ≡ Element tag closed attrs items → flags_of (item_keyed item b) ≡ flags_of (flat_map (keyed_attr b) attrs) ++ flags_of (items_keyed items b)
  unfolding item_keyed
  flags-Element tag closed attrs items is = form is ∙ ap flags_of (at-Element keyed_step tag closed attrs items b) ∙ ap (λ ps. flags_of (flat_map (keyed_attr b) attrs ++ ps)) (all_keyed items b) ∙ map-append (λ p. p.1) (flat_map (keyed_attr b) attrs) (items_keyed items b)

-- where ids are their positions, a flag is found by its position
flag_at_place : (pairs : List (ℕ × Bool)) (n k : ℕ) → map (λ p. p.0) pairs ≡ range_with_len n (length pairs) → flag_of pairs (n + k) ≡ get_or (flags_of pairs) k false
flag_at_place [] n k is = refl
flag_at_place (pair ∷ pairs) n zero is = let e : pair.0 ≡ n = cc in grind (arith, e)
flag_at_place (pair ∷ pairs) n (suc k) is =
    let e : pair.0 ≡ n = cc in
    let rest : map (λ p. p.0) pairs ≡ range_with_len (n + 1) (length pairs) = cc in
    let later = flag_at_place pairs (n + 1) k rest in
    let m : n + suc k ≡ n + 1 + k = omega arith in
    grind (arith, e, later, m)

-- the flags by position are those of the component
pub flags_are : (component : Component) → IsKept component → flag_at (flags_of (items_keyed component.items false)) ≡ is_keyed component
flags_are component kept = λ i id. at id i
  where
    table : List (ℕ × Bool)
    table = items_keyed component.items false

    numbered : map (λ p. p.0) table ≡ range_with_len 0 (length table)
    numbered = items_flagged component.items false ∙ kept.numbered.ids ∙ ap (λ k. range_with_len 0 k) (ap length (sym (items_flagged component.items false)) ∙ length_ids table)

    at : (id : ℕ) → get_or (flags_of table) id false ≡ is_keyed component id
    at id = let e : 0 + id ≡ id = omega arith in sym (ap (flag_of table) (sym e) ∙ flag_at_place table 0 id numbered)
