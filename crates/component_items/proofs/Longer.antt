-- What is kept stays kept where the table of texts grows.
use Rattle.std.proofs.Common.{Ok, Err, Result, IfOk, OnErr, ◌≡◌, ℕ, ◌≤◌, ◌&&◌, Bool, true, false, if◌then◌else◌, List, [], ◌∷◌, ◌++◌, length, map, is_some, refl, sym, subst, ◌∙◌, arith, ltb-true, lt-ltb, length-append}
use Rattle.std.proofs.lemmas.Bool.{and_parts, and_from}
use Rattle.std.specs.List.{list_all}
use Rattle.values.specs.declared.code.Code.{Code}
use Rattle.values.specs.declared.code.Code.TheVariants as code
use Rattle.values.specs.declared.expr.Expr.{Expr}
use Rattle.values.specs.declared.expr.Expr.TheOpen as form
use Rattle.values.specs.declared.expr.Expr.TheOpen.{Expr-F}
use Rattle.values.specs.declared.expr.Expr.TheViews.{roll-Expr}
use Rattle.values.specs.declared.expr.Expr.TheFolds.{fold-roll-Expr, map-Expr, ind-Expr}
use Rattle.values.specs.Texts.{index_of, with_text}
use Rattle.component_items.specs.declared.component.Attr.{Attr}
use Rattle.component_items.specs.declared.component.Attr.TheVariants as attr
use Rattle.component_items.specs.declared.component.Item.{Item}
use Rattle.component_items.specs.declared.component.Item.TheOpen as level
use Rattle.component_items.specs.declared.component.Item.TheOpen.{Item-F}
use Rattle.component_items.specs.declared.component.Item.TheViews.{roll-Item}
use Rattle.component_items.specs.declared.component.Item.TheFolds.{fold-roll-Item, map-Item, ind-Item}
use Rattle.component_items.specs.Kept.{IsKept, is_text_of, code_has_text, texts_step, expr_has_texts, attr_has_texts, all_true, has_texts_step, item_has_texts}

-- ---- tests

pub both_more : (a b c d : Bool) → (a ≡ true → c ≡ true) → (b ≡ true → d ≡ true) → (a && b) ≡ true → (c && d) ≡ true
both_more a b c d left right h = let both = and_parts a b h in and_from c d (left both.0) (right both.1)

pub all_more : {A : Type 0} (p q : A → Bool) → ((x : A) → p x ≡ true → q x ≡ true) → (xs : List A) → list_all p xs ≡ true → list_all q xs ≡ true
all_more p q more [] h = refl
all_more p q more (x ∷ xs) h = both_more (p x) (list_all p xs) (q x) (list_all q xs) (more x) (all_more p q more xs) h

-- ---- longer tables

module _ (n m : ℕ) (within : n ≤ m) where
  pub text_more : (k : ℕ) → is_text_of n k ≡ true → is_text_of m k ≡ true
  text_more k h = let below = ltb-true k n h in lt-ltb k m (omega arith)

  pub code_more : (c : Code) → code_has_text n c ≡ true → code_has_text m c ≡ true
  code_more (code.Word k) h = text_more k h
  code_more _ h = refl

  abbrev ExprMore : Expr → Type 0
  ExprMore e = expr_has_texts n e ≡ true → expr_has_texts m e ≡ true

  abbrev KnownExpr : Type 0
  KnownExpr = (e : Expr) × ExprMore e

  expr_layer : (count : ℕ) (x : Expr-F Expr) → expr_has_texts count (roll-Expr x) ≡ texts_step count (map-Expr Expr Bool (expr_has_texts count) x)
  unfolding expr_has_texts
  expr_layer count x = fold-roll-Expr Bool (texts_step count) x

  expr_step : (y : Expr-F KnownExpr) → texts_step n (map-Expr Expr Bool (expr_has_texts n) (map-Expr KnownExpr Expr (λ e. e.0) y)) ≡ true
      → texts_step m (map-Expr Expr Bool (expr_has_texts m) (map-Expr KnownExpr Expr (λ e. e.0) y)) ≡ true
  expr_step (form.Lit c) h = code_more c h
  expr_step (form.Read id) h = refl
  expr_step (form.Binary op a b) h = both_more _ _ _ _ a.1 b.1 h
  expr_step (form.If c a b) h = both_more _ _ _ _ (both_more _ _ _ _ c.1 a.1) b.1 h

  expr_by_form : (y : Expr-F KnownExpr) → ExprMore (roll-Expr (map-Expr KnownExpr Expr (λ e. e.0) y))
  expr_by_form y h = expr_layer m _ ∙ expr_step y (sym (expr_layer n _) ∙ h)

  pub expr_more : (e : Expr) → expr_has_texts n e ≡ true → expr_has_texts m e ≡ true
  expr_more = ind-Expr ExprMore (λ x y is. subst (λ z. ExprMore (roll-Expr z)) is (expr_by_form y))

  pub attr_more : (a : Attr) → attr_has_texts n a ≡ true → attr_has_texts m a ≡ true
  attr_more (attr.Bare name) h = text_more name h
  attr_more (attr.Fixed name text) h = both_more _ _ _ _ (text_more name) (text_more text) h
  attr_more (attr.Shown name id expr) h = both_more _ _ _ _ (text_more name) (expr_more expr) h

  abbrev ItemMore : Item → Type 0
  ItemMore i = item_has_texts n i ≡ true → item_has_texts m i ≡ true

  abbrev KnownItem : Type 0
  KnownItem = (i : Item) × ItemMore i

  item_layer : (count : ℕ) (x : Item-F Item) → item_has_texts count (roll-Item x) ≡ has_texts_step count (map-Item Item Bool (item_has_texts count) x)
  unfolding item_has_texts
  item_layer count x = fold-roll-Item Bool (has_texts_step count) x

  inner_more : (known : List KnownItem) → all_true (map (item_has_texts n) (map (λ k. k.0) known)) ≡ true → all_true (map (item_has_texts m) (map (λ k. k.0) known)) ≡ true
  inner_more [] h = refl
  inner_more (k ∷ known) h = both_more _ _ _ _ k.1 (inner_more known) h

  item_step : (y : Item-F KnownItem) → has_texts_step n (map-Item Item Bool (item_has_texts n) (map-Item KnownItem Item (λ k. k.0) y)) ≡ true
      → has_texts_step m (map-Item Item Bool (item_has_texts m) (map-Item KnownItem Item (λ k. k.0) y)) ≡ true
  item_step (level.Signal id name start) h = both_more _ _ _ _ (text_more name) (code_more start) h
  item_step (level.Memo id name expr) h = both_more _ _ _ _ (text_more name) (expr_more expr) h
  item_step (level.Effect id name expr) h = both_more _ _ _ _ (text_more name) (expr_more expr) h
  item_step (level.Resource id name after keys values) h =
      both_more _ _ _ _ (both_more _ _ _ _ (text_more name) (all_more (code_has_text n) (code_has_text m) code_more keys)) (all_more (code_has_text n) (code_has_text m) code_more values) h
  item_step (level.Load id name resource key) h = both_more _ _ _ _ (text_more name) (expr_more key) h
  item_step (level.Store id name max fields starts) h =
      both_more _ _ _ _ (both_more _ _ _ _ (text_more name) (all_more (is_text_of n) (is_text_of m) text_more fields)) (all_more (code_has_text n) (code_has_text m) code_more starts) h
  item_step (level.Cleanup text) h = text_more text h
  item_step (level.Area id name owner known) h = both_more _ _ _ _ (text_more name) (inner_more known) h
  item_step (level.If id cond known) h = both_more _ _ _ _ (expr_more cond) (inner_more known) h
  item_step (level.Each id store known) h = inner_more known h
  item_step (level.Element tag closed attrs known) h =
      both_more _ _ _ _ (both_more _ _ _ _ (text_more tag) (all_more (attr_has_texts n) (attr_has_texts m) attr_more attrs)) (inner_more known) h
  item_step (level.Text text) h = text_more text h
  item_step (level.Shown id expr) h = expr_more expr h

  item_by_form : (y : Item-F KnownItem) → ItemMore (roll-Item (map-Item KnownItem Item (λ k. k.0) y))
  item_by_form y h = item_layer m _ ∙ item_step y (sym (item_layer n _) ∙ h)

  pub item_more : (i : Item) → item_has_texts n i ≡ true → item_has_texts m i ≡ true
  item_more = ind-Item ItemMore (λ x y is. subst (λ z. ItemMore (roll-Item z)) is (item_by_form y))

  pub items_more : (items : List Item) → list_all (item_has_texts n) items ≡ true → list_all (item_has_texts m) items ≡ true
  items_more items h = all_more (item_has_texts n) (item_has_texts m) item_more items h

-- ---- the table with a further text

pub table_grows : (text : List ℕ) (texts : List (List ℕ)) → length texts ≤ length (with_text text texts)
table_grows text texts = at (is_some (index_of text texts))
  where
    at : (has : Bool) → length texts ≤ length (if has then texts else texts ++ text ∷ [])
    at true = omega arith
    at false = omega (arith, length-append texts (text ∷ []))

-- ---- components

-- what is kept stays kept in a longer table
pub kept_more : (texts others : List (List ℕ)) (items : List Item) → length texts ≤ length others → IsKept (record { texts = texts; items = items }) → IsKept (record { texts = others; items = items })
kept_more texts others items within k = record {
  numbered = k.numbered;
  stand = k.stand;
  see = k.see;
  texts = items_more (length texts) (length others) within items k.texts;
  shaped = k.shaped;
  few_nodes = k.few_nodes;
  few_owners = k.few_owners;
  few_ids = k.few_ids;
}

-- the table after a text was added or refused
pub table_after : {E : Type 0} (r : Result ℕ E) (text : List ℕ) (old new : List (List ℕ)) → IfOk r (λ index. new ≡ with_text text old) → OnErr r (new ≡ old) → length old ≤ length new
table_after (Ok index) text old new table same = subst (λ t. length old ≤ length t) (sym table) (table_grows text old)
table_after (Err e) text old new table same = subst (λ t. length old ≤ length t) (sym same) (omega arith)
