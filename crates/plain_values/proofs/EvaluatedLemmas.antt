-- Evaluation in the order of the text, at each form of item.
use Rattle.std.proofs.Common.{◌≡◌, ℕ, suc, if◌then◌else◌, Bool, List, [], ◌∷◌, Option, map, refl, ap, ◌∙◌}
use Rattle.values.specs.declared.code.Code.{Code}
use Rattle.values.specs.declared.expr.Expr.{Expr}
use Rattle.component_items.specs.declared.component.Attr.{Attr}
use Rattle.component_items.specs.declared.component.Item.{Item}
use Rattle.component_items.specs.declared.component.Item.TheVariants.{Signal, Memo, Effect, Resource, Load, Store, Cleanup, Area, If, Each, Element, Text, Shown}
use Rattle.component_items.proofs.FoldLemmas.{at-Load, at-Resource, at-Signal, at-Memo, at-Effect, at-Store, at-Area, at-If, at-Each, at-Element, at-Shown, at-Text, at-Cleanup}
use Rattle.plain_evaluation.specs.Scratch.{Values, with_value}
use Rattle.plain_evaluation.specs.Written.{RowAround}
use Rattle.plain_values.specs.Evaluated.{Given, place_in, evaluated, loaded_by, after_attrs, after_rows, in_order, for_each, after_step, after_item, after_items}

in_order_items : (given : Given) (items : List Item) (row : Option RowAround) (values : Values) → in_order (map (after_item given) items) row values ≡ after_items given items row values
in_order_items given [] row values = refl
in_order_items given (item ∷ items) row values = in_order_items given items row (after_item given item row values)

pub after_item-Signal : (given : Given) (id name : ℕ) (start : Code) (row : Option RowAround) (values : Values) → after_item given (Signal id name start) row values ≡ with_value (place_in row id) (given.state.value (place_in row id)) values
unfolding after_item
after_item-Signal given id name start row values = ap (λ f. f values) (at-Signal (after_step given) id name start row)

pub after_item-Memo : (given : Given) (id name : ℕ) (expr : Expr) (row : Option RowAround) (values : Values) → after_item given (Memo id name expr) row values ≡ evaluated given id expr row values
unfolding after_item
after_item-Memo given id name expr row values = ap (λ f. f values) (at-Memo (after_step given) id name expr row)

pub after_item-Effect : (given : Given) (id name : ℕ) (expr : Expr) (row : Option RowAround) (values : Values) → after_item given (Effect id name expr) row values ≡ evaluated given id expr row values
unfolding after_item
after_item-Effect given id name expr row values = ap (λ f. f values) (at-Effect (after_step given) id name expr row)

pub after_item-Resource : (given : Given) (id name after : ℕ) (keys pairs : List Code) (row : Option RowAround) (values : Values) → after_item given (Resource id name after keys pairs) row values ≡ values
unfolding after_item
after_item-Resource given id name after keys pairs row values = ap (λ f. f values) (at-Resource (after_step given) id name after keys pairs row)

pub after_item-Load : (given : Given) (id name resource : ℕ) (key : Expr) (row : Option RowAround) (values : Values) → after_item given (Load id name resource key) row values ≡ loaded_by given id resource row (evaluated given (suc id) key row values)
unfolding after_item
after_item-Load given id name resource key row values = ap (λ f. f values) (at-Load (after_step given) id name resource key row)

pub after_item-Store : (given : Given) (id name max : ℕ) (fields : List ℕ) (starts : List Code) (row : Option RowAround) (values : Values) → after_item given (Store id name max fields starts) row values ≡ after_rows id (given.state.rows id) values
unfolding after_item
after_item-Store given id name max fields starts row values = ap (λ f. f values) (at-Store (after_step given) id name max fields starts row)

pub after_item-Cleanup : (given : Given) (text : ℕ) (row : Option RowAround) (values : Values) → after_item given (Cleanup text) row values ≡ values
unfolding after_item
after_item-Cleanup given text row values = ap (λ f. f values) (at-Cleanup (after_step given) text row)

pub after_item-Area : (given : Given) (id name owner : ℕ) (items : List Item) (row : Option RowAround) (values : Values) → after_item given (Area id name owner items) row values ≡ (if given.state.live owner then after_items given items row values else values)
unfolding after_item
after_item-Area given id name owner items row values = ap (λ f. f values) (at-Area (after_step given) id name owner items row) ∙ ap (λ (more : Values). if given.state.live owner then more else values) (in_order_items given items row values)

pub after_item-If : (given : Given) (id : ℕ) (cond : Expr) (items : List Item) (row : Option RowAround) (values : Values) → after_item given (If id cond items) row values ≡ after_items given items row (evaluated given id cond row values)
unfolding after_item
after_item-If given id cond items row values = ap (λ f. f values) (at-If (after_step given) id cond items row) ∙ in_order_items given items row (evaluated given id cond row values)

pub after_item-Each : (given : Given) (id store : ℕ) (items : List Item) (row : Option RowAround) (values : Values) → after_item given (Each id store items) row values ≡ for_each (after_items given items) store (given.state.rows store) values
unfolding after_item
after_item-Each given id store items row values = ap (λ f. f values) (at-Each (after_step given) id store items row) ∙ (λ i. for_each (λ r v. in_order_items given items r v i) store (given.state.rows store) values)

pub after_item-Element : (given : Given) (tag : ℕ) (closed : Bool) (attrs : List Attr) (items : List Item) (row : Option RowAround) (values : Values) → after_item given (Element tag closed attrs items) row values ≡ after_items given items row (after_attrs given attrs row values)
unfolding after_item
after_item-Element given tag closed attrs items row values = ap (λ f. f values) (at-Element (after_step given) tag closed attrs items row) ∙ in_order_items given items row (after_attrs given attrs row values)

pub after_item-Text : (given : Given) (text : ℕ) (row : Option RowAround) (values : Values) → after_item given (Text text) row values ≡ values
unfolding after_item
after_item-Text given text row values = ap (λ f. f values) (at-Text (after_step given) text row)

pub after_item-Shown : (given : Given) (id : ℕ) (expr : Expr) (row : Option RowAround) (values : Values) → after_item given (Shown id expr) row values ≡ evaluated given id expr row values
unfolding after_item
after_item-Shown given id expr row values = ap (λ f. f values) (at-Shown (after_step given) id expr row)
