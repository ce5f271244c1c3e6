-- A fold at forms of item, and one that gives functions, applied.
use Rattle.std.proofs.Common.{◌≡◌, ℕ, Bool, List, map, sym, ap, ◌∙◌}
use Rattle.values.specs.declared.code.Code.{Code}
use Rattle.values.specs.declared.expr.Expr.{Expr}
use Rattle.component_items.specs.declared.component.Attr.{Attr}
use Rattle.component_items.specs.declared.component.Item.{Item}
use Rattle.component_items.specs.declared.component.Item.TheOpen as level
use Rattle.component_items.specs.declared.component.Item.TheOpen.{Item-F}
use Rattle.component_items.specs.declared.component.Item.TheVariants.{Signal, Memo, Effect, Resource, Cleanup, Load, Store, Area, If, Each, Element, Text, Shown, rolls-Signal, rolls-Memo, rolls-Effect, rolls-Resource, rolls-Cleanup, rolls-Load, rolls-Store, rolls-Area, rolls-If, rolls-Each, rolls-Element, rolls-Text, rolls-Shown}
use Rattle.component_items.specs.declared.component.Item.TheFolds.{fold-Item, fold-roll-Item}

pub fold-Signal : {A : Type 0} (step : Item-F A → A) (id name : ℕ) (start : Code) → fold-Item A step (Signal id name start) ≡ step (level.Signal id name start)
fold-Signal {A} step id name start = ap (fold-Item A step) (sym (rolls-Signal id name start)) ∙ fold-roll-Item A step (level.Signal id name start)

pub fold-Memo : {A : Type 0} (step : Item-F A → A) (id name : ℕ) (expr : Expr) → fold-Item A step (Memo id name expr) ≡ step (level.Memo id name expr)
fold-Memo {A} step id name expr = ap (fold-Item A step) (sym (rolls-Memo id name expr)) ∙ fold-roll-Item A step (level.Memo id name expr)

pub fold-Effect : {A : Type 0} (step : Item-F A → A) (id name : ℕ) (expr : Expr) → fold-Item A step (Effect id name expr) ≡ step (level.Effect id name expr)
fold-Effect {A = A} step id name expr = ap (fold-Item A step) (sym (rolls-Effect id name expr)) ∙ fold-roll-Item A step (level.Effect id name expr)

pub fold-Resource : {A : Type 0} (step : Item-F A → A) (id name after : ℕ) (keys values : List Code) → fold-Item A step (Resource id name after keys values) ≡ step (level.Resource id name after keys values)
fold-Resource {A = A} step id name after keys values = ap (fold-Item A step) (sym (rolls-Resource id name after keys values)) ∙ fold-roll-Item A step (level.Resource id name after keys values)

pub fold-Cleanup : {A : Type 0} (step : Item-F A → A) (text : ℕ) → fold-Item A step (Cleanup text) ≡ step (level.Cleanup text)
fold-Cleanup {A = A} step text = ap (fold-Item A step) (sym (rolls-Cleanup text)) ∙ fold-roll-Item A step (level.Cleanup text)

pub fold-Load : {A : Type 0} (step : Item-F A → A) (id name resource : ℕ) (key : Expr) → fold-Item A step (Load id name resource key) ≡ step (level.Load id name resource key)
fold-Load {A} step id name resource key = ap (fold-Item A step) (sym (rolls-Load id name resource key)) ∙ fold-roll-Item A step (level.Load id name resource key)

pub fold-Store : {A : Type 0} (step : Item-F A → A) (id name max : ℕ) (fields : List ℕ) (starts : List Code) → fold-Item A step (Store id name max fields starts) ≡ step (level.Store id name max fields starts)
fold-Store {A} step id name max fields starts = ap (fold-Item A step) (sym (rolls-Store id name max fields starts)) ∙ fold-roll-Item A step (level.Store id name max fields starts)

pub fold-Area : {A : Type 0} (step : Item-F A → A) (id name owner : ℕ) (items : List Item) → fold-Item A step (Area id name owner items) ≡ step (level.Area id name owner (map (fold-Item A step) items))
fold-Area {A} step id name owner items = ap (fold-Item A step) (sym (rolls-Area id name owner items)) ∙ fold-roll-Item A step (level.Area id name owner items)

pub fold-If : {A : Type 0} (step : Item-F A → A) (id : ℕ) (cond : Expr) (items : List Item) → fold-Item A step (If id cond items) ≡ step (level.If id cond (map (fold-Item A step) items))
fold-If {A} step id cond items = ap (fold-Item A step) (sym (rolls-If id cond items)) ∙ fold-roll-Item A step (level.If id cond items)

pub fold-Each : {A : Type 0} (step : Item-F A → A) (id store : ℕ) (items : List Item) → fold-Item A step (Each id store items) ≡ step (level.Each id store (map (fold-Item A step) items))
fold-Each {A} step id store items = ap (fold-Item A step) (sym (rolls-Each id store items)) ∙ fold-roll-Item A step (level.Each id store items)

pub fold-Element : {A : Type 0} (step : Item-F A → A) (tag : ℕ) (closed : Bool) (attrs : List Attr) (items : List Item) → fold-Item A step (Element tag closed attrs items) ≡ step (level.Element tag closed attrs (map (fold-Item A step) items))
fold-Element {A} step tag closed attrs items = ap (fold-Item A step) (sym (rolls-Element tag closed attrs items)) ∙ fold-roll-Item A step (level.Element tag closed attrs items)

pub fold-Text : {A : Type 0} (step : Item-F A → A) (text : ℕ) → fold-Item A step (Text text) ≡ step (level.Text text)
fold-Text {A} step text = ap (fold-Item A step) (sym (rolls-Text text)) ∙ fold-roll-Item A step (level.Text text)

pub fold-Shown : {A : Type 0} (step : Item-F A → A) (id : ℕ) (expr : Expr) → fold-Item A step (Shown id expr) ≡ step (level.Shown id expr)
fold-Shown {A} step id expr = ap (fold-Item A step) (sym (rolls-Shown id expr)) ∙ fold-roll-Item A step (level.Shown id expr)

pub at-Signal : {X Y : Type 0} (step : Item-F (X → Y) → X → Y) (id name : ℕ) (start : Code) (x : X) → fold-Item (X → Y) step (Signal id name start) x ≡ step (level.Signal id name start) x
at-Signal step id name start x = ap (λ f. f x) (fold-Signal step id name start)

pub at-Memo : {X Y : Type 0} (step : Item-F (X → Y) → X → Y) (id name : ℕ) (expr : Expr) (x : X) → fold-Item (X → Y) step (Memo id name expr) x ≡ step (level.Memo id name expr) x
at-Memo step id name expr x = ap (λ f. f x) (fold-Memo step id name expr)

pub at-Store : {X Y : Type 0} (step : Item-F (X → Y) → X → Y) (id name max : ℕ) (fields : List ℕ) (starts : List Code) (x : X) → fold-Item (X → Y) step (Store id name max fields starts) x ≡ step (level.Store id name max fields starts) x
at-Store step id name max fields starts x = ap (λ f. f x) (fold-Store step id name max fields starts)

pub at-Area : {X Y : Type 0} (step : Item-F (X → Y) → X → Y) (id name owner : ℕ) (items : List Item) (x : X) → fold-Item (X → Y) step (Area id name owner items) x ≡ step (level.Area id name owner (map (fold-Item (X → Y) step) items)) x
at-Area step id name owner items x = ap (λ f. f x) (fold-Area step id name owner items)

pub at-If : {X Y : Type 0} (step : Item-F (X → Y) → X → Y) (id : ℕ) (cond : Expr) (items : List Item) (x : X) → fold-Item (X → Y) step (If id cond items) x ≡ step (level.If id cond (map (fold-Item (X → Y) step) items)) x
at-If step id cond items x = ap (λ f. f x) (fold-If step id cond items)

pub at-Each : {X Y : Type 0} (step : Item-F (X → Y) → X → Y) (id store : ℕ) (items : List Item) (x : X) → fold-Item (X → Y) step (Each id store items) x ≡ step (level.Each id store (map (fold-Item (X → Y) step) items)) x
at-Each step id store items x = ap (λ f. f x) (fold-Each step id store items)

pub at-Element : {X Y : Type 0} (step : Item-F (X → Y) → X → Y) (tag : ℕ) (closed : Bool) (attrs : List Attr) (items : List Item) (x : X) → fold-Item (X → Y) step (Element tag closed attrs items) x ≡ step (level.Element tag closed attrs (map (fold-Item (X → Y) step) items)) x
at-Element step tag closed attrs items x = ap (λ f. f x) (fold-Element step tag closed attrs items)

pub at-Shown : {X Y : Type 0} (step : Item-F (X → Y) → X → Y) (id : ℕ) (expr : Expr) (x : X) → fold-Item (X → Y) step (Shown id expr) x ≡ step (level.Shown id expr) x
at-Shown step id expr x = ap (λ f. f x) (fold-Shown step id expr)

pub at-Text : {X Y : Type 0} (step : Item-F (X → Y) → X → Y) (text : ℕ) (x : X) → fold-Item (X → Y) step (Text text) x ≡ step (level.Text text) x
at-Text step text x = ap (λ f. f x) (fold-Text step text)

pub at-Cleanup : {X Y : Type 0} (step : Item-F (X → Y) → X → Y) (text : ℕ) (x : X) → fold-Item (X → Y) step (Cleanup text) x ≡ step (level.Cleanup text) x
at-Cleanup step text x = ap (λ f. f x) (fold-Cleanup step text)

pub at-Effect : {X Y : Type 0} (step : Item-F (X → Y) → X → Y) (id name : ℕ) (expr : Expr) (x : X) → fold-Item (X → Y) step (Effect id name expr) x ≡ step (level.Effect id name expr) x
at-Effect step id name expr x = ap (λ f. f x) (fold-Effect step id name expr)

pub at-Load : {X Y : Type 0} (step : Item-F (X → Y) → X → Y) (id name resource : ℕ) (key : Expr) (x : X) → fold-Item (X → Y) step (Load id name resource key) x ≡ step (level.Load id name resource key) x
at-Load {X} {Y} step id name resource key x = ap (λ (f : X → Y). f x) (fold-Load step id name resource key)

pub at-Resource : {X Y : Type 0} (step : Item-F (X → Y) → X → Y) (id name after : ℕ) (keys values : List Code) (x : X) → fold-Item (X → Y) step (Resource id name after keys values) x ≡ step (level.Resource id name after keys values) x
at-Resource {X} {Y} step id name after keys values x = ap (λ (f : X → Y). f x) (fold-Resource step id name after keys values)
