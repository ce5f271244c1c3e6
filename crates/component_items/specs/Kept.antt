-- What holds of each component that a text means. Each fact can be tried by itself.
use Rattle.std.specs.Prelude.{◌≡◌, ℕ, ◌+◌, ◌^◌, ◌≤◌, ◌<◌, ◌==◌, ◌&&◌, ◌||◌, not, nat_le, nat_lt, if◌then◌else◌, Bool, true, false, length, List, [], ◌∷◌, ◌++◌, Option, Some, None}
use Rattle.std.specs.List.{list_all, list_any}
use Rattle.values.specs.declared.code.Code.{Code}
use Rattle.values.specs.declared.code.Code.TheVariants as code
use Rattle.values.specs.declared.expr.Expr.{Expr}
use Rattle.values.specs.declared.expr.Expr.TheOpen as form
use Rattle.values.specs.declared.expr.Expr.TheOpen.{Expr-F}
use Rattle.values.specs.declared.expr.Expr.TheFolds.{fold-Expr}
use Rattle.values.specs.Evaluation.{is_same}
use Rattle.values.specs.declared.limits.TheConstants.{MOST_NODES, MOST_OWNERS, MOST_ROWS}
use Rattle.values.specs.Plan.{rows_in}
use Rattle.component_items.specs.declared.component.Attr.{Attr}
use Rattle.component_items.specs.declared.component.Attr.TheVariants as attr
use Rattle.component_items.specs.declared.component.Item.{Item}
use Rattle.component_items.specs.declared.component.Item.TheOpen as level
use Rattle.component_items.specs.declared.component.Item.TheOpen.{Item-F}
use Rattle.component_items.specs.declared.component.Item.TheFolds.{fold-Item}
use Rattle.component_items.specs.Ids.{IsNumbered, ids_in, owners_in}
use Rattle.component_items.specs.Parts.{Parts}
use Rattle.component_items.specs.Counts.{nodes_of}

-- ---- items stand where they may

-- where an item stands: which block or element is the innermost around it, and whether an `if` or `each`, and an `each`, is around it at all
pub data Inner : Type 0 where
  at_top : Inner
  in_area : Inner
  in_element : Inner
  in_branch : Inner

pub record Standing : Type 0 where
  pub inner : Inner
  pub branched : Bool
  pub repeated : Bool

abbrev pub standing_at_top : Standing
standing_at_top = record { inner = at_top; branched = false; repeated = false }

-- at the top or directly in an area
abbrev pub is_in_owner : Inner → Bool
is_in_owner at_top = true
is_in_owner in_area = true
is_in_owner in_element = false
is_in_owner in_branch = false

abbrev pub is_at_top : Inner → Bool
is_at_top at_top = true
is_at_top _ = false

abbrev pub is_in_area : Inner → Bool
is_in_area in_area = true
is_in_area _ = false

abbrev pub is_in_element : Inner → Bool
is_in_element in_element = true
is_in_element _ = false

-- which items may stand there
abbrev pub may_declare : Standing → Bool
may_declare s = is_in_owner s.inner

abbrev pub may_have_resource : Standing → Bool
may_have_resource s = is_at_top s.inner

abbrev pub may_have_cleanup : Standing → Bool
may_have_cleanup s = is_in_area s.inner

abbrev pub may_have_memo : Standing → Bool
may_have_memo s = not (is_in_element s.inner)

abbrev pub may_have_area : Standing → Bool
may_have_area s = not s.branched

abbrev pub may_have_each : Standing → Bool
may_have_each s = not s.repeated

-- inside each block
abbrev pub inside_area : Standing → Standing
inside_area s = record s { inner = in_area }

abbrev pub inside_element : Standing → Standing
inside_element s = record s { inner = in_element }

abbrev pub inside_if : Standing → Standing
inside_if s = record s { inner = in_branch; branched = true }

abbrev pub inside_each : Standing → Standing
inside_each s = record s { inner = in_branch; branched = true; repeated = true }

abbrev pub stand_all : Standing → List (Standing → Bool) → Bool
stand_all s items = list_all (λ item. item s) items

abbrev pub stands_step : Item-F (Standing → Bool) → Standing → Bool
stands_step (level.Signal id name start) s = may_declare s
stands_step (level.Memo id name expr) s = may_have_memo s
stands_step (level.Effect id name expr) s = may_declare s
stands_step (level.Resource id name after keys values) s = may_have_resource s
stands_step (level.Load id name resource key) s = may_declare s
stands_step (level.Store id name max fields starts) s = may_declare s
stands_step (level.Cleanup text) s = may_have_cleanup s
stands_step (level.Area id name owner items) s = may_have_area s && stand_all (inside_area s) items
stands_step (level.If id cond items) s = stand_all (inside_if s) items
stands_step (level.Each id store items) s = may_have_each s && stand_all (inside_each s) items
stands_step (level.Element tag closed attrs items) s = stand_all (inside_element s) items
stands_step (level.Text text) s = true
stands_step (level.Shown id expr) s = true

unfoldable pub item_stands : Item → Standing → Bool
item_stands = fold-Item (Standing → Bool) stands_step

-- ---- names are those of what is seen

-- what an expression or item may name, with its id
pub data Known : Type 0 where
  -- a signal, memo or load
  known_value : ℕ → Known
  known_resource : ℕ → Known
  -- a store with its count of fields
  known_store : ℕ → ℕ → Known

-- what is seen at a place, and the store whose `each` is around it
pub record Sight : Type 0 where
  pub known : List Known
  pub rows : Option Known

abbrev pub is_value : ℕ → Known → Bool
is_value id (known_value n) = n == id
is_value id _ = false

abbrev pub is_resource : ℕ → Known → Bool
is_resource id (known_resource n) = n == id
is_resource id _ = false

abbrev pub is_store : ℕ → Known → Bool
is_store id (known_store n fields) = n == id
is_store id _ = false

-- the key of the store or one of its fields
abbrev pub is_part_of : ℕ → Option Known → Bool
is_part_of id (Some (known_store n fields)) = nat_lt n id && nat_le id (n + 1 + fields)
is_part_of id _ = false

abbrev pub may_read : Sight → ℕ → Bool
may_read sight id = list_any (is_value id) sight.known || is_part_of id sight.rows

abbrev pub sees_all_of : Expr → Sight → Bool
sees_all_of expr sight = list_all (may_read sight) (rows_in expr)

abbrev pub attr_sees : Sight → Attr → Bool
attr_sees sight (attr.Bare name) = true
attr_sees sight (attr.Fixed name text) = true
attr_sees sight (attr.Shown name id expr) = sees_all_of expr sight

-- whether an item names what it may, where this is seen, and what is seen behind it
pub record Seeing : Type 0 where
  pub is_right : Sight → Bool
  pub declares : List Known

-- items one after another, each with what those before it in its block declare
abbrev pub see_all : List Seeing → Sight → Bool
see_all [] sight = true
see_all (one ∷ others) sight = one.is_right sight && see_all others (record sight { known = one.declares ++ sight.known })

-- the store with the id, among what is seen
abbrev pub store_among : ℕ → List Known → Option Known
store_among id [] = None
store_among id (known_store n fields ∷ known) = if n == id then Some (known_store n fields) else store_among id known
store_among id (_ ∷ known) = store_among id known

abbrev pub sees_step : Item-F Seeing → Seeing
sees_step (level.Signal id name start) = record { is_right = λ sight. true; declares = known_value id ∷ [] }
sees_step (level.Memo id name expr) = record { is_right = sees_all_of expr; declares = known_value id ∷ [] }
sees_step (level.Effect id name expr) = record { is_right = sees_all_of expr; declares = [] }
sees_step (level.Resource id name after keys values) = record { is_right = λ sight. true; declares = known_resource id ∷ [] }
sees_step (level.Load id name resource key) = record { is_right = λ sight. list_any (is_resource resource) sight.known && sees_all_of key sight; declares = known_value id ∷ [] }
sees_step (level.Store id name max fields starts) = record { is_right = λ sight. true; declares = known_store id (length fields) ∷ [] }
sees_step (level.Cleanup text) = record { is_right = λ sight. true; declares = [] }
sees_step (level.Area id name owner items) = record { is_right = see_all items; declares = [] }
sees_step (level.If id cond items) = record { is_right = λ sight. sees_all_of cond sight && see_all items sight; declares = [] }
sees_step (level.Each id store items) = record { is_right = λ sight. list_any (is_store store) sight.known && see_all items (record sight { rows = store_among store sight.known }); declares = [] }
sees_step (level.Element tag closed attrs items) = record { is_right = λ sight. list_all (attr_sees sight) attrs && see_all items sight; declares = [] }
sees_step (level.Text text) = record { is_right = λ sight. true; declares = [] }
sees_step (level.Shown id expr) = record { is_right = sees_all_of expr; declares = [] }

unfoldable pub item_sees : Item → Seeing
item_sees = fold-Item Seeing sees_step

abbrev pub items_see : List Item → Sight → Bool
items_see [] sight = true
items_see (item ∷ items) sight = (item_sees item).is_right sight && items_see items (record sight { known = (item_sees item).declares ++ sight.known })

abbrev pub nothing_seen : Sight
nothing_seen = record { known = []; rows = None }

-- ---- texts are in the table

abbrev pub is_text_of : ℕ → ℕ → Bool
is_text_of count n = nat_lt n count

abbrev pub code_has_text : ℕ → Code → Bool
code_has_text count (code.Word n) = is_text_of count n
code_has_text count _ = true

abbrev pub texts_step : ℕ → Expr-F Bool → Bool
texts_step count (form.Lit c) = code_has_text count c
texts_step count (form.Read id) = true
texts_step count (form.Binary op a b) = a && b
texts_step count (form.If c a b) = c && a && b

unfoldable pub expr_has_texts : ℕ → Expr → Bool
expr_has_texts count = fold-Expr Bool (texts_step count)

abbrev pub attr_has_texts : ℕ → Attr → Bool
attr_has_texts count (attr.Bare name) = is_text_of count name
attr_has_texts count (attr.Fixed name text) = is_text_of count name && is_text_of count text
attr_has_texts count (attr.Shown name id expr) = is_text_of count name && expr_has_texts count expr

abbrev pub all_true : List Bool → Bool
all_true items = list_all (λ b. b) items

abbrev pub has_texts_step : ℕ → Item-F Bool → Bool
has_texts_step count (level.Signal id name start) = is_text_of count name && code_has_text count start
has_texts_step count (level.Memo id name expr) = is_text_of count name && expr_has_texts count expr
has_texts_step count (level.Effect id name expr) = is_text_of count name && expr_has_texts count expr
has_texts_step count (level.Resource id name after keys values) = is_text_of count name && list_all (code_has_text count) keys && list_all (code_has_text count) values
has_texts_step count (level.Load id name resource key) = is_text_of count name && expr_has_texts count key
has_texts_step count (level.Store id name max fields starts) = is_text_of count name && list_all (is_text_of count) fields && list_all (code_has_text count) starts
has_texts_step count (level.Cleanup text) = is_text_of count text
has_texts_step count (level.Area id name owner items) = is_text_of count name && all_true items
has_texts_step count (level.If id cond items) = expr_has_texts count cond && all_true items
has_texts_step count (level.Each id store items) = all_true items
has_texts_step count (level.Element tag closed attrs items) = is_text_of count tag && list_all (attr_has_texts count) attrs && all_true items
has_texts_step count (level.Text text) = is_text_of count text
has_texts_step count (level.Shown id expr) = expr_has_texts count expr

unfoldable pub item_has_texts : ℕ → Item → Bool
item_has_texts count = fold-Item Bool (has_texts_step count)

-- ---- stores and resources have one value for each field and key, and the keys are distinct

abbrev pub are_distinct : List Code → Bool
are_distinct [] = true
are_distinct (key ∷ keys) = not (list_any (is_same key) keys) && are_distinct keys

-- a store has no more rows than any store may have
abbrev pub shape_step : Item-F Bool → Bool
shape_step (level.Resource id name after keys values) = length keys == length values && are_distinct keys
shape_step (level.Store id name max fields starts) = length fields == length starts && nat_le max MOST_ROWS
shape_step (level.Area id name owner items) = all_true items
shape_step (level.If id cond items) = all_true items
shape_step (level.Each id store items) = all_true items
shape_step (level.Element tag closed attrs items) = all_true items
shape_step _ = true

unfoldable pub item_has_shape : Item → Bool
item_has_shape = fold-Item Bool shape_step

-- ---- all of it

-- what a component keeps
pub record IsKept (component : Parts) : Type 0 where
  pub numbered : IsNumbered component.items
  pub stand : list_all (λ item. item_stands item standing_at_top) component.items ≡ true
  pub see : items_see component.items nothing_seen ≡ true
  pub texts : list_all (item_has_texts (length component.texts)) component.items ≡ true
  pub shaped : list_all item_has_shape component.items ≡ true
  pub few_nodes : nodes_of component.items ≤ MOST_NODES
  -- the top is one more
  pub few_owners : length (owners_in component.items) < MOST_OWNERS
  pub few_ids : length (ids_in component.items) < 2 ^ 31
