-- An item counts for itself and for the items that it holds.
use Rattle.std.proofs.Common.{◌≡◌, ℕ, ◌+◌, ◌*◌, ◌<◌, ◌==◌, ◌⊎◌, inl, inr, Bool, if◌then◌else◌, List, [], ◌∷◌, length, map, take, get_or, refl, sym, ap, ◌∙◌, arith}
use Rattle.std.specs.List.{sum_by}
use Rattle.std.proofs.lemmas.List.Sums.{sum_by-cons, sum-map, sum_by_more}
use Rattle.values.specs.declared.code.Code.{Code}
use Rattle.values.specs.declared.expr.Expr.{Expr}
use Rattle.component_items.specs.declared.component.Attr.{Attr}
use Rattle.component_items.specs.declared.component.Item.{Item}
use Rattle.component_items.specs.declared.component.Item.TheOpen as level
use Rattle.component_items.specs.declared.component.Item.TheOpen.{Item-F}
use Rattle.component_items.specs.declared.component.Item.TheViews.{out-Item, roll-Item, roll-out-Item, outs-Area, outs-If, outs-Each, outs-Element, rolls-Store, rolls-Area, rolls-If, rolls-Each, rolls-Element}
use Rattle.component_items.specs.declared.component.Item.TheVariants.{Store, Area, If, Each, Element}
use Rattle.component_items.specs.declared.component.Item.TheFolds.{fold_out-Item, map-Item}
use Rattle.component_items.specs.Counts.{maximum_among, maximum_step, item_maximum, maximum_in, nodes_step, item_nodes}
use Rattle.component_items.specs.Own.{held_step, held}
use Rattle.component_items.proofs.AroundLemmas.{held_items}
use Rattle.component_items.proofs.FoldLemmas.{at-Store, at-Area, at-If, at-Each, at-Element}
use Rattle.node_counts.specs.Nodes.{capped}
use Rattle.node_counts.proofs.Caps.{capped-mul, capped-add}
use Rattle.node_counts.specs.Own.{own_step, own_nodes, times_step, times, own_rows_step, own_rows}

among-map : (store : ℕ) (items : List Item) → maximum_among store (map item_maximum items) ≡ maximum_in items store
among-map store [] = refl
among-map store (item ∷ items) = ap (λ n. item_maximum item store + n) (among-map store items) ∙ sym (sum_by-cons (λ i. item_maximum i store) item items)

rows_parts : (x : Item-F Item) (store : ℕ) → maximum_step (map-Item Item (ℕ → ℕ) item_maximum x) store ≡ own_rows_step x store + maximum_in (held_step x) store
rows_parts (level.Store id name max fields starts) store = omega arith
rows_parts (level.Area id name owner items) store = omega (arith, among-map store items)
rows_parts (level.If id cond items) store = omega (arith, among-map store items)
rows_parts (level.Each id each_store items) store = omega (arith, among-map store items)
rows_parts (level.Element tag closed attrs items) store = omega (arith, among-map store items)
rows_parts _ store = refl

pub item_rows : (item : Item) (store : ℕ) → item_maximum item store ≡ own_rows item store + maximum_in (held item) store
unfolding item_maximum
item_rows item store = ap (λ f. f store) (fold_out-Item (ℕ → ℕ) maximum_step item) ∙ rows_parts (out-Item item) store

nodes_parts : (rows : ℕ → ℕ) (x : Item-F Item) → nodes_step rows (map-Item Item ℕ (item_nodes rows) x) ≡ own_step x + times_step rows x * sum_by (item_nodes rows) (held_step x)
nodes_parts rows (level.Store id name max fields starts) = omega arith
nodes_parts rows (level.Area id name owner items) = omega (arith, sum-map (item_nodes rows) items)
nodes_parts rows (level.If id cond items) = omega (arith, sum-map (item_nodes rows) items)
nodes_parts rows (level.Each id store items) = omega (arith, ap (λ n. rows store * n) (sum-map (item_nodes rows) items))
nodes_parts rows (level.Element tag closed attrs items) = omega (arith, sum-map (item_nodes rows) items)
nodes_parts rows _ = refl

pub nodes_split : (rows : ℕ → ℕ) (item : Item) → item_nodes rows item ≡ own_nodes item + times rows item * sum_by (item_nodes rows) (held item)
unfolding item_nodes
nodes_split rows item = fold_out-Item ℕ (nodes_step rows) item ∙ nodes_parts rows (out-Item item)

-- ---- rows

pub more_rows : (items : List Item) (i : ℕ) (item : Item) (store start before now : ℕ) → i < length items → item ≡ get_or items i item → capped before ≡ capped (start + maximum_in (take i items) store)
    → capped now ≡ capped (before + item_maximum item store) → capped now ≡ capped (start + maximum_in (take (i + 1) items) store)
more_rows items i item store start before now within is so_far one =
    let more = sum_by_more (λ x. item_maximum x store) items i item within in
    let same = ap (λ x. item_maximum x store) is in
    omega (arith, more, same)

-- an item of this kind holds these
abbrev pub Holds : Item → List Item → Type 0
Holds item items = ((id : ℕ) × (name : ℕ) × (owner : ℕ) × (item ≡ Area id name owner items)) ⊎ (((id : ℕ) × (cond : Expr) × (item ≡ If id cond items)) ⊎ (((id : ℕ) × (store : ℕ) × (item ≡ Each id store items)) ⊎ ((tag : ℕ) × (closed : Bool) × (attrs : List Attr) × (item ≡ Element tag closed attrs items))))

pub holder_rows : (item : Item) (items : List Item) (store : ℕ) → Holds item items → item_maximum item store ≡ maximum_in items store
unfolding item_maximum
holder_rows item items store (inl h) = ap (λ x. item_maximum x store) h.3 ∙ (at-Area maximum_step h.0 h.1 h.2 items store ∙ among-map store items)
holder_rows item items store (inr (inl h)) = ap (λ x. item_maximum x store) h.2 ∙ (at-If maximum_step h.0 h.1 items store ∙ among-map store items)
holder_rows item items store (inr (inr (inl h))) = ap (λ x. item_maximum x store) h.2 ∙ (at-Each maximum_step h.0 h.1 items store ∙ among-map store items)
holder_rows item items store (inr (inr (inr h))) = ap (λ x. item_maximum x store) h.3 ∙ (at-Element maximum_step h.0 h.1 h.2 items store ∙ among-map store items)

pub store_rows : (item : Item) (id name max : ℕ) (fields : List ℕ) (starts : List Code) (store : ℕ) → item ≡ Store id name max fields starts → item_maximum item store ≡ (if id == store then max else 0)
unfolding item_maximum
store_rows item id name max fields starts store is = ap (λ x. item_maximum x store) is ∙ at-Store maximum_step id name max fields starts store

pub leaf_rows : (item : Item) (store : ℕ) → ((id name max : ℕ) (fields : List ℕ) (starts : List Code) → item ≡ Store id name max fields starts → ⊥) → ((id name owner : ℕ) (items : List Item) → item ≡ Area id name owner items → ⊥) → ((id : ℕ) (cond : Expr) (items : List Item) → item ≡ If id cond items → ⊥)
    → ((id store : ℕ) (items : List Item) → item ≡ Each id store items → ⊥) → ((tag : ℕ) (closed : Bool) (attrs : List Attr) (items : List Item) → item ≡ Element tag closed attrs items → ⊥) → item_maximum item store ≡ 0
leaf_rows item store no_store no_area no_if no_each no_element = item_rows item store ∙ at (out-Item item) (sym (roll-out-Item item))
  where
    at : (x : Item-F Item) → item ≡ roll-Item x → own_rows_step x store + maximum_in (held_step x) store ≡ 0
    at (level.Store id name max fields starts) is = absurd (no_store id name max fields starts (is ∙ rolls-Store id name max fields starts))
    at (level.Area id name owner items) is = absurd (no_area id name owner items (is ∙ rolls-Area id name owner items))
    at (level.If id cond items) is = absurd (no_if id cond items (is ∙ rolls-If id cond items))
    at (level.Each id each_store items) is = absurd (no_each id each_store items (is ∙ rolls-Each id each_store items))
    at (level.Element tag closed attrs items) is = absurd (no_element tag closed attrs items (is ∙ rolls-Element tag closed attrs items))
    at _ is = refl

-- ---- nodes

pub more_nodes : (f : Item → ℕ) (items : List Item) (i : ℕ) (item : Item) (before one now : ℕ) → i < length items → item ≡ get_or items i item → before ≡ capped (sum_by f (take i items)) → one ≡ capped (f item) → now ≡ capped (before + one) → now ≡ capped (sum_by f (take (i + 1) items))
more_nodes f items i item before one now within is so_far here sum =
    let more = sum_by_more f items i item within in
    let same = ap f is in
    omega (arith, more, same)

-- so many times what the items hold, and what the item counts for itself
capped_whole : (own_count many inner own result : ℕ) → own ≡ capped own_count → result ≡ capped (own + capped (capped many * capped inner)) → result ≡ capped (own_count + many * inner)
capped_whole own_count many inner own result is sum =
    let product = capped-mul many inner in
    let whole = capped-add own_count (many * inner) in
    omega (arith, product, whole)

pub each_nodes : (rows : ℕ → ℕ) (item : Item) (id store : ℕ) (items : List Item) (own most inner product result : ℕ) → item ≡ Each id store items → own ≡ capped (own_nodes item) → most ≡ capped (rows store) → inner ≡ capped (sum_by (item_nodes rows) items)
    → product ≡ capped (most * inner) → result ≡ capped (own + product) → result ≡ capped (item_nodes rows item)
each_nodes rows item id store items own most inner product result is own_is most_is inner_is product_is result_is =
    let many : times rows item ≡ rows store = ap (times rows) is ∙ ap (times_step rows) (outs-Each id store items) in
    let below : held item ≡ items = held_items item items (inr (inr (inl (id, store, is)))) in
    let whole : item_nodes rows item ≡ own_nodes item + rows store * sum_by (item_nodes rows) items = nodes_split rows item ∙ (ap (λ n. own_nodes item + n * sum_by (item_nodes rows) (held item)) many ∙ ap (λ xs. own_nodes item + rows store * sum_by (item_nodes rows) xs) below) in
    let sum : result ≡ capped (own + capped (capped (rows store) * capped (sum_by (item_nodes rows) items))) = result_is ∙ ap (λ p. capped (own + p)) (product_is ∙ (ap (λ m. capped (m * inner)) most_is ∙ ap (λ n. capped (capped (rows store) * n)) inner_is)) in
    capped_whole (own_nodes item) (rows store) (sum_by (item_nodes rows) items) own result own_is sum ∙ ap capped (sym whole)

pub holder_nodes : (rows : ℕ → ℕ) (item : Item) (items : List Item) (own inner result : ℕ) → ((id : ℕ) × (name : ℕ) × (owner : ℕ) × (item ≡ Area id name owner items)) ⊎ (((id : ℕ) × (cond : Expr) × (item ≡ If id cond items)) ⊎ ((tag : ℕ) × (closed : Bool) × (attrs : List Attr) × (item ≡ Element tag closed attrs items)))
    → own ≡ capped (own_nodes item) → inner ≡ capped (sum_by (item_nodes rows) items) → result ≡ capped (own + inner) → result ≡ capped (item_nodes rows item)
holder_nodes rows item items own inner result holds own_is inner_is result_is =
    let whole : item_nodes rows item ≡ own_nodes item + 1 * sum_by (item_nodes rows) items = nodes_split rows item ∙ (ap (λ n. own_nodes item + n * sum_by (item_nodes rows) (held item)) (once holds) ∙ ap (λ xs. own_nodes item + 1 * sum_by (item_nodes rows) xs) (below holds)) in
    omega (arith, whole)
  where
    once : ((id : ℕ) × (name : ℕ) × (owner : ℕ) × (item ≡ Area id name owner items)) ⊎ (((id : ℕ) × (cond : Expr) × (item ≡ If id cond items)) ⊎ ((tag : ℕ) × (closed : Bool) × (attrs : List Attr) × (item ≡ Element tag closed attrs items))) → times rows item ≡ 1
    once (inl h) = ap (times rows) h.3 ∙ ap (times_step rows) (outs-Area h.0 h.1 h.2 items)
    once (inr (inl h)) = ap (times rows) h.2 ∙ ap (times_step rows) (outs-If h.0 h.1 items)
    once (inr (inr h)) = ap (times rows) h.3 ∙ ap (times_step rows) (outs-Element h.0 h.1 h.2 items)

    below : ((id : ℕ) × (name : ℕ) × (owner : ℕ) × (item ≡ Area id name owner items)) ⊎ (((id : ℕ) × (cond : Expr) × (item ≡ If id cond items)) ⊎ ((tag : ℕ) × (closed : Bool) × (attrs : List Attr) × (item ≡ Element tag closed attrs items))) → held item ≡ items
    below (inl h) = held_items item items (inl h)
    below (inr (inl h)) = held_items item items (inr (inl h))
    below (inr (inr h)) = held_items item items (inr (inr (inr h)))

pub leaf_nodes : (rows : ℕ → ℕ) (item : Item) → held item ≡ [] → item_nodes rows item ≡ own_nodes item
leaf_nodes rows item none = nodes_split rows item ∙ (ap (λ xs. own_nodes item + times rows item * sum_by (item_nodes rows) xs) none ∙ none_held (own_nodes item) (times rows item))
  where
    none_held : (a b : ℕ) → a + b * 0 ≡ a
    none_held a b = omega arith
