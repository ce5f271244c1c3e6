-- The lines of loads in a text: one for each live load, in order.
use Rattle.std.proofs.Common.{◌≡◌, ℕ, suc, ◌+◌, ◌||◌, not, if◌then◌else◌, Bool, true, false, List, [], ◌∷◌, ◌++◌, map, Option, None, refl, sym, ap, subst, ◌∙◌}
use Rattle.std.specs.List.{flat_map, filter, list_all}
use Rattle.std.proofs.lemmas.List.{map-append}
use Rattle.std.proofs.lemmas.List.Elements.{filter-append}
use Rattle.values.specs.declared.code.Code.{Code}
use Rattle.values.specs.declared.plan.Kind.TheVariants as kind
use Rattle.store_fields.specs.declared.row.Row.{Row}
use Rattle.component_items.specs.declared.component.Attr.{Attr}
use Rattle.component_items.specs.declared.component.Attr.TheVariants as attr
use Rattle.component_items.specs.declared.component.Component.{Component}
use Rattle.component_items.specs.declared.component.Item.{Item}
use Rattle.component_items.specs.declared.component.Item.TheOpen as level
use Rattle.component_items.specs.declared.component.Item.TheOpen.{Item-F}
use Rattle.component_items.specs.declared.component.Item.TheViews.{roll-Item}
use Rattle.component_items.specs.declared.component.Item.TheFolds.{fold-roll-Item, map-Item, ind-Item}
use Rattle.component_items.specs.Kept.{Standing, is_in_owner, may_have_area, may_have_each, inside_area, inside_if, inside_each, inside_element, stand_all, stands_step, item_stands, standing_at_top, IsKept}
use Rattle.plain_evaluation.specs.Killed.{nest_all, nests_step, item_nests}
use Rattle.plain_evaluation.specs.Origins.{Around, Origin, around_of, tell_attr, tell_all, tell_step, tell_item, tell_items, top_around, origin_in}
use Rattle.plain_evaluation.specs.Written.{State, RowAround, Scene, Says, given, loaded, derived, Written, in_row, in_area, put, write_attr, write_fields, write_all, write_step, write_item, write_items, pairs_among, written_in, at_top}
use Rattle.plain_evaluation.proofs.Lookup.{AreFound, found-append}
use Rattle.plain_evaluation.proofs.Places.{and_cases, not_true}
use Rattle.plain_evaluation.proofs.Told.{origins_right}
use Rattle.plan_meaning.specs.There.{AreNested}
use Rattle.plan_meaning.specs.Told.{owner_of_id}
use Rattle.plan_meaning.proofs.Lines.{StandsSo, no_row}
use Rattle.load_table.specs.Loads.{LoadOf, loads_step, item_loads, loads_among, loads_in, after_among, is_live_load}

abbrev pub is_loaded : Says → Bool
is_loaded (given kind code) = false
is_loaded (loaded pairs arrived) = true
is_loaded (derived kind expr) = false

abbrev pub loaded_of : List Written → List Written
loaded_of ws = filter (λ w. is_loaded w.says) ws

-- ---- parts of a text with no load

fields_none : (first : ℕ) (codes : List Code) (scene : Scene) → loaded_of (write_fields first codes scene) ≡ []
fields_none first [] scene = refl
fields_none first (code ∷ codes) scene = fields_none (suc first) codes scene

attrs_none : (attrs : List Attr) (scene : Scene) → loaded_of (flat_map (write_attr scene) attrs) ≡ []
attrs_none [] scene = refl
attrs_none (attr.Bare name ∷ attrs) scene = attrs_none attrs scene
attrs_none (attr.Fixed name text ∷ attrs) scene = attrs_none attrs scene
attrs_none (attr.Shown name id expr ∷ attrs) scene = attrs_none attrs scene

rows_none : (part : Row → List Written) (rows : List Row) → ((row : Row) → loaded_of (part row) ≡ []) → loaded_of (flat_map part rows) ≡ []
rows_none part [] each = refl
rows_none part (row ∷ rows) each = filter-append (λ w. is_loaded w.says) (part row) (flat_map part rows) ∙ (λ i. each row i ++ rows_none part rows each i)

-- what is there where it is live
abbrev if_live : Bool → List Written → List Written
if_live live ws = if live then ws else []

live_none : (live : Bool) (ws : List Written) → (live ≡ true → loaded_of ws ≡ []) → loaded_of (if_live live ws) ≡ []
live_none true ws none = none refl
live_none false ws none = refl

live_append : (live : Bool) (xs ys : List Written) → loaded_of (if_live live (xs ++ ys)) ≡ loaded_of (if_live live xs) ++ loaded_of (if_live live ys)
live_append true xs ys = filter-append (λ w. is_loaded w.says) xs ys
live_append false xs ys = refl

-- no load stands inside a branch
abbrev StandsOut : Standing → Type 0
StandsOut s = s.branched ≡ true → is_in_owner s.inner ≡ false

both_ways : (b : Bool) → b ≡ true → b ≡ false → ⊥
both_ways true t f = cc
both_ways false t f = cc

module _ (state : State) (found : ℕ → Origin) (pairs : ℕ → List (Code × Code)) (after : ℕ → ℕ) where
  abbrev live_load : LoadOf → Bool
  live_load load = state.live (found load.id).around.owner

  -- the line of a load
  abbrev line : LoadOf → Written
  line load = record { id = load.id; scene = record { owner = (found load.id).around.owner; row = None }; says = loaded load.pairs (state.arrived load.id) }

  abbrev lines : List LoadOf → List Written
  lines ls = map line (filter live_load ls)

  lines-append : (xs ys : List LoadOf) → lines (xs ++ ys) ≡ lines xs ++ lines ys
  lines-append xs ys = ap (map line) (filter-append live_load xs ys) ∙ map-append line (filter live_load xs) (filter live_load ys)

  record IsLined (stands : Standing → Bool) (nests : Bool → Bool) (tells : Around → List (ℕ × Origin)) (writes : Scene → List Written) (ls : List LoadOf) : Type 0 where
    pub none : (s : Standing) → stands s ≡ true → StandsOut s → s.branched ≡ true → ls ≡ []
    pub lined : (scene : Scene) (s : Standing) → stands s ≡ true → StandsSo s scene → StandsOut s → nests (state.live scene.owner) ≡ true → AreFound found (tells (around_of scene)) → loaded_of (if_live (state.live scene.owner) (writes scene)) ≡ lines ls

  -- what is no load and holds no items
  no_load : (stands : Standing → Bool) (nests : Bool → Bool) (tells : Around → List (ℕ × Origin)) (writes : Scene → List Written) → ((scene : Scene) → loaded_of (writes scene) ≡ []) → IsLined stands nests tells writes []
  no_load stands nests tells writes none = record { none = λ s stand out branched. refl; lined = λ scene s stand so out nest are. live_none (state.live scene.owner) (writes scene) (λ live. none scene) }

  abbrev ItemLined : Item → Type 0
  ItemLined item = IsLined (item_stands item) (item_nests state.live item) (tell_item pairs item) (write_item state pairs item) (item_loads pairs after item)

  abbrev Proven : Type 0
  Proven = (item : Item) × ItemLined item

  abbrev items_of : List Proven → List Item
  items_of known = map (λ k. k.0) known

  abbrev FormLined : Item-F Item → Type 0
  FormLined x = IsLined (stands_step (map-Item Item (Standing → Bool) item_stands x)) (nests_step state.live (map-Item Item (Bool → Bool) (item_nests state.live) x)) (tell_step pairs (map-Item Item (Around → List (ℕ × Origin)) (tell_item pairs) x)) (write_step state pairs (map-Item Item (Scene → List Written) (write_item state pairs) x)) (loads_step pairs after (map-Item Item (List LoadOf) (item_loads pairs after) x))

  rolled : (x : Item-F Item) → FormLined x → ItemLined (roll-Item x)
  unfolding item_stands item_nests tell_item write_item item_loads
  rolled x lined =
      subst (λ f. IsLined f (item_nests state.live (roll-Item x)) (tell_item pairs (roll-Item x)) (write_item state pairs (roll-Item x)) (item_loads pairs after (roll-Item x))) (sym (fold-roll-Item (Standing → Bool) stands_step x))
      (subst (λ f. IsLined (stands_step (map-Item Item (Standing → Bool) item_stands x)) f (tell_item pairs (roll-Item x)) (write_item state pairs (roll-Item x)) (item_loads pairs after (roll-Item x))) (sym (fold-roll-Item (Bool → Bool) (nests_step state.live) x))
      (subst (λ f. IsLined (stands_step (map-Item Item (Standing → Bool) item_stands x)) (nests_step state.live (map-Item Item (Bool → Bool) (item_nests state.live) x)) f (write_item state pairs (roll-Item x)) (item_loads pairs after (roll-Item x))) (sym (fold-roll-Item (Around → List (ℕ × Origin)) (tell_step pairs) x))
      (subst (λ f. IsLined (stands_step (map-Item Item (Standing → Bool) item_stands x)) (nests_step state.live (map-Item Item (Bool → Bool) (item_nests state.live) x)) (tell_step pairs (map-Item Item (Around → List (ℕ × Origin)) (tell_item pairs) x)) f (item_loads pairs after (roll-Item x))) (sym (fold-roll-Item (Scene → List Written) (write_step state pairs) x))
      (subst (λ f. IsLined (stands_step (map-Item Item (Standing → Bool) item_stands x)) (nests_step state.live (map-Item Item (Bool → Bool) (item_nests state.live) x)) (tell_step pairs (map-Item Item (Around → List (ℕ × Origin)) (tell_item pairs) x)) (write_step state pairs (map-Item Item (Scene → List Written) (write_item state pairs) x)) f) (sym (fold-roll-Item (List LoadOf) (loads_step pairs after) x))
      lined))))

  block : (known : List Proven) → IsLined (λ s. stand_all s (map item_stands (items_of known))) (nest_all (map (item_nests state.live) (items_of known))) (tell_all (map (tell_item pairs) (items_of known))) (write_all (map (write_item state pairs) (items_of known))) (flat_map (λ one. one) (map (item_loads pairs after) (items_of known)))
  block [] = no_load (λ s. true) (λ around. true) (λ around. []) (λ scene. []) (λ scene. refl)
  block (k ∷ known) = record {
    none = λ s stands out branched.
        (let stand = and_cases (item_stands k.0 s) (stand_all s (map item_stands (items_of known))) stands in
        λ i. k.1.none s stand.0 out branched i ++ (block known).none s stand.1 out branched i);
    lined = λ scene s stands so out nests are.
        (let live = state.live scene.owner in
        let stand = and_cases (item_stands k.0 s) (stand_all s (map item_stands (items_of known))) stands in
        let nest = and_cases (item_nests state.live k.0 live) (nest_all (map (item_nests state.live) (items_of known)) live) nests in
        let both = found-append found (tell_item pairs k.0 (around_of scene)) (tell_all (map (tell_item pairs) (items_of known)) (around_of scene)) are in
        live_append live (write_item state pairs k.0 scene) (write_all (map (write_item state pairs) (items_of known)) scene)
        ∙ (λ i. k.1.lined scene s stand.0 so out nest.0 both.0 i ++ (block known).lined scene s stand.1 so out nest.1 both.1 i)
        ∙ sym (lines-append (item_loads pairs after k.0) (flat_map (λ one. one) (map (item_loads pairs after) (items_of known)))));
  }

  -- one load, where it is told of
  lines_one : (load : LoadOf) → lines (load ∷ []) ≡ if_live (live_load load) (line load ∷ [])
  lines_one load = at (live_load load)
    where
      at : (live : Bool) → map line (if live then load ∷ [] else []) ≡ if_live live (line load ∷ [])
      at true = refl
      at false = refl

  one_load : (scene : Scene) (id owner : ℕ) (key : Written) (ps : List (Code × Code)) → is_loaded key.says ≡ false → scene.row ≡ None → owner ≡ scene.owner → loaded_of (if_live (state.live scene.owner) (key ∷ put id (loaded ps (state.arrived id)) scene)) ≡ if_live (state.live owner) (put id (loaded ps (state.arrived id)) (record { owner = owner; row = None }))
  one_load scene id owner key ps plain alone same = at (state.live scene.owner) ∙ ap (λ (o : ℕ). if_live (state.live o) (put id says (record { owner = o; row = None }))) (sym same)
    where
      says : Says
      says = loaded ps (state.arrived id)

      at : (live : Bool) → loaded_of (if_live live (key ∷ put id says scene)) ≡ if_live live (put id says (record { owner = scene.owner; row = None }))
      at true =
          ap (λ (b : Bool). if b then key ∷ put id says scene else put id says scene) plain
          ∙ ap (λ (row : Option RowAround). put id says (record { owner = scene.owner; row = row })) alone
      at false = refl

  -- what is in an area is live only where what is around it is
  live_twice : (around own : Bool) (ws : List Written) → (around || not own) ≡ true → if_live around (if_live own ws) ≡ if_live own ws
  live_twice true own ws nest = refl
  live_twice false true ws nest = cc
  live_twice false false ws nest = refl

  by_form : (y : Item-F Proven) → FormLined (map-Item Proven Item (λ k. k.0) y)
  by_form (level.Signal id name start) = no_load _ _ _ _ (λ scene. refl)
  by_form (level.Memo id name expr) = no_load _ _ _ _ (λ scene. refl)
  by_form (level.Effect id name expr) = no_load _ _ _ _ (λ scene. refl)
  by_form (level.Resource id name own_after keys values) = no_load _ _ _ _ (λ scene. refl)
  by_form (level.Load id name resource key) = record {
    none = λ s stand out branched. absurd (both_ways (is_in_owner s.inner) stand (out branched));
    lined = λ scene s stand so out nest are.
        one_load scene id (found id).around.owner (record { id = suc id; scene = scene; says = derived kind.Memo key }) (pairs resource) refl (no_row scene.row (sym so.same ∙ so.owner stand)) (ap (λ (o : Origin). o.around.owner) are.0)
        ∙ sym (lines_one (record { id = id; resource = resource; after = after resource; pairs = pairs resource }));
  }
  by_form (level.Store id name max fields starts) = no_load _ _ _ _ (λ scene. rows_none (λ row. write_fields (2 + id) row.fields (in_row id row.key scene)) (state.rows id) (λ row. fields_none (2 + id) row.fields (in_row id row.key scene)))
  by_form (level.Cleanup text) = no_load _ _ _ _ (λ scene. refl)
  by_form (level.Area id name owner known) = record {
    none = λ s stands out branched. absurd (both_ways s.branched branched (not_true s.branched (and_cases (may_have_area s) (stand_all (inside_area s) (map item_stands (items_of known))) stands).0));
    lined = λ scene s stands so out nests are.
        (let stand = and_cases (may_have_area s) (stand_all (inside_area s) (map item_stands (items_of known))) stands in
        let nest = and_cases (state.live scene.owner || not (state.live owner)) (nest_all (map (item_nests state.live) (items_of known)) (state.live owner)) nests in
        let open_here = not_true s.branched stand.0 in
        let alone = so.branch open_here in
        ap loaded_of (live_twice (state.live scene.owner) (state.live owner) (write_all (map (write_item state pairs) (items_of known)) (in_area owner scene)) nest.0)
        ∙ (block known).lined (in_area owner scene) (inside_area s) stand.1 (record { same = so.same; owner = λ is. alone; branch = so.branch }) (λ branched. absurd (both_ways s.branched branched open_here)) nest.1 are.1);
  }
  by_form (level.If id cond known) = record {
    none = λ s stands out branched. (block known).none (inside_if s) stands (λ inside. refl) refl;
    lined = λ scene s stands so out nests are.
        (let first : List Written = put id (derived kind.Memo cond) scene in
        let live = state.live scene.owner in
        live_append live first (write_all (map (write_item state pairs) (items_of known)) scene)
        ∙ (λ i. live_none live first (λ is. refl) i ++ (block known).lined scene (inside_if s) stands (record { same = so.same; owner = λ is. cc; branch = λ is. cc }) (λ inside. refl) nests are.1 i));
  }
  by_form (level.Each id store known) = record {
    none = λ s stands out branched. (block known).none (inside_each s) (and_cases (may_have_each s) (stand_all (inside_each s) (map item_stands (items_of known))) stands).1 (λ inside. refl) refl;
    lined = λ scene s stands so out nests are.
        (let stand = and_cases (may_have_each s) (stand_all (inside_each s) (map item_stands (items_of known))) stands in
        let part : Row → List Written = (λ row. write_all (map (write_item state pairs) (items_of known)) (in_row store row.key scene)) in
        let nothing = (block known).none (inside_each s) stand.1 (λ inside. refl) refl in
        live_none (state.live scene.owner) (flat_map part (state.rows store)) (λ live.
        rows_none part (state.rows store) (λ row.
        sym (ap (λ b. loaded_of (if_live b (part row))) live)
        ∙ (block known).lined (in_row store row.key scene) (inside_each s) stand.1 (record { same = refl; owner = λ is. cc; branch = λ is. cc }) (λ inside. refl) nests are.1
        ∙ ap lines nothing))
        ∙ sym (ap lines nothing));
  }
  by_form (level.Element tag closed attrs known) = record {
    none = λ s stands out branched. (block known).none (inside_element s) stands (λ inside. refl) branched;
    lined = λ scene s stands so out nests are.
        (let first = flat_map (write_attr scene) attrs in
        let live = state.live scene.owner in
        let both = found-append found (flat_map (tell_attr (around_of scene)) attrs) (tell_all (map (tell_item pairs) (items_of known)) (around_of scene)) are in
        live_append live first (write_all (map (write_item state pairs) (items_of known)) scene)
        ∙ (λ i. live_none live first (λ is. attrs_none attrs scene) i ++ (block known).lined scene (inside_element s) stands (record { same = so.same; owner = λ is. cc; branch = so.branch }) (λ inside. refl) nests both.1 i));
  }
  by_form (level.Text text) = no_load _ _ _ _ (λ scene. refl)
  by_form (level.Shown id expr) = no_load _ _ _ _ (λ scene. refl)

  item_lined : (item : Item) → ItemLined item
  item_lined = ind-Item ItemLined (λ x y is. subst (λ z. ItemLined (roll-Item z)) is (rolled (map-Item Proven Item (λ k. k.0) y) (by_form y)))

  text_lined : (items : List Item) (scene : Scene) (s : Standing) → list_all (λ item. item_stands item s) items ≡ true → StandsSo s scene → StandsOut s → list_all (λ item. item_nests state.live item (state.live scene.owner)) items ≡ true → AreFound found (tell_items pairs items (around_of scene)) → loaded_of (if_live (state.live scene.owner) (write_items state pairs items scene)) ≡ lines (loads_among pairs after items)
  text_lined [] scene s stands so out nests are = live_none (state.live scene.owner) [] (λ live. refl)
  text_lined (item ∷ items) scene s stands so out nests are =
      let live = state.live scene.owner in
      let stand = and_cases (item_stands item s) (list_all (λ item. item_stands item s) items) stands in
      let nest = and_cases (item_nests state.live item live) (list_all (λ item. item_nests state.live item live) items) nests in
      let both = found-append found (tell_item pairs item (around_of scene)) (tell_items pairs items (around_of scene)) are in
      live_append live (write_item state pairs item scene) (write_items state pairs items scene)
      ∙ (λ i. (item_lined item).lined scene s stand.0 so out nest.0 both.0 i ++ text_lined items scene s stand.1 so out nest.1 both.1 i)
      ∙ sym (lines-append (item_loads pairs after item) (loads_among pairs after items))

-- the line of a load of a component
abbrev pub load_line : Component → State → LoadOf → Written
load_line component state load = record { id = load.id; scene = record { owner = owner_of_id component load.id; row = None }; says = loaded load.pairs (state.arrived load.id) }

-- the loads that a component writes out are those that are live, in order
pub loads_written : (component : Component) (state : State) → IsKept component → AreNested component state → loaded_of (written_in component state) ≡ map (load_line component state) (filter (is_live_load component state) (loads_in component))
loads_written component state kept nested =
    text_lined state (origin_in component) (pairs_among component.items) (after_among component.items) component.items at_top standing_at_top kept.stand (record { same = refl; owner = λ is. refl; branch = λ is. refl }) (λ branched. cc) nested (origins_right (pairs_among component.items) component.items top_around kept.numbered.ids)
