-- In a text of a component what is named comes before.
use Rattle.std.proofs.Common.{◌≡◌, ℕ, suc, ◌+◌, ◌<◌, ◌≤◌, inl, inr, ◌||◌, ◌==◌, nat_le, if◌then◌else◌, Bool, true, false, List, [], ◌∷◌, ◌++◌, map, length, Option, Some, None, is_some, refl, sym, ap, subst, ◌∙◌, arith}
use Rattle.std.specs.List.{list_any, list_all, flat_map}
use Rattle.std.proofs.lemmas.Bool.{eqb-true}
use Rattle.std.proofs.lemmas.List.Folds.{list_any-append}
use Rattle.values.specs.declared.code.Code.{Code}
use Rattle.values.specs.declared.plan.Kind.TheVariants as kind
use Rattle.store_fields.specs.declared.row.Row.{Row}
use Rattle.component_items.specs.declared.component.Attr.{Attr}
use Rattle.component_items.specs.declared.component.Attr.TheVariants as attr
use Rattle.component_items.specs.declared.component.Item.{Item}
use Rattle.component_items.specs.declared.component.Item.TheOpen as level
use Rattle.component_items.specs.declared.component.Item.TheOpen.{Item-F}
use Rattle.component_items.specs.declared.component.Item.TheViews.{roll-Item}
use Rattle.component_items.specs.declared.component.Item.TheFolds.{fold-roll-Item, map-Item, ind-Item}
use Rattle.component_items.specs.Kept.{Standing, inside_area, inside_if, inside_each, inside_element, stand_all, stands_step, item_stands, may_have_each, may_have_area, is_resource, is_store, Sight, Seeing, see_all, sees_step, item_sees, items_see, nothing_seen, standing_at_top, IsKept, sees_all_of, attr_sees, store_among}
use Rattle.plain_evaluation.specs.Written.{State, RowAround, Scene, given, loaded, derived, Written, key_in, in_row, in_area, put, write_attr, write_fields, write_all, write_step, write_item, pairs_among, write_items, written_in, at_top}
use Rattle.plain_evaluation.specs.Keyed.{keyed_fields, keyed_attr, keyed_all, keyed_step, item_keyed, items_keyed, is_keyed}
use Rattle.plain_evaluation.specs.Sound.{names_come_before}
use Rattle.plain_evaluation.specs.Fits.{all_fit, fits_step, item_fits, RowsFit, store_fits}
use Rattle.plain_evaluation.proofs.Places.{and_cases, and_both, or_right, not_true, place_itself}
use Rattle.component_items.specs.declared.component.Component.{Component}
use Rattle.plain_evaluation.proofs.Flags.{AreKeyed, keyed-append, flags_right}
use Rattle.plain_evaluation.proofs.Covers.{has_named, RowAmong, Covers, covers_more, names-append, reads_come, declares_value, declares_resource, declares_store, covers_row, named_behind, stands_itself}

-- one item, by what its folds give
abbrev Comes : State → (ℕ → Bool) → (Standing → Bool) → Seeing → Bool → (Bool → List (ℕ × Bool)) → (Scene → List Written) → Type 0
Comes state keyed stands sees fits flags writes = (scene : Scene) (s : Standing) (sight : Sight) (before : List Written) → stands s ≡ true → s.repeated ≡ is_some scene.row → sees.is_right sight ≡ true → fits ≡ true → AreKeyed keyed (flags (is_some scene.row)) → Covers state keyed before scene sight → (names_come_before keyed before (writes scene) ≡ true) × Covers state keyed (before ++ writes scene) scene (record sight { known = sees.declares ++ sight.known })

none_of : (row : Option RowAround) → is_some row ≡ false → row ≡ None
none_of None is = refl
none_of (Some row) is = cc

module _ (state : State) (keyed : ℕ → Bool) (pairs : ℕ → List (Code × Code)) where
  abbrev ItemComes : Item → Type 0
  ItemComes item = Comes state keyed (item_stands item) (item_sees item) (item_fits (store_fits state) item) (item_keyed item) (write_item state pairs item)

  abbrev Proven : Type 0
  Proven = (item : Item) × ItemComes item

  abbrev items_of : List Proven → List Item
  items_of known = map (λ k. k.0) known

  -- the same of one form of item
  abbrev FormComes : Item-F Item → Type 0
  FormComes x = Comes state keyed (stands_step (map-Item Item (Standing → Bool) item_stands x)) (sees_step (map-Item Item Seeing item_sees x)) (fits_step (store_fits state) (map-Item Item Bool (item_fits (store_fits state)) x)) (keyed_step (map-Item Item (Bool → List (ℕ × Bool)) item_keyed x)) (write_step state pairs (map-Item Item (Scene → List Written) (write_item state pairs) x))

  rolled : (x : Item-F Item) → FormComes x → ItemComes (roll-Item x)
  unfolding item_stands item_sees item_fits item_keyed write_item
  rolled x comes =
      subst (λ f. Comes state keyed f (item_sees (roll-Item x)) (item_fits (store_fits state) (roll-Item x)) (item_keyed (roll-Item x)) (write_item state pairs (roll-Item x))) (sym (fold-roll-Item (Standing → Bool) stands_step x))
      (subst (λ f. Comes state keyed (stands_step (map-Item Item (Standing → Bool) item_stands x)) f (item_fits (store_fits state) (roll-Item x)) (item_keyed (roll-Item x)) (write_item state pairs (roll-Item x))) (sym (fold-roll-Item Seeing sees_step x))
      (subst (λ f. Comes state keyed (stands_step (map-Item Item (Standing → Bool) item_stands x)) (sees_step (map-Item Item Seeing item_sees x)) f (item_keyed (roll-Item x)) (write_item state pairs (roll-Item x))) (sym (fold-roll-Item Bool (fits_step (store_fits state)) x))
      (subst (λ f. Comes state keyed (stands_step (map-Item Item (Standing → Bool) item_stands x)) (sees_step (map-Item Item Seeing item_sees x)) (fits_step (store_fits state) (map-Item Item Bool (item_fits (store_fits state)) x)) f (write_item state pairs (roll-Item x))) (sym (fold-roll-Item (Bool → List (ℕ × Bool)) keyed_step x))
      (subst (λ f. Comes state keyed (stands_step (map-Item Item (Standing → Bool) item_stands x)) (sees_step (map-Item Item Seeing item_sees x)) (fits_step (store_fits state) (map-Item Item Bool (item_fits (store_fits state)) x)) (keyed_step (map-Item Item (Bool → List (ℕ × Bool)) item_keyed x)) f) (sym (fold-roll-Item (Scene → List Written) (write_step state pairs) x))
      comes))))

  -- items one after another, in a block
  block : (known : List Proven) (scene : Scene) (s : Standing) (sight : Sight) (before : List Written) → stand_all s (map item_stands (items_of known)) ≡ true → s.repeated ≡ is_some scene.row → see_all (map item_sees (items_of known)) sight ≡ true → all_fit (map (item_fits (store_fits state)) (items_of known)) ≡ true → AreKeyed keyed (keyed_all (is_some scene.row) (map item_keyed (items_of known))) → Covers state keyed before scene sight → names_come_before keyed before (write_all (map (write_item state pairs) (items_of known)) scene) ≡ true
  block [] scene s sight before stands repeated sees fits flags covers = refl
  block (k ∷ known) scene s sight before stands repeated sees fits flags covers =
      let stand = and_cases (item_stands k.0 s) (stand_all s (map item_stands (items_of known))) stands in
      let see = and_cases ((item_sees k.0).is_right sight) (see_all (map item_sees (items_of known)) (record sight { known = (item_sees k.0).declares ++ sight.known })) sees in
      let fit = and_cases (item_fits (store_fits state) k.0) (all_fit (map (item_fits (store_fits state)) (items_of known))) fits in
      let flag = keyed-append keyed (item_keyed k.0 (is_some scene.row)) (keyed_all (is_some scene.row) (map item_keyed (items_of known))) flags in
      let first = k.1 scene s sight before stand.0 repeated see.0 fit.0 flag.0 covers in
      names-append keyed before (write_item state pairs k.0 scene) (write_all (map (write_item state pairs) (items_of known)) scene) first.0
      (block known scene s (record sight { known = (item_sees k.0).declares ++ sight.known }) (before ++ write_item state pairs k.0 scene) stand.1 repeated see.1 fit.1 flag.1 first.1)

  -- attributes
  attrs_come : (attrs : List Attr) (scene : Scene) (sight : Sight) (before : List Written) → list_all (attr_sees sight) attrs ≡ true → Covers state keyed before scene sight → names_come_before keyed before (flat_map (write_attr scene) attrs) ≡ true
  attrs_come [] scene sight before sees covers = refl
  attrs_come (attr.Bare name ∷ attrs) scene sight before sees covers = attrs_come attrs scene sight before sees covers
  attrs_come (attr.Fixed name text ∷ attrs) scene sight before sees covers = attrs_come attrs scene sight before sees covers
  attrs_come (attr.Shown name id expr ∷ attrs) scene sight before sees covers =
      let see = and_cases (sees_all_of expr sight) (list_all (attr_sees sight) attrs) sees in
      let w : List Written = put id (derived kind.Memo expr) scene in
      names-append keyed before w (flat_map (write_attr scene) attrs) (and_both _ _ (reads_come state keyed before scene sight expr covers see.0) refl) (attrs_come attrs scene sight (before ++ w) see.1 (covers_more state keyed before w scene sight covers))

  -- the rows of an `each`
  rows_come : (known : List Proven) (rows : List Row) (store : ℕ) (scene : Scene) (s : Standing) (sight : Sight) (before : List Written) → ((row : Row) → RowAmong rows row → RowAmong (state.rows store) row) → scene.row ≡ None → stand_all (inside_each s) (map item_stands (items_of known)) ≡ true → see_all (map item_sees (items_of known)) (record sight { rows = store_among store sight.known }) ≡ true → all_fit (map (item_fits (store_fits state)) (items_of known)) ≡ true → AreKeyed keyed (keyed_all true (map item_keyed (items_of known))) → Covers state keyed before scene sight → names_come_before keyed before (flat_map (λ row. write_all (map (write_item state pairs) (items_of known)) (in_row store row.key scene)) rows) ≡ true
  rows_come known [] store scene s sight before among none stands sees fits flags covers = refl
  rows_come known (row ∷ rows) store scene s sight before among none stands sees fits flags covers =
      let there = in_row store row.key scene in
      let ws : List Written = write_all (map (write_item state pairs) (items_of known)) there in
      names-append keyed before ws (flat_map (λ r. write_all (map (write_item state pairs) (items_of known)) (in_row store r.key scene)) rows)
      (block known there (inside_each s) (record sight { rows = store_among store sight.known }) before stands refl sees fits flags (covers_row state keyed before scene sight store row none (among row (inl refl)) covers))
      (rows_come known rows store scene s sight (before ++ ws) (λ r there. among r (inr there)) none stands sees fits flags (covers_more state keyed before ws scene sight covers))

  -- the fields of a row
  fields_held : (first : ℕ) (codes : List Code) (scene : Scene) (before : List Written) → names_come_before keyed before (write_fields first codes scene) ≡ true
  fields_held first [] scene before = refl
  fields_held first (code ∷ codes) scene before = fields_held (suc first) codes scene (before ++ put first (given kind.Field code) scene)

  stores_held : (id : ℕ) (rows : List Row) (scene : Scene) (before : List Written) → names_come_before keyed before (flat_map (λ row. write_fields (2 + id) row.fields (in_row id row.key scene)) rows) ≡ true
  stores_held id [] scene before = refl
  stores_held id (row ∷ rows) scene before =
      names-append keyed before (write_fields (2 + id) row.fields (in_row id row.key scene)) (flat_map (λ r. write_fields (2 + id) r.fields (in_row id r.key scene)) rows) (fields_held (2 + id) row.fields (in_row id row.key scene) before) (stores_held id rows scene (before ++ write_fields (2 + id) row.fields (in_row id row.key scene)))

  -- each field of the list is there
  field_named : (first : ℕ) (codes : List Code) (scene : Scene) (id : ℕ) → first ≤ id → id < first + length codes → has_named (write_fields first codes scene) (record { id = id; key = key_in scene }) ≡ true
  field_named first [] scene id above below = absurd (omega arith)
  field_named first (code ∷ codes) scene id above below = at (first == id) refl (λ lt. field_named (suc first) codes scene id lt (omega arith))
    where
      rest : Bool
      rest = has_named (write_fields (suc first) codes scene) (record { id = id; key = key_in scene })

      at : (b : Bool) → (first == id) ≡ b → (suc first ≤ id → rest ≡ true) → has_named (put first (given kind.Field code) scene ++ write_fields (suc first) codes scene) (record { id = id; key = key_in scene }) ≡ true
      at true same later = let e : first ≡ id = grind arith in subst (λ n. has_named (put n (given kind.Field code) scene ++ write_fields (suc first) codes scene) (record { id = id; key = key_in scene }) ≡ true) (sym e) (ap (λ b. b || rest) (place_itself (record { id = id; key = key_in scene })))
      at false other later = or_right _ rest (later (grind arith))

  field_keyed : (first : ℕ) (fields : List ℕ) (id : ℕ) → AreKeyed keyed (keyed_fields first fields) → first ≤ id → id < first + length fields → keyed id ≡ true
  field_keyed first [] id flags above below = absurd (omega arith)
  field_keyed first (name ∷ fields) id flags above below = at (first == id) refl (λ lt. field_keyed (suc first) fields id flags.1 lt (omega arith))
    where
      at : (b : Bool) → (first == id) ≡ b → (suc first ≤ id → keyed id ≡ true) → keyed id ≡ true
      at true same later = let e : first ≡ id = grind arith in subst (λ n. keyed n ≡ true) e flags.0
      at false other later = later (grind arith)

  row_named : (id count : ℕ) (rows : List Row) (scene : Scene) (row : Row) → list_all (λ r. length r.fields == count) rows ≡ true → RowAmong rows row → (field : ℕ) → suc id < field → field ≤ id + 1 + count → has_named (flat_map (λ r. write_fields (2 + id) r.fields (in_row id r.key scene)) rows) (record { id = field; key = Some row.key }) ≡ true
  row_named id count [] scene row fit among field above below = absurd among
  row_named id count (r ∷ rows) scene row fit (inl here) field above below =
      let both = and_cases (length r.fields == count) (list_all (λ r. length r.fields == count) rows) fit in
      let wide : length r.fields ≡ count = eqb-true (length r.fields) count both.0 in
      let has = field_named (2 + id) r.fields (in_row id r.key scene) field (omega arith) (omega (arith, wide)) in
      let first = write_fields (2 + id) r.fields (in_row id r.key scene) in
      let more = flat_map (λ q. write_fields (2 + id) q.fields (in_row id q.key scene)) rows in
      subst (λ (q : Row). has_named (first ++ more) (record { id = field; key = Some q.key }) ≡ true) here
      (list_any-append (λ w. _) first more ∙ ap (λ b. b || has_named more (record { id = field; key = Some r.key })) has)
  row_named id count (r ∷ rows) scene row fit (inr later) field above below =
      let both = and_cases (length r.fields == count) (list_all (λ r. length r.fields == count) rows) fit in
      named_behind (write_fields (2 + id) r.fields (in_row id r.key scene)) (flat_map (λ q. write_fields (2 + id) q.fields (in_row id q.key scene)) rows) (record { id = field; key = Some row.key }) (row_named id count rows scene row both.1 later field above below)

  area : (live : Bool) (ws : List Written) (scene : Scene) (sight : Sight) (before : List Written) → Covers state keyed before scene sight → names_come_before keyed before ws ≡ true → (names_come_before keyed before (if live then ws else []) ≡ true) × Covers state keyed (before ++ (if live then ws else [])) scene sight
  area true ws scene sight before covers come = (come, covers_more state keyed before ws scene sight covers)
  area false ws scene sight before covers come = (refl, covers_more state keyed before [] scene sight covers)

  by_form : (y : Item-F Proven) → FormComes (map-Item Proven Item (λ k. k.0) y)
  by_form (level.Signal id name start) scene s sight before stands repeated sees fits flags covers =
      (refl, declares_value state keyed before (put id (given kind.Signal _) scene) scene sight id covers flags.0 (ap (λ b. b || false) (place_itself (record { id = id; key = key_in scene }))))
  by_form (level.Memo id name expr) scene s sight before stands repeated sees fits flags covers =
      (and_both _ _ (reads_come state keyed before scene sight expr covers sees) refl, declares_value state keyed before (put id (derived kind.Memo expr) scene) scene sight id covers flags.0 (ap (λ b. b || false) (place_itself (record { id = id; key = key_in scene }))))
  by_form (level.Effect id name expr) scene s sight before stands repeated sees fits flags covers =
      (and_both _ _ (reads_come state keyed before scene sight expr covers sees) refl, covers_more state keyed before (put id (derived kind.Effect expr) scene) scene sight covers)
  by_form (level.Resource id name after keys values) scene s sight before stands repeated sees fits flags covers =
      (refl, declares_resource state keyed before scene sight id covers)
  by_form (level.Load id name resource key) scene s sight before stands repeated sees fits flags covers =
      let see = and_cases (list_any (is_resource resource) sight.known) (sees_all_of key sight) sees in
      let w : List Written = put (suc id) (derived kind.Memo key) scene in
      let last : has_named w (record { id = suc id; key = key_in scene }) ≡ true = ap (λ b. b || false) (place_itself (record { id = suc id; key = key_in scene })) in (
        and_both _ _ (reads_come state keyed before scene sight key covers see.1)
            (and_both _ _ (and_both _ _ (stands_itself (keyed (suc id)) (before ++ w) scene.row (suc id) flags.1.0 (named_behind before w (record { id = suc id; key = key_in scene }) last)) refl) refl),
        declares_value state keyed before (w ++ put id (loaded (pairs resource) (state.arrived id)) scene) scene sight id covers flags.0
            (or_right _ _ (ap (λ b. b || false) (place_itself (record { id = id; key = key_in scene })))),
      )
  by_form (level.Store id name max fields starts) scene s sight before stands repeated sees fits flags covers =
      let rows = state.rows id in
      let fit = and_cases (list_all (λ row. length row.fields == length fields) rows) (nat_le (length rows) max) fits in
      let ws : List Written = flat_map (λ row. write_fields (2 + id) row.fields (in_row id row.key scene)) rows in (
        stores_held id rows scene before,
        declares_store state keyed before ws scene sight id (length fields) covers (λ row among field above below.
            (field_keyed (2 + id) fields field flags.1.1 (omega arith) (omega arith), named_behind before ws (record { id = field; key = Some row.key }) (row_named id (length fields) rows scene row fit.0 among field above below))),
      )
  by_form (level.Cleanup text) scene s sight before stands repeated sees fits flags covers =
      (refl, covers_more state keyed before [] scene sight covers)
  by_form (level.Area id name owner known) scene s sight before stands repeated sees fits flags covers =
      let stand = and_cases (may_have_area s) (stand_all (inside_area s) (map item_stands (items_of known))) stands in
      let there : Covers state keyed before (in_area owner scene) sight = record { values = covers.values; stores = covers.stores; parts = covers.parts } in
      area (state.live owner) (write_all (map (write_item state pairs) (items_of known)) (in_area owner scene)) scene sight before covers (block known (in_area owner scene) (inside_area s) sight before stand.1 repeated sees fits flags.1 there)
  by_form (level.If id cond known) scene s sight before stands repeated sees fits flags covers =
      let see = and_cases (sees_all_of cond sight) (see_all (map item_sees (items_of known)) sight) sees in
      let w : List Written = put id (derived kind.Memo cond) scene in (
        and_both _ _ (reads_come state keyed before scene sight cond covers see.0) (block known scene (inside_if s) sight (before ++ w) stands repeated see.1 fits flags.1 (covers_more state keyed before w scene sight covers)),
        covers_more state keyed before (w ++ write_all (map (write_item state pairs) (items_of known)) scene) scene sight covers,
      )
  by_form (level.Each id store known) scene s sight before stands repeated sees fits flags covers =
      let stand = and_cases (may_have_each s) (stand_all (inside_each s) (map item_stands (items_of known))) stands in
      let see = and_cases (list_any (is_store store) sight.known) (see_all (map item_sees (items_of known)) (record sight { rows = store_among store sight.known })) sees in
      let none = none_of scene.row (sym repeated ∙ not_true s.repeated stand.0) in (
        rows_come known (state.rows store) store scene s sight before (λ row among. among) none stand.1 see.1 fits flags.1 covers,
        covers_more state keyed before (flat_map (λ row. write_all (map (write_item state pairs) (items_of known)) (in_row store row.key scene)) (state.rows store)) scene sight covers,
      )
  by_form (level.Element tag closed attrs known) scene s sight before stands repeated sees fits flags covers =
      let see = and_cases (list_all (attr_sees sight) attrs) (see_all (map item_sees (items_of known)) sight) sees in
      let ws : List Written = flat_map (write_attr scene) attrs in
      let flag = keyed-append keyed (flat_map (keyed_attr (is_some scene.row)) attrs) (keyed_all (is_some scene.row) (map item_keyed (items_of known))) flags in (
        names-append keyed before ws (write_all (map (write_item state pairs) (items_of known)) scene) (attrs_come attrs scene sight before see.0 covers) (block known scene (inside_element s) sight (before ++ ws) stands repeated see.1 fits flag.1 (covers_more state keyed before ws scene sight covers)),
        covers_more state keyed before (ws ++ write_all (map (write_item state pairs) (items_of known)) scene) scene sight covers,
      )
  by_form (level.Text text) scene s sight before stands repeated sees fits flags covers =
      (refl, covers_more state keyed before [] scene sight covers)
  by_form (level.Shown id expr) scene s sight before stands repeated sees fits flags covers =
      (and_both _ _ (reads_come state keyed before scene sight expr covers sees) refl, covers_more state keyed before (put id (derived kind.Memo expr) scene) scene sight covers)

  pub item_comes : (item : Item) → ItemComes item
  item_comes = ind-Item ItemComes (λ x y is. subst (λ z. ItemComes (roll-Item z)) is (rolled (map-Item Proven Item (λ k. k.0) y) (by_form y)))

  -- items one after another, at the top
  pub text_comes : (items : List Item) (scene : Scene) (s : Standing) (sight : Sight) (before : List Written) → list_all (λ item. item_stands item s) items ≡ true → s.repeated ≡ is_some scene.row → items_see items sight ≡ true → list_all (item_fits (store_fits state)) items ≡ true → AreKeyed keyed (items_keyed items (is_some scene.row)) → Covers state keyed before scene sight → names_come_before keyed before (write_items state pairs items scene) ≡ true
  text_comes [] scene s sight before stands repeated sees fits flags covers = refl
  text_comes (item ∷ items) scene s sight before stands repeated sees fits flags covers =
      let stand = and_cases (item_stands item s) (list_all (λ item. item_stands item s) items) stands in
      let see = and_cases ((item_sees item).is_right sight) (items_see items (record sight { known = (item_sees item).declares ++ sight.known })) sees in
      let fit = and_cases (item_fits (store_fits state) item) (list_all (item_fits (store_fits state)) items) fits in
      let flag = keyed-append keyed (item_keyed item (is_some scene.row)) (items_keyed items (is_some scene.row)) flags in
      let first = item_comes item scene s sight before stand.0 repeated see.0 fit.0 flag.0 covers in
      names-append keyed before (write_item state pairs item scene) (write_items state pairs items scene) first.0
      (text_comes items scene s (record sight { known = (item_sees item).declares ++ sight.known }) (before ++ write_item state pairs item scene) stand.1 repeated see.1 fit.1 flag.1 first.1)

-- nothing is seen at the top
nothing_covers : (state : State) (keyed : ℕ → Bool) → Covers state keyed [] at_top nothing_seen
nothing_covers state keyed = record { values = λ id is. cc; stores = λ n. tt; parts = λ id is. cc }

pub names_come : (component : Component) (state : State) → IsKept component → RowsFit component state → names_come_before (is_keyed component) [] (written_in component state) ≡ true
names_come component state kept fits = at (state.live 0)
  where
    at : (live : Bool) → names_come_before (is_keyed component) [] (if live then write_items state (pairs_among component.items) component.items at_top else []) ≡ true
    at true = text_comes state (is_keyed component) (pairs_among component.items) component.items at_top standing_at_top nothing_seen [] kept.stand refl kept.see fits.stores (flags_right component.items kept.numbered.ids) (nothing_covers state (is_keyed component))
    at false = refl
