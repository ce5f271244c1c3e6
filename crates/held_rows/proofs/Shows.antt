-- What the rows show of held state, against what is held and what was written.
use Rattle.std.proofs.Common.{◌≡◌, ℕ, zero, suc, ◌+◌, ◌<◌, ◌⊎◌, inl, inr, ◌==◌, ◌&&◌, ◌||◌, not, nat_le, if◌then◌else◌, Bool, true, false, List, [], ◌∷◌, map, length, get_or, Option, Some, None, is_some, slice_get, refl, sym, ap, subst, ◌∙◌, arith}
use Rattle.std.specs.Prelude.{unwrap_or}
use Rattle.std.specs.List.{list_all, list_any}
use Rattle.std.specs.Option.{option_map, option_map_or}
use Rattle.std.proofs.lemmas.Bool.{eqb-true}
use Rattle.std.proofs.lemmas.Option.{slice_get_within}
use Rattle.values.specs.declared.code.Code.{Code}
use Rattle.values.specs.declared.code.Code.TheVariants.{Empty}
use Rattle.values.specs.declared.plan.Kind.{Kind}
use Rattle.values.specs.declared.plan.Kind.TheVariants as kind
use Rattle.values.specs.declared.plan.Noted.{Noted}
use Rattle.values.specs.declared.plan.PlanNode.{PlanNode}
use Rattle.values.specs.Evaluation.{is_same}
use Rattle.store_fields.specs.declared.row.Row.{Row}
use Rattle.store_fields.specs.Edits.{KeyedRows, with_rows}
use Rattle.component_items.specs.declared.component.Component.{Component}
use Rattle.component_items.specs.Kept.{IsKept}
use Rattle.plain_evaluation.specs.Changed.{store_in, store_of}
use Rattle.plain_evaluation.specs.Fits.{keys_differ, RowsFit}
use Rattle.plain_evaluation.specs.Held.{Holding, nothing, value, stored, arrived, Held, holding_of, is_live, value_in, rows_in, value_held, rows_held}
use Rattle.plain_evaluation.specs.Keyed.{is_keyed}
use Rattle.plain_evaluation.specs.Origins.{source, Origin, told_of, origin_of, origin_in}
use Rattle.plain_evaluation.specs.Place.{Place, place_at, outside}
use Rattle.plain_evaluation.specs.Scratch.{seen_from, value_said, scratch_in}
use Rattle.plain_evaluation.specs.Sound.{Among}
use Rattle.plain_evaluation.specs.Written.{State, state_of, RowAround, Says, given, loaded, derived, kind_said, Written, place_of, written_in}
use Rattle.plain_evaluation.proofs.Differ.{places_are_apart}
use Rattle.plain_evaluation.proofs.Fitting.{rows_of_held}
use Rattle.plain_evaluation.proofs.Makes.{makes_sense}
use Rattle.plain_evaluation.proofs.Origins.{have_origins}
use Rattle.plain_evaluation.proofs.Places.{and_cases, code_itself, not_true, or_right}
use Rattle.plain_evaluation.proofs.Solves.{solves}
use Rattle.plan_meaning.specs.Layout.{rows_of, places_of, row_of, node_of, plan_of}
use Rattle.plan_meaning.specs.There.{has_row, is_there}
use Rattle.plan_meaning.specs.Told.{kind_of_id, owner_of_id, store_of_id}
use Rattle.plan_meaning.proofs.Rows.{are_apart, row_among, row_got, among_has, at_map, map_at, true_or_false}
use Rattle.plan_meaning.proofs.There.{due}
use Rattle.held_state.specs.Holds.{signal_form, form_of}
use Rattle.held_state.specs.State.{HeldState, IsOf}
use Rattle.run_meaning.specs.Edits.{after_writes, written_at, fields_from, row_written, holding_written, holdings_written, held_written}
use Rattle.run_meaning.specs.Entries.{last_write}
use Rattle.run_meaning.specs.Opened.{Opened, at_dead, target_at, row_in, opening_code, opened_of}
use Rattle.held_rows.specs.Shown.{shown_at, fields_shown, row_shown, holding_shown, holdings_shown, held_shown}
use Rattle.held_rows.proofs.AtStart.{value_told, signal_held, store_fits, field_told}
use Rattle.held_rows.proofs.Given.{IsField, GivenSo, are_given}
use Rattle.held_rows.proofs.Shown.{holding_here}

-- ---- rows of a store

any_at : (key : Code) (rows : List Row) (n : ℕ) (row : Row) → slice_get rows n ≡ Some row → key ≡ row.key → list_any (λ (other : Row). is_same key other.key) rows ≡ true
any_at key [] n row is same = cc
any_at key (r ∷ rows) zero row is same =
    let e : r ≡ row = cc in
    let here : is_same key r.key ≡ true = ap (λ (k : Code). is_same k r.key) (same ∙ ap (λ (x : Row). x.key) (sym e)) ∙ code_itself r.key in
    ap (λ (b : Bool). b || list_any (λ (other : Row). is_same key other.key) rows) here
any_at key (r ∷ rows) (suc n) row is same = or_right (is_same key r.key) (list_any (λ (other : Row). is_same key other.key) rows) (any_at key rows n row is same)

-- rows with the same key are one
same_row : (rows : List Row) (m n : ℕ) (one other : Row) → keys_differ rows ≡ true → slice_get rows m ≡ Some one → slice_get rows n ≡ Some other → one.key ≡ other.key → one ≡ other
same_row [] m n one other differ at_m at_n same = cc
same_row (r ∷ rows) zero zero one other differ at_m at_n same = cc
same_row (r ∷ rows) zero (suc n) one other differ at_m at_n same =
    let both = and_cases (not (list_any (λ (x : Row). is_same r.key x.key) rows)) (keys_differ rows) differ in
    let e : r ≡ one = cc in
    absurd (true_or_false _ (any_at r.key rows n other at_n (ap (λ (x : Row). x.key) e ∙ same)) (not_true _ both.0))
same_row (r ∷ rows) (suc m) zero one other differ at_m at_n same =
    let both = and_cases (not (list_any (λ (x : Row). is_same r.key x.key) rows)) (keys_differ rows) differ in
    let e : r ≡ other = cc in
    absurd (true_or_false _ (any_at r.key rows m one at_m (ap (λ (x : Row). x.key) e ∙ sym same)) (not_true _ both.0))
same_row (r ∷ rows) (suc m) (suc n) one other differ at_m at_n same = same_row rows m n one other (and_cases (not (list_any (λ (x : Row). is_same r.key x.key) rows)) (keys_differ rows) differ).1 at_m at_n same

wide_at : (width : ℕ) (rows : List Row) (n : ℕ) (row : Row) → list_all (λ (r : Row). length r.fields == width) rows ≡ true → slice_get rows n ≡ Some row → length row.fields ≡ width
wide_at width [] n row all is = cc
wide_at width (r ∷ rows) zero row all is =
    let e : r ≡ row = cc in
    let first = (and_cases (length r.fields == width) (list_all (λ (x : Row). length x.fields == width) rows) all).0 in
    subst (λ (x : Row). length x.fields ≡ width) e (eqb-true (length r.fields) width first)
wide_at width (r ∷ rows) (suc n) row all is = wide_at width rows n row (and_cases (length r.fields == width) (list_all (λ (x : Row). length x.fields == width) rows) all).1 is

-- what has rows is a store
has_rows : (h : Holding) (n : ℕ) (row : Row) → slice_get (rows_in h) n ≡ Some row → (store : KeyedRows) × (h ≡ stored store) × (slice_get store.rows n ≡ Some row)
has_rows nothing n row is = cc
has_rows (value code) n row is = cc
has_rows (stored store) n row is = (store, refl, is)
has_rows (arrived key) n row is = cc

has_value : (h : Holding) → form_of h ≡ signal_form → h ≡ value (value_in h)
has_value nothing is = cc
has_value (value code) is = refl
has_value (stored store) is = cc
has_value (arrived key) is = cc

-- what is told to be a source is given
said : (says : Says) (k : Kind) → told_of says ≡ source k → (code : Code) × (says ≡ given k code)
said (given kind code) k is = let e : kind ≡ k = cc in (code, ap (λ (j : Kind). given j code) e)
said (loaded pairs key) k is = cc
said (derived kind expr) k is = cc

value_given : (says : Says) (k : Kind) (code : Code) (id : ℕ) (seen : ℕ → Code) → says ≡ given k code → value_said says id seen ≡ code
value_given says k code id seen is = ap (λ (s : Says). value_said s id seen) is

fields_got : (places : List Place) (values : ℕ → Code) (id : ℕ) (key : Code) (codes : List Code) (n : ℕ) (code : Code) → slice_get codes n ≡ Some code → slice_get (fields_shown places values id key codes) n ≡ Some (shown_at places values (id + n) (Some key) code)
fields_got places values id key [] n code is = cc
fields_got places values id key (c ∷ codes) zero code is =
    let e : c ≡ code = cc in
    let here : id ≡ id + 0 = omega arith in
    λ i. Some (shown_at places values (here i) (Some key) (e i))
fields_got places values id key (c ∷ codes) (suc n) code is =
    let here : suc id + n ≡ id + suc n = omega arith in
    fields_got places values (suc id) key codes n code is ∙ ap (λ (k : ℕ). Some (shown_at places values k (Some key) code)) here

row_of_target : (found : Option ℕ) → row_in (target_at found) ≡ found
row_of_target None = refl
row_of_target (Some n) = refl

module _ (component : Component) (state : HeldState) (kept : IsKept component) (is : IsOf component state) where
  abbrev held : Held
  held = state.held

  abbrev seen : State
  seen = state_of state.held

  abbrev ws : List Written
  ws = written_in component seen

  abbrev places : List Place
  places = places_of ws

  fits : RowsFit component seen
  fits = rows_of_held component state.held is.fits

  -- the row of a line
  line_row : (row : ℕ) (w : Written) → slice_get (rows_of ws) row ≡ Some w → row_of places (place_of w) ≡ Some row
  line_row row w at = are_apart ws (places_are_apart component seen kept fits) row (place_of w) (at_map place_of (rows_of ws) row w at)

  -- the owner of what has a row is live
  owner_live : (p : Place) (row : ℕ) → row_of places p ≡ Some row → is_live held (owner_of_id component p.id) ≡ true
  owner_live p row found =
      let one = map_at place_of (rows_of ws) row p (row_got places p row found) in
      let there = subst (λ (q : Place). is_there component seen q ≡ true) one.2 (due component seen kept fits (place_of one.0) (among_has ws one.0 (row_among ws row one.0 one.1))) in
      let whole = and_cases (is_some (kind_of_id component p.id) && is_live held (owner_of_id component p.id)) (has_row seen (store_of_id component p.id) p.key) there in
      (and_cases (is_some (kind_of_id component p.id)) (is_live held (owner_of_id component p.id)) whole.0).1

  module _ (values : ℕ → Code) where
    -- ---- rows that show just what is held

    module _ (shown : held_shown places values held ≡ held) where
      holds : (id : ℕ) → holding_shown places values id (holding_of held id) ≡ holding_of held id
      holds id = sym (holding_here places values held id) ∙ ap (λ (h : Held). holding_of h id) shown

      signal_row : (row : ℕ) (w : Written) (code : Code) → slice_get (rows_of ws) row ≡ Some w → w.says ≡ given kind.Signal code → (w.scene.row ≡ None) × (code ≡ value_held held w.id) → values row ≡ code
      signal_row row w code at says given_so =
          let place : outside w.id ≡ place_of w = ap (λ (r : Option RowAround). place_at w.id (option_map (λ (x : RowAround). x.key) r)) (sym given_so.0) in
          let found : row_of places (outside w.id) ≡ Some row = ap (row_of places) place ∙ line_row row w at in
          let told : (origin_in component w.id).told ≡ source kind.Signal = ap (λ (o : Origin). o.told) (have_origins component seen kept fits w (row_among ws row w at)) ∙ ap told_of says in
          let form = signal_held component kept state is w.id told (owner_live (outside w.id) row found) in
          let has : holding_of held w.id ≡ value (value_held held w.id) = has_value (holding_of held w.id) form in
          let same : value (shown_at places values w.id None (value_held held w.id)) ≡ value (value_held held w.id) = ap (holding_shown places values w.id) (sym has) ∙ holds w.id ∙ has in
          sym (ap (λ (o : Option ℕ). option_map_or values o (value_held held w.id)) found) ∙ ap value_in same ∙ sym given_so.1

      field_row : (row : ℕ) (w : Written) (code : Code) → slice_get (rows_of ws) row ≡ Some w → IsField seen w.id w.scene.row code → values row ≡ code
      field_row row w code at one =
          let store = has_rows (holding_of held one.store) one.place one.row one.row_at in
          let same : stored (with_rows store.0 (map (row_shown places values one.store) store.0.rows)) ≡ stored store.0 = ap (holding_shown places values one.store) (sym store.1) ∙ holds one.store ∙ store.1 in
          let rows : map (row_shown places values one.store) store.0.rows ≡ store.0.rows = ap rows_in same in
          let twice : Some (row_shown places values one.store one.row) ≡ Some one.row = sym (at_map (row_shown places values one.store) store.0.rows one.place one.row store.2) ∙ ap (λ (rs : List Row). slice_get rs one.place) rows ∙ store.2 in
          let row_same : row_shown places values one.store one.row ≡ one.row = cc in
          let fields : fields_shown places values (2 + one.store) one.row.key one.row.fields ≡ one.row.fields = ap (λ (r : Row). r.fields) row_same in
          let codes : Some (shown_at places values (2 + one.store + one.field) (Some one.row.key) code) ≡ Some code = sym (fields_got places values (2 + one.store) one.row.key one.row.fields one.field code one.code_at) ∙ ap (λ (cs : List Code). slice_get cs one.field) fields ∙ one.code_at in
          let code_same : shown_at places values (2 + one.store + one.field) (Some one.row.key) code ≡ code = cc in
          let place : place_at (2 + one.store + one.field) (Some one.row.key) ≡ place_of w = λ i. place_at (sym one.id_is i) (ap (λ (r : Option RowAround). option_map (λ (x : RowAround). x.key) r) (sym one.around_is) i) in
          let found : row_of places (place_at (2 + one.store + one.field) (Some one.row.key)) ≡ Some row = ap (row_of places) place ∙ line_row row w at in
          sym (ap (λ (o : Option ℕ). option_map_or values o code) found) ∙ code_same

      pub shows_held : (row : ℕ) (w : Written) (k : Kind) (code : Code) → slice_get (rows_of ws) row ≡ Some w → w.says ≡ given k code → values row ≡ code
      shows_held row w k code at says = by k says (subst (λ (s : Says). GivenSo seen w.id w.scene.row s) says (are_given component seen kept w (row_among ws row w at)))
        where
          by : (j : Kind) → w.says ≡ given j code → GivenSo seen w.id w.scene.row (given j code) → values row ≡ code
          by kind.Signal said so = signal_row row w code at said so
          by kind.Field said so = field_row row w code at so
          by kind.Load said so = absurd so
          by kind.Memo said so = absurd so
          by kind.Effect said so = absurd so

    -- ---- rows that show what was written

    module _ (es : List Noted)
        (latest : (n : ℕ) (node : PlanNode) → slice_get (plan_of component seen).nodes n ≡ Some node → (node.kind ≡ kind.Signal) ⊎ (node.kind ≡ kind.Field) → values n ≡ unwrap_or (last_write es n) (opening_code (opened_of component held) n)) where
      abbrev o : Opened
      o = opened_of component held

      -- a given line's row has its last write, or what is given
      given_row : (n : ℕ) (w : Written) (k : Kind) (code : Code) → slice_get (rows_of ws) n ≡ Some w → w.says ≡ given k code → (k ≡ kind.Signal) ⊎ (k ≡ kind.Field) → values n ≡ unwrap_or (last_write es n) code
      given_row n w k code at says source_kind =
          let node : slice_get (plan_of component seen).nodes n ≡ Some (node_of (is_keyed component) places w) = at_map (node_of (is_keyed component) places) (rows_of ws) n w at in
          let kind_is : kind_said w.says ≡ k = ap kind_said says in
          let scratch : scratch_in component seen (place_of w) ≡ code = solves (is_keyed component) ws (makes_sense component seen kept fits) w (row_among ws n w at) ∙ value_given w.says k code w.id (seen_from (is_keyed component) (scratch_in component seen) w.scene) says in
          let opening : opening_code o n ≡ code = ap (λ (c : Option Code). unwrap_or c Empty) (at_map (scratch_in component seen) places n (place_of w) (at_map place_of (rows_of ws) n w at)) ∙ scratch in
          latest n (node_of (is_keyed component) places w) node (elim source_kind [ inl e ↦ inl (kind_is ∙ e) | inr e ↦ inr (kind_is ∙ e) ]) ∙ ap (unwrap_or (last_write es n)) opening

      -- a place takes its last write, where it has a row
      at_place : (id : ℕ) (key : Option Code) (code : Code) → ((n : ℕ) → row_of places (place_at id key) ≡ Some n → values n ≡ unwrap_or (last_write es n) code) → shown_at places values id key code ≡ written_at o es id key code
      at_place id key code right = by (row_of places (place_at id key)) refl (is_live held (owner_of_id component id)) refl
        where
          by : (found : Option ℕ) → row_of places (place_at id key) ≡ found → (live : Bool) → is_live held (owner_of_id component id) ≡ live → shown_at places values id key code ≡ written_at o es id key code
          by None none live lives = (λ i. option_map_or values (none i) code) ∙ dead live ∙ sym (λ i. after_writes es (row_in (if lives i then target_at (none i) else at_dead (owner_of_id component id))) code)
            where
              dead : (b : Bool) → code ≡ after_writes es (row_in (if b then target_at None else at_dead (owner_of_id component id))) code
              dead true = refl
              dead false = refl
          by (Some n) found true lives = (λ i. option_map_or values (found i) code) ∙ right n found ∙ sym (λ i. after_writes es (row_in (if lives i then target_at (found i) else at_dead (owner_of_id component id))) code)
          by (Some n) found false lives = absurd (true_or_false (is_live held (owner_of_id component id)) (owner_live (place_at id key) n found) lives)

      -- ---- signals

      value_line : (id : ℕ) (code : Code) → holding_of held id ≡ value code → (n : ℕ) (w : Written) → slice_get (rows_of ws) n ≡ Some w → w.id ≡ id → values n ≡ unwrap_or (last_write es n) code
      value_line id code has n w at id_is =
          let among = row_among ws n w at in
          let told : told_of w.says ≡ source kind.Signal = sym (ap (λ (x : Origin). x.told) (have_origins component seen kept fits w among)) ∙ ap (λ (m : ℕ). (origin_in component m).told) id_is ∙ value_told component kept state is id (ap form_of has) in
          let says = said w.says kind.Signal told in
          let so : GivenSo seen w.id w.scene.row (given kind.Signal says.0) = subst (λ (s : Says). GivenSo seen w.id w.scene.row s) says.1 (are_given component seen kept w among) in
          let code_is : says.0 ≡ code = so.1 ∙ ap (value_held held) id_is ∙ ap value_in has in
          given_row n w kind.Signal says.0 at says.1 (inl refl) ∙ ap (unwrap_or (last_write es n)) code_is

      value_right : (id : ℕ) (code : Code) → holding_of held id ≡ value code → (n : ℕ) → row_of places (place_at id None) ≡ Some n → values n ≡ unwrap_or (last_write es n) code
      value_right id code has n found =
          let one = map_at place_of (rows_of ws) n (place_at id None) (row_got places (place_at id None) n found) in
          value_line id code has n one.0 one.1 (ap (λ (p : Place). p.id) one.2)

      -- ---- fields

      module _ (id : ℕ) (store : KeyedRows) (has : holding_of held id ≡ stored store) where
        was : store_of held id ≡ Some store
        was = ap store_in has

        -- what is told of the line of a field
        field_line : (field : ℕ) (w : Written) → Among ws w → w.id ≡ 2 + id + field → field < store.width → (told_of w.says ≡ source kind.Field) × (option_map (λ (x : RowAround). x.store) w.scene.row ≡ Some id)
        field_line field w among id_is lt =
            let origin : origin_in component (2 + id + field) ≡ origin_of w = sym (ap (origin_in component) id_is) ∙ have_origins component seen kept fits w among in
            let text = field_told component kept state is id store field was lt in
            (sym (ap (λ (x : Origin). x.told) origin) ∙ text.0, sym (ap (λ (x : Origin). x.around.store) origin) ∙ text.1)

        -- a code of this field, in the row with this key, is that of the row
        field_same : (place : ℕ) (row : Row) (field : ℕ) (code : Code) (own : ℕ) (around : Option RowAround) (other : Code) → IsField seen own around other → own ≡ 2 + id + field → option_map (λ (x : RowAround). x.store) around ≡ Some id → option_map (λ (x : RowAround). x.key) around ≡ Some row.key → slice_get store.rows place ≡ Some row → slice_get row.fields field ≡ Some code → other ≡ code
        field_same place row field code own around other so id_is stores keys row_at code_at =
            let store_here : Some so.store ≡ Some id = sym (ap (λ (r : Option RowAround). option_map (λ (x : RowAround). x.store) r) so.around_is) ∙ stores in
            let store_is : so.store ≡ id = cc in
            let key_here : Some so.row.key ≡ Some row.key = sym (ap (λ (r : Option RowAround). option_map (λ (x : RowAround). x.key) r) so.around_is) ∙ keys in
            let key_is : so.row.key ≡ row.key = cc in
            let field_is : so.field ≡ field = (let e = so.id_is in omega arith) in
            let held_rows : rows_held held id ≡ store.rows = ap rows_in has in
            let differ : keys_differ store.rows ≡ true = ap keys_differ (sym held_rows) ∙ is.fits.keys id in
            let there : slice_get store.rows so.place ≡ Some so.row = ap (λ (rs : List Row). slice_get rs so.place) (sym held_rows ∙ ap (rows_held held) (sym store_is)) ∙ so.row_at in
            let row_is : so.row ≡ row = same_row store.rows so.place place so.row row differ there row_at key_is in
            let codes : Some other ≡ Some code = sym so.code_at ∙ (λ i. slice_get (row_is i).fields (field_is i)) ∙ code_at in
            cc

        line_right : (place : ℕ) (row : Row) (field : ℕ) (code : Code) → slice_get store.rows place ≡ Some row → slice_get row.fields field ≡ Some code → field < store.width → (n : ℕ) (w : Written) → slice_get (rows_of ws) n ≡ Some w → place_of w ≡ place_at (2 + id + field) (Some row.key) → values n ≡ unwrap_or (last_write es n) code
        line_right place row field code row_at code_at lt n w at place_is =
            let among = row_among ws n w at in
            let line = field_line field w among (ap (λ (p : Place). p.id) place_is) lt in
            let says = said w.says kind.Field line.0 in
            let so : IsField seen w.id w.scene.row says.0 = subst (λ (s : Says). GivenSo seen w.id w.scene.row s) says.1 (are_given component seen kept w among) in
            let code_is : says.0 ≡ code = field_same place row field code w.id w.scene.row says.0 so (ap (λ (p : Place). p.id) place_is) line.1 (ap (λ (p : Place). p.key) place_is) row_at code_at in
            given_row n w kind.Field says.0 at says.1 (inr refl) ∙ ap (unwrap_or (last_write es n)) code_is

        field_right : (place : ℕ) (row : Row) (field : ℕ) (code : Code) → slice_get store.rows place ≡ Some row → slice_get row.fields field ≡ Some code → field < store.width → (n : ℕ) → row_of places (place_at (2 + id + field) (Some row.key)) ≡ Some n → values n ≡ unwrap_or (last_write es n) code
        field_right place row field code row_at code_at lt n found =
            let one = map_at place_of (rows_of ws) n (place_at (2 + id + field) (Some row.key)) (row_got places (place_at (2 + id + field) (Some row.key)) n found) in
            line_right place row field code row_at code_at lt n one.0 one.1 one.2

        fields_alike : (first : ℕ) (key : Code) (codes : List Code) → ((n : ℕ) (code : Code) → slice_get codes n ≡ Some code → shown_at places values (first + n) (Some key) code ≡ written_at o es (first + n) (Some key) code) → fields_shown places values first key codes ≡ fields_from o es first key codes
        fields_alike first key [] each = refl
        fields_alike first key (code ∷ codes) each =
            let here : first + 0 ≡ first = omega arith in
            let one : shown_at places values first (Some key) code ≡ written_at o es first (Some key) code = subst (λ (m : ℕ). shown_at places values m (Some key) code ≡ written_at o es m (Some key) code) here (each 0 code refl) in
            λ i. one i ∷ fields_alike (suc first) key codes (λ n c at. (let next : first + suc n ≡ suc first + n = omega arith in subst (λ (m : ℕ). shown_at places values m (Some key) c ≡ written_at o es m (Some key) c) next (each (suc n) c at))) i

        rows_alike : (rows : List Row) → ((n : ℕ) (row : Row) → slice_get rows n ≡ Some row → row_shown places values id row ≡ row_written o es id row) → map (row_shown places values id) rows ≡ map (row_written o es id) rows
        rows_alike [] each = refl
        rows_alike (row ∷ rows) each = λ i. each 0 row refl i ∷ rows_alike rows (λ n r at. each (suc n) r at) i

        row_alike : (place : ℕ) (row : Row) → slice_get store.rows place ≡ Some row → row_shown places values id row ≡ row_written o es id row
        row_alike place row row_at = ap (λ (fs : List Code). record row { fields = fs }) (fields_alike (2 + id) row.key row.fields (λ n code at. at_place (2 + id + n) (Some row.key) code (field_right place row n code row_at at (below n code at))))
          where
            below : (n : ℕ) (code : Code) → slice_get row.fields n ≡ Some code → n < store.width
            below n code at =
                let within = slice_get_within row.fields n code at in
                let long : length row.fields ≡ store.width = wide_at store.width store.rows place row (and_cases (list_all (λ (r : Row). length r.fields == store.width) store.rows) (nat_le (length store.rows) store.max) (store_fits component kept state is id store was)).0 row_at in
                omega arith

        store_alike : holding_shown places values id (stored store) ≡ holding_written o es id (stored store)
        store_alike = ap (λ (rs : List Row). stored (with_rows store rs)) (rows_alike store.rows row_alike)

      -- ---- all of it

      holding_alike : (id : ℕ) → holding_shown places values id (holding_of held id) ≡ holding_written o es id (holding_of held id)
      holding_alike id = by (holding_of held id) refl
        where
          by : (h : Holding) → holding_of held id ≡ h → holding_shown places values id h ≡ holding_written o es id h
          by nothing has = refl
          by (value code) has = ap value (at_place id None code (value_right id code has))
          by (stored store) has = store_alike id store has
          by (arrived key) has = refl

      holdings_alike : (hs : List Holding) (first : ℕ) → ((n : ℕ) → holding_shown places values (first + n) (get_or hs n nothing) ≡ holding_written o es (first + n) (get_or hs n nothing)) → holdings_shown places values first hs ≡ holdings_written o es first hs
      holdings_alike [] first each = refl
      holdings_alike (h ∷ hs) first each =
          let here : first + 0 ≡ first = omega arith in
          let one : holding_shown places values first h ≡ holding_written o es first h = subst (λ (m : ℕ). holding_shown places values m h ≡ holding_written o es m h) here (each 0) in
          λ i. one i ∷ holdings_alike hs (suc first) (λ n. (let next : first + suc n ≡ suc first + n = omega arith in subst (λ (m : ℕ). holding_shown places values m (get_or hs n nothing) ≡ holding_written o es m (get_or hs n nothing)) next (each (suc n)))) i

      pub shows_written : held_shown places values held ≡ held_written o es
      shows_written = ap (λ (hs : List Holding). record held { holdings = hs }) (holdings_alike held.holdings 0 (λ n. (let here : n ≡ 0 + n = omega arith in subst (λ (m : ℕ). holding_shown places values m (holding_of held n) ≡ holding_written o es m (holding_of held n)) here (holding_alike n))))
