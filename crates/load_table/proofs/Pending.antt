-- The loads of the table against what is pending, and against rows.
use Rattle.std.proofs.Common.{◌≡◌, ℕ, zero, suc, inl, inr, ◌&&◌, not, if◌then◌else◌, Bool, true, false, List, [], ◌∷◌, ◌++◌, map, slice_get, Some, refl, sym, ap, subst, ◌∙◌}
use Rattle.std.specs.List.{flat_map, filter}
use Rattle.values.specs.declared.plan.Kind.TheVariants as kind
use Rattle.values.specs.declared.plan.PlanNode.{PlanNode}
use Rattle.component_items.specs.declared.component.Component.{Component}
use Rattle.component_items.specs.Kept.{IsKept}
use Rattle.plain_evaluation.specs.Place.{Place, outside}
use Rattle.plain_evaluation.specs.Scratch.{Values, scratch_in, has_arrived, pending_step, pending_in}
use Rattle.plain_evaluation.specs.Sound.{Among}
use Rattle.plain_evaluation.specs.Written.{State, Says, given, loaded, derived, Written, place_of, written_in}
use Rattle.plan_meaning.specs.Layout.{rows_of, places_of, plan_of}
use Rattle.plan_meaning.specs.There.{AreNested}
use Rattle.plan_meaning.proofs.Lines.{are_proper}
use Rattle.plan_meaning.proofs.Rows.{row_among, among_row, at_map}
use Rattle.plan_meaning.proofs.Told.{line_of}
use Rattle.load_table.specs.Loads.{LoadOf, loads_in, is_live_load, is_pending, pending_among}
use Rattle.load_table.proofs.Lines.{is_loaded, loaded_of, load_line, loads_written}

-- ---- pending

abbrev pending_of : Values → List Written → List ℕ
pending_of values ws = flat_map (λ w. pending_step values w.id w.says) ws

-- only loads are pending
pending_loaded : (values : Values) (ws : List Written) → pending_of values ws ≡ pending_of values (loaded_of ws)
pending_loaded values [] = refl
pending_loaded values (w ∷ ws) = at w.says (pending_loaded values ws)
  where
    at : (says : Says) → pending_of values ws ≡ pending_of values (loaded_of ws) → pending_step values w.id says ++ pending_of values ws ≡ pending_of values (if is_loaded says then record { id = w.id; scene = w.scene; says = says } ∷ loaded_of ws else loaded_of ws)
    at (given kind code) later = later
    at (loaded pairs arrived) later = ap (λ more. pending_step values w.id (loaded pairs arrived) ++ more) later
    at (derived kind expr) later = later

pending_lines : (component : Component) (state : State) (loads : List LoadOf) → pending_of (scratch_in component state) (map (load_line component state) (filter (is_live_load component state) loads)) ≡ pending_among component state loads
pending_lines component state [] = refl
pending_lines component state (load ∷ loads) = at (is_live_load component state load) (has_arrived (state.arrived load.id) (scratch_in component state (outside (suc load.id)))) refl (pending_lines component state loads)
  where
    at : (live arrived : Bool) → has_arrived (state.arrived load.id) (scratch_in component state (outside (suc load.id))) ≡ arrived → pending_of (scratch_in component state) (map (load_line component state) (filter (is_live_load component state) loads)) ≡ pending_among component state loads → pending_of (scratch_in component state) (map (load_line component state) (if live then load ∷ filter (is_live_load component state) loads else filter (is_live_load component state) loads)) ≡ map (λ l. l.id) (if live && not arrived then load ∷ filter (is_pending component state) loads else filter (is_pending component state) loads)
    at true true is later = ap (λ (b : Bool). (if b then [] else load.id ∷ []) ++ pending_of (scratch_in component state) (map (load_line component state) (filter (is_live_load component state) loads))) is ∙ later
    at true false is later = ap (λ (b : Bool). (if b then [] else load.id ∷ []) ++ pending_of (scratch_in component state) (map (load_line component state) (filter (is_live_load component state) loads))) is ∙ ap (λ more. load.id ∷ more) later
    at false arrived is later = later

pub pending_is : (component : Component) (state : State) → IsKept component → AreNested component state → pending_in component state ≡ pending_among component state (loads_in component)
pending_is component state kept nested =
    pending_loaded (scratch_in component state) (written_in component state)
    ∙ ap (pending_of (scratch_in component state)) (loads_written component state kept nested)
    ∙ pending_lines component state (loads_in component)

-- ---- rows

pub among_filter : (f : Written → Bool) (ws : List Written) (w : Written) → Among (filter f ws) w → Among ws w
among_filter f [] w among = absurd among
among_filter f (x ∷ ws) w among = at (f x) among (among_filter f ws w)
  where
    at : (b : Bool) → Among (if b then x ∷ filter f ws else filter f ws) w → (Among (filter f ws) w → Among ws w) → Among (x ∷ ws) w
    at true (inl here) later = inl here
    at true (inr there) later = inr (later there)
    at false there later = inr (later there)

filter_among : (f : Written → Bool) (ws : List Written) (w : Written) → f w ≡ true → Among ws w → Among (filter f ws) w
filter_among f [] w passes among = absurd among
filter_among f (x ∷ ws) w passes (inl here) = at (f x) (ap f here ∙ passes)
  where
    at : (b : Bool) → b ≡ true → Among (if b then x ∷ filter f ws else filter f ws) w
    at true is = inl here
    at false is = cc
filter_among f (x ∷ ws) w passes (inr there) = at (f x) (filter_among f ws w passes there)
  where
    at : (b : Bool) → Among (filter f ws) w → Among (if b then x ∷ filter f ws else filter f ws) w
    at true later = inr later
    at false later = later

module _ (live : LoadOf → Bool) (line : LoadOf → Written) where
  line_among : (loads : List LoadOf) (place : ℕ) (load : LoadOf) → slice_get loads place ≡ Some load → live load ≡ true → Among (map line (filter live loads)) (line load)
  line_among [] place load is lives = cc
  line_among (x ∷ loads) zero load is lives = let same : x ≡ load = cc in at (live x) (ap live same ∙ lives) (ap line same)
    where
      at : (b : Bool) → b ≡ true → line x ≡ line load → Among (map line (if b then x ∷ filter live loads else filter live loads)) (line load)
      at true is here = inl here
      at false is here = cc
  line_among (x ∷ loads) (suc place) load is lives = at (live x) (line_among loads place load is lives)
    where
      at : (b : Bool) → Among (map line (filter live loads)) (line load) → Among (map line (if b then x ∷ filter live loads else filter live loads)) (line load)
      at true later = inr later
      at false later = later

  among_line : (loads : List LoadOf) (w : Written) → Among (map line (filter live loads)) w → (place : ℕ) × (load : LoadOf) × (slice_get loads place ≡ Some load) × (live load ≡ true) × (line load ≡ w)
  among_line [] w among = absurd among
  among_line (x ∷ loads) w among = at (live x) refl among (among_line loads w)
    where
      at : (b : Bool) → live x ≡ b → Among (map line (if b then x ∷ filter live loads else filter live loads)) w → (Among (map line (filter live loads)) w → (place : ℕ) × (load : LoadOf) × (slice_get loads place ≡ Some load) × (live load ≡ true) × (line load ≡ w)) → (place : ℕ) × (load : LoadOf) × (slice_get (x ∷ loads) place ≡ Some load) × (live load ≡ true) × (line load ≡ w)
      at true is (inl here) later = (0, x, refl, is, here)
      at true is (inr there) later = let one = later there in (suc one.0, one.1, one.2, one.3, one.4)
      at false is there later = let one = later there in (suc one.0, one.1, one.2, one.3, one.4)

pub load_has_row : (component : Component) (state : State) → IsKept component → AreNested component state → (place : ℕ) (load : LoadOf) → slice_get (loads_in component) place ≡ Some load → is_live_load component state load ≡ true → (row : ℕ) × (slice_get (places_of (written_in component state)) row ≡ Some (outside load.id)) × ((w : Written) × (slice_get (rows_of (written_in component state)) row ≡ Some w) × (w.says ≡ loaded load.pairs (state.arrived load.id)))
load_has_row component state kept nested place load at_place live =
    let line = load_line component state load in
    let written = subst (λ ws. Among ws line) (sym (loads_written component state kept nested)) (line_among (is_live_load component state) (load_line component state) (loads_in component) place load at_place live) in
    let row = among_row (written_in component state) line (among_filter (λ w. is_loaded w.says) (written_in component state) line written) in
    (row.0, at_map place_of (rows_of (written_in component state)) row.0 line row.1, (line, row.1, refl))

pub row_has_load : (component : Component) (state : State) → IsKept component → AreNested component state → (row : ℕ) (p : Place) (node : PlanNode) → slice_get (places_of (written_in component state)) row ≡ Some p → slice_get (plan_of component state).nodes row ≡ Some node → node.kind ≡ kind.Load → (place : ℕ) × (load : LoadOf) × (slice_get (loads_in component) place ≡ Some load) × (is_live_load component state load ≡ true) × (p ≡ outside load.id)
row_has_load component state kept nested row p node at_place at_node is_load =
    let ws : List Written = written_in component state in
    let line = line_of component state row p node at_place at_node in
    let w = line.0 in
    let among = row_among ws row w line.1 in
    let says = (are_proper component state kept w among).loads (ap (λ (n : PlanNode). n.kind) line.3 ∙ is_load) in
    let here = filter_among (λ v. is_loaded v.says) ws w (ap is_loaded says.2) among in
    let one = among_line (is_live_load component state) (load_line component state) (loads_in component) w (subst (λ xs. Among xs w) (loads_written component state kept nested) here) in
    (one.0, one.1, one.2, one.3, sym line.2 ∙ ap place_of (sym one.4))
