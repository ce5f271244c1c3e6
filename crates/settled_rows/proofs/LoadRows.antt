-- The rows of loads: what is said of them, and their values by plain evaluation.
use Rattle.std.proofs.Common.{◌≡◌, ◌⊎◌, inl, inr, ℕ, suc, if◌then◌else◌, Bool, true, List, Option, Some, None, slice_get, sym, ap, subst, ◌∙◌}
use Rattle.values.specs.declared.code.Code.{Code}
use Rattle.values.specs.declared.code.Code.TheVariants.{Empty}
use Rattle.values.specs.declared.plan.PlanNode.{PlanNode}
use Rattle.component_items.specs.declared.component.Component.{Component}
use Rattle.component_items.specs.Kept.{IsKept}
use Rattle.plain_evaluation.specs.Fits.{RowsFit}
use Rattle.plain_evaluation.specs.Held.{Held}
use Rattle.plain_evaluation.specs.Keyed.{is_keyed}
use Rattle.plain_evaluation.specs.Place.{Place, outside}
use Rattle.plain_evaluation.specs.Scratch.{value_by, load_value, scratch_in}
use Rattle.plain_evaluation.specs.Written.{State, state_of, loaded, kind_said, Written, place_of, written_in}
use Rattle.plain_evaluation.proofs.Differ.{places_are_apart}
use Rattle.plain_evaluation.proofs.Places.{code_itself}
use Rattle.plan_meaning.specs.Carried.{AreApart}
use Rattle.plan_meaning.specs.Layout.{rows_of, places_of, row_of, node_of, plan_of}
use Rattle.plan_meaning.specs.There.{AreNested}
use Rattle.plan_meaning.proofs.Evaluates.{value_of_row}
use Rattle.plan_meaning.proofs.Loads.{load_rows}
use Rattle.plan_meaning.proofs.Rows.{are_apart, row_got, at_map}
use Rattle.plan_meaning.proofs.Settled.{evaluation_settles}
use Rattle.load_table.specs.Loads.{LoadOf, loads_in, is_live_load}
use Rattle.load_table.proofs.Pending.{load_has_row, row_has_load}
use Rattle.load_meaning.specs.Polls.{key_of}
use Rattle.load_polls.specs.Shown.{load_code}
use Rattle.settled_rows.specs.Rows.{KeysStand}

-- the load of the table whose line this is
pub record IsLineOf (component : Component) (state : State) (w : Written) (pairs : List (Code × Code)) (arrived : Option Code) : Type 0 where
  pub place : ℕ
  pub load : LoadOf
  pub at : slice_get (loads_in component) place ≡ Some load
  pub live : is_live_load component state load ≡ true
  pub place_is : place_of w ≡ outside load.id
  pub pairs_are : pairs ≡ load.pairs
  pub arrived_is : arrived ≡ state.arrived load.id

module _ (component : Component) (state : State) (kept : IsKept component) (fits : RowsFit component state) where
  abbrev ws : List Written
  ws = written_in component state

  abbrev places : List Place
  places = places_of ws

  pub apart : AreApart places
  apart = are_apart ws (places_are_apart component state kept fits)

  -- a place has one row
  pub one_row : (one two : ℕ) (p q : Place) → slice_get places one ≡ Some p → slice_get places two ≡ Some q → p ≡ q → one ≡ two
  one_row one two p q at_one at_two same =
      let a : row_of places p ≡ Some one = apart one p at_one in
      let b : row_of places q ≡ Some two = apart two q at_two in
      let e : Some one ≡ Some two = sym a ∙ ap (row_of places) same ∙ b in
      cc

  module _ (row : ℕ) (w : Written) (pairs : List (Code × Code)) (arrived : Option Code) (at : slice_get (rows_of ws) row ≡ Some w) (says : w.says ≡ loaded pairs arrived) where
    at_place : slice_get places row ≡ Some (place_of w)
    at_place = at_map place_of (rows_of ws) row w at

    node : PlanNode
    node = node_of (is_keyed component) places w

    at_node : slice_get (plan_of component state).nodes row ≡ Some (node_of (is_keyed component) places w)
    at_node = at_map (node_of (is_keyed component) places) (rows_of ws) row w at

    pub line_of_load : AreNested component state → IsLineOf component state w pairs arrived
    line_of_load nested =
        let one = row_has_load component state kept nested row (place_of w) (node_of (is_keyed component) places w) at_place at_node (ap kind_said says) in
        let two = load_has_row component state kept nested one.0 one.1 one.2 one.3 in
        let same_row : row ≡ two.0 = one_row row two.0 (place_of w) (outside one.1.id) at_place two.1 one.4 in
        let same : Some w ≡ Some two.2.0 = sym at ∙ ap (slice_get (rows_of ws)) same_row ∙ two.2.1 in
        let line : w ≡ two.2.0 = cc in
        let both : loaded pairs arrived ≡ loaded one.1.pairs (state.arrived one.1.id) = sym says ∙ ap (λ (v : Written). v.says) line ∙ two.2.2 in
        record { place = one.0; load = one.1; at = one.2; live = one.3; place_is = one.4; pairs_are = cc; arrived_is = cc }

    -- its value by plain evaluation, where its key has this one
    value_of_load : (key : Code) → scratch_in component state (outside (suc w.id)) ≡ key → scratch_in component state (place_of w) ≡ load_value pairs arrived key
    value_of_load key is =
        let has = (load_rows component state kept fits row (place_of w) (node_of (is_keyed component) places w) at_place at_node (ap kind_said says)).1 in
        let at_key = row_got places (outside (suc w.id)) has.0 has.1 in
        sym (value_of_row (scratch_in component state) places row (place_of w) at_place)
        ∙ (evaluation_settles component state kept fits).loads row has.0 w pairs arrived at says has.1
        ∙ ap (load_value pairs arrived) (value_of_row (scratch_in component state) places has.0 (outside (suc w.id)) at_key ∙ is)

-- where what has arrived is the key, or nothing has
standing : (pairs : List (Code × Code)) (now : Option Code) (key : Code) → (now ≡ None) ⊎ (now ≡ Some key) → load_value pairs now key ≡ load_code pairs now
standing pairs now key (inl none) = ap (λ (o : Option Code). load_value pairs o key) none ∙ ap (load_code pairs) (sym none)
standing pairs now key (inr some) =
    ap (λ (o : Option Code). load_value pairs o key) some
    ∙ ap (λ (b : Bool). if b then value_by pairs key else Empty) (code_itself key)
    ∙ ap (load_code pairs) (sym some)

-- the row of a load has the value of its resource for the key that has arrived
pub plain_load : (component : Component) (held : Held) → IsKept component → RowsFit component (state_of held) → AreNested component (state_of held) → KeysStand component held
    → (row : ℕ) (w : Written) (pairs : List (Code × Code)) (now : Option Code) → slice_get (rows_of (written_in component (state_of held))) row ≡ Some w → w.says ≡ loaded pairs now
    → scratch_in component (state_of held) (place_of w) ≡ load_code pairs now
plain_load component held kept fits nested stand row w pairs now at says =
    let line = line_of_load component (state_of held) kept fits row w pairs now at says nested in
    let same_id : w.id ≡ line.load.id = ap (λ (p : Place). p.id) line.place_is in
    value_of_load component (state_of held) kept fits row w pairs now at says (key_of component held line.load) (ap (λ (id : ℕ). scratch_in component (state_of held) (outside (suc id))) same_id)
    ∙ standing pairs now (key_of component held line.load) (subst (λ (o : Option Code). (o ≡ None) ⊎ (o ≡ Some (key_of component held line.load))) (sym line.arrived_is) (stand line.place line.load line.at line.live))
