-- Settled values are those of plain evaluation: by place in the text, since a load stands behind its key there.
use Rattle.std.proofs.Common.{◌≡◌, ◌≢◌, ℕ, suc, inl, inr, ◌&&◌, ◌||◌, not, Bool, true, false, List, [], ◌∷◌, ◌++◌, slice_get, Contains, Option, Some, None, refl, sym, ap, subst, ◌∙◌, append_assoc, arith}
use Rattle.std.specs.List.{list_all, list_any}
use Rattle.values.specs.declared.code.Code.{Code}
use Rattle.values.specs.declared.expr.Expr.{Expr}
use Rattle.values.specs.declared.plan.Kind.{Kind}
use Rattle.values.specs.declared.plan.Kind.TheVariants as kind
use Rattle.values.specs.declared.plan.PlanNode.{PlanNode}
use Rattle.values.specs.Evaluation.{value_of}
use Rattle.values.specs.PlanValues.{is_derived, value_at}
use Rattle.values.proofs.Evaluation.{value_of-Lit, value_of-Read}
use Rattle.values.proofs.PlanLemmas.{reads_named}
use Rattle.values.proofs.ReadsLemmas.{same_by_reads}
use Rattle.component_items.specs.declared.component.Component.{Component}
use Rattle.component_items.specs.Kept.{IsKept}
use Rattle.plain_evaluation.specs.Fits.{RowsFit}
use Rattle.plain_evaluation.specs.Keyed.{Stand, literal, place, stands_in, stands_for, is_keyed}
use Rattle.plain_evaluation.specs.Place.{Place, same_place, outside}
use Rattle.plain_evaluation.specs.Scratch.{Values, value_for, seen_from, load_value, value_said, scratch_in}
use Rattle.plain_evaluation.specs.Sound.{Among, is_effect, is_named, comes_before, ids_read, names_come_before}
use Rattle.plain_evaluation.specs.Written.{State, RowAround, Says, given, loaded, derived, kind_said, Written, place_of, written_in}
use Rattle.plain_evaluation.proofs.Every.{Every, every_among}
use Rattle.plain_evaluation.proofs.Makes.{makes_sense}
use Rattle.plain_evaluation.proofs.Places.{and_cases, same_places}
use Rattle.plain_evaluation.proofs.Solves.{each_of, solves}
use Rattle.plan_meaning.specs.Layout.{is_computed, rows_of, places_of, row_of, read_row, read_by, expr_said, node_of, plan_of}
use Rattle.plan_meaning.specs.Settled.{AreSettled}
use Rattle.plan_meaning.specs.Values.{row_values}
use Rattle.plan_meaning.proofs.Evaluates.{value_of_row, row_evaluates}
use Rattle.plan_meaning.proofs.Lines.{key_line, are_proper}
use Rattle.plan_meaning.proofs.Renamed.{replaced}
use Rattle.plan_meaning.proofs.Rows.{row_among, among_row, are_apart, row_got, at_map, map_at, among-append}
use Rattle.plan_meaning.proofs.Told.{line_of}

-- what is named before is a line there that is no effect
named_line : (before : List Written) (p : Place) → list_any (λ w. is_named w.says && same_place (place_of w) p) before ≡ true → (v : Written) × Among before v × (is_named v.says ≡ true) × (place_of v ≡ p)
named_line [] p has = cc
named_line (x ∷ before) p has = at (is_named x.says) refl (same_place (place_of x) p) refl has (named_line before p)
  where
    at : (n : Bool) → is_named x.says ≡ n → (s : Bool) → same_place (place_of x) p ≡ s → ((n && s) || list_any (λ w. is_named w.says && same_place (place_of w) p) before) ≡ true → (list_any (λ w. is_named w.says && same_place (place_of w) p) before ≡ true → (v : Written) × Among before v × (is_named v.says ≡ true) × (place_of v ≡ p)) → (v : Written) × Among (x ∷ before) v × (is_named v.says ≡ true) × (place_of v ≡ p)
    at true named true same has later = (x, inl refl, named, same_places (place_of x) p same)
    at true named false same has later = let one = later has in (one.0, inr one.1, one.2, one.3)
    at false named s same has later = let one = later has in (one.0, inr one.1, one.2, one.3)

memo_named : (k : Kind) (e : Expr) → is_derived k ≡ true → is_named (derived k e) ≡ true → k ≡ kind.Memo
memo_named kind.Signal e d n = cc
memo_named kind.Field e d n = cc
memo_named kind.Load e d n = cc
memo_named kind.Memo e d n = refl
memo_named kind.Effect e d n = cc

module _ (component : Component) (state : State) (kept : IsKept component) (fits : RowsFit component state) (values : ℕ → Code) (settled : AreSettled component state values) where
  abbrev ws : List Written
  ws = written_in component state

  abbrev keyed : ℕ → Bool
  keyed = is_keyed component

  abbrev final : Values
  final = scratch_in component state

  -- a line has its value
  abbrev HasValue : Written → Type 0
  HasValue w = is_named w.says ≡ true → (row : ℕ) → slice_get (rows_of ws) row ≡ Some w → values row ≡ final (place_of w)

  row_of_line : (w : Written) (row : ℕ) → slice_get (rows_of ws) row ≡ Some w → row_of (places_of ws) (place_of w) ≡ Some row
  row_of_line w row is = are_apart ws (makes_sense component state kept fits).differ row (place_of w) (at_map place_of (rows_of ws) row w is)

  -- what is named before is read as it is
  stand_value : (before : List Written) → ((v : Written) → Among before v → Among ws v × HasValue v) → (stand : Stand) → comes_before before stand ≡ true → value_of (read_by (places_of ws) stand) values ≡ value_for final stand
  stand_value before have (literal code) comes = value_of-Lit code values
  stand_value before have (place p) comes =
      let line = named_line before p comes in
      let has = have line.0 line.1 in
      let row = among_row ws line.0 has.0 in
      let at_row : row_of (places_of ws) p ≡ Some row.0 = subst (λ q. row_of (places_of ws) q ≡ Some row.0) line.3 (row_of_line line.0 row.0 row.1) in
      ap (λ o. value_of (read_row o) values) at_row ∙ value_of-Read row.0 values ∙ has.1 line.2 row.0 row.1 ∙ ap final line.3

  abbrev ReadsRight : Written → Type 0
  ReadsRight w = (id : ℕ) → Contains (ids_read w.says w.id) id → value_of (read_by (places_of ws) (stands_for keyed w.scene id)) values ≡ value_for final (stands_for keyed w.scene id)

  -- the value of an expression over settled values
  expr_value : (w : Written) → Among ws w → (k : Kind) (e : Expr) → w.says ≡ derived k e → ReadsRight w → value_of (node_of keyed (places_of ws) w).expr values ≡ final (place_of w)
  expr_value w among k e says right =
      ap (λ s. value_of (expr_said s stand) values) says
      ∙ replaced e stand values
      ∙ (same_by_reads e (λ n. value_of (stand n) values) (seen_from keyed final w.scene) (λ n read. right n (subst (λ s. Contains (ids_read s w.id) n) (sym says) (reads_named e (λ m. value_of (stand m) values) n read)))).0
      ∙ ap (λ s. value_said s w.id (seen_from keyed final w.scene)) (sym says)
      ∙ sym (solves keyed ws (makes_sense component state kept fits) w among)
    where
      stand : ℕ → Expr
      stand id = read_by (places_of ws) (stands_for keyed w.scene id)

  alone : (w : Written) (id : ℕ) → w.scene.row ≡ None → stands_for keyed w.scene id ≡ place (outside id)
  alone w id none = ap (λ (r : Option RowAround). stands_in (keyed id) r id) none

  line_value : (w : Written) → Among ws w → ReadsRight w → HasValue w
  line_value w among right named row is = by w.says refl
    where
      by : (says : Says) → w.says ≡ says → values row ≡ final (place_of w)
      by (given k code) says =
          settled.sources row w k code is says
          ∙ ap (λ s. value_said s w.id (seen_from keyed final w.scene)) (sym says)
          ∙ sym (solves keyed ws (makes_sense component state kept fits) w among)
      by (loaded pairs arrived) says =
          let load = (are_proper component state kept w among).load pairs arrived says in
          let key = among_row ws (key_line w load.1.0) load.1.1 in
          let key_place : place_of (key_line w load.1.0) ≡ outside (suc w.id) = ap (λ (r : Option RowAround). place_of (record { id = suc w.id; scene = record { owner = w.scene.owner; row = r }; says = w.says })) load.0 in
          let key_row : row_of (places_of ws) (outside (suc w.id)) ≡ Some key.0 = subst (λ q. row_of (places_of ws) q ≡ Some key.0) key_place (row_of_line (key_line w load.1.0) key.0 key.1) in
          let stand = alone w (suc w.id) load.0 in
          let seen = right (suc w.id) (subst (λ s. Contains (ids_read s w.id) (suc w.id)) (sym says) (0, omega arith, refl)) in
          settled.loads row key.0 w pairs arrived is says key_row
          ∙ ap (load_value pairs arrived) (sym (value_of-Read key.0 values) ∙ ap (λ o. value_of (read_row o) values) (sym key_row) ∙ ap (λ s. value_of (read_by (places_of ws) s) values) (sym stand) ∙ seen)
          ∙ ap (λ s. value_said s w.id (seen_from keyed final w.scene)) (sym says)
          ∙ sym (solves keyed ws (makes_sense component state kept fits) w among)
      by (derived k e) says =
          let proper = are_proper component state kept w among in
          let d : is_derived k ≡ true = ap (λ s. is_derived (kind_said s)) (sym says) ∙ proper.computed ∙ ap is_computed says in
          let memo = memo_named k e d (ap is_named (sym says) ∙ named) in
          settled.memos row (node_of keyed (places_of ws) w) (at_map (node_of keyed (places_of ws)) (rows_of ws) row w is) (ap kind_said says ∙ memo)
          ∙ expr_value w among k e says right

  reads_right : (before : List Written) → ((v : Written) → Among before v → Among ws v × HasValue v) → (w : Written) → list_all (λ id. comes_before before (stands_for keyed w.scene id)) (ids_read w.says w.id) ≡ true → ReadsRight w
  reads_right before have w come id read = stand_value before have (stands_for keyed w.scene id) (each_of (λ n. comes_before before (stands_for keyed w.scene n)) (ids_read w.says w.id) id come read)

  abbrev IsRight : Written → Type 0
  IsRight w = ReadsRight w × HasValue w

  -- down the text
  all_right : (before rest : List Written) → ws ≡ before ++ rest → names_come_before keyed before rest ≡ true → ((v : Written) → Among before v → Among ws v × HasValue v) → Every IsRight rest
  all_right before [] is come have = tt
  all_right before (w ∷ rest) is come have =
      let both = and_cases (list_all (λ id. comes_before before (stands_for keyed w.scene id)) (ids_read w.says w.id)) (names_come_before keyed (before ++ w ∷ []) rest) come in
      let among : Among ws w = subst (λ xs. Among xs w) (sym is) (among-append before (w ∷ rest) w (inr (inl refl))) in
      let right = reads_right before have w both.0 in
      let value = line_value w among right in
      ((right, value), all_right (before ++ w ∷ []) rest (is ∙ sym (append_assoc before (w ∷ []) rest)) both.1 (more before w have among value))
    where
      more : (xs : List Written) (w : Written) → ((v : Written) → Among xs v → Among ws v × HasValue v) → Among ws w → HasValue w → (v : Written) → Among (xs ++ w ∷ []) v → Among ws v × HasValue v
      more [] w have among value v (inl here) = subst (λ x. Among ws x × HasValue x) here (among, value)
      more [] w have among value v (inr none) = absurd none
      more (x ∷ xs) w have among value v (inl here) = have v (inl here)
      more (x ∷ xs) w have among value v (inr later) = more xs w (λ y there. have y (inr there)) among value v later

  every_right : Every IsRight ws
  every_right = all_right [] ws refl (makes_sense component state kept fits).back (λ v none. absurd none)

  pub settled_row : (row : ℕ) (p : Place) (node : PlanNode) → slice_get (places_of ws) row ≡ Some p → slice_get (plan_of component state).nodes row ≡ Some node → node.kind ≢ kind.Effect → values row ≡ final p
  settled_row row p node at_place at_node no_effect =
      let line = line_of component state row p node at_place at_node in
      let among = row_among ws row line.0 line.1 in
      let right = every_among IsRight ws line.0 every_right among in
      let named : is_named line.0.says ≡ true = not_effect (kind_said line.0.says) (λ effect. no_effect (ap (λ (n : PlanNode). n.kind) (sym line.3) ∙ effect)) in
      right.1 named row line.1 ∙ ap final line.2
    where
      not_effect : (k : Kind) → k ≢ kind.Effect → not (is_effect k) ≡ true
      not_effect kind.Signal h = refl
      not_effect kind.Field h = refl
      not_effect kind.Load h = refl
      not_effect kind.Memo h = refl
      not_effect kind.Effect h = absurd (h refl)

  pub settled_expr : (row : ℕ) (p : Place) (node : PlanNode) → slice_get (places_of ws) row ≡ Some p → slice_get (plan_of component state).nodes row ≡ Some node → is_derived node.kind ≡ true → value_of node.expr values ≡ final p
  settled_expr row p node at_place at_node d =
      let line = line_of component state row p node at_place at_node in
      let among = row_among ws row line.0 line.1 in
      let right = every_among IsRight ws line.0 every_right among in
      let computed : is_computed line.0.says ≡ true = sym (are_proper component state kept line.0 among).computed ∙ ap (λ (n : PlanNode). is_derived n.kind) line.3 ∙ d in
      let says = derived_says line.0.says computed in
      ap (λ (n : PlanNode). value_of n.expr values) (sym line.3) ∙ expr_value line.0 among says.0 says.1 says.2 right.0 ∙ ap final line.2
    where
      derived_says : (says : Says) → is_computed says ≡ true → (k : Kind) × (e : Expr) × (says ≡ derived k e)
      derived_says (given k code) is = cc
      derived_says (loaded pairs arrived) is = cc
      derived_says (derived k e) is = (k, e, refl)

-- ---- plain evaluation is settled

pub evaluation_settles : (component : Component) (state : State) → IsKept component → RowsFit component state → AreSettled component state (value_at (row_values component state))
evaluation_settles component state kept fits = record {
  sources = λ row w k code is says. (at_line row w is ∙ solved w (row_among ws row w is) ∙ ap (λ s. value_said s w.id (seen_from keyed final w.scene)) says);
  loads = λ row key w pairs arrived is says at_key. (
      let among = row_among ws row w is in
      let none = ((are_proper component state kept w among).load pairs arrived says).0 in
      let stand : stands_for keyed w.scene (suc w.id) ≡ place (outside (suc w.id)) = ap (λ (r : Option RowAround). stands_in (keyed (suc w.id)) r (suc w.id)) none in
      at_line row w is ∙ solved w among
      ∙ ap (λ s. value_said s w.id (seen_from keyed final w.scene)) says
      ∙ ap (load_value pairs arrived) (ap (value_for final) stand ∙ sym (value_of_row final (places_of ws) key (outside (suc w.id)) (row_got (places_of ws) (outside (suc w.id)) key at_key))));
  memos = λ row node is memo. (
      let one = map_at (node_of keyed (places_of ws)) (rows_of ws) row node is in
      let at_place = at_map place_of (rows_of ws) row one.0 one.1 in
      value_of_row final (places_of ws) row (place_of one.0) at_place
      ∙ sym (row_evaluates component state kept fits row (place_of one.0) node at_place is (ap is_derived memo) (value_at (row_values component state)) (λ source below. refl)));
}
  where
    ws : List Written
    ws = written_in component state

    keyed : ℕ → Bool
    keyed = is_keyed component

    final : Values
    final = scratch_in component state

    at_line : (row : ℕ) (w : Written) → slice_get (rows_of ws) row ≡ Some w → value_at (row_values component state) row ≡ final (place_of w)
    at_line row w is = value_of_row final (places_of ws) row (place_of w) (at_map place_of (rows_of ws) row w is)

    solved : (w : Written) → Among ws w → final (place_of w) ≡ value_said w.says w.id (seen_from keyed final w.scene)
    solved w among = solves keyed ws (makes_sense component state kept fits) w among
