-- What names a load stands behind the row of that load's key.
use Rattle.std.proofs.Common.{◌≡◌, ℕ, zero, suc, ◌+◌, ◌<◌, inl, inr, ◌||◌, not, if◌then◌else◌, Bool, true, false, List, [], ◌∷◌, ◌++◌, map, length, slice_get, Contains, Option, Some, None, refl, sym, ap, subst, ◌∙◌, append_assoc, arith, length-append}
use Rattle.std.proofs.lemmas.List.Elements.{filter-append}
use Rattle.values.specs.declared.code.Code.{Code}
use Rattle.values.specs.declared.code.Code.TheVariants.{Empty}
use Rattle.values.specs.declared.expr.Expr.{Expr}
use Rattle.values.specs.declared.expr.Expr.TheVariants.{Lit}
use Rattle.values.specs.declared.plan.Kind.TheVariants as kind
use Rattle.values.specs.declared.plan.PlanNode.{PlanNode}
use Rattle.values.specs.Plan.{rows_in}
use Rattle.values.proofs.PlanLemmas.{rows_in-Lit}
use Rattle.component_items.specs.declared.component.Component.{Component}
use Rattle.component_items.specs.Kept.{IsKept}
use Rattle.plain_evaluation.specs.Fits.{RowsFit}
use Rattle.plain_evaluation.specs.Keyed.{place, stands_in, stands_for, is_keyed}
use Rattle.plain_evaluation.specs.Origins.{Origin}
use Rattle.plain_evaluation.specs.Place.{Place, outside, same_place}
use Rattle.plain_evaluation.specs.Sound.{Among, has_place, comes_before, ids_read, names_come_before, IsSound}
use Rattle.plain_evaluation.specs.Written.{State, RowAround, Says, given, loaded, derived, kind_said, Written, place_of, written_in}
use Rattle.plain_evaluation.proofs.Makes.{makes_sense}
use Rattle.plain_evaluation.proofs.Origins.{have_origins}
use Rattle.plain_evaluation.proofs.Order.{position_within, names_at}
use Rattle.plain_evaluation.proofs.Places.{not_true, same_places, has_place-append}
use Rattle.plain_evaluation.proofs.Solves.{each_of, has_named}
use Rattle.plan_meaning.specs.Layout.{is_computed, rows_of, places_of, row_of, read_by, expr_said, node_of, plan_of}
use Rattle.plan_meaning.specs.Told.{kind_told, kind_of_id}
use Rattle.plan_meaning.proofs.Back.{reads_row}
use Rattle.plan_meaning.proofs.Lines.{IsProper, are_proper}
use Rattle.plan_meaning.proofs.Renamed.{named}
use Rattle.plan_meaning.proofs.Rows.{sources_of, computed_of, any_rows, among-append, row_got, append_at, passes, map_at}
use Rattle.plan_meaning.proofs.Told.{kinds, as_told}

-- a derived row comes from a line of the text, with as many derived ones before it
split_at : (ws : List Written) (j : ℕ) (w : Written) → slice_get (computed_of ws) j ≡ Some w → (before : List Written) × (after : List Written) × (ws ≡ before ++ w ∷ after) × (length (computed_of before) ≡ j)
split_at [] j w is = cc
split_at (x ∷ ws) j w is = at (is_computed x.says) refl j is (split_at ws)
  where
    at : (b : Bool) → is_computed x.says ≡ b → (j : ℕ) → slice_get (if b then x ∷ computed_of ws else computed_of ws) j ≡ Some w → ((k : ℕ) (v : Written) → slice_get (computed_of ws) k ≡ Some v → (before : List Written) × (after : List Written) × (ws ≡ before ++ v ∷ after) × (length (computed_of before) ≡ k)) → (before : List Written) × (after : List Written) × (x ∷ ws ≡ before ++ w ∷ after) × (length (computed_of before) ≡ j)
    at true d zero is later = let e : x ≡ w = cc in ([], ws, (λ i. e i ∷ ws), refl)
    at true d (suc k) is later =
        let one = later k w is in
        (x ∷ one.0, one.1, (λ i. x ∷ one.2 i), ap (λ (b : Bool). length (if b then x ∷ computed_of one.0 else computed_of one.0)) d ∙ ap suc one.3)
    at false d j is later =
        let one = later j w is in
        (x ∷ one.0, one.1, (λ i. x ∷ one.2 i), ap (λ (b : Bool). length (if b then x ∷ computed_of one.0 else computed_of one.0)) d ∙ one.3)

-- a place of a first part of the text has its row among the sources, or among what is derived there
pub row_before : (ws before rest : List Written) (p : Place) (r : ℕ) → ws ≡ before ++ rest → has_place before p ≡ true → row_of (places_of ws) p ≡ Some r → r < length (sources_of ws) + length (computed_of before)
row_before ws before rest p r parted has row =
    subst (λ n. r < n) (length-append (sources_of ws) (computed_of before)) (position_within first (computed_of rest) p r has_first (subst (λ rows. row_of (map place_of rows) p ≡ Some r) rows_parted row))
  where
    first : List Written
    first = sources_of ws ++ computed_of before

    rows_parted : rows_of ws ≡ first ++ computed_of rest
    rows_parted = ap (λ xs. sources_of ws ++ computed_of xs) parted ∙ ap (λ xs. sources_of ws ++ xs) (filter-append (λ v. is_computed v.says) before rest) ∙ sym (append_assoc (sources_of ws) (computed_of before) (computed_of rest))

    in_before : (has_place (sources_of before) p || has_place (computed_of before) p) ≡ true
    in_before = sym (has_place-append (sources_of before) (computed_of before) p) ∙ any_rows (λ v. same_place (place_of v) p) before ∙ has

    more : has_place (sources_of ws) p ≡ (has_place (sources_of before) p || has_place (sources_of rest) p)
    more = ap (λ xs. has_place (sources_of xs) p) parted ∙ ap (λ xs. has_place xs p) (filter-append (λ v. not (is_computed v.says)) before rest) ∙ has_place-append (sources_of before) (sources_of rest) p

    has_first : has_place first p ≡ true
    has_first = has_place-append (sources_of ws) (computed_of before) p ∙ ap (λ b. b || has_place (computed_of before) p) more ∙ at (has_place (sources_of before) p) (has_place (sources_of rest) p) (has_place (computed_of before) p) in_before
      where
        at : (a b d : Bool) → (a || d) ≡ true → ((a || b) || d) ≡ true
        at true b d h = refl
        at false true d h = refl
        at false false d h = h

-- ---- what is before a line has before it what its lines read

-- a place that a part of the text has is that of a line, with what is before it
line_before : (before : List Written) (p : Place) → has_place before p ≡ true → (first : List Written) × (w : Written) × (rest : List Written) × (before ≡ first ++ w ∷ rest) × (place_of w ≡ p)
line_before [] p has = cc
line_before (x ∷ before) p has = at (same_place (place_of x) p) refl has (line_before before p)
  where
    at : (b : Bool) → same_place (place_of x) p ≡ b → (b || has_place before p) ≡ true → (has_place before p ≡ true → (first : List Written) × (w : Written) × (rest : List Written) × (before ≡ first ++ w ∷ rest) × (place_of w ≡ p)) → (first : List Written) × (w : Written) × (rest : List Written) × (x ∷ before ≡ first ++ w ∷ rest) × (place_of w ≡ p)
    at true same has later = ([], x, before, refl, same_places (place_of x) p same)
    at false same has later = let one = later has in (x ∷ one.0, one.1, one.2, (λ i. x ∷ one.3 i), one.4)

-- what a line reads is before it
pub read_before : (keyed : ℕ → Bool) (ws before after : List Written) (w : Written) → IsSound keyed ws → ws ≡ before ++ w ∷ after → (id : ℕ) → Contains (ids_read w.says w.id) id → (p : Place) → stands_for keyed w.scene id ≡ place p → has_place before p ≡ true
read_before keyed ws before after w sound parted id reads p stand =
    let come = names_at keyed [] before after w (subst (λ xs. names_come_before keyed [] xs ≡ true) parted sound.back) in
    let here = each_of (λ n. comes_before before (stands_for keyed w.scene n)) (ids_read w.says w.id) id come reads in
    has_named before p (subst (λ s. comes_before before s ≡ true) stand here)

-- the key of a load that stands in no row stands in none
key_stands : (keyed : Bool) (row : Option RowAround) (id : ℕ) → row ≡ None → stands_in keyed row id ≡ place (outside id)
key_stands keyed row id none = ap (λ (r : Option RowAround). stands_in keyed r id) none

-- what has a load before it has its key before it
pub key_before : (component : Component) (state : State) → IsKept component → RowsFit component state → (before rest : List Written) → written_in component state ≡ before ++ rest → (p : Place) → kind_of_id component p.id ≡ Some kind.Load → has_place before p ≡ true → has_place before (outside (suc p.id)) ≡ true
key_before component state kept fits before rest parted p is_load has = subst (λ n. has_place before (outside (suc n)) ≡ true) id (ap (λ xs. has_place xs q) line.3 ∙ has_place-append first (w ∷ later) q ∙ ap (λ b. b || has_place (w ∷ later) q) key_first)
  where
    ws : List Written
    ws = written_in component state

    line : (first : List Written) × (w : Written) × (later : List Written) × (before ≡ first ++ w ∷ later) × (place_of w ≡ p)
    line = line_before before p has

    first : List Written
    first = line.0

    w : Written
    w = line.1

    later : List Written
    later = line.2

    q : Place
    q = outside (suc w.id)

    id : w.id ≡ p.id
    id = ap (λ (r : Place). r.id) line.4

    whole : ws ≡ first ++ w ∷ (later ++ rest)
    whole = parted ∙ ap (λ xs. xs ++ rest) line.3 ∙ append_assoc first (w ∷ later) rest

    among : Among ws w
    among = subst (λ xs. Among xs w) (sym whole) (among-append first (w ∷ (later ++ rest)) w (inr (inl refl)))

    kind_here : kind_said w.says ≡ kind.Load
    kind_here =
        let told : kind_of_id component w.id ≡ Some (kind_said w.says) = ap (λ (o : Origin). kind_told o.told) (have_origins component state kept fits w among) ∙ kinds w.says in
        let due : kind_of_id component w.id ≡ Some kind.Load = ap (kind_of_id component) id ∙ is_load in
        let same : Some (kind_said w.says) ≡ Some kind.Load = sym told ∙ due in
        cc

    proper : IsProper ws w
    proper = are_proper component state kept w among

    says : (pairs : List (Code × Code)) × (arrived : Option Code) × (w.says ≡ loaded pairs arrived)
    says = proper.loads kind_here

    reads : Contains (ids_read w.says w.id) (suc w.id)
    reads = subst (λ (s : Says). Contains (ids_read s w.id) (suc w.id)) (sym says.2) (0, omega arith, refl)

    key_first : has_place first q ≡ true
    key_first = read_before (is_keyed component) ws first (later ++ rest) w (makes_sense component state kept fits) whole (suc w.id) reads q (key_stands (is_keyed component (suc w.id)) w.scene.row (suc w.id) (proper.load says.0 says.1 says.2).0)

-- ---- rows

lit_reads : (r : ℕ) → Contains (rows_in (Lit Empty)) r → ⊥
lit_reads r h = let none : Contains [] r = subst (λ xs. Contains xs r) (rows_in-Lit Empty) h in omega (arith, none.1)

pub behind_key : (component : Component) (state : State) → IsKept component → RowsFit component state → (row : ℕ) (node : PlanNode) → slice_get (plan_of component state).nodes row ≡ Some node → (source : ℕ) → Contains (rows_in node.expr) source → (p : Place) (load : PlanNode) → slice_get (places_of (written_in component state)) source ≡ Some p → slice_get (plan_of component state).nodes source ≡ Some load → load.kind ≡ kind.Load → (key : ℕ) → row_of (places_of (written_in component state)) (outside (suc p.id)) ≡ Some key → key < row
behind_key component state kept fits row node at_node source reads p load at_place at_load is_load key at_key =
    elim (append_at (sources_of ws) (computed_of ws) row one.0 one.1) [
      | inl here ↦ absurd (of_source one.0.says (not_true _ (passes (λ v. not (is_computed v.says)) ws row one.0 here)) (subst (λ n. Contains (rows_in n.expr) source) (sym one.2) reads))
      | inr there ↦ (let done = of_derived one.0.says refl (passes (λ v. is_computed v.says) ws there.0 one.0 there.2) there.0 there.2 (subst (λ n. Contains (rows_in n.expr) source) (sym one.2) reads) in let e = there.1 in omega (arith, done))
    ]
  where
    ws : List Written
    ws = written_in component state

    keyed : ℕ → Bool
    keyed = is_keyed component

    one : (w : Written) × (slice_get (rows_of ws) row ≡ Some w) × (node_of keyed (places_of ws) w ≡ node)
    one = map_at (node_of keyed (places_of ws)) (rows_of ws) row node at_node

    stand : ℕ → Expr
    stand id = read_by (places_of ws) (stands_for keyed one.0.scene id)

    is_load_here : kind_of_id component p.id ≡ Some kind.Load
    is_load_here = (as_told component state kept fits source p load at_place at_load).0 ∙ ap Some is_load

    of_source : (says : Says) → is_computed says ≡ false → Contains (rows_in (expr_said says stand)) source → ⊥
    of_source (given k code) d g = lit_reads source g
    of_source (loaded pairs arrived) d g = lit_reads source g
    of_source (derived k e) d g = cc

    of_derived : (says : Says) → one.0.says ≡ says → is_computed says ≡ true → (j : ℕ) → slice_get (computed_of ws) j ≡ Some one.0 → Contains (rows_in (expr_said says stand)) source → key < length (sources_of ws) + j
    of_derived (given k code) says d j at g = cc
    of_derived (loaded pairs arrived) says d j at g = cc
    of_derived (derived k e) says d j at g =
        let split = split_at ws j one.0 at in
        let read = named e stand source g in
        let found = reads_row (places_of ws) (stands_for keyed one.0.scene read.0) source read.2 in
        let got : slice_get (places_of ws) source ≡ Some found.0 = row_got (places_of ws) found.0 source found.2 in
        let same : found.0 ≡ p = cc in
        let has = read_before keyed ws split.0 split.1 one.0 (makes_sense component state kept fits) split.2 read.0 (subst (λ s. Contains (ids_read s one.0.id) read.0) (sym says) read.1) p (found.1 ∙ ap place same) in
        let key_has = key_before component state kept fits split.0 (one.0 ∷ split.1) split.2 p is_load_here has in
        subst (λ n. key < length (sources_of ws) + n) split.3 (row_before ws split.0 (one.0 ∷ split.1) (outside (suc p.id)) key split.2 key_has at_key)
