-- Each row reads smaller rows, and no effects.
use Rattle.std.proofs.Common.{◌≡◌, ◌≢◌, ℕ, zero, suc, ◌+◌, ◌<◌, inl, inr, ◌||◌, ◌&&◌, not, if◌then◌else◌, Bool, true, false, List, [], ◌∷◌, ◌++◌, map, length, slice_get, Contains, Option, Some, None, IsSomeAnd, refl, sym, ap, subst, ◌∙◌, append_assoc, arith, length-append}
use Rattle.std.specs.List.{list_any, list_all}
use Rattle.std.proofs.lemmas.List.Elements.{filter-append}
use Rattle.std.proofs.lemmas.List.Folds.{list_any-append}
use Rattle.values.specs.declared.code.Code.TheVariants.{Empty}
use Rattle.values.specs.declared.expr.Expr.{Expr}
use Rattle.values.specs.declared.expr.Expr.TheVariants.{Lit}
use Rattle.values.specs.declared.plan.Kind.{Kind}
use Rattle.values.specs.declared.plan.Kind.TheVariants as kind
use Rattle.values.specs.declared.plan.PlanNode.{PlanNode}
use Rattle.values.specs.Plan.{rows_in, MayRead}
use Rattle.values.proofs.PlanLemmas.{rows_in-Lit, rows_in-Read, Contains-from_cons}
use Rattle.component_items.specs.declared.component.Component.{Component}
use Rattle.component_items.specs.Kept.{IsKept}
use Rattle.plain_evaluation.specs.Fits.{RowsFit}
use Rattle.plain_evaluation.specs.Keyed.{Stand, literal, place, stands_for, is_keyed}
use Rattle.plain_evaluation.specs.Place.{Place, same_place}
use Rattle.plain_evaluation.specs.Sound.{has_place, places_differ, is_effect, is_named, comes_before, ids_read, names_come_before, IsSound}
use Rattle.plain_evaluation.specs.Written.{State, Says, given, loaded, derived, kind_said, Written, place_of, written_in}
use Rattle.plain_evaluation.proofs.Makes.{makes_sense}
use Rattle.plain_evaluation.proofs.Order.{position_within, names_at}
use Rattle.plain_evaluation.proofs.Places.{and_cases, or_none, not_true, same_places, place_itself, has_place-append}
use Rattle.plain_evaluation.proofs.Solves.{each_of, has_named}
use Rattle.plan_meaning.specs.Layout.{is_computed, rows_of, places_of, row_of, read_row, read_by, expr_said, node_of, nodes_of_text, plan_of}
use Rattle.plan_meaning.specs.Renamed.{renamed}
use Rattle.plan_meaning.proofs.Renamed.{named}
use Rattle.plan_meaning.proofs.Rows.{sources_of, computed_of, any_rows, row_got, append_at, passes, at_map, map_at}

-- the row of a place is that of a line at this place
row_has : (ws : List Written) (p : Place) (r : ℕ) → row_of (places_of ws) p ≡ Some r → (w : Written) × (slice_get (rows_of ws) r ≡ Some w) × (same_place (place_of w) p ≡ true)
row_has ws p r is =
    let one = map_at place_of (rows_of ws) r p (row_got (places_of ws) p r is) in
    (one.0, one.1, subst (λ q. same_place (place_of one.0) q ≡ true) one.2 (place_itself (place_of one.0)))

-- a derived row comes from a place of the text, with as many derived ones before it
split_at : (ws : List Written) (j : ℕ) (w : Written) → slice_get (computed_of ws) j ≡ Some w → (before : List Written) × (after : List Written) × (ws ≡ before ++ w ∷ after) × (length (computed_of before) ≡ j)
split_at [] j w is = cc
split_at (x ∷ ws) j w is = at (is_computed x.says) refl j is (split_at ws)
  where
    at : (b : Bool) → is_computed x.says ≡ b → (j : ℕ) → slice_get (if b then x ∷ computed_of ws else computed_of ws) j ≡ Some w → ((k : ℕ) (v : Written) → slice_get (computed_of ws) k ≡ Some v → (before : List Written) × (after : List Written) × (ws ≡ before ++ v ∷ after) × (length (computed_of before) ≡ k)) → (before : List Written) × (after : List Written) × (x ∷ ws ≡ before ++ w ∷ after) × (length (computed_of before) ≡ j)
    at true d zero is later = let e : x ≡ w = cc in ([], ws, (λ i. e i ∷ ws), refl)
    at true d (suc k) is later =
        let one = later k w is in
        (x ∷ one.0, one.1, (λ i. x ∷ one.2 i), ap (λ (b : Bool). length (if b then x ∷ computed_of one.0 else computed_of one.0)) d ∙ ap suc one.3)
    at false d j is later =
        let one = later j w is in
        (x ∷ one.0, one.1, (λ i. x ∷ one.2 i), ap (λ (b : Bool). length (if b then x ∷ computed_of one.0 else computed_of one.0)) d ∙ one.3)

none_at : (f : Written → Bool) (ws : List Written) (r : ℕ) (w : Written) → list_any f ws ≡ false → slice_get ws r ≡ Some w → f w ≡ false
none_at f [] r w none is = cc
none_at f (x ∷ ws) zero w none is = let e : x ≡ w = cc in subst (λ v. f v ≡ false) e (or_none (f x) (list_any f ws) none).0
none_at f (x ∷ ws) (suc r) w none is = none_at f ws r w (or_none (f x) (list_any f ws) none).1 is

abbrev named_here : Place → Written → Bool
named_here p w = is_named w.says && same_place (place_of w) p

abbrev unnamed_here : Place → Written → Bool
unnamed_here p w = not (is_named w.says) && same_place (place_of w) p

-- a place that is named is no effect's
no_unnamed : (ws : List Written) (p : Place) → places_differ ws ≡ true → list_any (named_here p) ws ≡ true → list_any (unnamed_here p) ws ≡ false
no_unnamed [] p differ has = refl
no_unnamed (x ∷ ws) p differ has =
    let both = and_cases (not (has_place ws (place_of x))) (places_differ ws) differ in
    at (is_named x.says) (same_place (place_of x) p) refl (not_true _ both.0) has (no_unnamed ws p both.1)
  where
    nothing_left : (ys : List Written) → has_place ys p ≡ false → list_any (unnamed_here p) ys ≡ false
    nothing_left [] none = refl
    nothing_left (y ∷ ys) none = let both = or_none (same_place (place_of y) p) (has_place ys p) none in (λ i. (not (is_named y.says) && both.0 i) || list_any (unnamed_here p) ys) ∙ ap (λ b. b || list_any (unnamed_here p) ys) (and_false (not (is_named y.says))) ∙ nothing_left ys both.1
      where
        and_false : (b : Bool) → (b && false) ≡ false
        and_false true = refl
        and_false false = refl

    at : (n s : Bool) → same_place (place_of x) p ≡ s → has_place ws (place_of x) ≡ false → ((n && s) || list_any (named_here p) ws) ≡ true → (list_any (named_here p) ws ≡ true → list_any (unnamed_here p) ws ≡ false) → ((not n && s) || list_any (unnamed_here p) ws) ≡ false
    at true true same none has later = nothing_left ws (subst (λ q. has_place ws q ≡ false) (same_places (place_of x) p same) none)
    at true false same none has later = later has
    at false true same none has later =
        let gone : has_place ws p ≡ false = subst (λ q. has_place ws q ≡ false) (same_places (place_of x) p same) none in
        let there : has_place ws p ≡ true = has_named ws p has in
        absurd cc
    at false false same none has later = later has

-- what is read for a stand is the row of its place
pub reads_row : (places : List Place) (stand : Stand) (r : ℕ) → Contains (rows_in (read_by places stand)) r → (p : Place) × (stand ≡ place p) × (row_of places p ≡ Some r)
reads_row places (literal code) r h = let none : Contains [] r = subst (λ xs. Contains xs r) (rows_in-Lit code) h in absurd (omega (arith, none.1))
reads_row places (place p) r h = (p, refl, at (row_of places p) h)
  where
    at : (o : Option ℕ) → Contains (rows_in (read_row o)) r → o ≡ Some r
    at None g = let none : Contains [] r = subst (λ xs. Contains xs r) (rows_in-Lit Empty) g in absurd (omega (arith, none.1))
    at (Some k) g = let one : Contains (k ∷ []) r = subst (λ xs. Contains xs r) (rows_in-Read k) g in elim (Contains-from_cons k r [] one) [ inl e ↦ ap Some e | inr none ↦ absurd (omega (arith, none.1)) ]

pub no_effect : (k : Kind) → not (is_effect k) ≡ true → k ≢ kind.Effect
no_effect kind.Effect h e = cc
no_effect kind.Signal h e = cc
no_effect kind.Field h e = cc
no_effect kind.Load h e = cc
no_effect kind.Memo h e = cc

lit_reads : (r : ℕ) → Contains (rows_in (Lit Empty)) r → ⊥
lit_reads r h = let none : Contains [] r = subst (λ xs. Contains xs r) (rows_in-Lit Empty) h in omega (arith, none.1)

some_and : (o : Option PlanNode) (node : PlanNode) (P : PlanNode → Type 0) → o ≡ Some node → P node → IsSomeAnd o P
some_and o node P is holds = subst (λ q. IsSomeAnd q P) (sym is) holds

both_true : (a b : Bool) → (not a && b) ≡ false → b ≡ true → a ≡ true
both_true true b h g = refl
both_true false b h g = cc

-- a row that is derived, where its text is parted there
reads_before : (keyed : ℕ → Bool) (ws before after : List Written) (w : Written) (source : ℕ) → IsSound keyed ws → ws ≡ before ++ w ∷ after → (e : Expr) (k : Kind) → w.says ≡ derived k e → Contains (rows_in (renamed (λ id. read_by (places_of ws) (stands_for keyed w.scene id)) e)) source → (source < length (sources_of ws) + length (computed_of before)) × IsSomeAnd (slice_get (nodes_of_text keyed ws) source) (λ n. n.kind ≢ kind.Effect)
reads_before keyed ws before after w source sound parted e k says reads = (
  subst (λ n. source < n) (length-append (sources_of ws) (computed_of before)) (position_within first rest p source (has_first) (subst (λ rows. row_of (map place_of rows) p ≡ Some source) rows_parted row)),
  some_and (slice_get (nodes_of_text keyed ws) source) (node_of keyed (places_of ws) other.0) (λ n. n.kind ≢ kind.Effect) (at_map (node_of keyed (places_of ws)) (rows_of ws) source other.0 other.1)
      (no_effect (kind_said other.0.says) (both_true (is_named other.0.says) (same_place (place_of other.0) p) (none_at (unnamed_here p) (rows_of ws) source other.0 (any_rows (unnamed_here p) ws ∙ no_unnamed ws p sound.differ has_all) other.1) other.2)),
)
  where
    stand : ℕ → Expr
    stand id = read_by (places_of ws) (stands_for keyed w.scene id)

    one : (n : ℕ) × Contains (rows_in e) n × Contains (rows_in (stand n)) source
    one = named e stand source reads

    found : (p : Place) × (stands_for keyed w.scene one.0 ≡ place p) × (row_of (places_of ws) p ≡ Some source)
    found = reads_row (places_of ws) (stands_for keyed w.scene one.0) source one.2

    p : Place
    p = found.0

    row : row_of (map place_of (rows_of ws)) p ≡ Some source
    row = found.2

    come : list_all (λ id. comes_before before (stands_for keyed w.scene id)) (ids_read w.says w.id) ≡ true
    come = names_at keyed [] before after w (subst (λ xs. names_come_before keyed [] xs ≡ true) parted sound.back)

    here : comes_before before (stands_for keyed w.scene one.0) ≡ true
    here = each_of (λ id. comes_before before (stands_for keyed w.scene id)) (ids_read w.says w.id) one.0 come (subst (λ s. Contains (ids_read s w.id) one.0) (sym says) one.1)

    has_before : list_any (named_here p) before ≡ true
    has_before = subst (λ s. comes_before before s ≡ true) found.1 here

    has_all : list_any (named_here p) ws ≡ true
    has_all = ap (list_any (named_here p)) parted ∙ list_any-append (named_here p) before (w ∷ after) ∙ ap (λ b. b || list_any (named_here p) (w ∷ after)) has_before

    first : List Written
    first = sources_of ws ++ computed_of before

    rest : List Written
    rest = computed_of (w ∷ after)

    rows_parted : rows_of ws ≡ first ++ rest
    rows_parted = ap (λ xs. sources_of ws ++ computed_of xs) parted ∙ ap (λ xs. sources_of ws ++ xs) (filter-append (λ v. is_computed v.says) before (w ∷ after)) ∙ sym (append_assoc (sources_of ws) (computed_of before) (computed_of (w ∷ after)))

    in_before : (has_place (sources_of before) p || has_place (computed_of before) p) ≡ true
    in_before = sym (has_place-append (sources_of before) (computed_of before) p) ∙ any_rows (λ v. same_place (place_of v) p) before ∙ has_named before p has_before

    more : has_place (sources_of ws) p ≡ (has_place (sources_of before) p || has_place (sources_of (w ∷ after)) p)
    more = ap (λ xs. has_place (sources_of xs) p) parted ∙ ap (λ xs. has_place xs p) (filter-append (λ v. not (is_computed v.says)) before (w ∷ after)) ∙ has_place-append (sources_of before) (sources_of (w ∷ after)) p

    has_first : has_place first p ≡ true
    has_first = has_place-append (sources_of ws) (computed_of before) p ∙ ap (λ b. b || has_place (computed_of before) p) more ∙ at (has_place (sources_of before) p) (has_place (sources_of (w ∷ after)) p) (has_place (computed_of before) p) in_before
      where
        at : (a b d : Bool) → (a || d) ≡ true → ((a || b) || d) ≡ true
        at true b d h = refl
        at false true d h = refl
        at false false d h = h

    other : (y : Written) × (slice_get (rows_of ws) source ≡ Some y) × (same_place (place_of y) p ≡ true)
    other = row_has ws p source row

pub read_back : (component : Component) (state : State) → IsKept component → RowsFit component state → (row : ℕ) (node : PlanNode) → slice_get (plan_of component state).nodes row ≡ Some node → (source : ℕ) → Contains (rows_in node.expr) source → MayRead (plan_of component state).nodes row source
read_back component state kept fits row node is source reads =
    elim (append_at (sources_of ws) (computed_of ws) row one.0 one.1) [
      | inl here ↦ absurd (of_source one.0.says (not_true _ (passes (λ v. not (is_computed v.says)) ws row one.0 here)) (subst (λ n. Contains (rows_in n.expr) source) (sym one.2) reads))
      | inr there ↦ (let done = of_derived one.0.says refl (passes (λ v. is_computed v.says) ws there.0 one.0 there.2) there.0 there.2 (subst (λ n. Contains (rows_in n.expr) source) (sym one.2) reads) in let e = there.1 in (omega (arith, done.0), done.1))
    ]
  where
    ws : List Written
    ws = written_in component state

    keyed : ℕ → Bool
    keyed = is_keyed component

    one : (w : Written) × (slice_get (rows_of ws) row ≡ Some w) × (node_of keyed (places_of ws) w ≡ node)
    one = map_at (node_of keyed (places_of ws)) (rows_of ws) row node is

    of_source : (says : Says) → is_computed says ≡ false → Contains (rows_in (expr_said says (λ id. read_by (places_of ws) (stands_for keyed one.0.scene id)))) source → ⊥
    of_source (given k code) d g = lit_reads source g
    of_source (loaded pairs key) d g = lit_reads source g
    of_source (derived k e) d g = cc

    of_derived : (says : Says) → one.0.says ≡ says → is_computed says ≡ true → (j : ℕ) → slice_get (computed_of ws) j ≡ Some one.0 → Contains (rows_in (expr_said says (λ id. read_by (places_of ws) (stands_for keyed one.0.scene id)))) source → (source < length (sources_of ws) + j) × IsSomeAnd (slice_get (nodes_of_text keyed ws) source) (λ n. n.kind ≢ kind.Effect)
    of_derived (given k code) says d j at g = cc
    of_derived (loaded pairs key) says d j at g = cc
    of_derived (derived k e) says d j at g =
        let split = split_at ws j one.0 at in
        let done = reads_before keyed ws split.0 split.1 one.0 source (makes_sense component state kept fits) split.2 e k says g in
        (subst (λ n. source < length (sources_of ws) + n) split.3 done.0, done.1)
