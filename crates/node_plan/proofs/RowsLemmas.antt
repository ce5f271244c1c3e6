-- Lines give the rows, the places and the nodes of the definitions.
use Rattle.std.proofs.Common.{◌≡◌, ℕ, zero, suc, ◌<◌, not, if◌then◌else◌, Bool, true, false, Option, Some, None, List, [], ◌∷◌, ◌++◌, map, take, length, slice_get, get_or, refl, sym, ap, subst, ◌∙◌, ◌≤◌, arith}
use Rattle.std.specs.List.{filter}
use Rattle.std.specs.Option.{option_map}
use Rattle.std.proofs.lemmas.List.{map-append, length-map}
use Rattle.plain_evaluation.specs.Place.{Place, same_place, position_of}
use Rattle.plain_evaluation.specs.Written.{Says, given, loaded, derived, Written, place_of, state_of, written}
use Rattle.values.specs.declared.limits.TheConstants.{MOST_NODES}
use Rattle.component_items.specs.declared.component.Component.{Component}
use Rattle.component_items.specs.Kept.{IsKept}
use Rattle.plain_evaluation.specs.Held.{Held}
use Rattle.plain_evaluation.specs.Fits.{Fits}
use Rattle.plain_evaluation.proofs.Counts.{few_written}
use Rattle.plain_evaluation.proofs.Differ.{places_are_apart}
use Rattle.plain_evaluation.proofs.Fitting.{rows_of_held}
use Rattle.plan_meaning.proofs.Rows.{are_apart, length_rows}
use Rattle.plan_meaning.specs.Carried.{AreApart}
use Rattle.plan_meaning.specs.Layout.{is_computed, rows_of, places_of, node_of, nodes_of_text}
use Rattle.plan_lines.specs.declared.line.Line.{Line}
use Rattle.plan_lines.specs.Lines.{Placed, placed_in, placed_of, place_placed}
use Rattle.node_plan.specs.Rows.{has_expr, wanted, some_of, rows_placed, places_placed, node_placed}

-- ---- rows

said : (w : Written) → has_expr (placed_of w) ≡ is_computed w.says
said w = at w.says
  where
    at : (says : Says) → has_expr (placed_of (record w { says = says })) ≡ is_computed says
    at (given kind code) = refl
    at (loaded pairs key) = refl
    at (derived kind expr) = refl

parts : (computed : Bool) (ws : List Written) → some_of computed (map placed_of ws) ≡ map placed_of (filter (λ w. wanted computed (is_computed w.says)) ws)
parts computed [] = refl
parts computed (w ∷ ws) = (λ i. if wanted computed (said w i) then placed_of w ∷ parts computed ws i else parts computed ws i) ∙ by (wanted computed (is_computed w.says))
  where
    rest : List Written
    rest = filter (λ w. wanted computed (is_computed w.says)) ws

    by : (c : Bool) → (if c then placed_of w ∷ map placed_of rest else map placed_of rest) ≡ map placed_of (if c then w ∷ rest else rest)
    by true = refl
    by false = refl

pub rows_are : (ws : List Written) → rows_placed (map placed_of ws) ≡ map placed_of (rows_of ws)
rows_are ws = (λ i. parts false ws i ++ parts true ws i) ∙ sym (map-append placed_of (filter (λ w. not (is_computed w.says)) ws) (filter (λ w. is_computed w.says) ws))

-- the rows of lines that are those of a text
pub rows_by : (lines rows : List Placed) (ws : List Written) → rows ≡ rows_placed lines → lines ≡ map placed_of ws → rows ≡ map placed_of (rows_of ws)
rows_by lines rows ws is same = is ∙ ap rows_placed same ∙ rows_are ws

-- ---- places

pub places_are : (ws : List Written) → places_placed (map placed_of ws) ≡ map place_of ws
places_are [] = refl
places_are (w ∷ ws) = ap (λ ps. place_of w ∷ ps) (places_are ws)

-- a place found in front is found there in the whole
found_in_front : (places : List Place) (i k : ℕ) (p : Place) → position_of (take i places) p ≡ Some k → (position_of places p ≡ Some k) × (k < i)
found_in_front [] zero k p found = cc
found_in_front [] (suc i) k p found = cc
found_in_front (q ∷ places) zero k p found = cc
found_in_front (q ∷ places) (suc i) k p found = at (same_place q p) (position_of (take i places) p) refl found (found_in_front places i)
  where
    at : (same : Bool) (o : Option ℕ) → position_of (take i places) p ≡ o → (if same then Some 0 else option_map suc o) ≡ Some k → ((k : ℕ) (p : Place) → position_of (take i places) p ≡ Some k → (position_of places p ≡ Some k) × (k < i)) → ((if same then Some 0 else option_map suc (position_of places p)) ≡ Some k) × (k < suc i)
    at true o there found later = let e : 0 ≡ k = cc in (found, omega arith)
    at false None there found later = cc
    at false (Some j) there found later =
        let e : suc j ≡ k = cc in
        let rest = later j p there in
        (ap (option_map suc) rest.0 ∙ found, omega (arith, rest.1))

-- what stands at a place stands not before it
pub not_before : (places : List Place) (i : ℕ) (p : Place) → AreApart places → slice_get places i ≡ Some p → position_of (take i places) p ≡ None
not_before places i p apart is = at (position_of (take i places) p) refl
  where
    at : (o : Option ℕ) → position_of (take i places) p ≡ o → o ≡ None
    at None found = refl
    at (Some k) found =
        let there = found_in_front places i k p found in
        let same : Some i ≡ Some k = sym (apart i p is) ∙ there.0 in
        let e : i ≡ k = cc in
        absurd (omega (arith, there.1))

pub place_at_row : (rows : List Line) (i : ℕ) (row : Line) → i < length rows → row ≡ get_or rows i row → slice_get (places_placed (map placed_in rows)) i ≡ Some (place_placed (placed_in row))
place_at_row [] i row within is = absurd (omega arith)
place_at_row (x ∷ rows) zero row within is = ap (λ r. Some (place_placed (placed_in r))) (sym is)
place_at_row (x ∷ rows) (suc i) row within is = place_at_row rows i row (omega arith) is

pub take_places : (rows : List Line) (i : ℕ) → places_placed (map placed_in (take i rows)) ≡ take i (places_placed (map placed_in rows))
take_places [] zero = refl
take_places [] (suc i) = refl
take_places (x ∷ rows) zero = refl
take_places (x ∷ rows) (suc i) = ap (λ ps. place_placed (placed_in x) ∷ ps) (take_places rows i)

-- ---- nodes

node_is : (keyed : ℕ → Bool) (places : List Place) (w : Written) → node_placed keyed places (placed_of w) ≡ node_of keyed places w
node_is keyed places w = at w.says
  where
    at : (says : Says) → node_placed keyed places (placed_of (record w { says = says })) ≡ node_of keyed places (record w { says = says })
    at (given kind code) = refl
    at (loaded pairs key) = refl
    at (derived kind expr) = refl

map_nodes : (keyed : ℕ → Bool) (places : List Place) (ws : List Written) → map (node_placed keyed places) (map placed_of ws) ≡ map (node_of keyed places) ws
map_nodes keyed places [] = refl
map_nodes keyed places (w ∷ ws) = λ i. node_is keyed places w i ∷ map_nodes keyed places ws i

-- the nodes of the rows of a text
pub nodes_by : (keyed other : ℕ → Bool) (names : List Place) (rows : List Placed) (ws : List Written) → other ≡ keyed → names ≡ places_of ws → rows ≡ map placed_of (rows_of ws) → map (node_placed other names) rows ≡ nodes_of_text keyed ws
nodes_by keyed other names rows ws flags named same =
    (λ i. map (node_placed (flags i) (named i)) (same i)) ∙ map_nodes keyed (places_of ws) (rows_of ws)

-- ---- the rows of a component

pub names_by : (rows : List Placed) (ws : List Written) → rows ≡ map placed_of (rows_of ws) → places_placed rows ≡ places_of ws
names_by rows ws same = ap places_placed same ∙ places_are (rows_of ws)

module _ (component : Component) (held : Held) (kept : IsKept component) (fits : Fits component held) where
  pub few_rows : (rows : List Line) → map placed_in rows ≡ map placed_of (rows_of (written component held)) → length rows ≤ MOST_NODES
  few_rows rows same =
      let long : length rows ≡ length (rows_of (written component held)) = sym (length-map rows placed_in) ∙ ap length same ∙ length-map (rows_of (written component held)) placed_of in
      let as_many = length_rows (written component held) in
      let few = few_written component (state_of held) kept (rows_of_held component held fits) in
      omega arith

  pub rows_apart : (rows : List Placed) → rows ≡ map placed_of (rows_of (written component held)) → AreApart (places_placed rows)
  rows_apart rows same = subst AreApart (sym (names_by rows (written component held) same)) (are_apart (written component held) (places_are_apart component (state_of held) kept (rows_of_held component held fits)))
