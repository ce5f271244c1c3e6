-- When a text that is written out makes sense: no place stands twice, and what is named comes before.
use Rattle.std.specs.Prelude.{◌≡◌, ◌<◌, ◌⊎◌, ℕ, suc, Contains, map, ◌&&◌, not, Bool, true, false, List, [], ◌∷◌, ◌++◌, Option, Some}
use Rattle.std.specs.List.{list_all, list_any}
use Rattle.values.specs.declared.plan.Kind.{Kind}
use Rattle.values.specs.declared.plan.Kind.TheVariants as kind
use Rattle.values.specs.Plan.{rows_in}
use Rattle.component_items.specs.declared.component.Component.{Component}
use Rattle.plain_evaluation.specs.Place.{Place, same_place, position_of}
use Rattle.plain_evaluation.specs.Written.{State, Says, given, loaded, derived, kind_said, Written, place_of, written_in}
use Rattle.plain_evaluation.specs.Keyed.{Stand, literal, place, stands_for, is_keyed}
use Rattle.plain_evaluation.specs.Scratch.{seen_from, value_said, scratch_in}

abbrev pub has_place : List Written → Place → Bool
has_place ws p = list_any (λ w. same_place (place_of w) p) ws

abbrev pub places_differ : List Written → Bool
places_differ [] = true
places_differ (w ∷ ws) = not (has_place ws (place_of w)) && places_differ ws

-- effects are named by nothing
abbrev pub is_effect : Kind → Bool
is_effect kind.Signal = false
is_effect kind.Field = false
is_effect kind.Load = false
is_effect kind.Memo = false
is_effect kind.Effect = true

abbrev pub is_named : Says → Bool
is_named says = not (is_effect (kind_said says))

abbrev pub comes_before : List Written → Stand → Bool
comes_before before (literal code) = true
comes_before before (place p) = list_any (λ w. is_named w.says && same_place (place_of w) p) before

-- the ids that the value of a place reads
abbrev pub ids_read : Says → ℕ → List ℕ
ids_read (given kind code) id = []
ids_read (loaded pairs arrived) id = suc id ∷ []
ids_read (derived kind expr) id = rows_in expr

abbrev pub names_come_before : (ℕ → Bool) → List Written → List Written → Bool
names_come_before keyed before [] = true
names_come_before keyed before (w ∷ ws) = list_all (λ id. comes_before before (stands_for keyed w.scene id)) (ids_read w.says w.id) && names_come_before keyed (before ++ w ∷ []) ws

pub record IsSound (keyed : ℕ → Bool) (ws : List Written) : Type 0 where
  -- no place stands twice
  pub differ : places_differ ws ≡ true
  -- what is named stands before it, and is no effect
  pub back : names_come_before keyed [] ws ≡ true

abbrev pub Among : List Written → Written → Type 0
Among [] w = ⊥
Among (x ∷ xs) w = (x ≡ w) ⊎ Among xs w

-- Each place has the value that the text says, over the values of what it names.
abbrev pub SolvesItsEquations : Component → State → Type 0
SolvesItsEquations component state = (w : Written) → Among (written_in component state) w → scratch_in component state (place_of w) ≡ value_said w.says w.id (seen_from (is_keyed component) (scratch_in component state) w.scene)

-- where a place stands in the text
abbrev pub stands_at : List Written → Place → Option ℕ
stands_at ws p = position_of (map place_of ws) p

-- What a value reads stands before it in the text: a load stands behind its key, and both behind what the key reads.
abbrev pub ReadsStandBefore : Component → State → Type 0
ReadsStandBefore component state = (w : Written) → Among (written_in component state) w → (id : ℕ) → Contains (ids_read w.says w.id) id → (p : Place) → stands_for (is_keyed component) w.scene id ≡ place p → (i j : ℕ) → stands_at (written_in component state) p ≡ Some i → stands_at (written_in component state) (place_of w) ≡ Some j → i < j
