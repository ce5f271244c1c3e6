-- Declarations as they are kept: each with the place of the one that it hides.
use Rattle.std.specs.Prelude.{◌≡◌, List, [], ◌∷◌, map}
use Rattle.component_meaning.specs.State.{Declared}
use Rattle.component_scope.specs.declared.scope.Seen.{Seen}
use Rattle.component_scope.specs.Scope.{place_of}

abbrev pub seen_in : List Seen → List Declared
seen_in seen = map (λ s. s.declaration) seen

abbrev pub KnowsHidden : List Seen → Type 0
KnowsHidden [] = Unit {0}
KnowsHidden (s ∷ seen) = (s.hidden ≡ place_of s.declaration.name (seen_in seen)) × KnowsHidden seen
