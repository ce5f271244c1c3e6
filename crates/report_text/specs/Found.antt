-- What stands around ids, as it is looked up in a component.
use Rattle.std.specs.Prelude.{◌≡◌, List, [], ◌∷◌, Some}
use Rattle.component_items.specs.declared.component.Component.{Component}
use Rattle.component_items.specs.Around.{Listed, path_of_id}

-- each of these ids has the path in the component that it is listed with
abbrev pub AreFound : Component → List Listed → Type 0
AreFound component [] = Unit {0}
AreFound component (l ∷ listed) = (path_of_id component l.id ≡ Some l.path) × AreFound component listed
