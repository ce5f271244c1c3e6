-- What holds of the texts of a component and those that a script adds.
use Rattle.std.specs.Prelude.{◌≡◌, ℕ, Some, List, [], slice_get}
use Rattle.values.specs.Texts.{IsTable}
use Rattle.script_draft.specs.Named.{both}

pub record IsAdded (base added : List (List ℕ)) : Type 0 where
  pub whole : IsTable (both base added)
  pub base_first : slice_get base 0 ≡ Some []
  pub added_first : slice_get added 0 ≡ Some []
