-- Parts of a list, the first one last.
use Rattle.std.specs.Prelude.{List, [], ◌∷◌, ◌++◌}
use Rattle.std.specs.Borrow.{Bor}

-- the list of all parts, from the last to the first
abbrev pub joined : {T : Type 0} → List (Bor (List T)) → List T
joined [] = []
joined (part ∷ parts) = joined parts ++ part.now
