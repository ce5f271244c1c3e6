-- What a source and a sink do to the bytes that they tell.
use Rattle.std.specs.Prelude.{◌≡◌, ℕ, ◌<◌, List, [], ◌↔◌, length, take, Option, IfSome}
use Rattle.std.specs.Io.KnownBytes.{Appends, Consumes}

-- a count of bytes read is 0 exactly where no byte was held, where the bytes are told
abbrev pub IsZeroAtEnd : Option (List ℕ) → ℕ → Type 0
IsZeroAtEnd held n = IfSome held (λ bytes. (n ≡ 0) ↔ (bytes ≡ []))

-- told bytes lost some at their front
abbrev pub LosesFront : Option (List ℕ) → Option (List ℕ) → Type 0
LosesFront old new = (front : List ℕ) × Consumes old new front

-- told bytes grew by a front of these bytes, and not by all of them
abbrev pub AppendsPart : Option (List ℕ) → Option (List ℕ) → List ℕ → Type 0
AppendsPart old new bytes = (n : ℕ) × (n < length bytes) × Appends old new (take n bytes)
