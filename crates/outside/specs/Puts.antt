-- What is said of each call that writes some bytes to a sink.
use Rattle.std.specs.Prelude.{ℕ, List, Option, Result, Ok, Err}
use Rattle.std.specs.Io.KnownBytes.{Appends}
use Rattle.outside.specs.declared.traits.Failed.{Failed}
use Rattle.outside.specs.Bytes.{AppendsPart}
use Rattle.outside.specs.Counts.{NeverFalls, Rose}

-- all of the bytes were appended to the told ones
pub record PutsAll (old new : Option (List ℕ)) (before after : ℕ) (bytes : List ℕ) : Type 0 where
  pub appended : Appends old new bytes
  pub counted : NeverFalls before after

-- a front of the bytes was appended, not all of them, and the count of faults rose
pub record PutsPart (old new : Option (List ℕ)) (before after : ℕ) (bytes : List ℕ) : Type 0 where
  pub part : AppendsPart old new bytes
  pub failed : Rose before after
  pub counted : NeverFalls before after

-- the told bytes and the count of faults before and after a call, the bytes that it had to write, and its answer
abbrev pub Puts : Option (List ℕ) → Option (List ℕ) → ℕ → ℕ → List ℕ → Result (Unit {0}) Failed → Type 0
Puts old new before after bytes (Ok _) = PutsAll old new before after bytes
Puts old new before after bytes (Err _) = PutsPart old new before after bytes
