use Rattle.std.proofs.Common.{◌≡◌, ◌≤◌, ◌<◌, ℕ, Some, slice_get}
use Rattle.still_readers.specs.declared.readers.Reader.{Reader}
use Rattle.still_readers.proofs.readers.Readers.place_from.Given as goal

abbrev pub invariant-loop-place : goal.invariant-loop-place
invariant-loop-place l = (k : ℕ) (u : Reader) → l.from ≤ k → k < l.place → slice_get l.self.list k ≡ Some u → u.row ≡ l.row → ⊥
