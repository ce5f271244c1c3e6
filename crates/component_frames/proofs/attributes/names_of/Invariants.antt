use Rattle.std.proofs.Common.{◌≡◌, ◌==◌, ℕ, nat_eq, take}
use Rattle.std.specs.List.{list_any}
use Rattle.std.specs.HashSet.{contains}
use Rattle.component_meaning.specs.Names.{name_of}
use Rattle.component_frames.proofs.attributes.names_of.Given as goal

abbrev pub invariant-loop-attr : goal.invariant-loop-attr
invariant-loop-attr l = (name : ℕ) → contains nat_eq l.names name ≡ list_any (λ attr. name == name_of attr) (take l.attr-index l.attrs)
