use Rattle.std.proofs.Common.{◌≡◌, ◌==◌, false, take}
use Rattle.std.specs.List.{list_any}
use Rattle.component_meaning.specs.Names.{name_of}
use Rattle.component_frames.proofs.attributes.is_named.Given as goal

abbrev pub invariant-loop-attr : goal.invariant-loop-attr
invariant-loop-attr l = list_any (λ attr. l.name == name_of attr) (take l.attr-index l.attrs) ≡ false
