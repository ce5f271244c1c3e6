use Rattle.std.proofs.Common.{drop, sym, ◌∙◌, ap, arith}
use Rattle.std.proofs.lemmas.List.{take_rest}
use Rattle.outside.specs.Memory.{Supply}
use Rattle.outside.proofs.ByteLemmas.{held_is_copied}
use Rattle.outside.proofs.memory.MemorySourceSource.read.Goals as goal

pub returns-clause-moved : goal.returns-clause-moved
returns-clause-moved c =
    let bytes = c.self.inside.bytes.items in
    let position = c.self.inside.position in
    let count = c.min-count.result in
    let least = rw (take_rest, c.deref-2.ensures.value) at c.min-count.ensures in
    let copied = rw (take_rest, c.deref-2.ensures.value) at c.copy_from_slice.ensures.after in
    sym (ap (λ (s : Supply). s.held) c.self.view_is)
    ∙ held_is_copied bytes (drop count c.args.into.now) c.copy_from_slice.new.self position count (omega (arith, least)) copied
